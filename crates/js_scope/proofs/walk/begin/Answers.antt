-- The tasks for a program end well exactly when its names are bound: `are_fine`, `program_told`, `whole`,
-- `program_walked`.
use Rattle.std.proofs.Common.{◌≡◌, ◌-◌, List, [], ◌∷◌, true, sym, ap, ◌∙◌}
use Rattle.js_tree.specs.Postorder.{Tree, expression, members, lines, top, below, trees_of, trees_at}
use Rattle.js_scope.specs.declared.tasks.Task as task
use Rattle.js_scope.specs.Uses.{uses, members_uses, lines_before_uses, line_names_before}
use Rattle.js_scope.specs.Walk.{Step, Walk, Declare, Leave, ends_well}
use Rattle.js_scope.specs.Parts.{program_of, program_by}
use Rattle.js_scope.specs.Steps.{steps_of}
use Rattle.js_scope.proofs.Beginning.{are_fine, program_told, whole, program_walked}
use Rattle.js_scope.proofs.walk.begin.Goals as goal

pub returns-clause-ends : goal.returns-clause-ends
returns-clause-ends c =
    let nodes = c.args.trees.now in
    let ins = c.len-ins.result - 1 in
    let flags = c.below-flags.result in
    let main = c.below-main.result in
    let ls = c.below-lines.result in
    let ts = trees_at nodes ins in
    let same : c.len.result ≡ c.len-ins.result = c.len.ensures ∙ sym c.len-ins.ensures in
    let rest : List Step = Leave 0 0 ∷ [] in
    let made =
    c.in_ok-push-6.ensures ∙ ap (λ (xs : List task.Task). task.Task.LineNames ls ∷ xs) (c.in_ok-push-5.ensures ∙ ap (λ (xs : List task.Task). task.Task.Members ins ∷ xs) (c.in_ok-push-4.ensures ∙ ap (λ (xs : List task.Task). task.Task.Expression flags ∷ xs) (c.in_ok-push-3.ensures ∙ ap (λ (xs : List task.Task). task.Task.Expression main ∷ xs) (c.in_ok-push-2.ensures ∙ ap (λ (xs : List task.Task). task.Task.Lines ls ∷ xs) (c.in_ok-push.ensures ∙ ap (λ (xs : List task.Task). task.Task.Leave 0 0 ∷ xs) c.requires))))) in
    program_told (top (trees_of nodes))
    ∙ (ap (λ (xs : List Tree). are_fine (program_of (top xs))) (whole nodes ∙ (ap (λ n. trees_at nodes n) (sym c.len.ensures) ∙ c.in-Some.ensures.some))
    ∙ (ap are_fine (c.is_program.ensures (trees_at nodes (c.len.result - 1)) ∙ (ap (λ b. program_by b (trees_at nodes (c.len.result - 1))) c.if-not-is_program.false ∙ ap (λ n. program_by true (trees_at nodes (n - 1))) same))
    ∙ (program_walked (lines (top (below (below (below ts))))) (members (top ts)) (uses (expression (top (below ts)))) (uses (expression (top (below (below ts)))))
    ∙ (ap (λ (xs : List Tree). ends_well (Declare (line_names_before (lines (top (below (below xs)))) []) ∷ Walk (members_uses (members (top ts))) ∷ Walk (uses (expression (top xs))) ∷ Walk (uses (expression (top (below xs)))) ∷ Walk (lines_before_uses (lines (top (below (below xs))))) ∷ rest) 0 []) (sym c.below-flags.ensures.trees)
    ∙ (ap (λ (xs : List Tree). ends_well (Declare (line_names_before (lines (top (below xs))) []) ∷ Walk (members_uses (members (top ts))) ∷ Walk (uses (expression (top (trees_at nodes flags)))) ∷ Walk (uses (expression (top xs))) ∷ Walk (lines_before_uses (lines (top (below xs)))) ∷ rest) 0 []) (sym c.below-main.ensures.trees)
    ∙ (ap (λ (xs : List Tree). ends_well (Declare (line_names_before (lines (top xs)) []) ∷ Walk (members_uses (members (top ts))) ∷ Walk (uses (expression (top (trees_at nodes flags)))) ∷ Walk (uses (expression (top (trees_at nodes main)))) ∷ Walk (lines_before_uses (lines (top xs))) ∷ rest) 0 []) (sym c.below-lines.ensures.trees)
    ∙ ap (λ (xs : List task.Task). ends_well (steps_of nodes xs) 0 []) (sym made)))))))
