-- Steps that do the same: `both_walked`.
-- Tasks that go on in the place of one: `goes_nowhere`, `goes_to_two`.
use Rattle.std.proofs.Common.{◌-◌, ◌*◌, List, ◌∷◌, true, sym, ap, ◌∙◌, arith}
use Rattle.js_tree.specs.Postorder.{Tree, expression, lines, top, below, trees_at}
use Rattle.js_scope.specs.declared.tasks.Task as task
use Rattle.js_scope.specs.Uses.{Uses, uses, lines_before_uses}
use Rattle.js_scope.specs.Walk.{Walk, ends_well}
use Rattle.js_scope.specs.Steps.{steps_of}
use Rattle.js_scope.proofs.Ends.{both_walked}
use Rattle.js_scope.proofs.Going.{goes_nowhere, goes_to_two}
use Rattle.js_scope.proofs.walk.visit_lines.Goals as goal

pub returns-in_default : goal.returns-in_default
returns-in_default c =
    let nodes = c.args.trees.now in
    let old = c.args.tasks.now in
    let st = c.args.scopes.now in
    let steps = steps_of nodes old in
    let far = 2 * c.args.place in
    let fits = c.requires in
    goes_nowhere nodes (Walk (lines_before_uses (lines (top (trees_at nodes c.args.place))))) far old st true st (ap (λ (xs : List Tree). ends_well (Walk (lines_before_uses (lines (top xs))) ∷ steps) st.start st.bound) (c.in_default.ensures.none fits))

pub returns-in-None : goal.returns-in-None
returns-in-None c =
    let nodes = c.args.trees.now in
    let old = c.args.tasks.now in
    let st = c.args.scopes.now in
    let steps = steps_of nodes old in
    let far = 2 * c.args.place in
    let last = c.args.place - 1 in
    let ts = trees_at nodes last in
    let fits = c.requires in
    let inside = c.in-Some.ensures.inside in
    let e = ap (λ (xs : List Tree). lines_before_uses (lines (top xs))) c.in-Some.ensures.some ∙ c.in-None.ensures.uses ts in
    goes_nowhere nodes (Walk (lines_before_uses (lines (top (trees_at nodes c.args.place))))) far old st true st (ap (λ (u : Uses). ends_well (Walk u ∷ steps) st.start st.bound) e)

pub returns-in_ok-push-in-Some-line_name-2 : goal.returns-in_ok-push-in-Some-line_name-2
returns-in_ok-push-in-Some-line_name-2 c =
    let nodes = c.args.trees.now in
    let old = c.args.tasks.now in
    let st = c.args.scopes.now in
    let steps = steps_of nodes old in
    let far = 2 * c.args.place in
    let last = c.args.place - 1 in
    let ts = trees_at nodes last in
    let fits = c.requires in
    let inside = c.in-Some.ensures.inside in
    let e = ap (λ (xs : List Tree). lines_before_uses (lines (top xs))) c.in-Some.ensures.some ∙ c.in-Some-line_name.ensures.uses ts in
    let before = c.below.ensures.before in
    goes_to_two nodes (Walk (lines_before_uses (lines (top (trees_at nodes c.args.place))))) far old st true (task.Task.Expression last) (task.Task.Lines c.below.result) c.push-in-Some-line_name.new.self st
    (c.in_ok-push-in-Some-line_name-2.ensures ∙ ap (λ (xs : List task.Task). task.Task.Expression last ∷ xs) c.in_ok-push-in-Some-line_name.ensures)
    (omega arith) (omega arith) (omega arith)
    (ap (λ (u : Uses). ends_well (Walk u ∷ steps) st.start st.bound) e ∙ (both_walked (uses (expression (top ts))) (lines_before_uses (lines (top (below ts)))) steps st.start st.bound ∙ ap (λ (xs : List Tree). ends_well (Walk (uses (expression (top ts))) ∷ Walk (lines_before_uses (lines (top xs))) ∷ steps) st.start st.bound) (sym c.below.ensures.trees)))
