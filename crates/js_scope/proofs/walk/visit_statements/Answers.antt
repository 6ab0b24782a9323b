-- Steps that do the same: `both_walked`, `three_walked`.
-- Tasks that go on in the place of one: `goes_nowhere`, `goes_to_two`.
use Rattle.std.proofs.Common.{◌-◌, ◌*◌, List, ◌∷◌, true, sym, ap, ◌∙◌, arith}
use Rattle.std.specs.Prelude.{◌&&◌}
use Rattle.js_tree.specs.Postorder.{Tree, name_view, expression, statements, top, below, trees_at}
use Rattle.js_scope.specs.declared.tasks.Task as task
use Rattle.js_scope.specs.Uses.{Uses, Assigns, uses, statements_uses}
use Rattle.js_scope.specs.Walk.{State, after_assigned, Step, Walk, ends_well}
use Rattle.js_scope.specs.Steps.{steps_of}
use Rattle.js_scope.proofs.Ends.{both_walked, three_walked}
use Rattle.js_scope.proofs.Going.{goes_nowhere, goes_to_two}
use Rattle.js_scope.proofs.walk.visit_statements.Goals as goal

pub returns-in_default : goal.returns-in_default
returns-in_default c =
    let nodes = c.args.trees.now in
    let old = c.args.tasks.now in
    let st = c.args.scopes.now in
    let steps = steps_of nodes old in
    let far = 2 * c.args.place in
    let fits = c.requires in
    goes_nowhere nodes (Walk (statements_uses (statements (top (trees_at nodes c.args.place))))) far old st true st (ap (λ (xs : List Tree). ends_well (Walk (statements_uses (statements (top xs))) ∷ steps) st.start st.bound) (c.in_default.ensures.none fits))

pub returns-in-Nothing : goal.returns-in-Nothing
returns-in-Nothing c =
    let nodes = c.args.trees.now in
    let old = c.args.tasks.now in
    let st = c.args.scopes.now in
    let steps = steps_of nodes old in
    let far = 2 * c.args.place in
    let last = c.args.place - 1 in
    let ts = trees_at nodes last in
    let fits = c.requires in
    let inside = c.in-Some.ensures.inside in
    let e = ap (λ (xs : List Tree). statements_uses (statements (top xs))) c.in-Some.ensures.some ∙ c.in-Nothing.ensures.uses ts in
    goes_nowhere nodes (Walk (statements_uses (statements (top (trees_at nodes c.args.place))))) far old st true st (ap (λ (u : Uses). ends_well (Walk u ∷ steps) st.start st.bound) e)

pub returns-in_ok-push-in-Declares-2 : goal.returns-in_ok-push-in-Declares-2
returns-in_ok-push-in-Declares-2 c =
    let nodes = c.args.trees.now in
    let old = c.args.tasks.now in
    let st = c.args.scopes.now in
    let steps = steps_of nodes old in
    let far = 2 * c.args.place in
    let last = c.args.place - 1 in
    let ts = trees_at nodes last in
    let fits = c.requires in
    let inside = c.in-Some.ensures.inside in
    let e = ap (λ (xs : List Tree). statements_uses (statements (top xs))) c.in-Some.ensures.some ∙ c.in-Declares.ensures.uses ts in
    let before = c.below.ensures.before in
    goes_to_two nodes (Walk (statements_uses (statements (top (trees_at nodes c.args.place))))) far old st true (task.Task.Expression last) (task.Task.Statements c.below.result) c.push-in-Declares.new.self st
    (c.in_ok-push-in-Declares-2.ensures ∙ ap (λ (xs : List task.Task). task.Task.Expression last ∷ xs) c.in_ok-push-in-Declares.ensures)
    (omega arith) (omega arith) (omega arith)
    (ap (λ (u : Uses). ends_well (Walk u ∷ steps) st.start st.bound) e ∙ (both_walked (uses (expression (top ts))) (statements_uses (statements (top (below ts)))) steps st.start st.bound ∙ ap (λ (xs : List Tree). ends_well (Walk (uses (expression (top ts))) ∷ Walk (statements_uses (statements (top xs))) ∷ steps) st.start st.bound) (sym c.below.ensures.trees)))

pub returns-in_ok-push-in-Assigns-2 : goal.returns-in_ok-push-in-Assigns-2
returns-in_ok-push-in-Assigns-2 c =
    let nodes = c.args.trees.now in
    let old = c.args.tasks.now in
    let st = c.args.scopes.now in
    let steps = steps_of nodes old in
    let far = 2 * c.args.place in
    let last = c.args.place - 1 in
    let ts = trees_at nodes last in
    let fits = c.requires in
    let inside = c.in-Some.ensures.inside in
    let e = ap (λ (xs : List Tree). statements_uses (statements (top xs))) c.in-Some.ensures.some ∙ c.in-Assigns.ensures.uses ts in
    let x = name_view c.in-Assigns.name.now in
    let inner_steps : List Step = Walk (uses (expression (top ts))) ∷ Walk (statements_uses (statements (top (trees_at nodes c.below-in-Assigns.result)))) ∷ steps in
    let before = c.below-in-Assigns.ensures.before in
    goes_to_two nodes (Walk (statements_uses (statements (top (trees_at nodes c.args.place))))) far old st c.assign.result (task.Task.Expression last) (task.Task.Statements c.below-in-Assigns.result) c.push-in-Assigns-2.new.self c.assign.new.self
    (c.in_ok-push-in-Assigns-2.ensures ∙ ap (λ (xs : List task.Task). task.Task.Expression last ∷ xs) c.in_ok-push-in-Assigns.ensures)
    (omega arith) (omega arith) (omega arith)
    (ap (λ (u : Uses). ends_well (Walk u ∷ steps) st.start st.bound) e ∙ (three_walked (Assigns x) (uses (expression (top ts))) (statements_uses (statements (top (below ts)))) steps st.start st.bound ∙ (ap (λ (xs : List Tree). ends_well (Walk (Assigns x) ∷ Walk (uses (expression (top ts))) ∷ Walk (statements_uses (statements (top xs))) ∷ steps) st.start st.bound) (sym c.below-in-Assigns.ensures.trees)
    ∙ (ap (λ b. b && ends_well inner_steps st.start (after_assigned x st.start st.bound)) (sym c.assign.ensures.own) ∙ ap (λ (s : State). c.assign.result && ends_well inner_steps s.start s.bound) (sym c.assign.ensures.after)))))
