-- Steps that do the same: `names_after`.
-- Tasks that go on in the place of one: `goes_nowhere`, `goes_to_one`.
use Rattle.std.proofs.Common.{◌-◌, ◌*◌, List, [], ◌∷◌, true, sym, ap, ◌∙◌, arith}
use Rattle.js_tree.specs.Tree.{Name}
use Rattle.js_tree.specs.Postorder.{Tree, name_view, statements, top, below, trees_at}
use Rattle.js_scope.specs.declared.tasks.Task as task
use Rattle.js_scope.specs.Uses.{names_before}
use Rattle.js_scope.specs.Walk.{State, Bound, with_names, Declare, ends_well}
use Rattle.js_scope.specs.Steps.{steps_of}
use Rattle.js_scope.proofs.Ends.{names_after}
use Rattle.js_scope.proofs.Going.{goes_nowhere, goes_to_one}
use Rattle.js_scope.proofs.walk.bind_statements.Goals as goal

pub returns-in_default : goal.returns-in_default
returns-in_default c =
    let nodes = c.args.trees.now in
    let old = c.args.tasks.now in
    let st = c.args.scopes.now in
    let steps = steps_of nodes old in
    let far = 2 * c.args.place in
    let fits = c.requires in
    goes_nowhere nodes (Declare (names_before (statements (top (trees_at nodes c.args.place))) [])) far old st true st (ap (λ (xs : List Tree). ends_well (Declare (names_before (statements (top xs)) []) ∷ steps) st.start st.bound) (c.in_default.ensures.none fits))

pub returns-in-Nothing : goal.returns-in-Nothing
returns-in-Nothing c =
    let nodes = c.args.trees.now in
    let old = c.args.tasks.now in
    let st = c.args.scopes.now in
    let steps = steps_of nodes old in
    let far = 2 * c.args.place in
    let last = c.args.place - 1 in
    let ts = trees_at nodes last in
    let fits = c.requires in
    let inside = c.in-Some.ensures.inside in
    let e = ap (λ (xs : List Tree). names_before (statements (top xs)) []) c.in-Some.ensures.some ∙ c.in-Nothing.ensures.names ts in
    goes_nowhere nodes (Declare (names_before (statements (top (trees_at nodes c.args.place))) [])) far old st true st (ap (λ (ns : List Name). ends_well (Declare ns ∷ steps) st.start st.bound) e)

pub returns-in_ok-push-in-Declares : goal.returns-in_ok-push-in-Declares
returns-in_ok-push-in-Declares c =
    let nodes = c.args.trees.now in
    let old = c.args.tasks.now in
    let st = c.args.scopes.now in
    let steps = steps_of nodes old in
    let far = 2 * c.args.place in
    let last = c.args.place - 1 in
    let ts = trees_at nodes last in
    let fits = c.requires in
    let inside = c.in-Some.ensures.inside in
    let e = ap (λ (xs : List Tree). names_before (statements (top xs)) []) c.in-Some.ensures.some ∙ c.in-Declares.ensures.names ts in
    let x = name_view c.in-Declares.name.now in
    let before = c.below.ensures.before in
    let now = c.declare.new.self in
    goes_to_one nodes (Declare (names_before (statements (top (trees_at nodes c.args.place))) [])) far old st true (task.Task.StatementNames c.below.result) c.push.new.self now c.in_ok-push-in-Declares.ensures (omega arith) (omega arith)
    (ap (λ (ns : List Name). ends_well (Declare ns ∷ steps) st.start st.bound) e
    ∙ (ap (λ (bs : List Bound). ends_well steps st.start bs) (names_after (statements (top (below ts))) (x ∷ []) st.bound)
    ∙ (ap (λ (xs : List Tree). ends_well (Declare (names_before (statements (top xs)) []) ∷ steps) st.start (with_names (x ∷ []) st.bound)) (sym c.below.ensures.trees)
    ∙ ap (λ (s : State). ends_well (Declare (names_before (statements (top (trees_at nodes c.below.result))) []) ∷ steps) s.start s.bound) (sym c.in_ok-declare-in-Declares.ensures))))

pub returns-in_ok-push-in-Assigns : goal.returns-in_ok-push-in-Assigns
returns-in_ok-push-in-Assigns c =
    let nodes = c.args.trees.now in
    let old = c.args.tasks.now in
    let st = c.args.scopes.now in
    let steps = steps_of nodes old in
    let far = 2 * c.args.place in
    let last = c.args.place - 1 in
    let ts = trees_at nodes last in
    let fits = c.requires in
    let inside = c.in-Some.ensures.inside in
    let e = ap (λ (xs : List Tree). names_before (statements (top xs)) []) c.in-Some.ensures.some ∙ c.in-Assigns.ensures.names ts in
    let before = c.below-in-Assigns.ensures.before in
    goes_to_one nodes (Declare (names_before (statements (top (trees_at nodes c.args.place))) [])) far old st true (task.Task.StatementNames c.below-in-Assigns.result) c.push-in-Assigns.new.self st c.in_ok-push-in-Assigns.ensures (omega arith) (omega arith)
    (ap (λ (ns : List Name). ends_well (Declare ns ∷ steps) st.start st.bound) e ∙ ap (λ (xs : List Tree). ends_well (Declare (names_before (statements (top xs)) []) ∷ steps) st.start st.bound) (sym c.below-in-Assigns.ensures.trees))
