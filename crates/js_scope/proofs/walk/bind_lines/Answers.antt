-- Steps that do the same: `line_names_after`.
-- Tasks that go on in the place of one: `goes_nowhere`, `goes_to_one`.
use Rattle.std.proofs.Common.{◌-◌, ◌*◌, List, [], ◌∷◌, true, sym, ap, ◌∙◌, arith}
use Rattle.js_tree.specs.Tree.{Name}
use Rattle.js_tree.specs.Postorder.{Tree, name_view, lines, top, below, trees_at}
use Rattle.js_scope.specs.declared.tasks.Task as task
use Rattle.js_scope.specs.Uses.{line_names_before}
use Rattle.js_scope.specs.Walk.{State, Bound, with_names, Declare, ends_well}
use Rattle.js_scope.specs.Steps.{steps_of}
use Rattle.js_scope.proofs.Ends.{line_names_after}
use Rattle.js_scope.proofs.Going.{goes_nowhere, goes_to_one}
use Rattle.js_scope.proofs.walk.bind_lines.Goals as goal

pub returns-in_default : goal.returns-in_default
returns-in_default c =
    let nodes = c.args.trees.now in
    let old = c.args.tasks.now in
    let st = c.args.scopes.now in
    let steps = steps_of nodes old in
    let far = 2 * c.args.place in
    let fits = c.requires in
    goes_nowhere nodes (Declare (line_names_before (lines (top (trees_at nodes c.args.place))) [])) far old st true st (ap (λ (xs : List Tree). ends_well (Declare (line_names_before (lines (top xs)) []) ∷ steps) st.start st.bound) (c.in_default.ensures.none fits))

pub returns-in-None : goal.returns-in-None
returns-in-None c =
    let nodes = c.args.trees.now in
    let old = c.args.tasks.now in
    let st = c.args.scopes.now in
    let steps = steps_of nodes old in
    let far = 2 * c.args.place in
    let last = c.args.place - 1 in
    let ts = trees_at nodes last in
    let fits = c.requires in
    let inside = c.in-Some.ensures.inside in
    let e = ap (λ (xs : List Tree). line_names_before (lines (top xs)) []) c.in-Some.ensures.some ∙ c.in-None.ensures.names ts in
    goes_nowhere nodes (Declare (line_names_before (lines (top (trees_at nodes c.args.place))) [])) far old st true st (ap (λ (ns : List Name). ends_well (Declare ns ∷ steps) st.start st.bound) e)

pub returns-in_ok-push-in-Some-line_name : goal.returns-in_ok-push-in-Some-line_name
returns-in_ok-push-in-Some-line_name c =
    let nodes = c.args.trees.now in
    let old = c.args.tasks.now in
    let st = c.args.scopes.now in
    let steps = steps_of nodes old in
    let far = 2 * c.args.place in
    let last = c.args.place - 1 in
    let ts = trees_at nodes last in
    let fits = c.requires in
    let inside = c.in-Some.ensures.inside in
    let e = ap (λ (xs : List Tree). line_names_before (lines (top xs)) []) c.in-Some.ensures.some ∙ c.in-Some-line_name.ensures.names ts in
    let x = name_view c.in-Some-line_name.name.now in
    let before = c.below.ensures.before in
    let now = c.declare.new.self in
    goes_to_one nodes (Declare (line_names_before (lines (top (trees_at nodes c.args.place))) [])) far old st true (task.Task.LineNames c.below.result) c.push.new.self now c.in_ok-push-in-Some-line_name.ensures (omega arith) (omega arith)
    (ap (λ (ns : List Name). ends_well (Declare ns ∷ steps) st.start st.bound) e
    ∙ (ap (λ (bs : List Bound). ends_well steps st.start bs) (line_names_after (lines (top (below ts))) (x ∷ []) st.bound)
    ∙ (ap (λ (xs : List Tree). ends_well (Declare (line_names_before (lines (top xs)) []) ∷ steps) st.start (with_names (x ∷ []) st.bound)) (sym c.below.ensures.trees)
    ∙ ap (λ (s : State). ends_well (Declare (line_names_before (lines (top (trees_at nodes c.below.result))) []) ∷ steps) s.start s.bound) (sym c.in_ok-declare-in-Some-line_name.ensures))))
