-- Steps that do the same: `names_whole`, `names_after`.
-- Tasks that go on in the place of one: `goes_nowhere`, `goes_to_two`.
use Rattle.std.proofs.Common.{◌-◌, ◌*◌, List, [], ◌∷◌, true, sym, ap, ◌∙◌, arith}
use Rattle.js_tree.specs.Tree.{Name}
use Rattle.js_tree.specs.Postorder.{Tree, statements, block, top, below, trees_at}
use Rattle.js_scope.specs.declared.tasks.Task as task
use Rattle.js_scope.specs.Uses.{declared, names_before}
use Rattle.js_scope.specs.Walk.{Bound, Declare, ends_well}
use Rattle.js_scope.specs.Steps.{steps_of}
use Rattle.js_scope.proofs.Ends.{names_whole, names_after}
use Rattle.js_scope.proofs.Going.{goes_nowhere, goes_to_two}
use Rattle.js_scope.proofs.walk.bind_block.Goals as goal

pub returns-in_default : goal.returns-in_default
returns-in_default c =
    let nodes = c.args.trees.now in
    let old = c.args.tasks.now in
    let st = c.args.scopes.now in
    let steps = steps_of nodes old in
    let far = 2 * c.args.place in
    let fits = c.requires in
    goes_nowhere nodes (Declare (declared (block (top (trees_at nodes c.args.place))) [])) far old st true st (ap (λ (xs : List Tree). ends_well (Declare (declared (block (top xs)) []) ∷ steps) st.start st.bound) (c.in_default.ensures.none fits))

pub returns-in-Nothing : goal.returns-in-Nothing
returns-in-Nothing c =
    let nodes = c.args.trees.now in
    let old = c.args.tasks.now in
    let st = c.args.scopes.now in
    let steps = steps_of nodes old in
    let far = 2 * c.args.place in
    let last = c.args.place - 1 in
    let ts = trees_at nodes last in
    let fits = c.requires in
    let inside = c.in-Some.ensures.inside in
    let e = ap (λ (xs : List Tree). declared (block (top xs)) []) c.in-Some.ensures.some ∙ c.in-Nothing.ensures.names ts in
    goes_nowhere nodes (Declare (declared (block (top (trees_at nodes c.args.place))) [])) far old st true st (ap (λ (ns : List Name). ends_well (Declare ns ∷ steps) st.start st.bound) e)

pub returns-in-Return : goal.returns-in-Return
returns-in-Return c =
    let nodes = c.args.trees.now in
    let old = c.args.tasks.now in
    let st = c.args.scopes.now in
    let steps = steps_of nodes old in
    let far = 2 * c.args.place in
    let last = c.args.place - 1 in
    let ts = trees_at nodes last in
    let fits = c.requires in
    let inside = c.in-Some.ensures.inside in
    let e = ap (λ (xs : List Tree). declared (block (top xs)) []) c.in-Some.ensures.some ∙ c.in-Return.ensures.names ts in
    goes_nowhere nodes (Declare (declared (block (top (trees_at nodes c.args.place))) [])) far old st true st (ap (λ (ns : List Name). ends_well (Declare ns ∷ steps) st.start st.bound) e)

pub returns-in-If : goal.returns-in-If
returns-in-If c =
    let nodes = c.args.trees.now in
    let old = c.args.tasks.now in
    let st = c.args.scopes.now in
    let steps = steps_of nodes old in
    let far = 2 * c.args.place in
    let last = c.args.place - 1 in
    let ts = trees_at nodes last in
    let fits = c.requires in
    let inside = c.in-Some.ensures.inside in
    let e = ap (λ (xs : List Tree). declared (block (top xs)) []) c.in-Some.ensures.some ∙ c.in-If.ensures.names ts in
    goes_nowhere nodes (Declare (declared (block (top (trees_at nodes c.args.place))) [])) far old st true st (ap (λ (ns : List Name). ends_well (Declare ns ∷ steps) st.start st.bound) e)

pub returns-in-While : goal.returns-in-While
returns-in-While c =
    let nodes = c.args.trees.now in
    let old = c.args.tasks.now in
    let st = c.args.scopes.now in
    let steps = steps_of nodes old in
    let far = 2 * c.args.place in
    let last = c.args.place - 1 in
    let ts = trees_at nodes last in
    let fits = c.requires in
    let inside = c.in-Some.ensures.inside in
    let e = ap (λ (xs : List Tree). declared (block (top xs)) []) c.in-Some.ensures.some ∙ c.in-While.ensures.names ts in
    goes_nowhere nodes (Declare (declared (block (top (trees_at nodes c.args.place))) [])) far old st true st (ap (λ (ns : List Name). ends_well (Declare ns ∷ steps) st.start st.bound) e)

pub returns-in_ok-push-in-Ended-2 : goal.returns-in_ok-push-in-Ended-2
returns-in_ok-push-in-Ended-2 c =
    let nodes = c.args.trees.now in
    let old = c.args.tasks.now in
    let st = c.args.scopes.now in
    let steps = steps_of nodes old in
    let far = 2 * c.args.place in
    let last = c.args.place - 1 in
    let ts = trees_at nodes last in
    let fits = c.requires in
    let inside = c.in-Some.ensures.inside in
    let e = ap (λ (xs : List Tree). declared (block (top xs)) []) c.in-Some.ensures.some ∙ (c.in-Ended.ensures.names ts ∙ names_whole (statements (top (below ts))) (block (top ts)) []) in
    let before = c.below.ensures.before in
    goes_to_two nodes (Declare (declared (block (top (trees_at nodes c.args.place))) [])) far old st true (task.Task.BlockNames last) (task.Task.StatementNames c.below.result) c.push-in-Ended.new.self st
    (c.in_ok-push-in-Ended-2.ensures ∙ ap (λ (xs : List task.Task). task.Task.BlockNames last ∷ xs) c.in_ok-push-in-Ended.ensures)
    (omega arith) (omega arith) (omega arith)
    (ap (λ (ns : List Name). ends_well (Declare ns ∷ steps) st.start st.bound) e ∙ (ap (λ (bs : List Bound). ends_well steps st.start bs) (names_after (statements (top (below ts))) (declared (block (top ts)) []) st.bound) ∙ ap (λ (xs : List Tree). ends_well (Declare (declared (block (top ts)) []) ∷ Declare (names_before (statements (top xs)) []) ∷ steps) st.start st.bound) (sym c.below.ensures.trees)))
