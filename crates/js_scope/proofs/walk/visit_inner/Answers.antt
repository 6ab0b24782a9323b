-- Steps that do the same: `inner_walked`.
-- Tasks that go on in the place of one: `goes_to_three`.
use Rattle.std.proofs.Common.{◌+◌, ◌*◌, List, [], ◌∷◌, true, ap, ◌∙◌, arith}
use Rattle.js_tree.specs.Postorder.{block, top, trees_at}
use Rattle.js_scope.specs.declared.tasks.Task as task
use Rattle.js_scope.specs.Uses.{Nothing, declared, block_uses}
use Rattle.js_scope.specs.Walk.{Walk}
use Rattle.js_scope.specs.Parts.{inner}
use Rattle.js_scope.specs.Steps.{steps_of}
use Rattle.js_scope.proofs.Ends.{inner_walked}
use Rattle.js_scope.proofs.Going.{goes_to_three}
use Rattle.js_scope.proofs.walk.visit_inner.Goals as goal

pub returns : goal.returns
returns c =
    let nodes = c.args.trees.now in
    let old = c.args.tasks.now in
    let st = c.args.scopes.now in
    let steps = steps_of nodes old in
    let p = c.args.place in
    let fits = c.requires in
    let tree = top (trees_at nodes p) in
    goes_to_three nodes (Walk (inner tree)) (2 * p + 1) old st true (task.Task.BlockNames p) (task.Task.Block p) (task.Task.Leave c.len.result c.start.result) c.push-3.new.self st
    (c.in_ok-push-3.ensures ∙ ap (λ (xs : List task.Task). task.Task.BlockNames p ∷ xs) (c.in_ok-push-2.ensures ∙ ap (λ (xs : List task.Task). task.Task.Block p ∷ xs) c.in_ok-push.ensures))
    (omega arith) (omega arith) (omega arith) (omega arith)
    (inner_walked (declared (block tree) []) (block_uses (block tree) Nothing) steps st.start st.bound c.len.result c.start.result c.len.ensures c.start.ensures)
