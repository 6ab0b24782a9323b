-- Steps that do the same: `last_walked`, `two_and_last`, `statements_whole`, `block_then`.
-- Tasks that go on in the place of one: `goes_nowhere`, `goes_to_one`, `goes_to_two`, `goes_to_three`.
use Rattle.std.proofs.Common.{◌-◌, ◌*◌, List, ◌∷◌, true, sym, ap, ◌∙◌, arith}
use Rattle.js_tree.specs.Postorder.{Tree, expression, statements, block, top, below, trees_at}
use Rattle.js_scope.specs.declared.tasks.Task as task
use Rattle.js_scope.specs.Uses.{Uses, Nothing, uses, block_uses, statements_uses}
use Rattle.js_scope.specs.Walk.{Walk, ends_well}
use Rattle.js_scope.specs.Parts.{inner}
use Rattle.js_scope.specs.Steps.{steps_of}
use Rattle.js_scope.proofs.Ends.{last_walked, two_and_last, statements_whole, block_then}
use Rattle.js_scope.proofs.Going.{goes_nowhere, goes_to_one, goes_to_two, goes_to_three}
use Rattle.js_scope.proofs.walk.visit_block.Goals as goal

pub returns-in_default : goal.returns-in_default
returns-in_default c =
    let nodes = c.args.trees.now in
    let old = c.args.tasks.now in
    let st = c.args.scopes.now in
    let steps = steps_of nodes old in
    let far = 2 * c.args.place in
    let fits = c.requires in
    goes_nowhere nodes (Walk (block_uses (block (top (trees_at nodes c.args.place))) Nothing)) far old st true st (ap (λ (xs : List Tree). ends_well (Walk (block_uses (block (top xs)) Nothing) ∷ steps) st.start st.bound) (c.in_default.ensures.none fits))

pub returns-in-Nothing : goal.returns-in-Nothing
returns-in-Nothing c =
    let nodes = c.args.trees.now in
    let old = c.args.tasks.now in
    let st = c.args.scopes.now in
    let steps = steps_of nodes old in
    let far = 2 * c.args.place in
    let last = c.args.place - 1 in
    let ts = trees_at nodes last in
    let fits = c.requires in
    let inside = c.in-Some.ensures.inside in
    let e = ap (λ (xs : List Tree). block_uses (block (top xs)) Nothing) c.in-Some.ensures.some ∙ c.in-Nothing.ensures.uses ts in
    goes_nowhere nodes (Walk (block_uses (block (top (trees_at nodes c.args.place))) Nothing)) far old st true st (ap (λ (u : Uses). ends_well (Walk u ∷ steps) st.start st.bound) e)

pub returns-in_ok-push-in-Return : goal.returns-in_ok-push-in-Return
returns-in_ok-push-in-Return c =
    let nodes = c.args.trees.now in
    let old = c.args.tasks.now in
    let st = c.args.scopes.now in
    let steps = steps_of nodes old in
    let far = 2 * c.args.place in
    let last = c.args.place - 1 in
    let ts = trees_at nodes last in
    let fits = c.requires in
    let inside = c.in-Some.ensures.inside in
    let e = ap (λ (xs : List Tree). block_uses (block (top xs)) Nothing) c.in-Some.ensures.some ∙ c.in-Return.ensures.uses ts in
    goes_to_one nodes (Walk (block_uses (block (top (trees_at nodes c.args.place))) Nothing)) far old st true (task.Task.Expression last) c.push.new.self st c.in_ok-push-in-Return.ensures (omega arith) (omega arith)
    (ap (λ (u : Uses). ends_well (Walk u ∷ steps) st.start st.bound) e ∙ last_walked (uses (expression (top ts))) steps st.start st.bound)

pub returns-in_ok-push-in-While : goal.returns-in_ok-push-in-While
returns-in_ok-push-in-While c =
    let nodes = c.args.trees.now in
    let old = c.args.tasks.now in
    let st = c.args.scopes.now in
    let steps = steps_of nodes old in
    let far = 2 * c.args.place in
    let last = c.args.place - 1 in
    let ts = trees_at nodes last in
    let fits = c.requires in
    let inside = c.in-Some.ensures.inside in
    let e = ap (λ (xs : List Tree). block_uses (block (top xs)) Nothing) c.in-Some.ensures.some ∙ c.in-While.ensures.uses ts in
    goes_to_one nodes (Walk (block_uses (block (top (trees_at nodes c.args.place))) Nothing)) far old st true (task.Task.Inner last) c.push-in-While.new.self st c.in_ok-push-in-While.ensures (omega arith) (omega arith)
    (ap (λ (u : Uses). ends_well (Walk u ∷ steps) st.start st.bound) e ∙ last_walked (inner (top ts)) steps st.start st.bound)

pub returns-in_ok-push-in-If-3 : goal.returns-in_ok-push-in-If-3
returns-in_ok-push-in-If-3 c =
    let nodes = c.args.trees.now in
    let old = c.args.tasks.now in
    let st = c.args.scopes.now in
    let steps = steps_of nodes old in
    let far = 2 * c.args.place in
    let last = c.args.place - 1 in
    let ts = trees_at nodes last in
    let fits = c.requires in
    let inside = c.in-Some.ensures.inside in
    let e = ap (λ (xs : List Tree). block_uses (block (top xs)) Nothing) c.in-Some.ensures.some ∙ c.in-If.ensures.uses ts in
    let second = c.below-second.result in
    let third = c.below.result in
    let before = c.below-second.ensures.before in
    let further = c.below.ensures.before in
    goes_to_three nodes (Walk (block_uses (block (top (trees_at nodes c.args.place))) Nothing)) far old st true (task.Task.Inner last) (task.Task.Inner second) (task.Task.Expression third) c.push-in-If-3.new.self st
    (c.in_ok-push-in-If-3.ensures ∙ ap (λ (xs : List task.Task). task.Task.Inner last ∷ xs) (c.in_ok-push-in-If-2.ensures ∙ ap (λ (xs : List task.Task). task.Task.Inner second ∷ xs) c.in_ok-push-in-If.ensures))
    (omega arith) (omega arith) (omega arith) (omega arith)
    (ap (λ (u : Uses). ends_well (Walk u ∷ steps) st.start st.bound) e
    ∙ (two_and_last (inner (top ts)) (inner (top (below ts))) (uses (expression (top (below (below ts))))) steps st.start st.bound
    ∙ (ap (λ (xs : List Tree). ends_well (Walk (inner (top ts)) ∷ Walk (inner (top xs)) ∷ Walk (uses (expression (top (below xs)))) ∷ steps) st.start st.bound) (sym c.below-second.ensures.trees)
    ∙ ap (λ (xs : List Tree). ends_well (Walk (inner (top ts)) ∷ Walk (inner (top (trees_at nodes second))) ∷ Walk (uses (expression (top xs))) ∷ steps) st.start st.bound) (sym c.below.ensures.trees))))

pub returns-in_ok-push-in-Ended-2 : goal.returns-in_ok-push-in-Ended-2
returns-in_ok-push-in-Ended-2 c =
    let nodes = c.args.trees.now in
    let old = c.args.tasks.now in
    let st = c.args.scopes.now in
    let steps = steps_of nodes old in
    let far = 2 * c.args.place in
    let last = c.args.place - 1 in
    let ts = trees_at nodes last in
    let fits = c.requires in
    let inside = c.in-Some.ensures.inside in
    let e = ap (λ (xs : List Tree). block_uses (block (top xs)) Nothing) c.in-Some.ensures.some ∙ (c.in-Ended.ensures.uses ts ∙ statements_whole (statements (top (below ts))) (block (top ts))) in
    let before = c.below-in-Ended.ensures.before in
    goes_to_two nodes (Walk (block_uses (block (top (trees_at nodes c.args.place))) Nothing)) far old st true (task.Task.Block last) (task.Task.Statements c.below-in-Ended.result) c.push-in-Ended-2.new.self st
    (c.in_ok-push-in-Ended-2.ensures ∙ ap (λ (xs : List task.Task). task.Task.Block last ∷ xs) c.in_ok-push-in-Ended.ensures)
    (omega arith) (omega arith) (omega arith)
    (ap (λ (u : Uses). ends_well (Walk u ∷ steps) st.start st.bound) e ∙ (block_then (block (top ts)) (statements_uses (statements (top (below ts)))) steps st.start st.bound ∙ ap (λ (xs : List Tree). ends_well (Walk (block_uses (block (top ts)) Nothing) ∷ Walk (statements_uses (statements (top xs))) ∷ steps) st.start st.bound) (sym c.below-in-Ended.ensures.trees)))
