-- Steps that do the same: `both_walked`, `three_walked`, `arrow_walked`, `called_walked`, and others.
-- Tasks that go on in the place of one: `goes_nowhere`, `goes_to_one`, `goes_to_two`, `goes_to_three`.
use Rattle.std.proofs.Common.{◌≡◌, ◌-◌, ◌*◌, List, [], ◌∷◌, length, true, sym, ap, ◌∙◌, arith}
use Rattle.std.specs.Prelude.{◌&&◌}
use Rattle.js_tree.specs.Tree.{NoJs, NoField}
use Rattle.js_tree.specs.Postorder.{Tree, name_view, expression, items, members, block, top, below, trees_at}
use Rattle.js_scope.specs.declared.tasks.Task as task
use Rattle.js_scope.specs.Uses.{Uses, Nothing, uses, block_uses}
use Rattle.js_scope.specs.Walk.{State, with_names, after_read, Walk, ends_well}
use Rattle.js_scope.specs.Steps.{steps_of}
use Rattle.js_scope.proofs.Ends.{both_walked, three_walked, arrow_walked, called_walked, items_whole, members_whole}
use Rattle.js_scope.proofs.Going.{goes_nowhere, goes_to_one, goes_to_two, goes_to_three}
use Rattle.js_scope.proofs.walk.visit_expression.Goals as goal

pub returns-in_default : goal.returns-in_default
returns-in_default c =
    let nodes = c.args.trees.now in
    let old = c.args.tasks.now in
    let st = c.args.scopes.now in
    let steps = steps_of nodes old in
    let far = 2 * c.args.place in
    let fits = c.requires in
    goes_nowhere nodes (Walk (uses (expression (top (trees_at nodes c.args.place))))) far old st true st (ap (λ (xs : List Tree). ends_well (Walk (uses (expression (top xs))) ∷ steps) st.start st.bound) (c.in_default.ensures.none fits))

pub returns-in-Nothing : goal.returns-in-Nothing
returns-in-Nothing c =
    let nodes = c.args.trees.now in
    let old = c.args.tasks.now in
    let st = c.args.scopes.now in
    let steps = steps_of nodes old in
    let far = 2 * c.args.place in
    let last = c.args.place - 1 in
    let ts = trees_at nodes last in
    let fits = c.requires in
    let inside = c.in-Some.ensures.inside in
    let e = ap (λ (xs : List Tree). uses (expression (top xs))) c.in-Some.ensures.some ∙ c.in-Nothing.ensures ts in
    goes_nowhere nodes (Walk (uses (expression (top (trees_at nodes c.args.place))))) far old st true st (ap (λ (u : Uses). ends_well (Walk u ∷ steps) st.start st.bound) e)

pub returns-in-Reads : goal.returns-in-Reads
returns-in-Reads c =
    let nodes = c.args.trees.now in
    let old = c.args.tasks.now in
    let st = c.args.scopes.now in
    let steps = steps_of nodes old in
    let far = 2 * c.args.place in
    let last = c.args.place - 1 in
    let ts = trees_at nodes last in
    let fits = c.requires in
    let inside = c.in-Some.ensures.inside in
    let e = ap (λ (xs : List Tree). uses (expression (top xs))) c.in-Some.ensures.some ∙ c.in-Reads.ensures ts in
    let x = name_view c.in-Reads.name.now in
    goes_nowhere nodes (Walk (uses (expression (top (trees_at nodes c.args.place))))) far old st c.read.result c.read.new.self
    (ap (λ (u : Uses). ends_well (Walk u ∷ steps) st.start st.bound) e
    ∙ (ap (λ b. b && ends_well steps st.start (after_read x st.start st.bound)) (sym c.read.ensures.found) ∙ ap (λ (s : State). c.read.result && ends_well steps s.start s.bound) (sym c.read.ensures.after)))

pub returns-in_ok-push-in-Arrow-3 : goal.returns-in_ok-push-in-Arrow-3
returns-in_ok-push-in-Arrow-3 c =
    let nodes = c.args.trees.now in
    let old = c.args.tasks.now in
    let st = c.args.scopes.now in
    let steps = steps_of nodes old in
    let far = 2 * c.args.place in
    let last = c.args.place - 1 in
    let ts = trees_at nodes last in
    let fits = c.requires in
    let inside = c.in-Some.ensures.inside in
    let e = ap (λ (xs : List Tree). uses (expression (top xs))) c.in-Some.ensures.some ∙ c.in-Arrow.ensures ts in
    let x = name_view c.in-Arrow.name.now in
    let now : c.declare.new.self ≡ record { start = length st.bound; bound = with_names (x ∷ []) st.bound } =
    c.in_ok-declare-in-Arrow.ensures ∙ ap (λ (s : State). let t : State = record { start = s.start; bound = with_names (x ∷ []) s.bound } in t) c.begin.ensures in
    let leave = task.Task.Leave c.len.result c.start.result in
    goes_to_three nodes (Walk (uses (expression (top (trees_at nodes c.args.place))))) far old st true (task.Task.BlockNames last) (task.Task.Block last) leave c.push-in-Arrow-2.new.self c.declare.new.self
    (c.in_ok-push-in-Arrow-3.ensures ∙ ap (λ (xs : List task.Task). task.Task.BlockNames last ∷ xs) (c.in_ok-push-in-Arrow-2.ensures ∙ ap (λ (xs : List task.Task). task.Task.Block last ∷ xs) c.in_ok-push-in-Arrow.ensures))
    (omega arith) (omega arith) (omega arith) (omega arith)
    (ap (λ (u : Uses). ends_well (Walk u ∷ steps) st.start st.bound) e ∙ arrow_walked (block (top ts)) x (block_uses (block (top ts)) Nothing) steps st.start st.bound c.len.result c.start.result c.declare.new.self c.len.ensures c.start.ensures now)

pub returns-in_ok-push-in-Function-3 : goal.returns-in_ok-push-in-Function-3
returns-in_ok-push-in-Function-3 c =
    let nodes = c.args.trees.now in
    let old = c.args.tasks.now in
    let st = c.args.scopes.now in
    let steps = steps_of nodes old in
    let far = 2 * c.args.place in
    let last = c.args.place - 1 in
    let ts = trees_at nodes last in
    let fits = c.requires in
    let inside = c.in-Some.ensures.inside in
    let e = ap (λ (xs : List Tree). uses (expression (top xs))) c.in-Some.ensures.some ∙ c.in-Function.ensures ts in
    let leave = task.Task.Leave c.len-in-Function.result c.start-in-Function.result in
    goes_to_three nodes (Walk (uses (expression (top (trees_at nodes c.args.place))))) far old st true (task.Task.BlockNames last) (task.Task.Block last) leave c.push-in-Function-3.new.self c.begin-in-Function.new.self
    (c.in_ok-push-in-Function-3.ensures ∙ ap (λ (xs : List task.Task). task.Task.BlockNames last ∷ xs) (c.in_ok-push-in-Function-2.ensures ∙ ap (λ (xs : List task.Task). task.Task.Block last ∷ xs) c.in_ok-push-in-Function.ensures))
    (omega arith) (omega arith) (omega arith) (omega arith)
    (ap (λ (u : Uses). ends_well (Walk u ∷ steps) st.start st.bound) e ∙ called_walked (block (top ts)) (block_uses (block (top ts)) Nothing) steps st.start st.bound c.len-in-Function.result c.start-in-Function.result c.begin-in-Function.new.self c.len-in-Function.ensures c.start-in-Function.ensures c.begin-in-Function.ensures)

pub returns-in_ok-push-in-Whole : goal.returns-in_ok-push-in-Whole
returns-in_ok-push-in-Whole c =
    let nodes = c.args.trees.now in
    let old = c.args.tasks.now in
    let st = c.args.scopes.now in
    let steps = steps_of nodes old in
    let far = 2 * c.args.place in
    let last = c.args.place - 1 in
    let ts = trees_at nodes last in
    let fits = c.requires in
    let inside = c.in-Some.ensures.inside in
    let e = ap (λ (xs : List Tree). uses (expression (top xs))) c.in-Some.ensures.some ∙ c.in-Whole.ensures ts in
    goes_to_one nodes (Walk (uses (expression (top (trees_at nodes c.args.place))))) far old st true (task.Task.Expression last) c.push-in-Whole.new.self st c.in_ok-push-in-Whole.ensures (omega arith) (omega arith)
    (ap (λ (u : Uses). ends_well (Walk u ∷ steps) st.start st.bound) e)

pub returns-in_ok-push-in-Pair-2 : goal.returns-in_ok-push-in-Pair-2
returns-in_ok-push-in-Pair-2 c =
    let nodes = c.args.trees.now in
    let old = c.args.tasks.now in
    let st = c.args.scopes.now in
    let steps = steps_of nodes old in
    let far = 2 * c.args.place in
    let last = c.args.place - 1 in
    let ts = trees_at nodes last in
    let fits = c.requires in
    let inside = c.in-Some.ensures.inside in
    let e = ap (λ (xs : List Tree). uses (expression (top xs))) c.in-Some.ensures.some ∙ c.in-Pair.ensures ts in
    let before = c.below.ensures.before in
    goes_to_two nodes (Walk (uses (expression (top (trees_at nodes c.args.place))))) far old st true (task.Task.Expression last) (task.Task.Expression c.below.result) c.push-in-Pair-2.new.self st
    (c.in_ok-push-in-Pair-2.ensures ∙ ap (λ (xs : List task.Task). task.Task.Expression last ∷ xs) c.in_ok-push-in-Pair.ensures)
    (omega arith) (omega arith) (omega arith)
    (ap (λ (u : Uses). ends_well (Walk u ∷ steps) st.start st.bound) e ∙ (both_walked (uses (expression (top ts))) (uses (expression (top (below ts)))) steps st.start st.bound ∙ ap (λ (xs : List Tree). ends_well (Walk (uses (expression (top ts))) ∷ Walk (uses (expression (top xs))) ∷ steps) st.start st.bound) (sym c.below.ensures.trees)))

pub returns-in_ok-push-in-Triple-3 : goal.returns-in_ok-push-in-Triple-3
returns-in_ok-push-in-Triple-3 c =
    let nodes = c.args.trees.now in
    let old = c.args.tasks.now in
    let st = c.args.scopes.now in
    let steps = steps_of nodes old in
    let far = 2 * c.args.place in
    let last = c.args.place - 1 in
    let ts = trees_at nodes last in
    let fits = c.requires in
    let inside = c.in-Some.ensures.inside in
    let e = ap (λ (xs : List Tree). uses (expression (top xs))) c.in-Some.ensures.some ∙ c.in-Triple.ensures ts in
    let second = c.below-second.result in
    let third = c.below-in-Triple.result in
    let before = c.below-second.ensures.before in
    let further = c.below-in-Triple.ensures.before in
    goes_to_three nodes (Walk (uses (expression (top (trees_at nodes c.args.place))))) far old st true (task.Task.Expression last) (task.Task.Expression second) (task.Task.Expression third) c.push-in-Triple-3.new.self st
    (c.in_ok-push-in-Triple-3.ensures ∙ ap (λ (xs : List task.Task). task.Task.Expression last ∷ xs) (c.in_ok-push-in-Triple-2.ensures ∙ ap (λ (xs : List task.Task). task.Task.Expression second ∷ xs) c.in_ok-push-in-Triple.ensures))
    (omega arith) (omega arith) (omega arith) (omega arith)
    (ap (λ (u : Uses). ends_well (Walk u ∷ steps) st.start st.bound) e
    ∙ (three_walked (uses (expression (top ts))) (uses (expression (top (below ts)))) (uses (expression (top (below (below ts))))) steps st.start st.bound
    ∙ (ap (λ (xs : List Tree). ends_well (Walk (uses (expression (top ts))) ∷ Walk (uses (expression (top xs))) ∷ Walk (uses (expression (top (below xs)))) ∷ steps) st.start st.bound) (sym c.below-second.ensures.trees)
    ∙ ap (λ (xs : List Tree). ends_well (Walk (uses (expression (top ts))) ∷ Walk (uses (expression (top (trees_at nodes second)))) ∷ Walk (uses (expression (top xs))) ∷ steps) st.start st.bound) (sym c.below-in-Triple.ensures.trees))))

pub returns-in_ok-push-in-Fields : goal.returns-in_ok-push-in-Fields
returns-in_ok-push-in-Fields c =
    let nodes = c.args.trees.now in
    let old = c.args.tasks.now in
    let st = c.args.scopes.now in
    let steps = steps_of nodes old in
    let far = 2 * c.args.place in
    let last = c.args.place - 1 in
    let ts = trees_at nodes last in
    let fits = c.requires in
    let inside = c.in-Some.ensures.inside in
    let e = ap (λ (xs : List Tree). uses (expression (top xs))) c.in-Some.ensures.some ∙ (c.in-Fields.ensures ts ∙ members_whole (members (top ts)) NoField) in
    goes_to_one nodes (Walk (uses (expression (top (trees_at nodes c.args.place))))) far old st true (task.Task.Members last) c.push-in-Fields.new.self st c.in_ok-push-in-Fields.ensures (omega arith) (omega arith)
    (ap (λ (u : Uses). ends_well (Walk u ∷ steps) st.start st.bound) e)

pub returns-in_ok-push-in-Items : goal.returns-in_ok-push-in-Items
returns-in_ok-push-in-Items c =
    let nodes = c.args.trees.now in
    let old = c.args.tasks.now in
    let st = c.args.scopes.now in
    let steps = steps_of nodes old in
    let far = 2 * c.args.place in
    let last = c.args.place - 1 in
    let ts = trees_at nodes last in
    let fits = c.requires in
    let inside = c.in-Some.ensures.inside in
    let e = ap (λ (xs : List Tree). uses (expression (top xs))) c.in-Some.ensures.some ∙ (c.in-Items.ensures ts ∙ items_whole (items (top ts)) NoJs) in
    goes_to_one nodes (Walk (uses (expression (top (trees_at nodes c.args.place))))) far old st true (task.Task.Items last) c.push-in-Items.new.self st c.in_ok-push-in-Items.ensures (omega arith) (omega arith)
    (ap (λ (u : Uses). ends_well (Walk u ∷ steps) st.start st.bound) e)
