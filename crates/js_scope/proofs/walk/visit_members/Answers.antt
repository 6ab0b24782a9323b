-- Steps that do the same: `both_walked`.
-- Tasks that go on in the place of one: `goes_nowhere`, `goes_to_two`.
use Rattle.std.proofs.Common.{◌-◌, ◌*◌, List, ◌∷◌, true, sym, ap, ◌∙◌, arith}
use Rattle.js_tree.specs.Postorder.{Tree, expression, members, top, below, trees_at}
use Rattle.js_scope.specs.declared.tasks.Task as task
use Rattle.js_scope.specs.Uses.{Uses, uses, members_uses}
use Rattle.js_scope.specs.Walk.{Walk, ends_well}
use Rattle.js_scope.specs.Parts.{members_by}
use Rattle.js_scope.specs.Steps.{steps_of}
use Rattle.js_scope.proofs.Ends.{both_walked}
use Rattle.js_scope.proofs.Going.{goes_nowhere, goes_to_two}
use Rattle.js_scope.proofs.walk.visit_members.Goals as goal

pub returns-in_default : goal.returns-in_default
returns-in_default c =
    let nodes = c.args.trees.now in
    let old = c.args.tasks.now in
    let st = c.args.scopes.now in
    let steps = steps_of nodes old in
    let far = 2 * c.args.place in
    let fits = c.requires in
    goes_nowhere nodes (Walk (members_uses (members (top (trees_at nodes c.args.place))))) far old st true st (ap (λ (xs : List Tree). ends_well (Walk (members_uses (members (top xs))) ∷ steps) st.start st.bound) (c.in_default.ensures.none fits))

pub returns-then-not-is_field : goal.returns-then-not-is_field
returns-then-not-is_field c =
    let nodes = c.args.trees.now in
    let old = c.args.tasks.now in
    let st = c.args.scopes.now in
    let steps = steps_of nodes old in
    let far = 2 * c.args.place in
    let last = c.args.place - 1 in
    let ts = trees_at nodes last in
    let fits = c.requires in
    let inside = c.in-Some.ensures.inside in
    let e = ap (λ (xs : List Tree). members_uses (members (top xs))) c.in-Some.ensures.some ∙ (c.is_field.ensures ts ∙ ap (λ b. members_by b ts) c.if-not-is_field.true) in
    goes_nowhere nodes (Walk (members_uses (members (top (trees_at nodes c.args.place))))) far old st true st (ap (λ (u : Uses). ends_well (Walk u ∷ steps) st.start st.bound) e)

pub returns : goal.returns
returns c =
    let nodes = c.args.trees.now in
    let old = c.args.tasks.now in
    let st = c.args.scopes.now in
    let steps = steps_of nodes old in
    let far = 2 * c.args.place in
    let last = c.args.place - 1 in
    let ts = trees_at nodes last in
    let fits = c.requires in
    let inside = c.in-Some.ensures.inside in
    let e = ap (λ (xs : List Tree). members_uses (members (top xs))) c.in-Some.ensures.some ∙ (c.is_field.ensures ts ∙ ap (λ b. members_by b ts) c.if-not-is_field.false) in
    let before = c.below.ensures.before in
    goes_to_two nodes (Walk (members_uses (members (top (trees_at nodes c.args.place))))) far old st true (task.Task.Expression last) (task.Task.Members c.below.result) c.push-2.new.self st
    (c.in_ok-push-2.ensures ∙ ap (λ (xs : List task.Task). task.Task.Expression last ∷ xs) c.in_ok-push.ensures)
    (omega arith) (omega arith) (omega arith)
    (ap (λ (u : Uses). ends_well (Walk u ∷ steps) st.start st.bound) e ∙ (both_walked (uses (expression (top ts))) (members_uses (members (top (below ts)))) steps st.start st.bound ∙ ap (λ (xs : List Tree). ends_well (Walk (uses (expression (top ts))) ∷ Walk (members_uses (members (top xs))) ∷ steps) st.start st.bound) (sym c.below.ensures.trees)))
