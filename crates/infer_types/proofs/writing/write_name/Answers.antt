-- The name of a field: `field_node`.
use Rattle.std.proofs.Common.{◌≡◌, [], ◌∷◌, sym, ap, ◌∙◌, subst, arith, append-nil}
use Rattle.elm_type.specs.declared.node.Node.TheVariants as node
use Rattle.type_store.specs.View.{field_view}
use Rattle.infer_steps.specs.View.{here}
use Rattle.infer_types.specs.Stacks.{waiting}
use Rattle.infer_types.specs.Writing.{NodeWritten}
use Rattle.infer_types.proofs.ByNodes.{field_node, nothing_named, itself}
use Rattle.infer_types.proofs.Stacks.{pushed, nothing_left}
use Rattle.infer_types.proofs.writing.write_name.Goals as goal

pub returns-in_ok-push_part-in-Some : goal.returns-in_ok-push_part-in-Some
returns-in_ok-push_part-in-Some c = λ leaves. (
    let s = here c.args.state.now in
    let w = waiting c.args.stack.now.items in
    let is : w ≡ field_view c.in-Some.part ∷ waiting c.pop.new.self.items =
    ap waiting c.in-Some.ensures.items ∙ pushed field_view c.pop.new.self.items c.in-Some.part in
    subst (λ fs. NodeWritten leaves (node.Field c.args.name.now) w s fs s) (sym c.in_ok-push_part-in-Some.ensures)
    (field_node leaves w s (itself s c.requires.whole) c.requires.waiting c.args.name.now (field_view c.in-Some.part)
    (waiting c.pop.new.self.items) is))

pub returns-in-None : goal.returns-in-None
returns-in-None c = λ leaves. (
    let s = here c.args.state.now in
    let w = waiting c.args.stack.now.items in
    let none : c.args.stack.now.items ≡ [] = nothing_left c.args.stack.now.items
    (omega (arith, c.args.stack.now.ok.0, c.in-None.ensures.cases.0)) in
    let left : c.pop.new.self.items ≡ [] = sym (append-nil c.pop.new.self.items) ∙ sym c.in-None.ensures.items ∙ none in
    subst (λ fs. NodeWritten leaves (node.Field c.args.name.now) w s fs s) (sym (ap waiting left))
    (nothing_named leaves w s (itself s c.requires.whole) c.requires.waiting c.args.name.now (ap waiting none)))
