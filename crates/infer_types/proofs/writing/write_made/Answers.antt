-- A type of a head: `made_node`.
use Rattle.std.proofs.Common.{◌≡◌, [], ◌∷◌, map, take, drop, sym, ap, ◌∙◌, subst}
use Rattle.elm_type.specs.declared.node.Node.TheVariants as node
use Rattle.std.specs.List.{AllByRecursion}
use Rattle.type_store.specs.View.{field_view}
use Rattle.type_walks.specs.Links.{Live}
use Rattle.infer_steps.specs.View.{here}
use Rattle.infer_steps.specs.Made.{IsMade, OfHead}
use Rattle.infer_types.specs.Stacks.{waiting, slots}
use Rattle.infer_types.specs.Writing.{NodeWritten}
use Rattle.infer_types.proofs.ByNodes.{made_node, inside_all, taken_live}
use Rattle.infer_types.proofs.writing.write_made.Goals as goal

pub built-requires-clause-inside : goal.built-requires-clause-inside
built-requires-clause-inside c =
    let old = here c.args.state.now in
    let w = waiting c.args.stack.now.items in
    let ws : c.in_ok-variables.variables.items ≡ slots (take c.args.count w) = c.in_ok-variables.ensures ∙
    (ap (λ xs. slots (map field_view xs)) c.deref.ensures.value ∙ ap slots c.in_ok-parts.ensures.taken) in
    inside_all old.depth old.store c.in_ok-variables.variables.items
    (subst (λ vs. AllByRecursion (Live old.depth old.store) vs) (sym ws)
    (taken_live old.depth old.store c.args.count w c.requires.waiting))

pub returns : goal.returns
returns c = λ leaves. (
    let old = here c.args.state.now in
    let new = here c.built.new.state in
    let w = waiting c.args.stack.now.items in
    let ws : c.in_ok-variables.variables.items ≡ slots (take c.args.count w) = c.in_ok-variables.ensures ∙
    (ap (λ xs. slots (map field_view xs)) c.deref.ensures.value ∙ ap slots c.in_ok-parts.ensures.taken) in
    let made : IsMade old new c.in_ok-slot.slot (OfHead c.args.head.now (slots (take c.args.count w))) =
    subst (λ h. IsMade old new c.in_ok-slot.slot (OfHead h (slots (take c.args.count w)))) c.in_ok-copy.ensures
    (subst (λ vs. IsMade old new c.in_ok-slot.slot (OfHead c.in_ok-copy.copy vs)) ws c.in_ok-slot.ensures) in
    let stack : waiting c.push_part.new.stack.items ≡ ([], c.in_ok-slot.slot) ∷ drop c.args.count w =
    c.in_ok-push_part.ensures ∙ (ap (λ k. (k, c.in_ok-slot.slot) ∷ waiting c.take_parts.new.stack.items)
    c.requires.blank
    ∙ ap (λ fs. ([], c.in_ok-slot.slot) ∷ fs) c.in_ok-parts.ensures.left) in
    subst (λ fs. NodeWritten leaves (node.Made c.args.head.now c.args.count) w old fs new) (sym stack)
    (made_node leaves w old new c.requires.waiting c.args.count c.in_ok-slot.slot c.args.head.now made))
