-- Maybe and List are told by their modules and their names.
use Rattle.std.proofs.Common.{Some, sym, ap, ◌∙◌}
use Rattle.elm_canon.specs.View.{payload_view}
use Rattle.elm_canon.specs.Tree.{MaybePayload, ListPayload}
use Rattle.elm_canon.proofs.Views.{maybe_payload, list_payload}
use Rattle.port_payload.proofs.Plain.{as_maybe, as_list}
use Rattle.port_payload.proofs.node_payload.payload_around.Goals as goal

pub returns-in_ok-new : goal.returns-in_ok-new
returns-in_ok-new c =
    ap Some (maybe_payload c.in_ok-new.field-0 ∙ ap (λ p. MaybePayload (payload_view p)) c.in_ok-new.ensures.ok)
    ∙ as_maybe c.args.home.now c.args.name.now (payload_view c.args.argument) (sym c.is_maybe.ensures
    ∙ c.if-is_maybe.true)

pub returns-in_ok-new-2 : goal.returns-in_ok-new-2
returns-in_ok-new-2 c =
    ap Some (list_payload c.in_ok-new-2.field-0 ∙ ap (λ p. ListPayload (payload_view p)) c.in_ok-new-2.ensures.ok)
    ∙ as_list c.args.home.now c.args.name.now (payload_view c.args.argument) (sym c.is_maybe.ensures
    ∙ c.if-is_maybe.false)
    (sym c.is_list.ensures ∙ c.if-is_list.true)
