-- Maybe and List are told by their modules and their names.
use Rattle.std.proofs.Common.{Some, option_map, sym, ap, ◌∙◌}
use Rattle.elm_canon.specs.View.{payload_view}
use Rattle.elm_canon.specs.Tree.{MaybePayload, ListPayload}
use Rattle.elm_canon.proofs.Views.{maybe_payload, list_payload}
use Rattle.port_payload.specs.Payloads.{payload_around}
use Rattle.port_payload.proofs.Plain.{as_maybe, as_list}
use Rattle.port_payload.proofs.payload.payload_around.Goals as goal

pub returns-in_ok-new-in-Some : goal.returns-in_ok-new-in-Some
returns-in_ok-new-in-Some c =
    let m = c.args.home.now in
    let x = c.args.name.now in
    let b = c.in_ok-new-in-Some.field-0 in
    ap Some (maybe_payload b ∙ ap (λ p. MaybePayload (payload_view p)) c.in_ok-new-in-Some.ensures.ok)
    ∙ as_maybe m x (payload_view c.in-Some.argument) (sym c.is_maybe.ensures ∙ c.if-is_maybe.true)
    ∙ ap (λ o. payload_around m x (option_map payload_view o)) (sym c.in-Some.is)

pub returns-in_ok-new-in-Some-2 : goal.returns-in_ok-new-in-Some-2
returns-in_ok-new-in-Some-2 c =
    let m = c.args.home.now in
    let x = c.args.name.now in
    let b = c.in_ok-new-in-Some-2.field-0 in
    ap Some (list_payload b ∙ ap (λ p. ListPayload (payload_view p)) c.in_ok-new-in-Some-2.ensures.ok)
    ∙ as_list m x (payload_view c.in-Some.argument) (sym c.is_maybe.ensures ∙ c.if-is_maybe.false)
    (sym c.is_list.ensures ∙ c.if-is_list.true)
    ∙ ap (λ o. payload_around m x (option_map payload_view o)) (sym c.in-Some.is)
