-- A type without arguments: `plain_is`.
use Rattle.std.proofs.Common.{◌≡◌, option_map, IfOk, subst, ap, ◌∙◌}
use Rattle.elm_canon.specs.View.{payload_view}
use Rattle.port_payload.specs.Payloads.{plain_payload}
use Rattle.port_payload.proofs.Front.{plain_is}
use Rattle.port_payload.proofs.node_payload.plain_payload.Goals as goal

pub returns : goal.returns
returns c =
    subst (λ z. IfOk c.payload_of.result (λ p. option_map payload_view p ≡ z))
    (plain_is c.in_ok-clone.field-0 c.in_ok-clone-2.field-0 c.new.result c.new.ensures.items
    ∙ ap (λ m. plain_payload m c.in_ok-clone-2.field-0) c.in_ok-clone.ensures.cases
    ∙ ap (plain_payload c.args.home.now) c.in_ok-clone-2.ensures.cases) c.payload_of.ensures
