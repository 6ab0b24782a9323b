-- The box keeps what the port means.
use Rattle.std.proofs.Common.{◌≡◌, ◌++◌, Ok, OnOk, None, sym, ap, ◌∙◌, subst}
use Rattle.std.specs.Prelude.{IfOk}
use Rattle.std.proofs.lemmas.Result.{IfOk-weaker}
use Rattle.elm_tree.specs.View.{word_view, type_view}
use Rattle.elm_tree.specs.Turns.{tokens_view}
use Rattle.elm_canon.specs.declared.reference.Ref.TheVariants.{Top}
use Rattle.elm_canon.specs.View.{known_view}
use Rattle.canon_env.specs.Imports.{name_of}
use Rattle.canon_env.specs.Naming.{World, IsWorld}
use Rattle.canon_module.specs.Items.{PortItem}
use Rattle.canon_module.specs.Ports.{port_faults, port_known}
use Rattle.canon_module.specs.declared.port.Port.{Port}
use Rattle.canon_module.proofs.Outcome.{anyway}
use Rattle.canon_module.proofs.walk.declared_port.Goals as goal

pub returns-in-Ok-clause-meaning : goal.returns-in-Ok-clause-meaning
returns-in-Ok-clause-meaning c =
    let x = word_view (tokens_view c.args.tokens.now) c.args.name in
    let t = type_view (tokens_view c.args.tokens.now) c.args.written.now in
    let known : (w : World) → IsWorld c.args.world.now w → known_view c.in-Ok.port.value.known ≡ port_known w x t =
    subst (λ r. IfOk r (λ (p : Port). (w : World) → IsWorld c.args.world.now w → known_view p.known ≡ port_known w x t))
    c.in-Ok.ensures c.resolve.ensures.known in
    IfOk-weaker c.port_item.result _ _
    (λ i is w h named.
    is ∙ ap (PortItem c.in_ok-title.title) (known w h)
    ∙ ap (λ r. PortItem r (port_known w x t)) (c.in_ok-title.ensures ∙ ap (λ n. Top n (name_of x)) (sym named)))
    c.port_item.ensures

pub returns-in-Ok-clause-faults : goal.returns-in-Ok-clause-faults
returns-in-Ok-clause-faults c =
    let x = word_view (tokens_view c.args.tokens.now) c.args.name in
    let t = type_view (tokens_view c.args.tokens.now) c.args.written.now in
    anyway c.port_item.result
    (subst (λ r. OnOk r ((w : World) → IsWorld c.args.world.now w → c.resolve.new.findings.items
    ≡ c.args.findings.now.items ++ port_faults w x t)) c.in-Ok.ensures c.resolve.ensures.faults)
