-- What is said of a type, by its nodes: `renamed_spelled`, `scheme_renamed`.
use Rattle.std.proofs.Common.{[], map, ◌∙◌, sym, ap}
use Rattle.std.specs.List.{flat_map}
use Rattle.elm_type.specs.Types.{kind_at}
use Rattle.elm_type.specs.View.{kind_view}
use Rattle.elm_type.specs.Nodes.{leaves}
use Rattle.elm_type.specs.Schemes.{in_order, placed}
use Rattle.elm_type.proofs.ByNodes.{renamed_spelled, scheme_renamed}
use Rattle.elm_type.proofs.renaming.rename.Goals as goal

pub invariant_of-result : goal.invariant_of-result
invariant_of-result c =
    let ns = c.args.scheme.now.ty.nodes.items in
    record { spelled = renamed_spelled (placed (in_order [] (flat_map leaves ns))) ns c.in_ok-nodes.field-0.nodes.items c.args.scheme.now.ty.spelled (rw (sym c.deref.ensures.value) c.in_ok-nodes.ensures.nodes) }

pub returns : goal.returns
returns c =
    let ns = c.args.scheme.now.ty.nodes.items in
    let ks = map kind_view c.args.scheme.now.kinds.items in
    scheme_renamed ns c.in_ok-nodes.field-0.nodes.items c.in_ok-nodes.field-0.order.items ks (map kind_view c.in_ok-kinds.kinds.items) c.args.scheme.now.ty.spelled
    (rw (sym c.deref.ensures.value) c.in_ok-nodes.ensures.nodes) (rw (sym c.deref.ensures.value) c.in_ok-nodes.ensures.order)
    (c.in_ok-kinds.ensures ∙ (ap (λ qs. map (kind_at (map kind_view qs)) c.deref-3.result.now) c.deref-2.ensures.value ∙ ap (map (kind_at ks)) c.deref-3.ensures.value))
