-- What is said of a type, by its nodes: `variables_by_nodes`, `renamed_spelled`, `renamed_type`.
use Rattle.std.proofs.Common.{sym}
use Rattle.elm_type.specs.Schemes.{shifted}
use Rattle.elm_type.proofs.ByNodes.{variables_by_nodes, renamed_spelled, renamed_type}
use Rattle.elm_type.proofs.instance.instantiate.Goals as goal

pub shifted_nodes-requires : goal.shifted_nodes-requires
shifted_nodes-requires c =
    let ns = c.args.scheme.now.ty.nodes.items in
    rw c.deref.ensures.value (rw (variables_by_nodes ns c.args.scheme.now.ty.spelled) c.requires)

pub invariant_of-result : goal.invariant_of-result
invariant_of-result c =
    let ns = c.args.scheme.now.ty.nodes.items in
    record { spelled = renamed_spelled (shifted c.args.first) ns c.in_ok-nodes.nodes.items c.args.scheme.now.ty.spelled (rw (sym c.deref.ensures.value) c.in_ok-nodes.ensures) }

pub returns : goal.returns
returns c =
    let ns = c.args.scheme.now.ty.nodes.items in
    renamed_type (shifted c.args.first) ns c.in_ok-nodes.nodes.items c.args.scheme.now.ty.spelled (rw (sym c.deref.ensures.value) c.in_ok-nodes.ensures)
