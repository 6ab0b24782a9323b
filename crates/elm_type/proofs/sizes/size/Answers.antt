-- What is said of a type, by its nodes: `size_by_nodes`.
use Rattle.std.proofs.Common.{◌^◌, ◌-◌, min, ap, ◌∙◌}
use Rattle.std.specs.List.{sum_by}
use Rattle.elm_type.specs.Nodes.{weight}
use Rattle.elm_type.proofs.ByNodes.{size_by_nodes}
use Rattle.elm_type.proofs.sizes.size.Goals as goal

pub returns : goal.returns
returns c =
    let ns = c.args.ty.now.nodes.items in
    c.sum.ensures ∙ (ap (λ ms. min (sum_by weight ms) (2 ^ 64 - 1)) c.deref.ensures.value ∙ ap (λ n. min n (2 ^ 64 - 1)) (size_by_nodes ns c.args.ty.now.spelled))
