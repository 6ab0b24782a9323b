-- What is written is read again: `spelled_by`, `spelled_type`.
use Rattle.std.proofs.Common.{◌≡◌, ◌++◌, ◌∙◌, ap, sym}
use Rattle.elm_canon.specs.View.{annotation_view}
use Rattle.elm_type.proofs.Reading.{spelled_by, spelled_type}
use Rattle.type_items.specs.Annotations.{annotation_type, variables_of}
use Rattle.type_schemes.specs.Names.{numbered, type_nodes}
use Rattle.type_schemes.proofs.written.written_type.Goals as goal

pub invariant_of-result : goal.invariant_of-result
unfolding type_nodes
invariant_of-result c =
    let e : c.push_nodes.new.nodes.items ≡ type_nodes (variables_of (annotation_view c.args.annotation.now))
    (annotation_view c.args.annotation.now) =
    c.in_ok-push_nodes.ensures
    ∙ (ap (λ ns. ns ++ type_nodes c.in_ok-order.order.names.items (annotation_view c.args.annotation.now))
    c.new-nodes.ensures.items
    ∙ ap (λ vs. type_nodes vs (annotation_view c.args.annotation.now)) c.in_ok-order.ensures.names) in
    record {
      spelled =
          spelled_by c.push_nodes.new.nodes.items
          (annotation_type (numbered (variables_of (annotation_view c.args.annotation.now)))
          (annotation_view c.args.annotation.now)) (sym e);
    }

pub returns-clause-ty : goal.returns-clause-ty
unfolding type_nodes
returns-clause-ty c =
    let e : c.push_nodes.new.nodes.items ≡ type_nodes (variables_of (annotation_view c.args.annotation.now))
    (annotation_view c.args.annotation.now) =
    c.in_ok-push_nodes.ensures
    ∙ (ap (λ ns. ns ++ type_nodes c.in_ok-order.order.names.items (annotation_view c.args.annotation.now))
    c.new-nodes.ensures.items
    ∙ ap (λ vs. type_nodes vs (annotation_view c.args.annotation.now)) c.in_ok-order.ensures.names) in
    spelled_type c.push_nodes.new.nodes.items
    (annotation_type (numbered (variables_of (annotation_view c.args.annotation.now)))
    (annotation_view c.args.annotation.now)) (sym e)
