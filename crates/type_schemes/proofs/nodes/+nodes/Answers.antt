-- The nodes of a type, by its parts: the laws of `Spelled`.
use Rattle.std.proofs.Common.{ap, ◌∙◌, arith}
use Rattle.std.proofs.lemmas.Grind.{common_steps}
use Rattle.elm_canon.specs.View.{annotation_view}
use Rattle.elm_canon.specs.declared.tree.Annotation.{Annotation}
use Rattle.type_schemes.specs.Names.{type_nodes}
use Rattle.type_schemes.proofs.Spelled.{variable_nodes, named_nodes, function_nodes, tuple_nodes, record_nodes}
use Rattle.type_schemes.proofs.Spelled.{shared_nodes, one_titled, no_function, whole_function}
use Rattle.type_schemes.proofs.nodes.+nodes.Goals as goal

pub parts_of-loop-field-preserved : goal.parts_of-loop-field-preserved
parts_of-loop-field-preserved t c =
    let e = one_titled c.args.order.now.names.items c.field-item.result in grind (arith, common_steps)

pub push_function-returns-then-is_empty : goal.push_function-returns-then-is_empty
push_function-returns-then-is_empty t c =
    let e = no_function c.args.order.now.names.items in grind (arith, common_steps)

pub push_function-loop-index-preserved : goal.push_function-loop-index-preserved
push_function-loop-index-preserved t c = record {
  parameters = λ h. let f = c.loop-index.invariant.parameters (omega arith) in grind (arith, common_steps);
  whole = λ h.
      let f = c.loop-index.invariant.parameters (omega arith) in
      let e = whole_function c.args.order.now.names.items c.args.types.now c.loop-index.index c.index-types-index.result
      c.index-types-index.result h c.index-types-index.is in
      grind (arith, common_steps);
}

pub push_nodes-returns-in_ok-push-in-Variable : goal.push_nodes-returns-in_ok-push-in-Variable
push_nodes-returns-in_ok-push-in-Variable t c =
    let e = ap (λ (a : Annotation). type_nodes c.args.order.now.names.items (annotation_view a)) c.in-Variable.is ∙
    variable_nodes c.args.order.now.names.items c.in-Variable.name in
    grind (arith, common_steps)

pub push_nodes-returns-in_ok-push-in-Named : goal.push_nodes-returns-in_ok-push-in-Named
push_nodes-returns-in_ok-push-in-Named t c =
    let e = ap (λ (a : Annotation). type_nodes c.args.order.now.names.items (annotation_view a)) c.in-Named.is ∙
    named_nodes c.args.order.now.names.items c.in-Named.home c.in-Named.name c.in-Named.types in
    grind (arith, common_steps)

pub push_nodes-returns-in-Function : goal.push_nodes-returns-in-Function
push_nodes-returns-in-Function t c =
    let e = ap (λ (a : Annotation). type_nodes c.args.order.now.names.items (annotation_view a)) c.in-Function.is ∙
    function_nodes c.args.order.now.names.items c.in-Function.types in
    grind (arith, common_steps)

pub push_nodes-returns-in_ok-push-in-Tuple : goal.push_nodes-returns-in_ok-push-in-Tuple
push_nodes-returns-in_ok-push-in-Tuple t c =
    let e = ap (λ (a : Annotation). type_nodes c.args.order.now.names.items (annotation_view a)) c.in-Tuple.is ∙
    tuple_nodes c.args.order.now.names.items c.in-Tuple.types in
    grind (arith, common_steps)

pub push_nodes-returns-in-Shared : goal.push_nodes-returns-in-Shared
push_nodes-returns-in-Shared t c =
    let e = ap (λ (a : Annotation). type_nodes c.args.order.now.names.items (annotation_view a)) c.in-Shared.is ∙
    shared_nodes c.args.order.now.names.items c.in-Shared.shared in
    grind (arith, common_steps)

pub push_nodes-returns-in_ok-parts-in-Record : goal.push_nodes-returns-in_ok-parts-in-Record
push_nodes-returns-in_ok-parts-in-Record t c =
    let e = ap (λ (a : Annotation). type_nodes c.args.order.now.names.items (annotation_view a)) c.in-Record.is ∙
    record_nodes c.args.order.now.names.items c.in-Record.base c.in-Record.fields in
    grind (arith, common_steps)
