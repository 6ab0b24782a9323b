-- The steps of a type, by its parts: the laws of `Flattening`.
use Rattle.std.proofs.Common.{ap, ◌∙◌, arith}
use Rattle.std.proofs.lemmas.Grind.{common_steps}
use Rattle.elm_canon.specs.View.{annotation_view}
use Rattle.elm_canon.specs.declared.tree.Annotation.{Annotation}
use Rattle.interface.specs.Steps.{steps_of}
use Rattle.interface.proofs.Flattening.{variable_steps, named_steps, tuple_steps, any_record_steps, function_steps}
use Rattle.interface.proofs.Flattening.{shared_steps, no_function, one_field, whole_function}
use Rattle.interface.proofs.forms.steps.+steps.Goals as goal

pub push_fields-loop-field-preserved : goal.push_fields-loop-field-preserved
push_fields-loop-field-preserved t c = let e = one_field c.field-item.result in grind (arith, common_steps)

pub push_function-loop-index-preserved : goal.push_function-loop-index-preserved
push_function-loop-index-preserved t c = record {
  parameters = λ h. let f = c.loop-index.invariant.parameters (omega arith) in grind (arith, common_steps);
  whole = λ h.
      let f = c.loop-index.invariant.parameters (omega arith) in
      let e = whole_function c.args.types.now c.loop-index.index c.index-types-index.result c.index-types-index.result h c.index-types-index.is in
      grind (arith, common_steps);
}

pub push_function-returns-then-is_empty : goal.push_function-returns-then-is_empty
push_function-returns-then-is_empty t c = let e = no_function in grind (arith, common_steps)

pub push_steps-returns-in-Variable : goal.push_steps-returns-in-Variable
push_steps-returns-in-Variable t c =
    let e = ap (λ (a : Annotation). steps_of (annotation_view a)) c.in-Variable.is ∙ variable_steps c.in-Variable.name in grind (arith, common_steps)

pub push_steps-returns-in_ok-push_parts-in-Named : goal.push_steps-returns-in_ok-push_parts-in-Named
push_steps-returns-in_ok-push_parts-in-Named t c =
    let e = ap (λ (a : Annotation). steps_of (annotation_view a)) c.in-Named.is ∙ named_steps c.in-Named.module c.in-Named.name c.in-Named.arguments in grind (arith, common_steps)

pub push_steps-returns-in-Function : goal.push_steps-returns-in-Function
push_steps-returns-in-Function t c =
    let e = ap (λ (a : Annotation). steps_of (annotation_view a)) c.in-Function.is ∙ function_steps c.in-Function.types in grind (arith, common_steps)

pub push_steps-returns-in_ok-push_parts-in-Tuple : goal.push_steps-returns-in_ok-push_parts-in-Tuple
push_steps-returns-in_ok-push_parts-in-Tuple t c =
    let e = ap (λ (a : Annotation). steps_of (annotation_view a)) c.in-Tuple.is ∙ tuple_steps c.in-Tuple.types in grind (arith, common_steps)

pub push_steps-returns-in_ok-push_fields-in-Record : goal.push_steps-returns-in_ok-push_fields-in-Record
push_steps-returns-in_ok-push_fields-in-Record t c =
    let e = ap (λ (a : Annotation). steps_of (annotation_view a)) c.in-Record.is ∙ any_record_steps c.in-Record.base c.in-Record.fields in grind (arith, common_steps)

pub push_steps-returns-in-Shared : goal.push_steps-returns-in-Shared
push_steps-returns-in-Shared t c =
    let e = ap (λ (a : Annotation). steps_of (annotation_view a)) c.in-Shared.is ∙ shared_steps c.in-Shared.shared in grind (arith, common_steps)
