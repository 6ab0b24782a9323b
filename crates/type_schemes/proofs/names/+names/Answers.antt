-- The variables of a type, by its parts: the laws of `Naming`.
use Rattle.std.proofs.Common.{ap, ◌∙◌, arith}
use Rattle.std.proofs.lemmas.Grind.{common_steps}
use Rattle.elm_canon.specs.View.{annotation_view}
use Rattle.elm_canon.specs.declared.tree.Annotation.{Annotation}
use Rattle.type_items.specs.Annotations.{written}
use Rattle.type_schemes.proofs.Naming.{variable_names, named_names, function_names, tuple_names, record_names}
use Rattle.type_schemes.proofs.Naming.{shared_names, one_field}
use Rattle.type_schemes.proofs.names.+names.Goals as goal

pub push_fields-loop-field-preserved : goal.push_fields-loop-field-preserved
push_fields-loop-field-preserved t c = let e = one_field c.field-item.result in grind (arith, common_steps)

pub push_names-returns-in_ok-push-in-Variable : goal.push_names-returns-in_ok-push-in-Variable
push_names-returns-in_ok-push-in-Variable t c =
    let e = ap (λ (a : Annotation). written (annotation_view a)) c.in-Variable.is ∙ variable_names c.in-Variable.name in
    grind (arith, common_steps)

pub push_names-returns-in-Named : goal.push_names-returns-in-Named
push_names-returns-in-Named t c =
    let e = ap (λ (a : Annotation). written (annotation_view a)) c.in-Named.is ∙ named_names c.in-Named.field-0
    c.in-Named.field-1 c.in-Named.types in grind (arith, common_steps)

pub push_names-returns-in-Function : goal.push_names-returns-in-Function
push_names-returns-in-Function t c =
    let e = ap (λ (a : Annotation). written (annotation_view a)) c.in-Function.is ∙ function_names c.in-Function.types
    in grind (arith, common_steps)

pub push_names-returns-in-Tuple : goal.push_names-returns-in-Tuple
push_names-returns-in-Tuple t c =
    let e = ap (λ (a : Annotation). written (annotation_view a)) c.in-Tuple.is ∙ tuple_names c.in-Tuple.types in grind
    (arith, common_steps)

pub push_names-returns-in-Shared : goal.push_names-returns-in-Shared
push_names-returns-in-Shared t c =
    let e = ap (λ (a : Annotation). written (annotation_view a)) c.in-Shared.is ∙ shared_names c.in-Shared.shared in
    grind (arith, common_steps)

pub push_names-returns-in_ok-push_base-in-Record : goal.push_names-returns-in_ok-push_base-in-Record
push_names-returns-in_ok-push_base-in-Record t c =
    let e = ap (λ (a : Annotation). written (annotation_view a)) c.in-Record.is ∙ record_names c.in-Record.base
    c.in-Record.fields in grind (arith, common_steps)
