-- The fields beside variables, by the parts of a type: the laws of `Pairing`.
use Rattle.std.proofs.Common.{ap, ◌∙◌, arith}
use Rattle.std.proofs.lemmas.Grind.{common_steps}
use Rattle.elm_canon.specs.View.{annotation_view}
use Rattle.elm_canon.specs.declared.tree.Annotation.{Annotation}
use Rattle.type_schemes.specs.Kinds.{besides}
use Rattle.type_schemes.proofs.Pairing.{variable_pairs, named_pairs, function_pairs, tuple_pairs, record_pairs}
use Rattle.type_schemes.proofs.Pairing.{shared_pairs, one_pairs}
use Rattle.type_schemes.proofs.beside.+beside.Goals as goal

pub push_fields-loop-field-preserved : goal.push_fields-loop-field-preserved
push_fields-loop-field-preserved t c = let e = one_pairs c.field-item.result in grind (arith, common_steps)

pub push_beside-returns-in-Variable : goal.push_beside-returns-in-Variable
push_beside-returns-in-Variable t c =
    let e = ap (λ (a : Annotation). besides (annotation_view a)) c.in-Variable.is ∙ variable_pairs c.in-Variable.field-0
    in
    grind (arith, common_steps)

pub push_beside-returns-in-Named : goal.push_beside-returns-in-Named
push_beside-returns-in-Named t c =
    let e = ap (λ (a : Annotation). besides (annotation_view a)) c.in-Named.is ∙ named_pairs c.in-Named.field-0
    c.in-Named.field-1 c.in-Named.types in grind (arith, common_steps)

pub push_beside-returns-in-Function : goal.push_beside-returns-in-Function
push_beside-returns-in-Function t c =
    let e = ap (λ (a : Annotation). besides (annotation_view a)) c.in-Function.is ∙ function_pairs c.in-Function.types
    in grind (arith, common_steps)

pub push_beside-returns-in-Tuple : goal.push_beside-returns-in-Tuple
push_beside-returns-in-Tuple t c =
    let e = ap (λ (a : Annotation). besides (annotation_view a)) c.in-Tuple.is ∙ tuple_pairs c.in-Tuple.types in grind
    (arith, common_steps)

pub push_beside-returns-in-Shared : goal.push_beside-returns-in-Shared
push_beside-returns-in-Shared t c =
    let e = ap (λ (a : Annotation). besides (annotation_view a)) c.in-Shared.is ∙ shared_pairs c.in-Shared.shared in
    grind (arith, common_steps)

pub push_beside-returns-in_ok-push_base-in-Record : goal.push_beside-returns-in_ok-push_base-in-Record
push_beside-returns-in_ok-push_base-in-Record t c =
    let e = ap (λ (a : Annotation). besides (annotation_view a)) c.in-Record.is ∙ record_pairs c.in-Record.base
    c.in-Record.fields in grind (arith, common_steps)
