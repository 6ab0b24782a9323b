-- The scheme of an annotation: `scheme_is`, `kinds_same`.
use Rattle.std.proofs.Common.{◌≡◌, ◌++◌, ◌∙◌, ap, map}
use Rattle.elm_canon.specs.View.{annotation_view}
use Rattle.elm_type.specs.View.{kind_view, type_view}
use Rattle.type_items.specs.Annotations.{variables_of}
use Rattle.type_schemes.specs.Kinds.{besides, kind_in, pair_view}
use Rattle.type_schemes.proofs.AnnotationSchemes.{kinds_same, scheme_is}
use Rattle.type_schemes.proofs.written.written_scheme.Goals as goal

pub returns-clause-scheme : goal.returns-clause-scheme
returns-clause-scheme c =
    let pairs : map pair_view c.push_beside.new.pairs.items ≡ besides (annotation_view c.args.annotation.now) =
    c.in_ok-push_beside.ensures
    ∙ ap (λ bs. map pair_view bs ++ besides (annotation_view c.args.annotation.now)) c.new-pairs.ensures.items in
    let kinds : map kind_view c.in_ok-kinds.kinds.items
    ≡ map (kind_in (besides (annotation_view c.args.annotation.now)))
    (variables_of (annotation_view c.args.annotation.now)) =
    c.in_ok-kinds.ensures
    ∙ (ap (λ bs. map (kind_in (map pair_view bs)) c.deref-2.result.now) c.deref.ensures.value
    ∙ (ap (λ ps. map (kind_in ps) c.deref-2.result.now) pairs
    ∙ ap (map (kind_in (besides (annotation_view c.args.annotation.now))))
    (c.deref-2.ensures.value ∙ c.in_ok-names.ensures.names))) in
    scheme_is (annotation_view c.args.annotation.now) (type_view c.in_ok-names.field-0.ty)
    (map kind_view c.in_ok-kinds.kinds.items) c.in_ok-names.ensures.ty kinds

pub returns-clause-kinds : goal.returns-clause-kinds
returns-clause-kinds c =
    let pairs : map pair_view c.push_beside.new.pairs.items ≡ besides (annotation_view c.args.annotation.now) =
    c.in_ok-push_beside.ensures
    ∙ ap (λ bs. map pair_view bs ++ besides (annotation_view c.args.annotation.now)) c.new-pairs.ensures.items in
    c.in_ok-kinds.ensures
    ∙ (ap (λ bs. map (kind_in (map pair_view bs)) c.deref-2.result.now) c.deref.ensures.value
    ∙ (ap (λ ps. map (kind_in ps) c.deref-2.result.now) pairs
    ∙ (ap (map (kind_in (besides (annotation_view c.args.annotation.now))))
    (c.deref-2.ensures.value ∙ c.in_ok-names.ensures.names)
    ∙ kinds_same (annotation_view c.args.annotation.now) (variables_of (annotation_view c.args.annotation.now)))))
