-- Their number, and the types.
use Rattle.std.proofs.Common.{◌≡◌, ◌∷◌, map, length, sym, ap, ◌∙◌, arith}
use Rattle.std.proofs.lemmas.List.{length-map}
use Rattle.elm_canon.specs.Tree.{annotations_of}
use Rattle.elm_canon.specs.View.{annotation_view, types_view}
use Rattle.core_modules.specs.Signs.{IsFields, all_spelled, constructor_spelled, left_in, rest_view}
use Rattle.core_modules.proofs.Left.{headed, count_is}
use Rattle.core_modules.proofs.unions.after_fields.Goals as goal

pub returns : goal.returns
returns c =
    let ts = map annotation_view c.deref.result.now in
    let counted : c.len.result ≡ length ts =
    omega (arith, c.len.ensures, c.deref.ensures.len, length-map c.deref.result.now annotation_view) in
    headed (IsFields c.len.result) (all_spelled (annotations_of ts)) (rest_view c.args.signs)
    (rest_view c.after_count-rest.result) (rest_view c.after_types.result) c.after_count-rest.ensures
    c.after_types.ensures
    ∙ ap (λ n. left_in (IsFields n ∷ all_spelled (annotations_of ts)) (rest_view c.args.signs))
    (counted ∙ sym (count_is ts))
    ∙ ap (λ zs. left_in (constructor_spelled (types_view zs)) (rest_view c.args.signs)) c.deref.ensures.value
