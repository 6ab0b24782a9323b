use Rattle.std.proofs.Common.{◌≡◌, ◌+◌, ◌++◌, ◌∷◌, [], length, map, take, sym, ap, ◌∙◌, arith}
use Rattle.std.proofs.lemmas.List.{map-append, length-map, length-take-le}
use Rattle.elm_type.specs.Types.{Rigid}
use Rattle.elm_type.specs.View.{kind_view}
use Rattle.infer_groups.proofs.Entering.{take_next}
use Rattle.infer_groups.specs.Given.{constants_at}
use Rattle.infer_groups.proofs.Built.{constants_more}
use Rattle.infer_groups.proofs.making.constants.Goals as goal

pub loop-at-preserved : goal.loop-at-preserved
loop-at-preserved c =
    let p = c.args.place.now in
    let names = c.args.names.now in
    let kinds = c.args.kinds.now in
    let i = c.loop-at.at in
    let x = c.index-names-at.result in
    let k = c.index-kinds-at.result in
    let count : length (map kind_view (take i kinds)) ≡ length (take i names) =
    length-map (take i kinds) kind_view ∙ length-take-le i kinds (omega (arith, c.requires)) ∙ sym
    (length-take-le i names (omega arith)) in
    let one : c.in_ok-rigid.rigid ≡ record
    { place = p; name = x; class = (kind_view k).class; lacks = (kind_view k).lacks } =
    c.in_ok-rigid.ensures
    ∙ (λ j. record {
      place = c.in_ok-place.ensures j;
      name = c.in_ok-clone.ensures.cases j;
      class = k.class;
      lacks =
          (c.in_ok-lacks.ensures ∙ c.deref.ensures.value) j;
    }) in
    c.in_ok-push.ensures.items
    ∙ ap (λ l. l ++ c.in_ok-rigid.rigid ∷ []) c.loop-at.invariant
    ∙ ap (λ (r : Rigid). constants_at p (take i names) (map kind_view (take i kinds)) ++ r ∷ []) one
    ∙ sym (constants_more p (take i names) (map kind_view (take i kinds)) x (kind_view k) count)
    ∙ ap (constants_at p (take i names ++ x ∷ [])) (sym (map-append kind_view (take i kinds) (k ∷ [])))
    ∙ ap (λ l. constants_at p l (map kind_view (take i kinds ++ k ∷ [])))
    (sym (take_next names i x (omega arith) c.index-names-at.is))
    ∙ ap (λ l. constants_at p (take (i + 1) names) (map kind_view l))
    (sym (take_next kinds i k (omega (arith, c.requires)) c.index-kinds-at.is))
