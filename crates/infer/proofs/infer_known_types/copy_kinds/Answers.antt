use Rattle.std.proofs.Common.{◌++◌, ◌∷◌, [], List, map, take, sym, ap, ◌∙◌, arith}
use Rattle.std.proofs.lemmas.List.{map-append}
use Rattle.elm_type.specs.Types.{Name}
use Rattle.elm_type.specs.View.{kind_view}
use Rattle.infer_order.proofs.Owning.{map_next}
use Rattle.infer.proofs.infer_known_types.copy_kinds.Goals as goal

pub loop-kind-preserved : goal.loop-kind-preserved
loop-kind-preserved c =
    let i = c.loop-kind.kind-index in
    let x = c.kind-item.result in
    let first = map kind_view (take i c.args.kinds.now) in
    ap (map kind_view) c.in_ok-push.ensures.items
    ∙ (map-append kind_view c.loop-kind.copies.items _
    ∙ (ap (λ l. l ++ record (kind_view x) { lacks = c.in_ok-lacks.lacks.items } ∷ []) c.loop-kind.invariant
    ∙ (ap (λ (ns : List Name). first ++ record (kind_view x) { lacks = ns } ∷ [])
    (c.in_ok-lacks.ensures ∙ c.deref.ensures.value)
    ∙ sym (map_next kind_view c.args.kinds.now i x (omega arith) c.kind-item.is))))
