use Rattle.std.proofs.Common.{◌∷◌, [], take, sym, subst, arith}
use Rattle.infer_order.proofs.Owning.{map_next}
use Rattle.infer_groups.specs.Names.{named_view, named_views}
use Rattle.infer.specs.Told.{AddsSchemes, told_views}
use Rattle.infer.proofs.Adding.{adds_more}
use Rattle.infer.proofs.told.tell_each.Goals as goal

pub loop-name-preserved : goal.loop-name-preserved
loop-name-preserved c =
    let s = c.args.store.now in
    let names = c.args.names.now in
    let i = c.loop-name.name-index in
    let x = c.name-item.result in
    let old = told_views c.args.told.now.items in
    let new = told_views c.tell_one.new.told.items in
    subst (λ ns. AddsSchemes s ns old new)
    (sym (map_next named_view names i x (omega (arith, c.loop-name-test.true)) c.name-item.is))
    (adds_more s (named_views (take i names)) (named_view x ∷ []) old (told_views c.loop-name.told.items) new
    c.loop-name.invariant c.in_ok-tell_one.ensures)
