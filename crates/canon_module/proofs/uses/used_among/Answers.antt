-- One declaration more: `map_map_next`.
use Rattle.std.proofs.Common.{◌<◌, length, map, take, sym, ap, ◌∙◌, subst, arith}
use Rattle.std.proofs.lemmas.List.{length_push}
use Rattle.std.specs.List.{All}
use Rattle.std.specs.declared.alloc.Global.{Global}
use Rattle.std.specs.declared.vec.Vec.{Vec}
use Rattle.std.proofs.lemmas.List.Elements.{All-push}
use Rattle.canon_env.proofs.Filtering.{map_map_next, pushed}
use Rattle.canon_module.specs.Items.{used_in, used_among}
use Rattle.canon_module.specs.CanonValuesKept.{item_view}
use Rattle.canon_module.proofs.uses.used_among.Goals as goal

pub loop-item-preserved : goal.loop-item-preserved
loop-item-preserved c =
    let items = c.args.items.now in
    let rows = c.loop-item.rows.items in
    let i = c.loop-item.item-index in
    let item = c.item-item.result in
    record {
      count =
          omega (arith, c.loop-item.invariant.count, ap length c.in_ok-push.ensures.items, length_push rows c.in_ok-used_by.field-0);
      used = λ each is.
          let used = used_in c.args.home.now each in
          pushed (λ v. v.items) rows _ _ (used_among c.args.home.now each (map item_view (take i items)))
          (used (item_view item)) c.in_ok-push.ensures.items (c.loop-item.invariant.used each is)
          (c.in_ok-used_by.ensures.used each is)
          ∙ sym (map_map_next used item_view items i item (omega arith) c.item-item.is);
      within = λ each is.
          let P : Vec _ Global → Type 0 = λ row. All (λ j. j < length each) row.items in
          subst (All P) (sym c.in_ok-push.ensures.items)
          (All-push P rows _ (c.loop-item.invariant.within each is) (c.in_ok-used_by.ensures.within each is));
    }
