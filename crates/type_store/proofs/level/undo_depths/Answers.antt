-- Variables that are made less deep: `undone_pop`.
use Rattle.std.proofs.Common.{◌≡◌, ◌<◌, ◌++◌, ◌∷◌, [], length, sym, ap, ◌∙◌, subst, arith}
use Rattle.std.specs.List.{All}
use Rattle.std.proofs.lemmas.List.Elements.{All-weaker}
use Rattle.type_store.specs.View.{store_view}
use Rattle.type_store.specs.Levels.{depths_undone}
use Rattle.type_store.specs.declared.level.DepthChange.{DepthChange}
use Rattle.type_store.proofs.Levels.{undone_pop}
use Rattle.type_store.proofs.Parts.{all_first}
use Rattle.type_store.proofs.level.undo_depths.Goals as goal

pub loop-change-preserved : goal.loop-change-preserved
loop-change-preserved c =
    let i = c.loop-change.invariant in
    let rest = c.pop.new.self.items in
    let change = c.in-Some.change in
    let e : c.loop-change.trail.items ≡ rest ++ change ∷ [] = c.in-Some.ensures.items in
    record {
      within = All-weaker (λ (x : DepthChange). x.slot < length c.loop-change.slots) (λ x. x.slot < length c.set_depth.new.slots) (λ x l. omega (arith, l, c.set_depth.auto.slots)) rest
          (all_first (λ (x : DepthChange). x.slot < length c.loop-change.slots) rest (change ∷ [])
          (subst (All (λ (x : DepthChange). x.slot < length c.loop-change.slots)) e i.within));
      undone = ap (λ s. depths_undone s rest) c.set_depth.ensures
          ∙ (sym (undone_pop (store_view c.loop-change.slots) rest change) ∙ (ap (depths_undone (store_view c.loop-change.slots)) (sym e) ∙ i.undone));
    }
