-- Variables that are made less deep: `lowered_again`.
use Rattle.std.proofs.Common.{◌<◌, ℕ, length, arith, ◌∙◌}
use Rattle.std.proofs.lemmas.List.Elements.{All-weaker}
use Rattle.type_store.specs.View.{store_view}
use Rattle.type_store.specs.declared.level.DepthChange.{DepthChange}
use Rattle.type_store.proofs.Levels.{lowered_again}
use Rattle.type_store.proofs.level.level_all.Goals as goal

pub loop-slot-preserved : goal.loop-slot-preserved
loop-slot-preserved c =
    let i = c.loop-slot.invariant in
    let r = c.in_ok-level_parts.ensures in
    record {
      todo = All-weaker (λ (v : ℕ). v < length c.loop-slot.slots) (λ v. v < length c.level_parts.new.slots) (λ v l. omega (arith, l, c.level_parts.auto.slots)) c.level_parts.new.todo.items r.todo;
      levelled = r.levelled;
      lowered = lowered_again (store_view c.args.slots.now) (store_view c.loop-slot.slots) (store_view c.level_parts.new.slots) i.lowered r.lowered;
      trail = All-weaker (λ (x : DepthChange). x.slot < length c.loop-slot.slots) (λ x. x.slot < length c.level_parts.new.slots) (λ x l. omega (arith, l, c.level_parts.auto.slots)) c.level_parts.new.trail.items r.trail;
      undone = r.undone ∙ i.undone;
    }

pub returns-in_err-level_parts-clause-lowered : goal.returns-in_err-level_parts-clause-lowered
returns-in_err-level_parts-clause-lowered c =
    lowered_again (store_view c.args.slots.now) (store_view c.loop-slot.slots) (store_view c.level_parts.new.slots) c.loop-slot.invariant.lowered c.in_err-level_parts.ensures.lowered
