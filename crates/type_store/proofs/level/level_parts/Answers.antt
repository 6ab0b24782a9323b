-- Variables that are made less deep: `level_step`.
use Rattle.std.proofs.Common.{length, sym, arith}
use Rattle.std.proofs.lemmas.List.{length-map}
use Rattle.type_store.specs.View.{store_view, slot_view}
use Rattle.type_store.proofs.Levels.{level_step, part_within}
use Rattle.type_store.proofs.level.level_parts.Goals as goal

pub loop-next-preserved : goal.loop-next-preserved
loop-next-preserved c =
    let h = c.loop-next.invariant in
    let there = sym c.in-Some.ensures.part in
    let r = c.in_ok-lower.ensures in
    let l = part_within h c.in-Some.next there (length c.args.slots.now) (c.requires.inside c.args.slot) in
    level_step h c.in-Some.next there (omega (arith, l, c.loop-next.auto.slots, length-map c.loop-next.slots slot_view))
    (store_view c.lower.new.slots) c.lower.new.todo.items c.lower.new.trail.items r.slots r.todo r.trail
