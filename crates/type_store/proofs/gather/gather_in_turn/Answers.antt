use Rattle.std.proofs.Common.{arith, subst, sym, map, Some, None}
use Rattle.type_store.specs.Store.{field_names}
use Rattle.type_store.specs.Shape.{Ascending}
use Rattle.type_store.specs.Steps.{RowEnds, NamedTwice, RowTaken}
use Rattle.type_store.specs.View.{field_view, store_view}
use Rattle.type_store.specs.declared.gather.Next.TheVariants as next
use Rattle.type_store.proofs.Undoing.{length_view}
use Rattle.type_store.proofs.Gathering.{next_as, closed_start, open_start, start_inside, more_inside, read_none, read_more, onward_more, ends_gathered, twice_gathered, closed_gathered, too_many}
use Rattle.type_store.proofs.gather.gather_in_turn.Goals as goal

pub returns-in-None : goal.returns-in-None
returns-in-None c = closed_start (store_view c.args.slots.now) (map field_view c.args.fields.now) (map field_view c.in_ok-all.all.items) c.args.end c.in_ok-all.ensures c.in-None.is c.requires.rises

pub loop-steps-init : goal.loop-steps-init
loop-steps-init c = record {
  inside = start_inside _ c.args.end c.in-Some.to c.in-Some.is c.requires.inside;
  rises = subst (λ xs. Ascending (field_names xs)) (sym c.in_ok-all.ensures) c.requires.rises;
  onward = open_start (store_view c.args.slots.now) (map field_view c.args.fields.now) (map field_view c.in_ok-all.all.items) c.args.end c.in-Some.to c.in_ok-all.ensures c.in-Some.is;
  read = read_none (store_view c.args.slots.now) (map field_view c.in_ok-all.all.items);
}

pub returns-in-Ends : goal.returns-in-Ends
returns-in-Ends c =
    let n : RowEnds (store_view c.args.slots.now) c.loop-steps.at c.in-Ends.last =
    next_as (store_view c.args.slots.now) c.deref.result.now c.loop-steps.all.items c.loop-steps.at c.in_ok-last.field-0 (next.Ends c.in-Ends.last) c.deref.ensures.value c.in-Ends.is c.in_ok-last.ensures in
    ends_gathered (store_view c.args.slots.now) (map field_view c.args.fields.now) (map field_view c.loop-steps.all.items) c.args.end c.loop-steps.at c.in-Ends.last c.loop-steps.invariant.onward c.loop-steps.invariant.rises n

pub returns-in-Twice : goal.returns-in-Twice
returns-in-Twice c =
    let n : NamedTwice (store_view c.args.slots.now) (map field_view c.loop-steps.all.items) c.loop-steps.at =
    next_as (store_view c.args.slots.now) c.deref.result.now c.loop-steps.all.items c.loop-steps.at c.in_ok-last.field-0 next.Twice c.deref.ensures.value c.in-Twice.is c.in_ok-last.ensures in
    twice_gathered (store_view c.args.slots.now) (map field_view c.args.fields.now) (map field_view c.loop-steps.all.items) c.args.end c.loop-steps.at c.loop-steps.invariant.onward n

pub returns-in-None-then : goal.returns-in-None-then
returns-in-None-then c =
    let n : RowTaken (store_view c.args.slots.now) (map field_view c.loop-steps.all.items) c.loop-steps.at (map field_view c.in-More.more.items) c.in-More.then =
    next_as (store_view c.args.slots.now) c.deref.result.now c.loop-steps.all.items c.loop-steps.at c.in_ok-last.field-0 (next.More c.in-More.more c.in-More.then) c.deref.ensures.value c.in-More.is c.in_ok-last.ensures in
    let m : RowTaken (store_view c.args.slots.now) (map field_view c.loop-steps.all.items) c.loop-steps.at (map field_view c.in-More.more.items) None =
    subst (RowTaken (store_view c.args.slots.now) (map field_view c.loop-steps.all.items) c.loop-steps.at (map field_view c.in-More.more.items)) c.in-None-then.is n in
    closed_gathered (store_view c.args.slots.now) (map field_view c.args.fields.now) (map field_view c.loop-steps.all.items) (map field_view c.in-More.more.items) c.args.end c.loop-steps.at c.loop-steps.invariant.onward m

pub loop-steps-preserved : goal.loop-steps-preserved
loop-steps-preserved c =
    let n : RowTaken (store_view c.args.slots.now) (map field_view c.loop-steps.all.items) c.loop-steps.at (map field_view c.in-More.more.items) c.in-More.then =
    next_as (store_view c.args.slots.now) c.deref.result.now c.loop-steps.all.items c.loop-steps.at c.in_ok-last.field-0 (next.More c.in-More.more c.in-More.then) c.deref.ensures.value c.in-More.is c.in_ok-last.ensures in
    let m : RowTaken (store_view c.args.slots.now) (map field_view c.loop-steps.all.items) c.loop-steps.at (map field_view c.in-More.more.items) (Some c.in-Some-then.to) =
    subst (RowTaken (store_view c.args.slots.now) (map field_view c.loop-steps.all.items) c.loop-steps.at (map field_view c.in-More.more.items)) c.in-Some-then.is n in
    record {
      inside = more_inside c.args.slots.now (map field_view c.loop-steps.all.items) (map field_view c.in-More.more.items) c.loop-steps.at c.in-Some-then.to m;
      rises = m.rises;
      onward = onward_more (store_view c.args.slots.now) (map field_view c.args.fields.now) (map field_view c.loop-steps.all.items) (map field_view c.in-More.more.items) c.args.end c.loop-steps.at c.in-Some-then.to c.loop-steps.invariant.onward m;
      read = read_more (store_view c.args.slots.now) (map field_view c.loop-steps.all.items) (map field_view c.in-More.more.items) c.loop-steps.at c.in-Some-then.to c.loop-steps.steps c.requires.graph c.loop-steps.invariant.read m;
    }

pub returns : goal.returns
returns c = absurd (too_many (store_view c.args.slots.now) (map field_view c.loop-steps.all.items) c.loop-steps.steps (omega (arith, length_view c.args.slots.now, c.loop-steps-test.false)) c.loop-steps.invariant.read)
