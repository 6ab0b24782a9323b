use Rattle.std.proofs.Common.{arith, ap, drop, map, length, ◌<◌, ◌∙◌, ◌≤◌}
use Rattle.std.proofs.lemmas.List.{length-map}
use Rattle.type_store.specs.View.{field_view}
use Rattle.type_store.proofs.Splitting.{first_inside, second_inside, both_inside_first, both_inside_second, push_first, push_second, push_both, so_far_all, split_is}
use Rattle.type_store.proofs.split.split.Goals as goal

pub loop-at-preserved-in-InFirst : goal.loop-at-preserved-in-InFirst
loop-at-preserved-in-InFirst c =
    let l : c.loop-at.at < length c.args.first.now = first_inside c.args.first.now c.loop-at.at (drop c.loop-at.other (map field_view c.args.second.now)) c.in-InFirst.ensures in
    record {
      at = omega (arith, l);
      other = c.loop-at.invariant.other;
      rest = push_first c.args.first.now c.args.second.now c.loop-at.at c.loop-at.other c.loop-at.parted.first.items c.loop-at.parted.second.items c.loop-at.parted.left.items c.loop-at.parted.right.items c.loop-at.invariant.rest
          c.push.new.self.items c.in_ok-copy_field-in-InFirst.field-0 c.index-first-at.result c.in-InFirst.ensures (c.in_ok-copy_field-in-InFirst.ensures ∙ ap field_view c.index-first-at.is) c.in_ok-push-in-InFirst.ensures.items;
    }

pub loop-at-preserved-in-InSecond : goal.loop-at-preserved-in-InSecond
loop-at-preserved-in-InSecond c =
    let l : c.loop-at.other < length c.args.second.now = second_inside c.args.second.now c.loop-at.other (drop c.loop-at.at (map field_view c.args.first.now)) c.in-InSecond.ensures in
    record {
      at = c.loop-at.invariant.at;
      other = omega (arith, l);
      rest = push_second c.args.first.now c.args.second.now c.loop-at.at c.loop-at.other c.loop-at.parted.first.items c.loop-at.parted.second.items c.loop-at.parted.left.items c.loop-at.parted.right.items c.loop-at.invariant.rest
          c.push-in-InSecond.new.self.items c.in_ok-copy_field-in-InSecond.field-0 c.index-second-other.result c.in-InSecond.ensures (c.in_ok-copy_field-in-InSecond.ensures ∙ ap field_view c.index-second-other.is) c.in_ok-push-in-InSecond.ensures.items;
    }

pub loop-at-preserved : goal.loop-at-preserved
loop-at-preserved c =
    let l : c.loop-at.at < length c.args.first.now = both_inside_first c.args.first.now c.loop-at.at (drop c.loop-at.other (map field_view c.args.second.now)) c.in-InBoth.ensures in
    let m : c.loop-at.other < length c.args.second.now = both_inside_second c.args.second.now c.loop-at.other (drop c.loop-at.at (map field_view c.args.first.now)) c.in-InBoth.ensures in
    record {
      at = omega (arith, l);
      other = omega (arith, m);
      rest = push_both c.args.first.now c.args.second.now c.loop-at.at c.loop-at.other c.loop-at.parted.first.items c.loop-at.parted.second.items c.loop-at.parted.left.items c.loop-at.parted.right.items c.loop-at.invariant.rest
          c.push-in-InBoth.new.self.items c.push-in-InBoth-2.new.self.items c.in_ok-copy_field-in-InBoth.field-0 c.in_ok-copy_field-in-InBoth-2.field-0 c.index-first-at-in-InBoth.result c.index-second-other-in-InBoth.result
          c.in-InBoth.ensures (c.in_ok-copy_field-in-InBoth.ensures ∙ ap field_view c.index-first-at-in-InBoth.is) (c.in_ok-copy_field-in-InBoth-2.ensures ∙ ap field_view c.index-second-other-in-InBoth.is) c.in_ok-push-in-InBoth.ensures.items c.in_ok-push-in-InBoth-2.ensures.items;
    }

pub returns : goal.returns
returns c =
    let a : length (map field_view c.args.first.now) ≤ c.loop-at.at = omega (arith, length-map c.args.first.now field_view, c.if-at-first.false) in
    let b : length (map field_view c.args.second.now) ≤ c.loop-at.other = omega (arith, length-map c.args.second.now field_view, c.if-other-second.false) in
    split_is (map field_view c.args.first.now) (map field_view c.args.second.now) (map field_view c.loop-at.parted.first.items) (map field_view c.loop-at.parted.second.items) (map field_view c.loop-at.parted.left.items) (map field_view c.loop-at.parted.right.items)
    c.requires.first_rises c.requires.second_rises
    (so_far_all (map field_view c.args.first.now) (map field_view c.args.second.now) c.loop-at.at c.loop-at.other (map field_view c.loop-at.parted.first.items) (map field_view c.loop-at.parted.second.items) (map field_view c.loop-at.parted.left.items) (map field_view c.loop-at.parted.right.items) a b c.loop-at.invariant.rest)
