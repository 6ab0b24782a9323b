use Rattle.std.proofs.Common.{refl, arith}
use Rattle.elm_canon.specs.Tree.{Anything}
use Rattle.elm_canon.specs.View.{pattern_view}
use Rattle.decision_tree.specs.declared.part.Part.TheVariants as part
use Rattle.decision_tree.specs.Views.{part_view}
use Rattle.decision_tree.proofs.Lists.{one_more}
use Rattle.decision_tree.proofs.row.add_each.Goals as goal

pub loop-number-preserved : goal.loop-number-preserved
loop-number-preserved c =
    one_more part_view pattern_view c.loop-number.out.items c.add.new.items.items c.args.out.now.items
    c.args.patterns.now.items
    c.loop-number.number (part.Inside c.args.patterns c.loop-number.number) Anything
    (omega (arith, c.len-number-end.ensures, c.loop-number-test.true)) c.in_ok-add.ensures refl c.loop-number.invariant
