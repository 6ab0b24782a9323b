-- Each once: `beside_on`.
use Rattle.std.proofs.Common.{[], map}
use Rattle.type_items.specs.Annotations.{once}
use Rattle.type_schemes.specs.Kinds.{fields_beside, pair_view}
use Rattle.type_schemes.proofs.Lacking.{beside_on}
use Rattle.type_schemes.proofs.classes.lacks.Goals as goal

pub loop-pair-preserved : goal.loop-pair-preserved
loop-pair-preserved c = record {
  seen = c.in_ok-note_beside.ensures.seen;
  lacks =
      beside_on c.args.variable.now c.args.pairs.now c.loop-pair.lacks.items c.note_beside.new.names.items
      (once (fields_beside c.args.variable.now (map pair_view c.args.pairs.now)) []) c.loop-pair.pair-index
      c.pair-item.result
      c.loop-pair-test.true c.pair-item.is c.in_ok-note_beside.ensures.names c.loop-pair.invariant.lacks;
}
