-- Each once: `once_on`.
use Rattle.std.proofs.Common.{[]}
use Rattle.type_items.specs.Annotations.{once}
use Rattle.type_schemes.proofs.Numbering.{once_on}
use Rattle.type_schemes.proofs.annotation_schemes_order.ordered.Goals as goal

pub loop-name-preserved : goal.loop-name-preserved
loop-name-preserved c = record {
  table = c.in_ok-note.ensures.table;
  names =
      once_on c.args.names.now c.loop-name.order.names.items c.note.new.order.names.items (once c.args.names.now [])
      c.loop-name.name-index c.name-item.result
      c.loop-name-test.true c.name-item.is c.in_ok-note.ensures.names c.loop-name.invariant.names;
}
