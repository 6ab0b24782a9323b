use Rattle.type_store.specs.View.{store_view}
use Rattle.type_store.proofs.Gathering.{inside_view, no_row_at}
use Rattle.type_store.proofs.Linking.{row_next}
use Rattle.type_store.proofs.linked.next_link.Goals as goal

pub returns-in-Row : goal.returns-in-Row
returns-in-Row c =
    row_next c.args.slots.now c.args.variable c.find-at.result c.index-slots-at.result c.in-Row._fields c.in-Row.end
    c.requires.graph c.find-at.ensures.leads c.find-at.ensures.inside c.in-Row.is

pub returns-in-Open : goal.returns-in-Open
returns-in-Open c = record {
  leads = c.find-at.ensures.leads;
  inside = inside_view c.args.slots.now c.find-at.result c.find-at.ensures.inside;
  free = c.find-at.ensures.ends;
  no_row = no_row_at c.args.slots.now c.find-at.result c.index-slots-at.result c.find-at.ensures.inside c.in-Open.is;
}
