use Rattle.std.proofs.Common.{map}
use Rattle.type_store.specs.View.{field_view, store_view}
use Rattle.type_store.proofs.Linking.{halves_gathered}
use Rattle.type_store.proofs.linked.gather_by_halves.Goals as goal

pub returns : goal.returns
returns c =
    halves_gathered (store_view c.args.slots.now) c.args.end c.in-Some.linked c.deref.result.now c.in_ok-links.field-0
    c.in_ok-joined.field-0 c.in_ok-merge.field-0 (map field_view c.args.fields.now)
    c.in-Some-2.more c.in-Some-3.all c.deref-2.result.now c.in_ok-links.ensures c.in-Some.is c.deref.ensures.value
    c.in_ok-joined.ensures c.in-Some-2.is c.deref-2.ensures.value c.in_ok-merge.ensures c.in-Some-3.is
