use Rattle.std.proofs.Common.{map, subst}
use Rattle.type_store.specs.Linked.{GatheredAs}
use Rattle.type_store.specs.View.{field_view, store_view}
use Rattle.type_store.proofs.gather.gather.Goals as goal

pub returns-in-Some : goal.returns-in-Some
returns-in-Some c =
    subst (GatheredAs (store_view c.args.slots.now) (map field_view c.args.fields.now) c.args.end) c.in-Some.is
    c.in_ok-gathered.ensures
