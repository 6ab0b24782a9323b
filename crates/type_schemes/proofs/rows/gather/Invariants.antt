use Rattle.std.proofs.Common.{[], map}
use Rattle.type_store.specs.View.{field_view}
use Rattle.type_schemes.specs.Order.{IsListed}
use Rattle.type_schemes.specs.Reading.{read_in}
use Rattle.type_schemes.specs.Rows.{Adds, IsRecord, older_in, width}
use Rattle.type_schemes.proofs.rows.gather.Given as goal

-- the fields so far, beside the type of the row that comes next
abbrev pub invariant-rows : goal.invariant-rows
invariant-rows l = record {
  listed : IsListed (older_in l.order) l.at;
  row : IsRecord (read_in l.store (older_in l.order) l.at);
  adds : Adds l.store (older_in l.order) l.variable (read_in l.store (older_in l.order) l.at) []
      (map field_view l.fields.items);
}

abbrev pub decreases-rows : goal.decreases-rows
decreases-rows l = width (read_in l.store (older_in l.order) l.at)
