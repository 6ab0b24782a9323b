-- Types that wait, the last one first.
use Rattle.std.specs.Prelude.{ℕ, List, map, reverse}
use Rattle.elm_type.specs.Types.{Name}
use Rattle.type_store.specs.Store as plain
use Rattle.type_store.specs.View.{field_view}
use Rattle.type_store.specs.declared.slot.FieldSlot.{FieldSlot}

abbrev pub waiting : List FieldSlot → List plain.FieldSlot
waiting stack = map field_view (reverse stack)

abbrev pub slots : List plain.FieldSlot → List ℕ
slots fs = map (λ f. f.1) fs

abbrev pub names : List plain.FieldSlot → List Name
names fs = map (λ f. f.0) fs
