-- What a store of the program is.
use Rattle.std.specs.Prelude.{ℕ, List, Option, Some, None, map}
use Rattle.std.specs.declared.vec.Vec.{Vec}
use Rattle.std.specs.declared.alloc.Global.{Global}
use Rattle.type_store.specs.Store as plain
use Rattle.type_store.specs.Steps as steps
use Rattle.type_store.specs.declared.gather.Next.{Next}
use Rattle.type_store.specs.declared.gather.Next.TheVariants as next
use Rattle.type_store.specs.declared.gather.Gathered.{Gathered}
use Rattle.type_store.specs.Store.{Store}
use Rattle.type_store.specs.declared.slot.FieldSlot.{FieldSlot}
use Rattle.type_store.specs.declared.slot.Cell.{Cell}
use Rattle.type_store.specs.declared.slot.Cell.TheVariants as cell
use Rattle.type_store.specs.declared.slot.Slot.{Slot}
use Rattle.type_store.specs.Solutions as solutions
use Rattle.type_store.specs.declared.ask.Ask.{Ask}
use Rattle.type_store.specs.declared.ask.Ask.TheVariants as ask
use Rattle.type_store.specs.declared.change.Change.{Change}
use Rattle.type_store.specs.declared.change.Change.TheVariants as change

abbrev pub field_view : FieldSlot → plain.FieldSlot
field_view f = (f.name, f.slot)

abbrev pub cell_view : Cell → plain.Cell
cell_view cell.Open = plain.Open
cell_view (cell.Bound w) = plain.Bound w
cell_view (cell.Built h ws) = plain.Built h ws.items
cell_view (cell.Row fs end) = plain.Row (map field_view fs.items) end
cell_view (cell.Constant r) = plain.Constant r

abbrev pub slot_view : Slot → plain.Slot
slot_view s = record {
  cell = cell_view s.cell;
  kind = record { class = s.class; lacks = s.lacks.items };
  depth = s.depth;
}

abbrev pub store_view : List Slot → Store
store_view slots = map slot_view slots

abbrev pub ask_view : Ask → solutions.Ask
ask_view (ask.Same v w) = solutions.Same v w
ask_view (ask.InClass v c) = solutions.InClass v c
ask_view (ask.Lacks v x) = solutions.Lacks v x

abbrev pub work_view : List Ask → List solutions.Ask
work_view work = map ask_view work

abbrev pub change_view : Change → steps.Noted
change_view (change.Was v slot) = steps.Was v (slot_view slot)
change_view (change.OfClass v c) = steps.OfClass v c
change_view (change.OneMore v) = steps.OneMore v

abbrev pub trail_view : List Change → List steps.Noted
trail_view trail = map change_view trail

abbrev pub fields_in : Option (Vec FieldSlot Global) → Option (List plain.FieldSlot)
fields_in None = None
fields_in (Some fields) = Some (map field_view fields.items)

-- what comes next where a row leads on
abbrev pub NextIs : Store → List plain.FieldSlot → ℕ → Next → Type 0
NextIs s all v (next.Ends u) = steps.RowEnds s v u
NextIs s all v next.Twice = steps.NamedTwice s all v
NextIs s all v (next.More more end) = steps.RowTaken s all v (map field_view more.items) end

abbrev pub GatheredIs : Store → List plain.FieldSlot → Option ℕ → Option Gathered → Type 0
GatheredIs s fs end None = steps.GathersTwice s fs end
GatheredIs s fs end (Some g) = steps.GathersAll s fs end (map field_view g.fields.items) g.end
