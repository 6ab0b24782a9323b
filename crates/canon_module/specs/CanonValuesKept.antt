-- What the program keeps of declarations.
use Rattle.elm_canon.specs.View.{known_view}
use Rattle.canon_expr.specs.Blocks.{NoMade}
use Rattle.canon_expr.specs.Kept.{made_view}
use Rattle.canon_module.specs.Items.{Item, PortItem, ValueItem}
use Rattle.canon_module.specs.declared.item.Item as program

-- what stands where a declaration was taken out
abbrev pub nothing : Item
nothing = ValueItem NoMade

abbrev pub item_view : program.Item → Item
item_view program.Item.Nothing = nothing
item_view (program.Item.Port p) = PortItem p.value.name (known_view p.value.known)
item_view (program.Item.Value m) = ValueItem (made_view m.value)
