-- Definitions whose uses are places of definitions have an order.
use Rattle.std.specs.Prelude.{ℕ, List, []}
use Rattle.decl_groups.specs.Groups.{IsOrder}
use Rattle.decl_groups.specs.InOrder.{ordered_groups, AreWithin}

abbrev pub HaveOrder : List (List ℕ) → Type 0
HaveOrder uses = AreWithin uses → IsOrder uses [] (ordered_groups uses)
