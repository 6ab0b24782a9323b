use Rattle.std.proofs.Common.{◌≡◌, take}
use Rattle.std.specs.List.{list_any}
use Rattle.indexmap.specs.IndexSet.{contains}
use Rattle.elm_canon.specs.Names.{Name, same_name}
use Rattle.module_offers.proofs.naming.set_of.Given as goal

abbrev pub invariant-loop-name : goal.invariant-loop-name
invariant-loop-name l =
    (x : Name) → contains same_name l.set x ≡ list_any (same_name x) (take l.name-index l.names)
