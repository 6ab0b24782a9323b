-- Ports by their names.
use Rattle.std.specs.Prelude.{ℕ, List, Option}
use Rattle.elm_base.specs.declared.position.Pos.{Pos}
use Rattle.elm_canon.specs.Names.{Name}
use Rattle.link.specs.Fragments.{Port}

abbrev pub named_port : Name → Pos → Option (List ℕ) → Port
named_port x place text = record { name = x; place = place; decoder = text }
