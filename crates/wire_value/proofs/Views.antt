-- A value, level by level.
use Rattle.std.proofs.Common.{◌≡◌, ℕ, ℤ, List, Bool, Vec, Global, map, rules}
use Rattle.wire_value.specs.Wire.{null, bool, int, text, list, object}
use Rattle.wire_value.specs.View.{wires_of, members_of, wire_view, member_view}
use Rattle.wire_value.specs.declared.wire.Wire as program
use Rattle.wire_value.specs.declared.wire.Member as member

pub view-Null : wire_view program.Null ≡ null
view-Null = search (rules, program.the_lemmas)

pub view-Bool : (b : Bool) → wire_view (program.Bool b) ≡ bool b
view-Bool b = search (rules, program.the_lemmas)

pub view-Int : (n : ℤ) → wire_view (program.Int n) ≡ int n
view-Int n = search (rules, program.the_lemmas)

pub view-Text : (units : List ℕ) → wire_view (program.Text units) ≡ text units
view-Text units = search (rules, program.the_lemmas)

pub view-List : (ws : Vec program.Wire Global) → wire_view (program.List ws) ≡ list (wires_of (map wire_view ws.items))
view-List ws = search (rules, program.the_lemmas)

pub view-Object : (ms : Vec member.Member Global) → wire_view (program.Object ms) ≡ object (members_of (map member_view ms.items))
view-Object ms = search (rules, program.the_lemmas)
