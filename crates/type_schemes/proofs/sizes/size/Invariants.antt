use Rattle.std.proofs.Common.{◌≡◌, ℕ, take, reverse, min, Some}
use Rattle.std.specs.Prelude.{nat_eq}
use Rattle.std.specs.HashMap as hash
use Rattle.type_schemes.specs.Order.{IsListed, IsReady, PartsFirst}
use Rattle.type_schemes.specs.Reading.{read_in}
use Rattle.type_schemes.specs.Bases.{base, most, older_of}
use Rattle.type_schemes.proofs.sizes.size.Given as goal

abbrev pub invariant-loop-place : goal.invariant-loop-place
invariant-loop-place l = record {
  same : l.known.order.variables.items ≡ l.initial.known.order.variables.items;
  first : PartsFirst 0 l.store (older_of l.known);
  start : IsReady 0 l.store (older_of l.known) l.variable;
  has : (v : ℕ) → IsListed (reverse (take l.place l.known.order.variables.items)) v
      → hash.get nat_eq l.known.bases v ≡ Some (min (base (read_in l.store (older_of l.known) v)) most);
}
