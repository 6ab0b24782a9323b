-- A production of a grammar that the program holds.
use Rattle.std.proofs.Common.{◌≡◌, ℕ, zero, suc, List, [], ◌∷◌, slice_get, refl}
use Rattle.std.specs.Prelude.{option_map}
use Rattle.parse_machine.specs.declared.table.Rule.{Rule}
use Rattle.parse_machine.specs.Grammar.{production}
use Rattle.parse_machine.specs.Rows.{production_of, grammar_of}

pub production_at : (rs : List Rule) (p : ℕ) → option_map production_of (slice_get rs p) ≡ production (grammar_of rs) p
production_at [] p = refl
production_at (r ∷ rs) zero = refl
production_at (r ∷ rs) (suc p) = production_at rs p
