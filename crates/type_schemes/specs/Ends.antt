-- Where chains of variables that are bound end.
use Rattle.std.specs.Prelude.{ℕ, zero, suc, ◌≤◌}
use Rattle.type_store.specs.Store.{Cell, Open, Bound, Built, Row, Constant, Store, slot_at}

abbrev pub follow : (ℕ → ℕ) → ℕ → Cell → ℕ
follow f v Open = v
follow f v (Bound w) = f w
follow f v (Built h ws) = v
follow f v (Row fs end) = v
follow f v (Constant r) = v

-- after so many steps at most
unfoldable pub end_in : ℕ → Store → ℕ → ℕ
end_in zero s v = v
end_in (suc n) s v = follow (end_in n s) v (slot_at s v).cell

-- a variable is bound to one that was made before: so there are no more steps than variables up to it
unfoldable pub end_of : Store → ℕ → ℕ
end_of s v = end_in (suc v) s v

-- the variable was made inside so many definitions, or more
abbrev pub IsDeep : ℕ → Store → ℕ → Type 0
IsDeep floor s v = floor ≤ (slot_at s v).depth
