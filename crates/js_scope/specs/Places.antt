-- The places of names that are bound, which are how many are bound with them and before them.
use Rattle.std.specs.Prelude.{ℕ, suc, List, [], ◌∷◌, length, if◌then◌else◌}
use Rattle.js_tree.specs.Tree.{Name, same_name}

-- with another place of a name
abbrev pub with_place : Name → ℕ → (Name → ℕ) → Name → ℕ
with_place x place places y = if same_name y x then place else places y

-- the place of a name, of those that are bound, the innermost first; 0 if it is not among them
abbrev pub place_of : List Name → Name → ℕ
place_of [] x = 0
place_of (y ∷ names) x = if same_name x y then suc (length names) else place_of names x
