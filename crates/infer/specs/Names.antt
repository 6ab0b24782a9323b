-- The names of definitions.
use Rattle.std.specs.Prelude.{◌≡◌, ℕ, List, [], ◌∷◌, true, flat_map, slice_get}
use Rattle.std.specs.List.{Contains}
use Rattle.elm_canon.specs.declared.reference.Ref.{Ref}
use Rattle.elm_canon.specs.Tree.{Group}
use Rattle.type_items.specs.Definitions.{Definition}
use Rattle.infer_order.specs.Spots.{has_titles}

-- each stands once
abbrev pub EachOnce : {X : Type 0} → List X → Type 0
EachOnce [] = Unit {0}
EachOnce (x ∷ xs) = (Contains xs x → ⊥) × EachOnce xs

abbrev pub names_of : List Definition → List Ref
names_of ds = flat_map (λ d. d.names) ds

-- no group is a pattern with its value
pub record AllTitled (gs : List Group) : Type 0 where
  pub each : (i : ℕ) → has_titles (slice_get gs i) ≡ true
