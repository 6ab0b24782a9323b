-- The names of a type group after it: copies of what is frozen of their types.
use Rattle.std.specs.Prelude.{◌≡◌, ℕ, List, [], ◌∷◌}
use Rattle.std.specs.List.{AllZip}
use Rattle.elm_canon.specs.declared.reference.Ref.{Ref}
use Rattle.type_store.specs.Store.{Store}
use Rattle.type_walks.specs.Frozen.{Frozen}
use Rattle.type_schemes.specs.Freezing.{IsFrozen}
use Rattle.infer_steps.specs.Codes.{Code, Many, with_meaning}
use Rattle.infer_groups.specs.Members.{Named}

-- a name, and what is frozen of its type
abbrev pub Generalised : Type 0
Generalised = Ref × Frozen

-- the first one is the innermost
abbrev pub with_general : List Generalised → Code → Code
with_general [] code = code
with_general (g ∷ gs) code = with_meaning g.0 (Many g.1) (with_general gs code)

-- what is deeper than d of the type of each name is frozen
abbrev pub AreFrozen : ℕ → Store → List Named → List Generalised → Type 0
AreFrozen d s names general = AllZip (λ n g. (g.0 ≡ n.0) × IsFrozen d s n.1 g.1) names general
