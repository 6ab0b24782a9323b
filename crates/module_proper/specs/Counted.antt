-- What a text guarantees of the unions that it declares: it has room for few constructors, of few fields each; and the
-- truth values, which Basics declares, are two at most and have no fields.
use Rattle.std.specs.Prelude.{◌≡◌, ℕ, ◌<◌, ◌≤◌, List, [], ◌∷◌, length, true, codes}
use Rattle.elm_canon.specs.Names.{Name}
use Rattle.elm_tree.specs.Tree.{Declaration, Value, Port, Union, Alias, ConstructorOf}
use Rattle.canon_env.specs.Imports.{name_of}
use Rattle.canon_type.specs.Unions.{is_type, type_count}

-- each has fewer fields than that
abbrev pub HaveFewer : ℕ → List ConstructorOf → Type 0
HaveFewer n [] = Unit {0}
HaveFewer n (c ∷ cs) = (type_count c.fields < n) × HaveFewer n cs

-- the constructors of the union x
pub record AreFew (home x : Name) (cs : List ConstructorOf) : Type 0 where
  pub many : length cs ≤ 9007199254740991
  pub fields : HaveFewer 4294967296 cs
  pub truths : is_type (codes "Basics") (codes "Bool") home x ≡ true → (length cs ≤ 2) × HaveFewer 1 cs

abbrev pub HaveFew : Name → Declaration → Type 0
HaveFew home (Value d) = Unit {0}
HaveFew home (Port x t) = Unit {0}
HaveFew home (Union x ps cs) = AreFew home (name_of x) cs
HaveFew home (Alias x ps t) = Unit {0}

abbrev pub AllHaveFew : Name → List Declaration → Type 0
AllHaveFew home [] = Unit {0}
AllHaveFew home (d ∷ ds) = HaveFew home d × AllHaveFew home ds
