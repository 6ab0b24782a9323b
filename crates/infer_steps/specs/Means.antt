-- Which scopes the code's scope stands for. The items of a definition are listed at many places, each with types and
-- constants of its own: one scope of the code, and one store, serve them all. Links say which types its variables have.
use Rattle.std.specs.Prelude.{◌≡◌, ℕ, ◌-◌, List, length, Option, Some, None, option_map, unwrap_or, slice_get}
use Rattle.std.specs.Prelude.{nat_lt, if◌then◌else◌}
use Rattle.std.specs.List.{AllByRecursion, AllZip, Contains}
use Rattle.std.specs.Map.{lookup}
use Rattle.std.specs.Str.{bytes_eq}
use Rattle.elm_canon.specs.Names.{same_ref}
use Rattle.elm_canon.specs.declared.reference.Ref.{Ref}
use Rattle.elm_canon.specs.declared.reference.Ref.TheVariants.{Local}
use Rattle.elm_type.specs.Types.{Name, variable, renamed, Rigid, Leaf, Free, Fixed, Scheme}
use Rattle.type_items.specs.Items.{Place}
use Rattle.type_items.specs.Scopes.{Entry, Mono, Instance, General, Entries, Scope}
use Rattle.type_items.specs.Definitions.{outer_types}
use Rattle.type_store.specs.Store.{Store}
use Rattle.type_walks.specs.Links.{Links, Has, Tells, AreLive, Within}
use Rattle.type_walks.specs.Laws.{Outside}
use Rattle.type_walks.specs.Regions.{below}
use Rattle.type_walks.specs.Walks.{Around}
use Rattle.type_walks.specs.Says.{Says}
use Rattle.type_schemes.specs.Constants.{Outer}
use Rattle.type_constructs.specs.Passing.{NoSizes}
use Rattle.infer_steps.specs.Codes.{Declared, Meaning, One, Many, Each, Code, State, Bound}

-- ---- types that are written

-- the numbers from n on are those of constants, in turn
abbrev pub own_or_constant : ℕ → List Rigid → Leaf ℕ → Leaf ℕ
own_or_constant n constants (Free i) =
    if nat_lt i n then Free i else unwrap_or (option_map (λ r. Fixed r) (slice_get constants (i - n))) (Free i)
own_or_constant n constants (Fixed r) = Fixed r

-- the scheme is the one that is written, with constants that the variables of the store stand for
pub record IsDeclared (links : Links) (t : Declared) (s : Scheme) : Type 0 where
  pub constants : List Rigid
  pub has : AllZip (λ v r. Has links v (variable (Fixed r))) t.outer constants
  pub kinds : s.kinds ≡ t.scheme.kinds
  pub type : s.type ≡ renamed (own_or_constant (length t.scheme.kinds) constants) t.scheme.type

-- ---- names

-- A name of the code stands for that of a scope. The copies of a general name ask for no sizes.
abbrev pub MeansEntry : Around → Links → Store → Option Meaning → Option Entry → Type 0
MeansEntry a links s None None = Unit {0}
MeansEntry a links s (Some (One v)) (Some (Mono t)) = Has links v t
MeansEntry a links s (Some (Many frozen)) (Some (General list type)) =
    Says a s links frozen list type × ((q : Place) → NoSizes (list q))
MeansEntry a links s (Some (Each t)) (Some (Instance scheme)) = IsDeclared links t scheme
MeansEntry a links s _ _ = ⊥

-- a variable of an annotation
abbrev pub MeansConstant : Links → Option ℕ → Option Rigid → Type 0
MeansConstant links None None = Unit {0}
MeansConstant links (Some v) (Some r) = Has links v (variable (Fixed r))
MeansConstant links _ _ = ⊥

-- The code's scope stands for the scope. The links are those of types in scope alone, each of which has a variable.
pub record Means (a : Around) (links : Links) (code : Code) (scope : Scope) (s : Store) : Type 0 where
  pub live : AreLive a.depth s links
  pub known : (m x : Name) → code.known m x ≡ scope.known m x
  pub names : (x : Ref) → MeansEntry a links s (code.names x) (lookup (same_ref x) scope.names)
  pub constants : (x : Name) → MeansConstant links (code.constants x) (lookup (bytes_eq x) scope.constants)
  pub types : AllByRecursion (Outer a.depth s links) (outer_types scope)
  pub only : AllByRecursion (λ l. Contains (outer_types scope) l.1) links

-- the names that a pattern binds, in the order of the scope
abbrev pub BindsEntry : Links → Bound → Ref × Entry → Type 0
BindsEntry links b (x, Mono t) = (x ≡ Local b.0) × Has links b.1 t
BindsEntry links b (x, Instance s) = ⊥
BindsEntry links b (x, General list type) = ⊥

abbrev pub Binds : Links → List Bound → Entries → Type 0
Binds links bound entries = AllZip (BindsEntry links) bound entries

-- ---- where a part of the tree is walked

-- what a definition has around: the constants in the store are those of the annotations around, and none of them is of
-- a place below
pub record IsAround (a : Around) (state : State) : Type 0 where
  pub depth : a.depth ≡ state.depth
  pub within : Within a.constants state.store
  pub outside : Outside a (below state.place)

-- the links have those of the names in scope, and the code's scope stands for the scope
pub record Setting (a : Around) (links : Links) (code : Code) (scope : Scope) (state : State) : Type 0 where
  pub around : IsAround a state
  pub live : AreLive a.depth state.store links
  pub named : Links
  pub tells : Tells links named
  pub means : Means a named code scope state.store
