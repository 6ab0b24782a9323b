-- The modules of a program, in turn: what the program has of each, and what its modules tell each other.
use Rattle.std.specs.Prelude.{◌≡◌, ℕ, List, [], ◌∷◌, flat_map, Bool, true, false, not, ◌||◌, Some, ◌⊎◌}
use Rattle.std.specs.List.{AllByRecursion}
use Rattle.elm_canon.specs.Names.{Name, same_ref}
use Rattle.elm_canon.specs.declared.reference.Ref.{Ref}
use Rattle.elm_canon.specs.declared.reference.Ref.TheVariants.{Local, Top}
use Rattle.elm_canon.specs.Tree.{Declaration, Module}
use Rattle.elm_canon.specs.Proper.{among}
use Rattle.elm_meaning.specs.Functions.{Primitive, Core}
use Rattle.elm_type.specs.Types.{Scheme}
use Rattle.elm_type.specs.Classes.{Ground}
use Rattle.type_items.specs.Items.{Place}
use Rattle.type_items.specs.Scopes.{Entry, Mono, Instance, General, Known, entry_of}
use Rattle.type_items.specs.Uses.{used_groups}
use Rattle.type_items.specs.Expressions.{definitions}
use Rattle.type_items.specs.Modules.{known_in, module_items}
use Rattle.type_items.specs.Solutions.{Values, Solves}
use Rattle.typed_values.specs.Frames.{Frame, of, Stands, Chosen, ground_instance}
use Rattle.typed_values.specs.World.{World, KnownIn, Knows}
use Rattle.typed_values.specs.Simple.{Without, defines, AreApart, UseEarlier, SimpleGroups}
use Rattle.type_safety.specs.Modules.{groups_in, given_in, AreTyped, AreTitled, UseGivenBefore, scope_after}

-- a module at a place of the program's tree, ground types for its variables, and those of its declarations that `main`
-- reaches
pub record Part : Type 0 where
  pub module_ : Module
  pub place : Place
  pub values : Values
  pub declared : List Declaration

-- ---- names

abbrev pub IsOf : Name → Ref → Type 0
IsOf home (Local x) = ⊥
IsOf home (Top m x) = m ≡ home

abbrev pub IsNotOf : Name → Ref → Type 0
IsNotOf home (Local x) = Unit {0}
IsNotOf home (Top m x) = m ≡ home → ⊥

-- the first declarations are some of the others, in their order
abbrev pub AreSome : List Declaration → List Declaration → Type 0
AreSome [] es = Unit {0}
AreSome (d ∷ ds) [] = ⊥
AreSome (d ∷ ds) (e ∷ es) = (d ≡ e) × AreSome ds es ⊎ AreSome (d ∷ ds) es

-- ---- what a module tells of its names

-- each instance of the second scheme is one of the first
abbrev pub HasInstances : Scheme → Scheme → Type 0
HasInstances s t =
    (f : Frame) (choice : ℕ → Ground) → Stands f → Chosen t choice
    → (other : ℕ → Ground) × Chosen s other × (ground_instance other f s ≡ ground_instance choice f t)

-- the ground type is an instance of what the scope has of a name
abbrev pub IsInstanceOf : Entry → Ground → Type 0
IsInstanceOf (Mono t) g = ⊥
IsInstanceOf (Instance s) g =
    (f : Frame) × (choice : ℕ → Ground) × Stands f × Chosen s choice × (ground_instance choice f s ≡ g)
IsInstanceOf (General list type) g =
    (f : Frame) × (q : Place) × Stands f × Solves f.values (list q) × (of f (type q) ≡ g)

-- What is told of a name the module has, and each instance of the scheme that is told is one of what it has.
abbrev pub Tells : Known → Part → Ref → Type 0
Tells told t (Local x) = Unit {0}
Tells told t (Top m x) =
    (s : Scheme) → told m x ≡ Some s
    → (entry : Entry) × (entry_of (scope_after t.module_ told t.place) (Top m x) ≡ Some entry)
    × ((f : Frame) (choice : ℕ → Ground) → Stands f → Chosen s choice
    → IsInstanceOf entry (ground_instance choice f s))

-- A name of the module that is bound before it, as functions of the fixed JavaScript text are. The module has a type for
-- it, and no instance of this but those of the type that is told.
pub record IsBoundEarlier (told : Known) (t : Part) (m x : Name) : Type 0 where
  pub own : m ≡ t.module_.name
  pub scheme : Scheme
  pub told_is : told m x ≡ Some scheme
  pub inside : Scheme
  pub is : entry_of (scope_after t.module_ told t.place) (Top m x) ≡ Some (Instance inside)
  pub instances : HasInstances scheme inside

abbrev pub IsEarlier : Known → Part → Ref → Type 0
IsEarlier told t (Local x) = ⊥
IsEarlier told t (Top m x) = IsBoundEarlier told t m x

-- ---- a module after others

-- what is bound after declarations
abbrev pub bound_with : List Declaration → (Ref → Bool) → Ref → Bool
bound_with ds before y = before y || (among y (given_in ds) || defines (definitions (groups_in ds)) y)

-- names of modules that are not bound are hidden
abbrev pub none_but : (Ref → Bool) → Ref → Bool
none_but bound (Local x) = false
none_but bound (Top m x) = not (bound (Top m x))

-- A typable module of which the program has some declarations, as the resolution of names and the check of patterns
-- leave them; what they use is bound before them or by them.
pub record IsPart (w : World) (told : Known) (before : Ref → Bool) (t : Part) : Type 0 where
  pub known : KnownIn w (known_in t.module_ told)
  pub solves : Solves t.values (module_items t.module_ told t.place)
  pub some : AreSome t.declared t.module_.declarations
  pub titled : AreTitled (groups_in t.module_.declarations)
  pub apart : AreApart (definitions (groups_in t.module_.declarations))
  pub own : (y : Ref) → defines (definitions (groups_in t.module_.declarations)) y ≡ true → IsOf t.module_.name y
  pub others : Without (defines (definitions (groups_in t.module_.declarations))) (given_in t.declared)
  pub given_own : AllByRecursion (IsOf t.module_.name) (given_in t.declared)
  pub elsewhere : (y : Ref) → before y ≡ true → IsNotOf t.module_.name y ⊎ IsEarlier told t y
  pub given : AreTyped w (known_in t.module_ told) t.declared
  pub use_before : UseGivenBefore t.declared
  pub earlier : UseEarlier (groups_in t.declared)
  pub simple : SimpleGroups w (groups_in t.declared)
  pub used : Without (none_but (bound_with t.declared before)) (used_groups (groups_in t.declared))
  pub tells : (y : Ref) → IsOf t.module_.name y → Tells told t y

-- modules in turn, each after those that it uses
abbrev pub AreParts : World → Known → (Ref → Bool) → List Part → Type 0
AreParts w told before [] = Unit {0}
AreParts w told before (t ∷ ts) = IsPart w told before t × AreParts w told (bound_with t.declared before) ts

abbrev pub all_declared : List Part → List Declaration
all_declared ts = flat_map (λ t. t.declared) ts

abbrev pub bound_after : List Part → (Ref → Bool) → Ref → Bool
bound_after [] before = before
bound_after (t ∷ ts) before = bound_after ts (bound_with t.declared before)

-- ---- the functions of the fixed JavaScript text

-- a name of the core whose scheme's instances are types that the function has
pub record IsPrimitiveName (w : World) (told : Known) (q : Ref × Primitive) : Type 0 where
  pub home : Name
  pub name : Name
  pub scheme : Scheme
  pub name_is : q.0 ≡ Top home name
  pub told_is : told home name ≡ Some scheme
  pub knows : (f : Frame) (choice : ℕ → Ground) → Stands f → Chosen scheme choice
      → Knows w (Core q.1) [] (ground_instance choice f scheme)

abbrev pub ArePrimitives : World → Known → List (Ref × Primitive) → Type 0
ArePrimitives w told ps = AllByRecursion (IsPrimitiveName w told) ps

abbrev pub primitive_names : List (Ref × Primitive) → Ref → Bool
primitive_names [] y = false
primitive_names (p ∷ ps) y = same_ref y p.0 || primitive_names ps y
