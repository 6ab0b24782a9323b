-- What a module needs of the scope that its declarations stand in.
use Rattle.std.specs.Prelude.{◌≡◌, ℕ, List, [], ◌∷◌, ◌++◌, true, false, map, flat_map}
use Rattle.elm_canon.specs.Names.{Name}
use Rattle.elm_canon.specs.declared.reference.Ref.{Ref}
use Rattle.elm_canon.specs.declared.reference.Ref.TheVariants.{Local, Top}
use Rattle.elm_canon.specs.declared.unions.Alternative.{Alternative}
use Rattle.elm_canon.specs.Tree.{UnionDeclaration, AliasDeclaration}
use Rattle.elm_tree.specs.Tree.{Declaration}
use Rattle.canon_env.specs.Env.{Known, declared_alternatives, when}
use Rattle.canon_env.specs.Exposing.{is_operator}
use Rattle.canon_env.specs.Imports.{name_of}
use Rattle.canon_env.specs.Shown.{Shown}
use Rattle.canon_env.specs.Naming.{World}
use Rattle.canon_module.specs.Names.{names_in}
use Rattle.elm_canon.specs.Spelled.{is_module}
use Rattle.elm_canon.specs.Proper.{Scope, among, IsIn, with_all, AreFresh}
use Rattle.canon_proper.specs.Worlds.{HasMakers, operator_ref}
use Rattle.canon_proper.specs.Rows.{HasRows, AreUnions}
use Rattle.canon_proper.specs.Declared.{AreSpelledDeclarations, AreCased}
use Rattle.module_proper.specs.Counted.{AllHaveFew}

-- names of the module
abbrev pub tops : Name → List Name → List Ref
tops home xs = map (λ x. Top home x) xs

-- the values that it declares, ports among them
abbrev pub value_refs : Name → List Declaration → List Ref
value_refs home ds = tops home (map name_of (names_in ds).values)

-- the constructors that it declares
abbrev pub maker_refs : Name → List Declaration → List Ref
maker_refs home ds = tops home (map name_of (names_in ds).constructors)

-- ---- the scope before the values

-- each name that the module can use is in scope, or is a value that it declares; none of these values is in scope, and
-- none is declared twice
pub record IsBefore (w : World) (ds : List Declaration) (scope : Scope) : Type 0 where
  pub name : is_module true w.name ≡ true
  pub makers : HasMakers w
  pub rows : HasRows w (with_all (value_refs w.name ds) scope)
  pub fresh : AreFresh (value_refs w.name ds) scope
  pub no_locals : (x : Name) → among (Local x) scope ≡ false

-- ---- what modules show

-- these names are in scope
abbrev pub HasAll : Scope → List Ref → Type 0
HasAll scope refs = (r : Ref) → IsIn r refs → IsIn r scope

abbrev pub union_makers : UnionDeclaration → List Name
union_makers u = map (λ (c : Alternative). c.name) (declared_alternatives u.union)

abbrev pub alias_makers : AliasDeclaration → List Name
alias_makers a = when a.is_maker a.name

-- the constructors that a module shows
abbrev pub shown_makers : Shown → List Name
shown_makers s = flat_map union_makers s.unions ++ flat_map alias_makers s.aliases

-- what a module shows is in scope, and the constructors of its unions are constructors of these
pub record IsOffered (home : Name) (s : Shown) (scope : Scope) : Type 0 where
  pub values : HasAll scope (tops home s.values)
  pub makers : HasAll scope (tops home (shown_makers s))
  pub unions : AreUnions s.unions

abbrev pub AreOffered : List Known → Scope → Type 0
AreOffered [] scope = Unit {0}
AreOffered (k ∷ ks) scope = IsOffered k.import.home k.shown scope × AreOffered ks scope

-- unions that a module has without a text, of which no constructors are known
abbrev pub AreBare : List UnionDeclaration → Type 0
AreBare [] = Unit {0}
AreBare (u ∷ us) = (declared_alternatives u.union ≡ []) × AreBare us

-- ---- the scope before the module

-- nothing of the module is in scope, and no local name. What its imports show is in scope, and so are the functions of
-- operators, but those that the module declares itself
pub record IsAround (home : Name) (imports : List Known) (ds : List Declaration) (scope : Scope) : Type 0 where
  pub name : is_module true home ≡ true
  pub no_locals : (x : Name) → among (Local x) scope ≡ false
  pub nothing_own : (x : Name) → among (Top home x) scope ≡ false
  pub offered : AreOffered imports scope
  pub operators : (op : List ℕ) → is_operator op ≡ true → IsIn (operator_ref op) (with_all (value_refs home ds) scope)

-- what a text guarantees of the declarations of a module: names that can be spelled, of which those of constructors
-- begin with an upper-case letter, and few constructors
pub record AreRead (home : Name) (ds : List Declaration) : Type 0 where
  pub spelled : AreSpelledDeclarations ds
  pub cased : AreCased ds
  pub few : AllHaveFew home ds
