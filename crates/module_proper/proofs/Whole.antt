-- A module without faults is proper as a whole: its constructors, and then its groups of values.
use Rattle.std.proofs.Common.{◌≡◌, List, [], ◌++◌, map, Bool, true, false, sym, ap, ◌∙◌, subst, ⊎_elim}
use Rattle.std.specs.Prelude.{◌||◌}
use Rattle.std.specs.List.{flat_map}
use Rattle.std.proofs.lemmas.Bool.{false≢true}
use Rattle.decl_groups.proofs.Reaching.{or_cases}
use Rattle.decl_groups.proofs.Ordering.{not_true}
use Rattle.elm_tree.specs.Tree.{Declaration}
use Rattle.elm_canon.specs.Names.{Name}
use Rattle.elm_canon.specs.Tree as canon
use Rattle.elm_canon.specs.declared.reference.Ref.{Ref}
use Rattle.elm_canon.specs.declared.reference.Ref.TheVariants.{Local, Top}
use Rattle.canon_env.specs.Env.{Known, imported_rows}
use Rattle.canon_env.specs.Imports.{name_of, Everything}
use Rattle.canon_env.specs.Shown.{Shown}
use Rattle.canon_env.specs.Naming.{World}
use Rattle.canon_env.specs.Sites.{faults_at, repeats}
use Rattle.canon_type.specs.Written.{aliases_in, union_names_in}
use Rattle.canon_type.specs.Parameters.{parameter_faults}
use Rattle.canon_type.specs.Recursion.{recursion_faults}
use Rattle.canon_type.specs.Unions.{unions_in, union_of, union_sites}
use Rattle.canon_module.specs.Names.{Names, names_in}
use Rattle.canon_module.specs.Faults.{duplicate_faults}
use Rattle.canon_type.specs.DeclaredTypes.{alias_sites, declared_sites, declared_faults, uses_in, module_world, AreDeclared}
use Rattle.canon_module.specs.Items.{value_groups}
use Rattle.canon_module.specs.CanonValuesFaults.{value_faults}
use Rattle.elm_canon.specs.Proper.{Scope, among, with_all, AreFresh}
use Rattle.elm_canon.specs.Declarations.{ProperDeclarations, after_declarations}
use Rattle.canon_proper.specs.Worlds.{operator_ref}
use Rattle.canon_proper.specs.Rows.{HasRows, AreUnions}
use Rattle.canon_proper.proofs.Scopes.{among-with_all, in_more}
use Rattle.canon_proper.proofs.Apart.{Apart, fresh_in}
use Rattle.canon_proper.proofs.Quiet.{AreSound, append_none, map_none, sound_sites, sound_split}
use Rattle.canon_proper.proofs.Rows.{own_are, imported_are}
use Rattle.canon_module.specs.Resolve.{makers_in}
use Rattle.module_proper.specs.Modules.{tops, value_refs, maker_refs, HasAll, IsBefore, IsAround, AreRead}
use Rattle.module_proper.proofs.Numbers.{no_local, one_home}
use Rattle.module_proper.proofs.Groups.{declarations_more, after_more}
use Rattle.module_proper.proofs.Values.{values_proper, values_there}
use Rattle.module_proper.proofs.Makers.{names_given, AreKnown, known_proper, known_after, all_named, tops_fresh}
use Rattle.module_proper.proofs.Makers.{all_known}
use Rattle.module_proper.proofs.Cases.{not_both}
use Rattle.module_proper.proofs.Unions.{unions_are}
use Rattle.module_proper.proofs.Rows.{in_wider, shown_values, makers_there, imported_values, imported_makers}
use Rattle.module_proper.proofs.Rows.{imported_unions}
use Rattle.module_proper.proofs.Showing.{makers_has}

-- what a module can name that declares all this
abbrev pub world_in : Name → List Known → Shown → World
world_in home imports s = module_world home (imported_rows imports) s

-- all that these declarations declare: their values, and the unions and aliases that are written
pub record Declares (home : Name) (imports : List Known) (ds : List Declaration) (s : Shown) : Type 0 where
  pub values : s.values ≡ map name_of (names_in ds).values
  pub types : AreDeclared home (imported_rows imports) ds s

-- no fault was found in its names, types and values
pub record HasNoFaults (home : Name) (imports : List Known) (ds : List Declaration) (s : Shown) : Type 0 where
  pub names : duplicate_faults (names_in ds) ≡ []
  pub types : declared_faults (world_in home imports s) ds ≡ []
  pub values : value_faults (world_in home imports s) ds ≡ []

-- ---- names

or_none : (a b : Bool) → a ≡ false → b ≡ false → (a || b) ≡ false
or_none a b e f = ap (λ c. c || b) e ∙ f

-- names of the module of which none is in scope
tops_apart : (home : Name) (xs : List Name) (scope : Scope) →
    ((x : Name) → among (Top home x) (tops home xs) ≡ true → among (Top home x) scope ≡ false) →
    Apart (tops home xs) scope
tops_apart home xs scope f (Local x) e = absurd (false≢true (sym (no_local home x xs) ∙ e))
tops_apart home xs scope f (Top m x) e =
    let s = one_home m home x xs e in
    subst (λ k. among (Top k x) scope ≡ false) (sym s)
    (f x (subst (λ k. among (Top k x) (tops home xs) ≡ true) s e))

-- ---- faults

no_repeats : (n : Names) → duplicate_faults n ≡ [] → (repeats n.values ≡ []) × (repeats n.constructors ≡ [])
no_repeats n e =
    let a = append_none _ _ e in
    let b = append_none _ _ a.0 in
    (map_none _ (repeats n.values) b.0, map_none _ (repeats n.constructors) a.1)

alias_sound : (w : World) (ds : List Declaration) → declared_faults w ds ≡ [] →
    AreSound w (flat_map (alias_sites w) (aliases_in ds))
alias_sound w ds e =
    let a = append_none (flat_map parameter_faults ds ++ recursion_faults (union_names_in ds) (aliases_in ds))
    (flat_map (faults_at w) (declared_sites w ds)) e in
    (sound_split w (flat_map (union_sites w) (unions_in ds)) (flat_map (alias_sites w) (aliases_in ds))
    (sound_sites w (declared_sites w ds) a.1)).1

-- ---- the module

module _ (home : Name) (imports : List Known) (ds : List Declaration) (s : Shown) (scope : Scope)
    (a : IsAround home imports ds scope) (d : Declares home imports ds s) (read : AreRead home ds)
    (none : HasNoFaults home imports ds s) where
  abbrev w : World
  w = world_in home imports s

  abbrev makers : List canon.Declaration
  makers = flat_map (makers_in home) ds

  abbrev inner : Scope
  inner = with_all (maker_refs home ds) scope

  abbrev full : Scope
  full = with_all (value_refs home ds) inner

  -- ---- constructors

  unions : AreUnions (map (union_of home w) (unions_in ds))
  unions = unions_are home w ds read.few

  pub known : AreKnown makers
  known = all_known w w home ds a.name read.spelled unions (alias_sound w ds none.types)

  new_makers : AreFresh (names_given makers) scope
  new_makers =
      subst (λ rs. AreFresh rs scope) (sym (all_named home ds))
      (fresh_in (maker_refs home ds) scope
      (tops_fresh home [] (names_in ds).constructors (no_repeats (names_in ds) none.names).1)
      (tops_apart home (map name_of (names_in ds).constructors) scope (λ x e. a.nothing_own x)))

  makers_proper : ProperDeclarations scope makers
  makers_proper = known_proper makers scope known new_makers

  after_makers : after_declarations makers scope ≡ inner
  after_makers = known_after makers scope known ∙ ap (λ rs. with_all rs scope) (all_named home ds)

  -- ---- the scope before the values

  has_outer : HasAll full scope
  has_outer r i = in_more r (value_refs home ds) inner (in_more r (maker_refs home ds) scope i)

  has_makers : HasAll full (maker_refs home ds)
  has_makers r i =
      in_more r (value_refs home ds) inner
      (among-with_all r (maker_refs home ds) scope ∙ ap (λ c. c || among r scope) i)

  has_values : HasAll full (value_refs home ds)
  has_values r i = among-with_all r (value_refs home ds) inner ∙ ap (λ c. c || among r inner) i

  -- what is in scope with the values and without the constructors
  has_more : HasAll full (with_all (value_refs home ds) scope)
  has_more r i =
      ⊎_elim (λ v. has_values r v) (λ o. has_outer r o)
      (or_cases (among r (value_refs home ds)) (among r scope) (sym (among-with_all r (value_refs home ds) scope) ∙ i))

  rows : HasRows w full
  rows = record {
    own_values = shown_values [] home Everything s full
        (subst (λ xs. HasAll full (tops home xs)) (sym d.values) has_values);
    imported_values = in_wider (imported_rows imports).values scope full has_outer
        (imported_values imports scope a.offered);
    own_makers = makers_there [] home Everything s full
        (makers_has home w (uses_in ds) full ds s d.types.unions d.types.aliases has_makers);
    imported_makers = in_wider (imported_rows imports).makers scope full has_outer
        (imported_makers imports scope a.offered);
    operators = λ op e. has_more (operator_ref op) (a.operators op e);
  }

  new_values : AreFresh (value_refs home ds) inner
  new_values =
      fresh_in (value_refs home ds) inner
      (tops_fresh home [] (names_in ds).values (no_repeats (names_in ds) none.names).0)
      (tops_apart home (map name_of (names_in ds).values) inner
      (λ x e. among-with_all (Top home x) (maker_refs home ds) scope
      ∙ or_none (among (Top home x) (maker_refs home ds)) (among (Top home x) scope)
      (not_true (among (Top home x) (maker_refs home ds)) (not_both home x ds read.cased e)) (a.nothing_own x)))

  pub before : IsBefore w ds inner
  before = record {
    name = a.name;
    makers = record {
      own = own_are home s (subst AreUnions (sym d.types.unions) unions);
      imported = imported_are imports (imported_unions imports scope a.offered);
    };
    rows = rows;
    fresh = new_values;
    no_locals = λ x.
        among-with_all (Local x) (maker_refs home ds) scope
        ∙ or_none (among (Local x) (maker_refs home ds)) (among (Local x) scope)
        (no_local home x (map name_of (names_in ds).constructors)) (a.no_locals x);
  }

  -- ---- all declarations

  pub module_proper : ProperDeclarations scope (makers ++ value_groups w ds)
  module_proper =
      declarations_more makers (value_groups w ds) scope makers_proper
      (subst (λ z. ProperDeclarations z (value_groups w ds)) (sym after_makers)
      (values_proper w ds inner before read.spelled none.values))

  pub module_there : (r : Ref) → among r (after_declarations (makers ++ value_groups w ds) scope) ≡ among r full
  module_there r =
      ap (among r) (after_more makers (value_groups w ds) scope)
      ∙ ap (λ z. among r (after_declarations (value_groups w ds) z)) after_makers
      ∙ values_there w ds inner before read.spelled none.values r
