-- The declarations of a module are proper where all that it declares is in scope: `module_inside`.
use Rattle.std.proofs.Common.{◌≡◌, ℕ, List, [], ◌∷◌, ◌++◌, map, false, None, refl, sym, ap, ◌∙◌, subst}
use Rattle.std.specs.List.{flat_map}
use Rattle.std.proofs.lemmas.Bool.{false≢true}
use Rattle.decl_groups.specs.Groups.{list_at}
use Rattle.decl_groups.specs.InOrder.{ordered_groups}
use Rattle.elm_tree.specs.Tree as tree
use Rattle.elm_canon.specs.Names.{Name}
use Rattle.elm_canon.specs.Tree.{Declaration, Given, Define}
use Rattle.elm_canon.specs.declared.reference.Ref.{Ref}
use Rattle.canon_env.specs.Env.{Known}
use Rattle.canon_env.specs.Shown.{Shown}
use Rattle.canon_env.specs.Naming.{World}
use Rattle.canon_expr.specs.Blocks.{Made, NoMade, MadeFunction, MadeConstant, MadeParts, functions_in, group_of}
use Rattle.canon_module.specs.Items.{Item, PortItem, ValueItem, items_of, items_at, grouped, made_by}
use Rattle.canon_module.specs.Items.{top_used, value_groups}
use Rattle.canon_module.specs.CanonValuesFaults.{value_faults}
use Rattle.canon_module.specs.Resolve.{makers_in}
use Rattle.canon_module.specs.TopUses.{value_names_each}
use Rattle.elm_canon.specs.Proper.{Scope, with_all, ProperFunctions}
use Rattle.canon_proper.specs.Declared.{AreSpelledDeclarations}
use Rattle.canon_proper.proofs.Made.{ProperMade, two_together}
use Rattle.canon_proper.proofs.Steps.{flat}
use Rattle.module_proper.specs.Modules.{value_refs, maker_refs, IsBefore, IsAround, AreRead}
use Rattle.module_proper.specs.Inside.{AllInside}
use Rattle.module_proper.proofs.Numbers.{tops_each}
use Rattle.module_proper.proofs.Groups.{IsGood, AreGood, is_parts, items_together}
use Rattle.module_proper.proofs.Makers.{AreKnown}
use Rattle.module_proper.proofs.Values.{good, flat_values}
use Rattle.module_proper.proofs.Whole.{Declares, HasNoFaults, world_in, known, before}

-- ---- lists of declarations

pub inside_both : (scope : Scope) (xs ys : List Declaration) → AllInside scope xs → AllInside scope ys →
    AllInside scope (xs ++ ys)
inside_both scope [] ys a b = b
inside_both scope (x ∷ xs) ys a b = (a.0, inside_both scope xs ys a.1 b)

known_inside : (scope : Scope) (ds : List Declaration) → AreKnown ds → AllInside scope ds
known_inside scope [] a = tt
known_inside scope (Given r k ∷ ds) a = ((a.0, a.1.0), known_inside scope ds a.1.1)
known_inside scope (Define g ∷ ds) a = absurd a

-- ---- groups

module _ (full : Scope) where
  abbrev AllMade : List Made → Type 0
  AllMade [] = Unit {0}
  AllMade (m ∷ ms) = ((names : List Ref) × ProperMade full names m) × AllMade ms

  abbrev AllGood : List Item → Type 0
  AllGood [] = Unit {0}
  AllGood (i ∷ is) = ((names : List Ref) × IsGood full names i) × AllGood is

  functions_inside : (ms : List Made) → AllMade ms → ProperFunctions full (functions_in ms)
  functions_inside [] a = tt
  functions_inside (NoMade ∷ ms) a = functions_inside ms a.1
  functions_inside (MadeFunction title ps e ∷ ms) a =
      let p = a.0.1 in (p.1, (p.2, (p.3, (p.4, functions_inside ms a.1))))
  functions_inside (MadeConstant title e ∷ ms) a = functions_inside ms a.1
  functions_inside (MadeParts p e ∷ ms) a = functions_inside ms a.1

  one_inside : (m : Made) (names : List Ref) → ProperMade full names m → is_parts m ≡ false →
      AllInside full (map Define (group_of (m ∷ [])))
  one_inside NoMade names p e = tt
  one_inside (MadeFunction title ps b) names p e = ((p.1, (p.2, (p.3, (p.4, tt)))), tt)
  one_inside (MadeConstant title b) names p e = ((p.1, p.2), tt)
  one_inside (MadeParts q b) names p e = absurd (false≢true (sym e))

  made_good : (is : List Item) → AllGood is → AllMade (map made_by is)
  made_good [] a = tt
  made_good (PortItem r k ∷ is) a = (([], refl), made_good is a.1)
  made_good (ValueItem m ∷ is) a = ((a.0.0, a.0.1.0), made_good is a.1)

  group_inside : (is : List Item) → AllGood is → AllInside full (grouped is)
  group_inside [] a = (tt, tt)
  group_inside (PortItem r k ∷ []) a = ((a.0.1.1, a.0.1.2), tt)
  group_inside (ValueItem m ∷ []) a = one_inside m a.0.0 a.0.1.0 a.0.1.1
  group_inside (x ∷ y ∷ zs) a =
      subst (AllInside full)
      (sym (items_together x y zs ∙ ap (map Define) (two_together (made_by x) (made_by y) (map made_by zs))))
      (functions_inside (map made_by (x ∷ y ∷ zs)) (made_good (x ∷ y ∷ zs) a), tt)

module _ (home : Name) (outer : Scope) (each : List (List Name)) (items : List Item)
    (b : AreGood home outer each items) where
  abbrev full : Scope
  full = with_all (flat (tops_each home each)) outer

  good_at : (places : List ℕ) → AllGood full (items_at items places)
  good_at [] = tt
  good_at (i ∷ places) = ((list_at (tops_each home each) i, b.good i), good_at places)

  groups_inside : (gs : List (List ℕ)) →
      AllInside full (flat_map (λ places. grouped (items_at items places)) gs)
  groups_inside [] = tt
  groups_inside (g ∷ gs) =
      inside_both full (grouped (items_at items g)) (flat_map (λ places. grouped (items_at items places)) gs)
      (group_inside full (items_at items g) (good_at g)) (groups_inside gs)

-- ---- values

pub values_inside : (w : World) (ds : List tree.Declaration) (scope : Scope) → IsBefore w ds scope →
    AreSpelledDeclarations ds → value_faults w ds ≡ [] →
    AllInside (with_all (value_refs w.name ds) scope) (value_groups w ds)
values_inside w ds scope b spelled none =
    subst (λ rs. AllInside (with_all rs scope) (value_groups w ds)) (flat_values w.name ds)
    (groups_inside w.name scope (value_names_each ds) (items_of w None ds) (good w ds scope b spelled none)
    (ordered_groups (top_used w ds)))

-- ---- the module

pub module_inside : (home : Name) (imports : List Known) (ds : List tree.Declaration) (s : Shown) (scope : Scope) →
    IsAround home imports ds scope → Declares home imports ds s → AreRead home ds → HasNoFaults home imports ds s →
    AllInside (with_all (value_refs home ds) (with_all (maker_refs home ds) scope))
    (flat_map (makers_in home) ds ++ value_groups (world_in home imports s) ds)
module_inside home imports ds s scope a d read none =
    let w = world_in home imports s in
    let inner = with_all (maker_refs home ds) scope in
    inside_both (with_all (value_refs home ds) inner) (flat_map (makers_in home) ds) (value_groups w ds)
    (known_inside (with_all (value_refs home ds) inner) (flat_map (makers_in home) ds)
    (known home imports ds s scope a d read none))
    (values_inside w ds inner (before home imports ds s scope a d read none) read.spelled none.values)
