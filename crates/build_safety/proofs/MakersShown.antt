-- Where the constructors of the unions of modules meet a condition, those that they show to others meet it:
-- `import_meets`.
use Rattle.std.proofs.Common.{◌≡◌, List, [], ◌∷◌, ◌++◌, map, Bool, true, false, cond, inl, inr, ⊎_elim, subst, arith}
use Rattle.std.proofs.Common.{if◌then◌else◌}
use Rattle.std.specs.List.{AllByRecursion, Contains, filter}
use Rattle.decl_groups.proofs.Basics.{first_member, later_member, member_cases}
use Rattle.elm_canon.specs.Names.{Name}
use Rattle.elm_canon.specs.Unions.{Union, TupleUnion, ListUnion, Declared}
use Rattle.elm_canon.specs.declared.unions.Alternative.{Alternative}
use Rattle.elm_canon.specs.Tree.{UnionDeclaration}
use Rattle.canon_env.specs.Env.{Known, declared_alternatives}
use Rattle.canon_env.specs.Imports.{exposes_type, exposes_makers}
use Rattle.elm_canon.specs.Mentions.{Condition}
use Rattle.canon_module.specs.Offers.{exposed_by, without_makers, opaque, offered_by, unions_by}
use Rattle.canon_module.specs.Resolve.{module_shows}
use Rattle.module_proper.specs.Modules.{AreBare}
use Rattle.project_proper.specs.Resolved.{Resolved, IsShownBy, IsImport, AreImports}
use Rattle.build_safety.proofs.MakersRows.{UnionMeets, UnionsMeet, ImportsMeet}

-- a module: its unions, and those that it has without a text
pub record ModuleMeets (P : Condition) (r : Resolved) : Type 0 where
  pub unions : UnionsMeet P r.whole.unions
  pub given : AreBare r.setting.given

module _ (P : Condition) where
  -- ---- lists of unions

  from_each : (us : List UnionDeclaration) → ((u : UnionDeclaration) → Contains us u → UnionMeets P u) → UnionsMeet P us
  from_each [] h = tt
  from_each (u ∷ us) h = (h u (first_member u us), from_each us (λ v m. h v (later_member u v us m)))

  to_each : (us : List UnionDeclaration) → UnionsMeet P us → (u : UnionDeclaration) → Contains us u → UnionMeets P u
  to_each [] h u m = absurd (omega (arith, m.1))
  to_each (v ∷ us) h u m =
      ⊎_elim (λ e. subst (UnionMeets P) e h.0) (to_each us h.1 u) (member_cases v u us m)

  none_meet : (u : Union) (cs : List Alternative) → cs ≡ [] → AllByRecursion (P u) cs
  none_meet u [] e = tt
  none_meet u (c ∷ cs) e = absurd cc

  bare_meet : (us : List UnionDeclaration) → AreBare us → UnionsMeet P us
  bare_meet [] h = tt
  bare_meet (u ∷ us) h = (none_meet u.union (declared_alternatives u.union) h.0, bare_meet us h.1)

  both_meet : (us vs : List UnionDeclaration) → UnionsMeet P us → UnionsMeet P vs → UnionsMeet P (us ++ vs)
  both_meet [] vs h k = k
  both_meet (u ∷ us) vs h k = (h.0, both_meet us vs h.1 k)

  -- ---- what a module shows

  opaque_meets : (u : UnionDeclaration) → UnionMeets P (opaque u)
  opaque_meets u = by u.union
    where
      by : (v : Union) → AllByRecursion (P (without_makers v)) (declared_alternatives (without_makers v))
      by (TupleUnion n) = tt
      by ListUnion = tt
      by (Declared home x cs) = tt

  offered_meets : (opens : Name → Bool) (u : UnionDeclaration) → UnionMeets P u → UnionMeets P (offered_by opens u)
  offered_meets opens u h = by (opens u.name)
    where
      by : (b : Bool) → UnionMeets P (if b then u else opaque u)
      by true = h
      by false = opaque_meets u

  shown_by_meet : (shows opens : Name → Bool) (us : List UnionDeclaration) → UnionsMeet P us →
      UnionsMeet P (unions_by shows opens us)
  shown_by_meet shows opens [] h = tt
  shown_by_meet shows opens (u ∷ us) h = by (shows u.name) (shown_by_meet shows opens us h.1)
    where
      by : (b : Bool) → UnionsMeet P (unions_by shows opens us) →
          UnionsMeet P
          (map (offered_by opens)
          (cond b (u ∷ filter (λ (v : UnionDeclaration). shows v.name) us)
          (filter (λ (v : UnionDeclaration). shows v.name) us)))
      by true rest = (offered_meets opens u h.0, rest)
      by false rest = rest

  module_meets : (r : Resolved) → ModuleMeets P r → UnionsMeet P (module_shows r.setting r.written r.whole).unions
  module_meets r h =
      let e = exposed_by r.written.head.header in
      shown_by_meet (exposes_type e) (exposes_makers e) (r.setting.given ++ r.whole.unions)
      (both_meet r.setting.given r.whole.unions (bare_meet r.setting.given h.given) h.unions)

  -- ---- what imports show

  shown_by : (r : Resolved) (k : Known) → ModuleMeets P r → IsShownBy r k → UnionsMeet P k.shown.unions
  shown_by r k h s =
      from_each k.shown.unions
      (λ u m. to_each (module_shows r.setting r.written r.whole).unions (module_meets r h) u (s.1.unions u m))

  one_import : (rs : List Resolved) (k : Known) → AllByRecursion (ModuleMeets P) rs → IsImport rs k →
      UnionsMeet P k.shown.unions
  one_import [] k h i = bare_meet k.shown.unions i.1.1
  one_import (r ∷ rs) k h (inl s) = shown_by r k h.0 s
  one_import (r ∷ rs) k h (inr i) = one_import rs k h.1 i

  pub all_imports : (rs : List Resolved) (ks : List Known) → AllByRecursion (ModuleMeets P) rs → AreImports rs ks →
      ImportsMeet P ks
  all_imports rs [] h i = tt
  all_imports rs (k ∷ ks) h i = (one_import rs k h i.0, all_imports rs ks h i.1)
