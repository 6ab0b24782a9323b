-- A module that is typed without faults over the interfaces of modules before it comes after them: `next`.
use Rattle.std.proofs.Common.{◌≡◌, ℕ, zero, suc, ◌≤◌, List, [], ◌∷◌, ◌++◌, map, length, Bool, true, false, refl}
use Rattle.std.proofs.Common.{sym, ap, ◌∙◌, subst, ⊎_elim, ◌⊎◌, inl, inr, Some, None, codes, arith}
use Rattle.std.specs.Prelude.{Option, option_map, slice_get, if◌then◌else◌, ◌||◌}
use Rattle.std.specs.List.{filter_map, list_any, cons_option}
use Rattle.std.specs.Str.{bytes_eq, chars}
use Rattle.std.specs.Str.Lossy.{utf8_lossy}
use Rattle.std.proofs.lemmas.Bool.{false≢true}
use Rattle.elm_base.specs.Units.{text_units}
use Rattle.elm_tree.specs.Tree as tree
use Rattle.elm_canon.specs.Names.{Name, same_name}
use Rattle.elm_canon.specs.Tree as canon
use Rattle.elm_canon.specs.Tree.{Declaration}
use Rattle.elm_canon.specs.declared.reference.Ref.{Ref}
use Rattle.elm_canon.specs.declared.reference.Ref.TheVariants.{Top}
use Rattle.canon_expr.specs.Operators.{meaning_of}
use Rattle.canon_env.specs.Env.{Known}
use Rattle.canon_env.specs.Exposing.{is_operator, operator_home}
use Rattle.canon_env.specs.Imports.{Import, import_of}
use Rattle.canon_module.specs.Resolve.{IsModule, module_shows}
use Rattle.canon_proper.proofs.Scopes.{in_more}
use Rattle.canon_proper.specs.Worlds.{operator_ref}
use Rattle.core_modules.specs.Given.{opaque_type, given_types}
use Rattle.elm_canon.specs.Proper.{among, IsIn}
use Rattle.link.specs.Made.{refs_used}
use Rattle.interface.specs.Interface.{Interface}
use Rattle.type_items.specs.Inferred.{Schemes}
use Rattle.module_made.specs.Around.{Around, in_project, in_core, setting_of, known_import}
use Rattle.module_made.specs.Made.{IsTyped}
use Rattle.module_offers.specs.Offers.{Interfaces, shown_of, main_type}
use Rattle.module_proper.specs.Modules.{AreBare, value_refs}
use Rattle.import_graph.specs.declared.found.Found.{Found}
use Rattle.module_offers.specs.Faults.{uses, offers}
use Rattle.project_proper.specs.Laws.{interface_for, IsWhole}
use Rattle.project_proper.proofs.Offered.{offered_declared}
use Rattle.project_proper.proofs.OperatorLawsWhole.{own_operators, have_truths, other_operators}
use Rattle.project_proper.proofs.Read.{all_read}
use Rattle.project_proper.proofs.Left.{in_front}
use Rattle.project_proper.specs.Resolved.{Resolved, scope_after, ShowsTypes, ShowsWithin, IsShownBy, IsImport}
use Rattle.project_proper.specs.Resolved.{AreImports}
use Rattle.project_proper.specs.Resolved.{IsUnused, HasOperator, IsNext, AreResolved}
use Rattle.project_proper.proofs.Taken.{values_in_scope}
use Rattle.project_proper.specs.Builds.{interface_by}
use Rattle.project_proper.proofs.Named.{name_is}
use Rattle.project_proper.proofs.Shows.{interface_within}

-- ---- interfaces of modules before

-- the interface is that of one of these modules
pub record IsOf (before : List Resolved) (x : Name) (i : Interface) : Type 0 where
  pub place : ℕ
  pub r : Resolved
  pub told : Schemes
  pub at : slice_get before place ≡ Some r
  pub is : IsModule r.setting r.written.declarations r.whole
  pub home : r.setting.home ≡ x
  pub interface : i ≡ interface_by r told

abbrev pub AreOf : List Resolved → Interfaces → Type 0
AreOf before interfaces = (x : Name) (i : Interface) → interfaces x ≡ Some i → IsOf before x i

-- ---- imports

shown_at : (before : List Resolved) (place : ℕ) (r : Resolved) (k : Known) → slice_get before place ≡ Some r →
    IsShownBy r k → IsImport before k
shown_at [] place r k e s = absurd cc
shown_at (q ∷ before) zero r k e s =
    let h : q ≡ r = cc in inl (subst (λ z. IsShownBy z k) (sym h) s)
shown_at (q ∷ before) (suc place) r k e s = inr (shown_at before place r k e s)

types_at : (before : List Resolved) (k : Known) → ShowsTypes k.shown → IsImport before k
types_at [] k s = s
types_at (q ∷ before) k s = inr (types_at before k s)

-- what the module shows by its interface
within : (r : Resolved) (told : Schemes) → IsModule r.setting r.written.declarations r.whole → (x : Name) →
    r.setting.home ≡ x →
    ShowsWithin (shown_of x (interface_by r told)) (module_shows r.setting r.written r.whole)
within r told is x h =
    subst (λ z. ShowsWithin (shown_of z (interface_by r told)) (module_shows r.setting r.written r.whole)) (is.name ∙ h)
    (interface_within r.setting r.written.declarations r.whole is told (module_shows r.setting r.written r.whole))

import_at : (before : List Resolved) (i : Import) (o : Interface) → IsOf before i.home o →
    IsImport before (record { import = i; shown = shown_of i.home o })
import_at before i o h =
    shown_at before h.place h.r (record { import = i; shown = shown_of i.home o }) h.at (
      sym h.home,
      subst (λ z. ShowsWithin (shown_of i.home z) (module_shows h.r.setting h.r.written h.r.whole))
          (sym h.interface) (within h.r h.told h.is i.home h.home),
    )

more_imports : (before : List Resolved) (ks ls : List Known) → AreImports before ks → AreImports before ls →
    AreImports before (ks ++ ls)
more_imports before [] ls a b = b
more_imports before (k ∷ ks) ls a b = (a.0, more_imports before ks ls a.1 b)

offered_imports : (before : List Resolved) (interfaces : Interfaces) → AreOf before interfaces → (is : List Import) →
    AreImports before (filter_map (known_import interfaces) is)
offered_imports before interfaces a [] = tt
offered_imports before interfaces a (i ∷ is) = by (interfaces i.home) refl (offered_imports before interfaces a is)
  where
    rest : List Known
    rest = filter_map (known_import interfaces) is

    by : (o : Option Interface) → interfaces i.home ≡ o → AreImports before rest →
        AreImports before (cons_option (option_map (λ s. record { import = i; shown = s })
        (option_map (shown_of i.home) o)) rest)
    by None e h = h
    by (Some o) e h = (import_at before i o (a i.home o e), h)

abbrev ShowTypes : List Known → Type 0
ShowTypes [] = Unit {0}
ShowTypes (k ∷ ks) = ShowsTypes k.shown × ShowTypes ks

known_imports : (before : List Resolved) (ks : List Known) → ShowTypes ks → AreImports before ks
known_imports before [] h = tt
known_imports before (k ∷ ks) h = (types_at before k h.0, known_imports before ks h.1)

-- ---- what a module is compiled in

pub record IsPlain (a : Around) : Type 0 where
  pub given : AreBare a.given
  pub known : ShowTypes a.known

bare_given : (home : Name) → AreBare (given_types home)
bare_given home =
    by (same_name home (codes "Basics")) (same_name home (codes "Char")) (same_name home (codes "List"))
    (same_name home (codes "String"))
  where
    by : (b c l s : Bool) → AreBare (if b then opaque_type home (codes "Int") [] ∷ []
        else (if c then opaque_type home (codes "Char") [] ∷ []
        else (if l then opaque_type home (codes "List") (codes "a" ∷ []) ∷ []
        else (if s then opaque_type home (codes "String") [] ∷ [] else []))))
    by true c l s = (refl, tt)
    by false true l s = (refl, tt)
    by false false true s = (refl, tt)
    by false false false true = (refl, tt)
    by false false false false = tt

pub plain_project : (name : List ℕ) (found : List ℕ → Found) (interfaces : Interfaces) →
    IsPlain (in_project name found interfaces)
plain_project name found interfaces = record { given = tt; known = tt }

pub plain_core : (name : List ℕ) (found : List ℕ → Found) (interfaces : Interfaces) →
    IsPlain (in_core name found interfaces)
plain_core name found interfaces = record {
  given = bare_given (text_units (utf8_lossy name));
  known = (
    (refl, (refl, (refl, tt))),
    ((refl, (refl, (refl, tt))), ((refl, (refl, (refl, tt))), ((refl, (refl, (refl, tt))), tt))),
  );
}

-- ---- operators

unused : (x : Ref) (ds : List Declaration) → list_any (λ d. among x (refs_used d)) ds ≡ false → IsUnused x ds
unused x [] e = tt
unused x (d ∷ ds) e = by (among x (refs_used d)) refl e (unused x ds)
  where
    by : (b : Bool) → among x (refs_used d) ≡ b → (b || list_any (λ d. among x (refs_used d)) ds) ≡ false →
        (list_any (λ d. among x (refs_used d)) ds ≡ false → IsUnused x ds) → IsUnused x (d ∷ ds)
    by true s e rest = absurd (false≢true (sym e))
    by false s e rest = (s, rest e)

offered_by : (o : Option Interface) (f : Name) → offers o f ≡ true →
    (i : Interface) × ((o ≡ Some i) × (offers (Some i) f ≡ true))
offered_by None f e = absurd (false≢true e)
offered_by (Some i) f e = (i, (refl, e))

module _ (before : List Resolved) (resolved : AreResolved before) where
  -- what the interface of a module before offers is in scope
  offered_there : (x : Name) (i : Interface) (f : Name) → IsOf before x i → offers (Some i) f ≡ true →
      IsIn (Top x f) (scope_after before)
  offered_there x i f h e =
      subst (λ z. IsIn (Top z f) (scope_after before)) h.home
      (values_in_scope before h.place h.r (Top h.r.setting.home f) resolved h.at
      (offered_declared h.r.setting h.r.written.declarations h.r.whole h.is h.told
      (module_shows h.r.setting h.r.written h.r.whole) f (subst (λ z. offers (Some z) f ≡ true) h.interface e)))

-- an operator of List, or of Basics
home_cases : (op : List ℕ) →
    ((bytes_eq op (codes "::") ≡ true) × (text_units (operator_home op) ≡ codes "List"))
    ⊎ ((bytes_eq op (codes "::") ≡ false) × (text_units (operator_home op) ≡ codes "Basics"))
unfolding chars
home_cases op = by (bytes_eq op (codes "::"))
  where
    by : (b : Bool) →
        ((b ≡ true) × (text_units (if b then codes "List" else codes "Basics") ≡ codes "List"))
        ⊎ ((b ≡ false) × (text_units (if b then codes "List" else codes "Basics") ≡ codes "Basics"))
    by true = inl (refl, refl)
    by false = inr (refl, refl)

-- the interface for an operator is that of its module
interface_of_home : (a : Around) (op : List ℕ) (i : Interface) →
    interface_for op (a.interfaces (codes "Basics")) (a.interfaces (codes "List")) ≡ Some i →
    a.interfaces (text_units (operator_home op)) ≡ Some i
interface_of_home a op i e =
    ⊎_elim
    (λ h. ap a.interfaces h.1
    ∙ ap (λ b. if b then a.interfaces (codes "List") else a.interfaces (codes "Basics")) (sym h.0) ∙ e)
    (λ h. ap a.interfaces h.1
    ∙ ap (λ b. if b then a.interfaces (codes "List") else a.interfaces (codes "Basics")) (sym h.0) ∙ e)
    (home_cases op)

-- ---- the module

module _ (before : List Resolved) (path : List ℕ) (a : Around) (text : List ℕ) (t : tree.Module) (m : canon.Module)
    (told : Schemes) (resolved : AreResolved before) (plain : IsPlain a) (of : AreOf before a.interfaces)
    (typed : IsTyped a text t m told) (short : length text ≤ 4194304) where
  abbrev pub made : Resolved
  made = record { path = path; setting = setting_of a t; written = t; whole = m; main = main_type m told }

  is : IsModule (setting_of a t) t.declarations m
  is = typed.is_named.means.module_is

  whole : IsWhole (a.interfaces (codes "Basics")) (a.interfaces (codes "List")) (setting_of a t) t.declarations m
  whole = record { is = is; whole = typed.is_named.whole }

  imports : AreImports before (setting_of a t).imports
  imports =
      more_imports before a.known _ (known_imports before a.known plain.known)
      (offered_imports before a.interfaces of (a.defaults ++ map import_of t.head.imports))

  operators : (op : List ℕ) → is_operator op ≡ true → HasOperator (scope_after before) made op
  operators op e = by (same_name (text_units (operator_home op)) made.setting.home) refl
    where
      values : List Ref
      values = value_refs made.setting.home t.declarations

      others : (offers (interface_for op (a.interfaces (codes "Basics")) (a.interfaces (codes "List")))
          (text_units (meaning_of op).function) ≡ true) ⊎ (uses m (operator_ref op) ≡ false) →
          same_name (text_units (operator_home op)) made.setting.home ≡ false →
          HasOperator (scope_after before) made op
      others (inl o) s =
          let i = offered_by (interface_for op (a.interfaces (codes "Basics")) (a.interfaces (codes "List")))
          (text_units (meaning_of op).function) o in
          inl (in_more (operator_ref op) values (scope_after before)
          (offered_there before resolved (text_units (operator_home op)) i.0 (text_units (meaning_of op).function)
          (of (text_units (operator_home op)) i.0 (interface_of_home a op i.0 i.1.0)) i.1.1))
      others (inr u) s = inr (s, unused (operator_ref op) m.declarations u)

      by : (b : Bool) → same_name (text_units (operator_home op)) made.setting.home ≡ b →
          HasOperator (scope_after before) made op
      by true s =
          inl (in_front (operator_ref op) values (scope_after before)
          (own_operators (a.interfaces (codes "Basics")) (a.interfaces (codes "List")) (setting_of a t) t.declarations m
          whole op e s))
      by false s =
          others (other_operators (a.interfaces (codes "Basics")) (a.interfaces (codes "List")) (setting_of a t)
          t.declarations m whole op e s) s

  pub next : IsNext before made
  next = record {
    is = is;
    read = all_read text typed.is_named.means.spelled.0 t made.setting.home typed.is_named.means.spelled.1.0
        (omega (arith, short)) typed.is_named.means.spelled.1.1.spells
        (have_truths (a.interfaces (codes "Basics")) (a.interfaces (codes "List")) (setting_of a t) t.declarations m
        whole);
    none = typed.is_named.named;
    name = name_is a text t m typed.is_named.means (omega (arith, short));
    given = plain.given;
    imports = imports;
    operators = operators;
  }
