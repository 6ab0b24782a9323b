-- Where expressions stand: the local names that are bound at places that pass a test are in scope.
use Rattle.std.proofs.Common.{◌≡◌, List, [], ◌∷◌, ◌++◌, Bool, true, false, Some, None, refl, sym, ap, ◌∙◌, subst}
use Rattle.std.proofs.Common.{◌⊎◌, inl, inr, ⊎_elim}
use Rattle.std.specs.Prelude.{◌||◌, if◌then◌else◌, Option, is_some}
use Rattle.std.specs.List.{Contains}
use Rattle.std.proofs.lemmas.Bool.{false≢true}
use Rattle.decl_groups.proofs.Basics.{no_member, first_member, later_member, member_cases}
use Rattle.elm_tree.specs.Tree.{Pos, Word, Long}
use Rattle.elm_canon.specs.Names.{Name, same_name}
use Rattle.elm_canon.specs.declared.reference.Ref.{Ref}
use Rattle.elm_canon.specs.declared.reference.Ref.TheVariants.{Local, Top}
use Rattle.elm_base.specs.declared.fault.Code.TheVariants.{UnknownConstructor, UnknownOperator}
use Rattle.canon_env.specs.Imports.{name_of}
use Rattle.canon_env.specs.Exposing.{is_operator}
use Rattle.canon_env.specs.Found.{Found, Nothing, One, Several}
use Rattle.canon_env.specs.Shown.{MakerMeaning}
use Rattle.canon_env.specs.declared.found.Meant.{Meant}
use Rattle.canon_env.proofs.Adding.{one_name, same_name-sym}
use Rattle.canon_env.specs.Naming.{World, value_found, maker_found, own_name}
use Rattle.canon_env.specs.Locals.{Locals, with_names}
use Rattle.canon_env.specs.Sites.{Site, ValueUse, MakerUse, OperatorUse, faults_at, value_meaning, value_faults}
use Rattle.canon_env.specs.Sites.{local_or, is_unqualified, unless_one, at_word}
use Rattle.canon_expr.specs.Logs.{used_place, local_place}
use Rattle.canon_expr.specs.Callees.{value_of}
use Rattle.elm_canon.specs.Proper.{Scope, among, IsIn, with_all, Proper}
use Rattle.canon_proper.specs.Worlds.{HasNames, operator_ref}
use Rattle.canon_proper.proofs.Scopes.{refs, among-with_all, in_more, in_first, in_later}
use Rattle.canon_proper.proofs.Quiet.{AreSound}

-- ---- sites

-- no faults, and each local name that is used is bound at a place that passes the test
abbrev pub IsQuiet : World → (Pos → Bool) → Site → Type 0
IsQuiet w shown s = (faults_at w s ≡ []) × ((p : Pos) → used_place w s ≡ Some p → shown p ≡ true)

abbrev pub AreQuiet : World → (Pos → Bool) → List Site → Type 0
AreQuiet w shown [] = Unit {0}
AreQuiet w shown (s ∷ sites) = IsQuiet w shown s × AreQuiet w shown sites

pub quiet_split : (w : World) (shown : Pos → Bool) (xs ys : List Site) → AreQuiet w shown (xs ++ ys) →
    AreQuiet w shown xs × AreQuiet w shown ys
quiet_split w shown [] ys q = (tt, q)
quiet_split w shown (x ∷ xs) ys q = let r = quiet_split w shown xs ys q.1 in ((q.0, r.0), r.1)

pub quiet_sound : (w : World) (shown : Pos → Bool) (sites : List Site) → AreQuiet w shown sites → AreSound w sites
quiet_sound w shown [] q = tt
quiet_sound w shown (s ∷ sites) q = (q.0.0, quiet_sound w shown sites q.1)

pub all_quiet : (w : World) (sites : List Site) → AreSound w sites → AreQuiet w (λ p. true) sites
all_quiet w [] q = tt
all_quiet w (s ∷ sites) q = ((q.0, λ p e. refl), all_quiet w sites q.1)

-- ---- where an expression stands

pub record Stands (w : World) (shown : Pos → Bool) (locals : Locals) (scope : Scope) : Type 0 where
  pub names : HasNames w scope
  pub bound : (x : Name) (p : Pos) → locals x ≡ Some p → shown p ≡ true → IsIn (Local x) scope
  pub free : (x : Name) → is_some (locals x) ≡ false → among (Local x) scope ≡ false

-- a word of that name stands there
abbrev pub IsNamed : List Word → Name → Pos → Type 0
IsNamed ws x p = (v : Word) × Contains ws v × (name_of v ≡ x) × (v.place ≡ p)

pub named : (ws : List Word) (locals : Locals) (x : Name) (p : Pos) → with_names ws locals x ≡ Some p →
    IsNamed ws x p ⊎ (locals x ≡ Some p)
named [] locals x p e = inr e
named (v ∷ ws) locals x p e = by (same_name (name_of v) x) refl e (λ h. named ws locals x p h)
  where
    by : (b : Bool) → same_name (name_of v) x ≡ b → (if b then Some v.place else with_names ws locals x) ≡ Some p →
        (with_names ws locals x ≡ Some p → IsNamed ws x p ⊎ (locals x ≡ Some p)) →
        IsNamed (v ∷ ws) x p ⊎ (locals x ≡ Some p)
    by true same h rest = inl (v, first_member v ws, one_name (name_of v) x same, (cc))
    by false same h rest =
        ⊎_elim (λ n. inl (n.0, later_member v n.0 ws n.1, n.2, n.3)) (λ k. inr k) (rest h)

pub unnamed : (ws : List Word) (locals : Locals) (x : Name) → is_some (with_names ws locals x) ≡ false →
    (among (Local x) (refs ws) ≡ false) × (is_some (locals x) ≡ false)
unnamed [] locals x e = (refl, e)
unnamed (v ∷ ws) locals x e = by (same_name (name_of v) x) refl e (λ h. unnamed ws locals x h)
  where
    by : (b : Bool) → same_name (name_of v) x ≡ b → is_some (if b then Some v.place else with_names ws locals x) ≡ false →
        (is_some (with_names ws locals x) ≡ false → (among (Local x) (refs ws) ≡ false) × (is_some (locals x) ≡ false)) →
        (among (Local x) (refs (v ∷ ws)) ≡ false) × (is_some (locals x) ≡ false)
    by true same h rest = absurd (false≢true (sym h))
    by false same h rest =
        let r = rest h in
        (ap (λ b. if b then true else among (Local x) (refs ws)) (same_name-sym x (name_of v) ∙ same) ∙ r.0, r.1)

pub word_in : (ws : List Word) (v : Word) → Contains ws v → IsIn (Local (name_of v)) (refs ws)
word_in [] v m = absurd (no_member v m)
word_in (x ∷ ws) v m =
    ⊎_elim (λ e. subst (λ z. IsIn (Local (name_of z)) (refs (x ∷ ws))) e (in_first (Local (name_of x)) (refs ws)))
    (λ k. in_later (Local (name_of v)) (Local (name_of x)) (refs ws) (word_in ws v k)) (member_cases x v ws m)

pub names_more : (w : World) (xs : List Ref) (scope : Scope) → HasNames w scope → HasNames w (with_all xs scope)
names_more w xs scope h = record {
  values = λ x m e. in_more (Top m.home (own_name x)) xs scope (h.values x m e);
  makers = λ x m e. in_more (Top m.home (own_name x)) xs scope (h.makers x m e);
  operators = λ op e. in_more (operator_ref op) xs scope (h.operators op e);
}

or_left : (a b : Bool) → a ≡ true → (a || b) ≡ true
or_left a b e = ap (λ c. c || b) e

or_none : (a b : Bool) → a ≡ false → b ≡ false → (a || b) ≡ false
or_none a b e f = ap (λ c. c || b) e ∙ f

pub stands_with : (w : World) (shown : Pos → Bool) (locals : Locals) (scope : Scope) (ws : List Word) →
    Stands w shown locals scope → Stands w shown (with_names ws locals) (with_all (refs ws) scope)
stands_with w shown locals scope ws st = record {
  names = names_more w (refs ws) scope st.names;
  bound = λ x p e s. ⊎_elim
      (λ n. among-with_all (Local x) (refs ws) scope
      ∙ or_left (among (Local x) (refs ws)) (among (Local x) scope)
      (subst (λ z. IsIn (Local z) (refs ws)) n.2 (word_in ws n.0 n.1)))
      (λ k. in_more (Local x) (refs ws) scope (st.bound x p k s)) (named ws locals x p e);
  free = λ x e.
      let r = unnamed ws locals x e in
      among-with_all (Local x) (refs ws) scope
      ∙ or_none (among (Local x) (refs ws)) (among (Local x) scope) r.0 (st.free x r.1);
}

-- ---- values, constructors, operators

pub value_proper : (w : World) (shown : Pos → Bool) (locals : Locals) (scope : Scope) → Stands w shown locals scope →
    (x : Long) → IsQuiet w shown (ValueUse locals x) → Proper scope (value_of x (value_meaning w locals x))
unfolding faults_at used_place
value_proper w shown locals scope st x q =
    by (if is_unqualified x then locals (own_name x) else None) (value_found w x) (local (is_unqualified x))
    (λ m e. st.names.values x m e) q.0 q.1
  where
    local : (b : Bool) (p : Pos) → (if b then locals (own_name x) else None) ≡ Some p → locals (own_name x) ≡ Some p
    local true p e = e
    local false p e = absurd (cc)

    by : (o : Option Pos) (f : Found (Unit {0})) → ((p : Pos) → o ≡ Some p → locals (own_name x) ≡ Some p) →
        ((m : Meant (Unit {0})) → f ≡ One m → IsIn (Top m.home (own_name x)) scope) →
        value_faults x (local_or o f) ≡ [] → ((p : Pos) → local_place (local_or o f) ≡ Some p → shown p ≡ true) →
        Proper scope (value_of x (local_or o f))
    by (Some p) f l g e u = st.bound (own_name x) p (l p refl) (u p refl)
    by None Nothing l g e u = absurd (cc)
    by None Several l g e u = absurd (cc)
    by None (One m) l g e u = g m refl

pub maker_one : (w : World) (shown : Pos → Bool) (x : Long) → IsQuiet w shown (MakerUse x) →
    (m : Meant MakerMeaning) × (maker_found w x ≡ One m)
unfolding faults_at
maker_one w shown x q = by (maker_found w x) q.0
  where
    by : (f : Found MakerMeaning) → unless_one UnknownConstructor x f (λ _. []) ≡ [] → (m : Meant MakerMeaning) × (f ≡ One m)
    by Nothing e = absurd (cc)
    by Several e = absurd (cc)
    by (One m) e = (m, refl)

pub operator_known : (w : World) (shown : Pos → Bool) (op : Word) → IsQuiet w shown (OperatorUse op) →
    is_operator op.text ≡ true
unfolding faults_at
operator_known w shown op q = by (is_operator op.text) q.0
  where
    by : (b : Bool) → (if b then [] else (at_word UnknownOperator op ∷ [])) ≡ [] → b ≡ true
    by true e = refl
    by false e = absurd (cc)
