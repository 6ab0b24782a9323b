-- Modules after modules: what is in scope after them, and whose it is. `next_good`.
use Rattle.std.proofs.Common.{◌≡◌, ℕ, List, [], ◌∷◌, ◌++◌, map, Bool, true, false, refl, sym, ap, ◌∙◌, subst}
use Rattle.std.proofs.Common.{◌⊎◌, inl, inr, ⊎_elim, ◌||◌, if◌then◌else◌, append-nil, append_assoc}
use Rattle.std.specs.Prelude.{flat_map, not}
use Rattle.std.specs.List.{list_any, filter}
use Rattle.std.proofs.lemmas.Bool.{false≢true}
use Rattle.std.proofs.lemmas.Grind.{flat_map-append}
use Rattle.decl_groups.proofs.Reaching.{or_cases}
use Rattle.decl_groups.proofs.Ordering.{not_true}
use Rattle.elm_tree.specs.Regroup.{Row, operator_rows}
use Rattle.std.specs.Str.{bytes_eq}
use Rattle.std.proofs.lemmas.Slice.Eq.{bytes_eq-Decides}
use Rattle.elm_canon.specs.Names.{Name, same_name}
use Rattle.elm_canon.specs.Tree.{Declaration, UnionDeclaration}
use Rattle.elm_canon.specs.declared.unions.Alternative.{Alternative}
use Rattle.elm_canon.specs.declared.reference.Ref.{Ref}
use Rattle.elm_canon.specs.declared.reference.Ref.TheVariants.{Local, Top}
use Rattle.canon_env.specs.Env.{Known}
use Rattle.canon_env.specs.Shown.{Shown}
use Rattle.canon_module.specs.Resolve.{IsModule, module_shows}
use Rattle.canon_env.specs.Exposing.{is_operator}
use Rattle.canon_env.proofs.Adding.{one_name}
use Rattle.elm_canon.specs.Proper.{Scope, among, IsIn, with_all}
use Rattle.elm_canon.specs.Declarations.{ProperDeclarations, declared_names, after_declarations}
use Rattle.canon_proper.specs.Narrower.{IsNarrower}
use Rattle.canon_proper.specs.Worlds.{operator_ref}
use Rattle.canon_proper.proofs.Scopes.{in_more, in_first, name_itself}
use Rattle.canon_proper.proofs.Apart.{in_either, in_left, in_right}
use Rattle.canon_proper.proofs.Narrowing.{narrower_with}
use Rattle.module_proper.specs.Modules.{value_refs, maker_refs, IsAround, IsOffered, AreOffered, HasAll, tops, AreRead}
use Rattle.module_proper.specs.Modules.{AreBare, union_makers, alias_makers}
use Rattle.elm_canon.specs.Spelled.{are_fields}
use Rattle.emit_laws.specs.Programs.{in_ports}
use Rattle.emit_size_laws.specs.Small.{PortsHaveFields}
use Rattle.module_proper.specs.Records.{AliasesHaveRecords, ImportsHaveRecords}
use Rattle.canon_proper.specs.Rows.{AreUnions, AreConstructors}
use Rattle.module_proper.proofs.Numbers.{no_local, one_home}
use Rattle.module_proper.proofs.Groups.{declarations_more}
use Rattle.module_proper.proofs.Resolved.{resolved_proper, resolved_there}
use Rattle.module_proper.proofs.Showing.{offers}
use Rattle.link.specs.Made.{refs_used}
use Rattle.project_proper.proofs.Sublists.{names_all}
use Rattle.project_proper.proofs.Left.{in_with, in_front, after_names, after_only, all_new, narrow_declaration}
use Rattle.project_proper.proofs.Used.{only}
use Rattle.project_proper.proofs.Within.{offered_within, records_within}
use Rattle.project_proper.specs.Resolved.{Resolved, all_declarations, scope_after, IsImport, AreImports, ShowsTypes}
use Rattle.project_proper.specs.Resolved.{IsUnused, HasOperator, IsNext, AreNext, HomesApart}
use Rattle.module_proper.proofs.PortProperResolved.{payloads_well, names_once, shown_well}

-- ---- homes

abbrev pub home_of : Resolved → Name
home_of r = r.setting.home

-- a name of that module
abbrev pub is_own : Name → Ref → Bool
is_own home (Local x) = false
is_own home (Top m x) = same_name m home

-- a name of one of these modules
abbrev pub is_of : List Resolved → Ref → Bool
is_of rs (Local x) = false
is_of rs (Top m x) = list_any (λ q. same_name m (home_of q)) rs

pub same_back : (a b : Name) → same_name a b ≡ false → same_name b a ≡ false
same_back a b e = not_true (same_name b a) (λ k. false≢true (sym e ∙ ap (same_name a) (one_name b a k) ∙ name_itself a))

abbrev pub AllOwn : Name → List Ref → Type 0
AllOwn home refs = (x : Ref) → IsIn x refs → is_own home x ≡ true

abbrev pub Owned : List Resolved → Type 0
Owned [] = Unit {0}
Owned (r ∷ rs) = AllOwn (home_of r) (names_all r.whole.declarations) × Owned rs

-- ---- names of modules, one after another

names_both : (ds es : List Declaration) → names_all (ds ++ es) ≡ names_all ds ++ names_all es
names_both [] es = refl
names_both (d ∷ ds) es =
    ap (λ xs. declared_names d ++ xs) (names_both ds es) ∙ sym
    (append_assoc (declared_names d) (names_all ds) (names_all es))

pub in_names : (x : Ref) (ds es : List Declaration) → IsIn x (names_all (ds ++ es)) →
    IsIn x (names_all ds) ⊎ IsIn x (names_all es)
in_names x ds es e = in_either x (names_all ds) (names_all es) (subst (IsIn x) (names_both ds es) e)

pub names_left : (x : Ref) (ds es : List Declaration) → IsIn x (names_all ds) → IsIn x (names_all (ds ++ es))
names_left x ds es e = subst (IsIn x) (sym (names_both ds es)) (in_left x (names_all ds) (names_all es) e)

pub names_right : (x : Ref) (ds es : List Declaration) → IsIn x (names_all es) → IsIn x (names_all (ds ++ es))
names_right x ds es e = subst (IsIn x) (sym (names_both ds es)) (in_right x (names_all ds) (names_all es) e)

own_of : (x : Ref) (q : Resolved) (rs : List Resolved) → is_own (home_of q) x ≡ true → is_of (q ∷ rs) x ≡ true
own_of (Local x) q rs e = e
own_of (Top m x) q rs e = ap (λ b. b || list_any (λ p. same_name m (home_of p)) rs) e

more_of : (x : Ref) (q : Resolved) (rs : List Resolved) → is_of rs x ≡ true → is_of (q ∷ rs) x ≡ true
more_of (Local x) q rs e = e
more_of (Top m x) q rs e = by (same_name m (home_of q))
  where
    by : (b : Bool) → (b || list_any (λ p. same_name m (home_of p)) rs) ≡ true
    by true = refl
    by false = e

pub owned_of : (rs : List Resolved) → Owned rs → (x : Ref) → IsIn x (names_all (all_declarations rs)) →
    is_of rs x ≡ true
owned_of [] o x e = absurd (false≢true e)
owned_of (r ∷ rs) o x e =
    ⊎_elim (λ k. own_of x r rs (o.0 x k)) (λ k. more_of x r rs (owned_of rs o.1 x k))
    (in_names x r.whole.declarations (all_declarations rs) e)

pub owned_both : (rs qs : List Resolved) → Owned rs → Owned qs → Owned (rs ++ qs)
owned_both [] qs a b = b
owned_both (r ∷ rs) qs a b = (a.0, owned_both rs qs a.1 b)

pub owned_last : (rs qs : List Resolved) → Owned (rs ++ qs) → Owned qs
owned_last [] qs a = a
owned_last (r ∷ rs) qs a = owned_last rs qs a.1

-- what is in scope after modules is a name of theirs
pub in_scope_of : (rs : List Resolved) → Owned rs → (x : Ref) → IsIn x (scope_after rs) → is_of rs x ≡ true
in_scope_of rs o x e =
    ⊎_elim (owned_of rs o x) (λ k. absurd (false≢true k)) (after_only (all_declarations rs) [] x e)

pub in_scope : (rs : List Resolved) (x : Ref) → IsIn x (names_all (all_declarations rs)) → IsIn x (scope_after rs)
in_scope rs x e = after_names (all_declarations rs) [] x e

-- names of modules are none of another one
pub none_of : (rs : List Resolved) (home x : Name) → list_any (λ q. same_name home (home_of q)) rs ≡ false →
    is_of rs (Top home x) ≡ true → ⊥
none_of rs home x e k = false≢true (sym e ∙ k)

-- ---- functions of operators that are not in scope

unfoldable pub op_refs : List Ref
op_refs = map (λ o. operator_ref o.text) operator_rows

unfoldable pub later : Scope → List Ref
later scope = filter (λ x. not (among x scope)) op_refs

in_filter : (test : Ref → Bool) (xs : List Ref) (x : Ref) → IsIn x (filter test xs) → IsIn x xs × (test x ≡ true)
in_filter test [] x e = absurd (false≢true e)
in_filter test (y ∷ xs) x e = by (test y) refl e (in_filter test xs x)
  where
    next : IsIn x xs × (test x ≡ true) → IsIn x (y ∷ xs) × (test x ≡ true)
    next h = (in_right x (y ∷ []) xs h.0, h.1)

    by : (b : Bool) → test y ≡ b → IsIn x (if b then y ∷ filter test xs else filter test xs) →
        (IsIn x (filter test xs) → IsIn x xs × (test x ≡ true)) → IsIn x (y ∷ xs) × (test x ≡ true)
    by true t e rest =
        ⊎_elim (λ k. (in_left x (y ∷ []) xs k, ap test (only x y k) ∙ t)) (λ k. next (rest k))
        (in_either x (y ∷ []) (filter test xs) e)
    by false t e rest = next (rest e)

filter_in : (test : Ref → Bool) (xs : List Ref) (x : Ref) → IsIn x xs → test x ≡ true → IsIn x (filter test xs)
filter_in test [] x e t = absurd (false≢true e)
filter_in test (y ∷ xs) x e t = by (test y) refl (filter_in test xs x)
  where
    by : (b : Bool) → test y ≡ b → (IsIn x xs → test x ≡ true → IsIn x (filter test xs)) →
        IsIn x (if b then y ∷ filter test xs else filter test xs)
    by true s rest =
        ⊎_elim (in_left x (y ∷ []) (filter test xs)) (λ k. in_right x (y ∷ []) (filter test xs) (rest k t))
        (in_either x (y ∷ []) xs e)
    by false s rest =
        ⊎_elim (λ k. absurd (false≢true (sym s ∙ ap test (sym (only x y k)) ∙ t))) (λ k. rest k t)
        (in_either x (y ∷ []) xs e)

among_rows : (op : List ℕ) (rows : List Row) → list_any (λ (o : Row). bytes_eq op o.text) rows ≡ true →
    IsIn (operator_ref op) (map (λ (o : Row). operator_ref o.text) rows)
among_rows op [] e = absurd (false≢true e)
among_rows op (o ∷ rows) e =
    ⊎_elim
    (λ k. in_left (operator_ref op) (operator_ref o.text ∷ []) (map (λ (o : Row). operator_ref o.text) rows)
    (subst (λ t. IsIn (operator_ref op) (operator_ref t ∷ [])) ((bytes_eq-Decides op o.text).0 k)
    (in_first (operator_ref op) [])))
    (λ k. in_right (operator_ref op) (operator_ref o.text ∷ []) (map (λ (o : Row). operator_ref o.text) rows)
    (among_rows op rows k))
    (or_cases (bytes_eq op o.text) (list_any (λ (o : Row). bytes_eq op o.text) rows) e)

or_more : (b c : Bool) → c ≡ true → (b || c) ≡ true
or_more true c e = refl
or_more false c e = e

or_here : (b c : Bool) → b ≡ true → (b || c) ≡ true
or_here true c e = refl
or_here false c e = absurd (false≢true e)

rows_among : (x : Ref) (rows : List Row) → IsIn x (map (λ (o : Row). operator_ref o.text) rows) →
    (op : List ℕ) × ((list_any (λ (o : Row). bytes_eq op o.text) rows ≡ true) × (x ≡ operator_ref op))
rows_among x [] e = absurd (false≢true e)
rows_among x (o ∷ rows) e =
    ⊎_elim
    (λ k. (
      o.text,
      (
        or_here (bytes_eq o.text o.text) (list_any (λ (q : Row). bytes_eq o.text q.text) rows)
            ((bytes_eq-Decides o.text o.text).1 refl),
        only x (operator_ref o.text) k,
      ),
    ))
    (λ k. let h = rows_among x rows k in
    (h.0, (or_more (bytes_eq h.0 o.text) (list_any (λ (q : Row). bytes_eq h.0 q.text) rows) h.1.0, h.1.1)))
    (in_either x (operator_ref o.text ∷ []) (map (λ (o : Row). operator_ref o.text) rows) e)

not_true_is : (b : Bool) → not b ≡ true → b ≡ false
not_true_is true e = absurd (false≢true e)
not_true_is false e = refl

later_is : (scope : Scope) (x : Ref) → IsIn x (later scope) →
    (among x scope ≡ false) × ((op : List ℕ) × ((is_operator op ≡ true) × (x ≡ operator_ref op)))
unfolding later op_refs
later_is scope x e =
    let h = in_filter (λ x. not (among x scope)) op_refs x e in
    (not_true_is (among x scope) h.1, rows_among x operator_rows h.0)

in_later : (scope : Scope) (op : List ℕ) → is_operator op ≡ true → among (operator_ref op) scope ≡ false →
    IsIn (operator_ref op) (later scope)
unfolding later op_refs
in_later scope op e f =
    filter_in (λ x. not (among x scope)) op_refs (operator_ref op) (among_rows op operator_rows e) (ap not f)

-- ---- what modules show

bare_unions : (us : List UnionDeclaration) → AreBare us → AreUnions us
bare_unions [] b = tt
bare_unions (u ∷ us) b = (subst (AreConstructors u.union) (sym b.0) tt, bare_unions us b.1)

no_union_makers : (us : List UnionDeclaration) → AreBare us → flat_map union_makers us ≡ []
no_union_makers [] b = refl
no_union_makers (u ∷ us) b =
    ap (λ cs. map (λ (c : Alternative). c.name) cs ++ flat_map union_makers us) b.0 ∙ no_union_makers us b.1

types_offered : (home : Name) (s : Shown) (t : Scope) → ShowsTypes s → IsOffered home s t
types_offered home s t b = record {
  values = λ x e. absurd (false≢true (subst (λ xs. IsIn x (tops home xs)) b.0 e));
  makers = λ x e. absurd (false≢true (subst (λ xs. IsIn x (tops home xs))
      (ap (λ xs. xs ++ flat_map alias_makers s.aliases) (no_union_makers s.unions b.1.1)
      ∙ ap (λ ds. flat_map alias_makers ds) b.1.0) e));
  unions = bare_unions s.unions b.1.1;
}

-- what is known of a module that was resolved without faults
pub record IsFit (r : Resolved) : Type 0 where
  pub is : IsModule r.setting r.written.declarations r.whole
  pub read : AreRead r.setting.home r.written.declarations
  pub given : AreBare r.setting.given
  pub values : HasAll (names_all r.whole.declarations) (value_refs (home_of r) r.written.declarations)
  pub makers : HasAll (names_all r.whole.declarations) (maker_refs (home_of r) r.written.declarations)
  pub payloads : PortsHaveFields r.whole.declarations
  pub ports : are_fields (in_ports r.whole.declarations) ≡ true
  pub aliases : AliasesHaveRecords (module_shows r.setting r.written r.whole).aliases

abbrev pub AllFit : List Resolved → Type 0
AllFit [] = Unit {0}
AllFit (r ∷ rs) = IsFit r × AllFit rs

fit_both : (rs qs : List Resolved) → AllFit rs → AllFit qs → AllFit (rs ++ qs)
fit_both [] qs a b = b
fit_both (r ∷ rs) qs a b = (a.0, fit_both rs qs a.1 b)

import_offered : (rs : List Resolved) (k : Known) (t : Scope) → AllFit rs → HasAll t (names_all (all_declarations rs)) →
    IsImport rs k → IsOffered k.import.home k.shown t
import_offered [] k t a h i = types_offered k.import.home k.shown t i
import_offered (r ∷ rs) k t a h i =
    ⊎_elim
    (λ s. subst (λ m. IsOffered m k.shown t) (sym s.0)
    (offered_within (home_of r) k.shown (module_shows r.setting r.written r.whole) s.1 t
    (offers r.setting r.written r.whole t a.0.is a.0.read a.0.given (λ x e. own x (a.0.values x e))
    (λ x e. own x (a.0.makers x e)))))
    (import_offered rs k t a.1 (λ x e. h x (names_right x r.whole.declarations (all_declarations rs) e))) i
  where
    own : (x : Ref) → IsIn x (names_all r.whole.declarations) → IsIn x t
    own x e = h x (names_left x r.whole.declarations (all_declarations rs) e)

imports_offered : (rs : List Resolved) (ks : List Known) (t : Scope) → AllFit rs →
    HasAll t (names_all (all_declarations rs)) → AreImports rs ks → AreOffered ks t
imports_offered rs [] t a h i = tt
imports_offered rs (k ∷ ks) t a h i = (import_offered rs k t a h i.0, imports_offered rs ks t a h i.1)

import_records : (rs : List Resolved) (k : Known) → AllFit rs → IsImport rs k → AliasesHaveRecords k.shown.aliases
import_records [] k a i = subst AliasesHaveRecords (sym i.1.0) tt
import_records (r ∷ rs) k a i =
    ⊎_elim (λ s. records_within k.shown (module_shows r.setting r.written r.whole) s.1 a.0.aliases)
    (import_records rs k a.1) i

imports_records : (rs : List Resolved) (ks : List Known) → AllFit rs → AreImports rs ks → ImportsHaveRecords ks
imports_records rs [] a i = tt
imports_records rs (k ∷ ks) a i = (import_records rs k a i.0, imports_records rs ks a i.1)

-- ---- the scope around a module

abbrev pub later_than : List Resolved → Resolved → List Ref
later_than before r = later (with_all (value_refs (home_of r) r.written.declarations) (scope_after before))

module _ (before : List Resolved) (r : Resolved) (fit : AllFit before) (n : IsNext before r) where
  abbrev values : List Ref
  values = value_refs (home_of r) r.written.declarations

  pub around : (t : Scope) → HasAll t (scope_after before) → ((x : Name) → among (Local x) t ≡ false) →
      ((x : Name) → among (Top (home_of r) x) t ≡ false) → HasAll t (later_than before r) →
      IsAround (home_of r) r.setting.imports r.written.declarations t
  around t has no_locals nothing_own more = record {
    name = n.name;
    no_locals = no_locals;
    nothing_own = nothing_own;
    offered = imports_offered before r.setting.imports t fit (λ x e. has x (in_scope before x e)) n.imports;
    operators = λ op e. operator op e (n.operators op e);
  }
    where
      wider : (x : Ref) → IsIn x (with_all values (scope_after before)) → IsIn x (with_all values t)
      wider x e =
          ⊎_elim (in_front x values t) (λ k. in_more x values t (has x k)) (in_with x values (scope_after before) e)

      missing : (op : List ℕ) → is_operator op ≡ true → (b : Bool) →
          among (operator_ref op) (with_all values (scope_after before)) ≡ b → IsIn (operator_ref op)
          (with_all values t)
      missing op e true h = wider (operator_ref op) h
      missing op e false h =
          in_more (operator_ref op) values t (more (operator_ref op)
          (in_later (with_all values (scope_after before)) op e h))

      operator : (op : List ℕ) → is_operator op ≡ true → HasOperator (scope_after before) r op →
          IsIn (operator_ref op) (with_all values t)
      operator op e (inl k) = wider (operator_ref op) k
      operator op e (inr k) =
          missing op e (among (operator_ref op) (with_all values (scope_after before))) refl

  pub no_later_local : (x : Name) → among (Local x) (later_than before r) ≡ false
  no_later_local x =
      not_true (among (Local x) (later_than before r))
      (λ e. let h = later_is (with_all values (scope_after before)) (Local x) e in let z = h.1.1.1 in absurd cc)

  -- a function of an operator that is not in scope is one of another module, and not used
  pub later_unused : (x : Ref) → IsIn x (later_than before r) →
      (is_own (home_of r) x ≡ false) × IsUnused x r.whole.declarations
  later_unused x e =
      let h = later_is (with_all values (scope_after before)) x e in
      let op = h.1.0 in
      let same = h.1.1.1 in
      ⊎_elim (λ k. absurd (false≢true (sym h.0 ∙ subst (λ z. IsIn z (with_all values (scope_after before))) (sym same)
      k)))
      (λ k. (ap (is_own (home_of r)) same ∙ k.0, subst (λ z. IsUnused z r.whole.declarations) (sym same) k.1))
      (n.operators op h.1.1.0)

-- ---- declarations in the scope without those functions

unused_not : (x : Ref) (d : Declaration) (ds : List Declaration) → IsUnused x (d ∷ ds) → IsIn x (refs_used d) → ⊥
unused_not x d ds u e = false≢true (sym u.0 ∙ e)

without : (xs : List Ref) (ds : List Declaration) (a b : Scope) → IsNarrower a b →
    ((x : Ref) → IsIn x a → IsIn x b ⊎ IsIn x xs) → ((x : Ref) → IsIn x xs → IsUnused x ds) →
    ProperDeclarations a ds → ProperDeclarations b ds
without xs [] a b n s u p = tt
without xs (d ∷ ds) a b n s u p = (
  narrow_declaration d a b n
      (λ x i e. ⊎_elim (λ k. k) (λ k. absurd (unused_not x d ds (u x k) i)) (s x e)) p.0,
  without xs ds (with_all names a) (with_all names b) (narrower_with names a b n)
      (λ x e. ⊎_elim (λ k. inl (in_front x names b k))
      (λ k. ⊎_elim (λ l. inl (in_more x names b l)) inr (s x k)) (in_with x names a e))
      (λ x k. (u x k).1) p.1,
)
  where
    names : List Ref
    names = declared_names d

-- ---- one module more

pub record Good (before : List Resolved) : Type 0 where
  pub proper : ProperDeclarations [] (all_declarations before)
  pub owned : Owned before
  pub fit : AllFit before

declared_both : (before : List Resolved) (r : Resolved) →
    all_declarations (before ++ r ∷ []) ≡ all_declarations before ++ r.whole.declarations
declared_both before r =
    flat_map-append (λ (q : Resolved). q.whole.declarations) before (r ∷ [])
    ∙ ap (λ ds. all_declarations before ++ ds) (append-nil r.whole.declarations)

own_top : (home : Name) (xs : List Name) (x : Ref) → IsIn x (tops home xs) → is_own home x ≡ true
own_top home xs (Local x) e = absurd (false≢true (sym (no_local home x xs) ∙ e))
own_top home xs (Top m x) e =
    subst (λ k. same_name m k ≡ true) (one_home m home x xs e) (name_itself m)

own_not_in : (home : Name) (t : Scope) → ((x : Name) → among (Top home x) t ≡ false) → (x : Ref) →
    is_own home x ≡ true → IsIn x t → ⊥
own_not_in home t nothing (Local x) o e = false≢true o
own_not_in home t nothing (Top m x) o e =
    false≢true (sym (nothing x) ∙ subst (λ k. IsIn (Top k x) t) (one_name m home o) e)

module _ (before : List Resolved) (r : Resolved) (g : Good before) (n : IsNext before r)
    (new : list_any (λ q. same_name (home_of r) (home_of q)) before ≡ false) where
  abbrev home : Name
  home = home_of r

  abbrev ds : List Declaration
  ds = r.whole.declarations

  abbrev s : Scope
  s = scope_after before

  abbrev extra : List Ref
  extra = later_than before r

  abbrev t : Scope
  t = with_all extra s

  no_locals : (x : Name) → among (Local x) t ≡ false
  no_locals x =
      not_true (among (Local x) t)
      (λ e. ⊎_elim (λ k. false≢true (sym (no_later_local before r g.fit n x) ∙ k))
      (λ k. false≢true (in_scope_of before g.owned (Local x) k)) (in_with (Local x) extra s e))

  nothing_own : (x : Name) → among (Top home x) t ≡ false
  nothing_own x =
      not_true (among (Top home x) t)
      (λ e. ⊎_elim
      (λ k. false≢true (sym (later_unused before r g.fit n (Top home x) k).0 ∙ name_itself home))
      (λ k. none_of before home x new (in_scope_of before g.owned (Top home x) k)) (in_with (Top home x) extra s e))

  is_around : IsAround home r.setting.imports r.written.declarations t
  is_around =
      around before r g.fit n t (λ x e. in_more x extra s e) no_locals nothing_own (λ x e. in_front x extra s e)

  proper_wide : ProperDeclarations t ds
  proper_wide = resolved_proper r.setting r.written r.whole t n.is is_around n.read n.none

  pub proper_next : ProperDeclarations s ds
  proper_next =
      without extra ds t s
      (record {
        within = λ x e. in_more x extra s e;
        locals = λ x e. absurd (false≢true (sym (no_locals x) ∙ e));
      })
      (λ x e. ⊎_elim inr inl (in_with x extra s e)) (λ x e. (later_unused before r g.fit n x e).1) proper_wide

  abbrev own_values : List Ref
  own_values = value_refs home r.written.declarations

  abbrev own_makers : List Ref
  own_makers = maker_refs home r.written.declarations

  there : (x : Ref) → among x (after_declarations ds t) ≡ among x (with_all own_values (with_all own_makers t))
  there = resolved_there r.setting r.written r.whole t n.is is_around n.read n.none

  pub names_own : AllOwn home (names_all ds)
  names_own x e =
      ⊎_elim (own_top home _ x)
      (λ k. ⊎_elim (own_top home _ x) (λ l. absurd (false≢true (sym (all_new ds t proper_wide x e) ∙ l)))
      (in_with x own_makers t k)) (in_with x own_values (with_all own_makers t) (sym (there x) ∙ after_names ds t x e))

  -- what the module declares is among the names of its declarations
  declared : (x : Ref) → is_own home x ≡ true → IsIn x (with_all own_values (with_all own_makers t)) →
      IsIn x (names_all ds)
  declared x o e =
      ⊎_elim (λ k. k) (λ k. absurd (own_not_in home t nothing_own x o k)) (after_only ds t x (there x ∙ e))

  pub next_fit : IsFit r
  next_fit =
      let records = imports_records before r.setting.imports g.fit n.imports in
      record {
        is = n.is;
        read = n.read;
        given = n.given;
        values = λ x e. declared x (own_top home _ x e) (in_front x own_values (with_all own_makers t) e);
        makers = λ x e. declared x (own_top home _ x e)
            (in_more x own_values (with_all own_makers t) (in_front x own_makers t e));
        payloads = payloads_well r.setting r.written r.whole n.is n.read n.none records;
        ports = names_once r.setting r.written r.whole n.is n.read n.none t is_around;
        aliases = shown_well r.setting r.written r.whole n.is n.read n.none records;
      }

  pub next_good : Good (before ++ r ∷ [])
  next_good = record {
    proper =
        subst (ProperDeclarations []) (sym (declared_both before r))
        (declarations_more (all_declarations before) ds [] g.proper proper_next);
    owned = owned_both before (r ∷ []) g.owned (names_own, tt);
    fit = fit_both before (r ∷ []) g.fit (next_fit, tt);
  }

pub nothing_good : Good []
nothing_good = record { proper = tt; owned = tt; fit = tt }

-- ---- homes apart

pub new_after : (before : List Resolved) (r : Resolved) (after : List Resolved) → HomesApart (before ++ r ∷ after) →
    list_any (λ q. same_name (home_of r) (home_of q)) after ≡ false
new_after [] r after h = h.0
new_after (q ∷ before) r after h = new_after before r after h.1

or_none : (b c : Bool) → (b || c) ≡ false → (b ≡ false) × (c ≡ false)
or_none true c e = absurd (false≢true (sym e))
or_none false c e = (refl, e)

not_at : (before : List Resolved) (r : Resolved) (after : List Resolved) (q : Name) →
    list_any (λ p. same_name q (home_of p)) (before ++ r ∷ after) ≡ false → same_name q (home_of r) ≡ false
not_at [] r after q e = (or_none (same_name q (home_of r)) (list_any (λ p. same_name q (home_of p)) after) e).0
not_at (p ∷ before) r after q e =
    not_at before r after q (or_none (same_name q (home_of p))
    (list_any (λ p. same_name q (home_of p)) (before ++ r ∷ after)) e).1

pub new_before : (before : List Resolved) (r : Resolved) (after : List Resolved) → HomesApart (before ++ r ∷ after) →
    list_any (λ q. same_name (home_of r) (home_of q)) before ≡ false
new_before [] r after h = refl
new_before (q ∷ before) r after h =
    ap (λ b. b || list_any (λ q. same_name (home_of r) (home_of q)) before)
    (same_back (home_of q) (home_of r) (not_at before r after (home_of q) h.0))
    ∙ new_before before r after h.1

pub all_good : (rest before : List Resolved) → Good before → AreNext before rest → HomesApart (before ++ rest) →
    Good (before ++ rest)
all_good [] before g n h = subst Good (sym (append-nil before)) g
all_good (r ∷ rest) before g n h =
    subst Good (append_assoc before (r ∷ []) rest)
    (all_good rest (before ++ r ∷ []) (next_good before r g n.0 (new_before before r rest h)) n.1
    (subst HomesApart (sym (append_assoc before (r ∷ []) rest)) h))
