-- Patterns as definitions: the names that they bind, with their types and their values.
use Rattle.std.proofs.Common.{◌≡◌, ℕ, suc, ◌+◌, List, [], ◌∷◌, ◌++◌, map, length, Bool, true, false, cond, Option, Some, None, ◌⊎◌, inl, inr, refl, sym, ap, ◌∙◌, subst, arith}
use Rattle.std.specs.Prelude.{if◌then◌else◌}
use Rattle.std.specs.List.{enumerate_from}
use Rattle.runs.specs.Ends.{End, Val, Crashed, OutOfFuel, Unsafe, Stuck, then_do}
use Rattle.elm_canon.specs.Names.{Name, same_ref}
use Rattle.elm_canon.specs.declared.reference.Ref.{Ref}
use Rattle.elm_canon.specs.declared.reference.Ref.TheVariants.{Local, Top}
use Rattle.elm_canon.specs.Unions.{alternatives}
use Rattle.elm_canon.specs.Tree.{Pattern, Anything, Named as NamedPattern, As, Exactly, Construct, FieldsOf, LocatedPattern, Patterns}
use Rattle.elm_canon.specs.Tree.{NoPattern, MorePattern}
use Rattle.elm_canon.specs.Proper.{count_of, locals, bound_by, all_bound_by, among}
use Rattle.elm_meaning.specs.Values.{Value, IntV, TextV, TagV, RecordV, CloV, KnownV, WireV, Values, NoValue, MoreValue}
use Rattle.elm_meaning.specs.Values.{FieldValues, Env, Nil, Bind, field_in}
use Rattle.elm_meaning.specs.Envs.{lookup}
use Rattle.elm_meaning.specs.Match.{matches, matches_all, and_match, bind_fields, is_literal, is_of, is_of_one}
use Rattle.type_items.specs.Items.{Place, child, Wanted, at}
use Rattle.std.specs.Option.{option_or}
use Rattle.elm_base.specs.declared.position.Pos.{Pos}
use Rattle.type_items.specs.Scopes.{Entry, Mono, Known, Entries, Scope, elsewhere, entry_of}
use Rattle.type_items.specs.Patterns.{shape, pattern_items, bind_pattern, field_names_before, pattern_names, patterns_names}
use Rattle.typed_values.specs.World.{KnownIn, World}
use Rattle.type_items.specs.Solutions.{Solves}
use Rattle.typed_values.specs.Frames.{Frame, of, Stands, Serves}
use Rattle.typed_values.specs.Typed.{EndsWell, or_named, Has, Fits}
use Rattle.typed_values.specs.Simple.{IsPattern, ArePatterns}
use Rattle.typed_values.specs.Steps.{IfMatched, StepsKeepTypes}
use Rattle.typed_values.proofs.Envs.{look_good}
use Rattle.typed_values.proofs.Patterns.{match_good}
use Rattle.typed_values.proofs.Names.{yes_or_no, not_both, not_or, ref_itself}
use Rattle.type_safety.proofs.Stagings.{AllMono, at_name}

-- ---- names among names

among_split : (y : Ref) (xs ys : List Ref) → among y (xs ++ ys) ≡ true → (among y xs ≡ true) ⊎ (among y ys ≡ true)
among_split y [] ys e = inr e
among_split y (x ∷ xs) ys e = go (same_ref y x) e (among_split y xs ys)
  where
    go : (b : Bool) → (if b then true else among y (xs ++ ys)) ≡ true → (among y (xs ++ ys) ≡ true → (among y xs ≡ true) ⊎ (among y ys ≡ true))
        → ((if b then true else among y xs) ≡ true) ⊎ (among y ys ≡ true)
    go true f again = inl refl
    go false f again = again f

among_neither : (y : Ref) (xs ys : List Ref) → among y (xs ++ ys) ≡ false → (among y xs ≡ false) × (among y ys ≡ false)
among_neither y [] ys e = (refl, e)
among_neither y (x ∷ xs) ys e = go (same_ref y x) e (among_neither y xs ys)
  where
    go : (b : Bool) → (if b then true else among y (xs ++ ys)) ≡ false → (among y (xs ++ ys) ≡ false → (among y xs ≡ false) × (among y ys ≡ false))
        → ((if b then true else among y xs) ≡ false) × (among y ys ≡ false)
    go true f again = not_both true refl f
    go false f again = again f

among_head : (y x : Ref) (xs : List Ref) → among y (x ∷ xs) ≡ true → among y xs ≡ false → same_ref y x ≡ true
among_head y x xs e n = go (same_ref y x) e
  where
    go : (b : Bool) → (if b then true else among y xs) ≡ true → b ≡ true
    go true f = refl
    go false f = not_both (among y xs) f n

among_cons : (y x : Ref) (xs : List Ref) → among y (x ∷ xs) ≡ false → (same_ref y x ≡ false) × (among y xs ≡ false)
among_cons y x xs e = go (same_ref y x) e
  where
    go : (b : Bool) → (if b then true else among y xs) ≡ false → (b ≡ false) × (among y xs ≡ false)
    go true f = not_both true refl f
    go false f = (refl, f)

pass : (y x : Ref) (entry : Entry) (ns : Entries) → same_ref y x ≡ false → at_name y ((x, entry) ∷ ns) ≡ at_name y ns
pass y x entry ns e = ap (λ b. cond b (Some entry) (at_name y ns)) e

stop : (y x : Ref) (entry : Entry) (ns : Entries) → same_ref y x ≡ true → at_name y ((x, entry) ∷ ns) ≡ Some entry
stop y x entry ns e = ap (λ b. cond b (Some entry) (at_name y ns)) e

-- ---- the names of patterns

abbrev fields_from : List Name → Place → ℕ → List (Name × Wanted)
fields_from xs q i = map (λ x. (x.1, at (child q x.0))) (enumerate_from i xs)

fields_mono : (xs : List Name) (q : Place) (i : ℕ) (rest : Entries) → AllMono rest → AllMono (field_names_before (fields_from xs q i) rest)
fields_mono [] q i rest h = h
fields_mono (x ∷ xs) q i rest h = fields_mono xs q (i + 1) ((Local x, Mono (at (child q i))) ∷ rest) h

fields_skip : (xs : List Name) (q : Place) (i : ℕ) (rest : Entries) (y : Ref) → among y (locals xs) ≡ false → at_name y (field_names_before (fields_from xs q i) rest) ≡ at_name y rest
fields_skip [] q i rest y e = refl
fields_skip (x ∷ xs) q i rest y e =
    let n = among_cons y (Local x) (locals xs) e in
    fields_skip xs q (i + 1) ((Local x, Mono (at (child q i))) ∷ rest) y n.1 ∙ pass y (Local x) (Mono (at (child q i))) rest n.0

fields_has : (xs : List Name) (q : Place) (i : ℕ) (rest : Entries) (y : Ref) → among y (locals xs) ≡ true
    → (t : Wanted) × (at_name y (field_names_before (fields_from xs q i) rest) ≡ Some (Mono t))
fields_has [] q i rest y e = not_both false e refl
fields_has (x ∷ xs) q i rest y e =
    let inner : Entries = (Local x, Mono (at (child q i))) ∷ rest in
    elim (yes_or_no (among y (locals xs))) [
      | inl later ↦ fields_has xs q (i + 1) inner y later
      | inr none ↦ (at (child q i), fields_skip xs q (i + 1) inner y none ∙ stop y (Local x) (Mono (at (child q i))) rest (among_head y (Local x) (locals xs) e none))
    ]

mutual
  pub names_mono : (q : Pattern) (known : Known) (p : Place) (t : Wanted) (rest : Entries) → AllMono rest → AllMono (pattern_names q known p t rest)
  names_mono Anything known p t rest h = h
  names_mono (NamedPattern x) known p t rest h = h
  names_mono (As q x) known p t rest h = names_mono q known p t rest h
  names_mono (Exactly l) known p t rest h = h
  names_mono (Construct u c qs) known p t rest h = all_names_mono qs known (child p 1) 0 (shape u c known (child p 0)).parts rest h
  names_mono (FieldsOf xs) known p t rest h = fields_mono xs (child p 1) 0 rest h
  names_mono (LocatedPattern start q) known p t rest h = names_mono q known p t rest h

  all_names_mono : (qs : Patterns) (known : Known) (p : Place) (i : ℕ) (ts : List Wanted) (rest : Entries) → AllMono rest → AllMono (patterns_names qs known p i ts rest)
  all_names_mono NoPattern known p i ts rest h = h
  all_names_mono (MorePattern q qs) known p i [] rest h = h
  all_names_mono (MorePattern q qs) known p i (t ∷ ts) rest h =
      all_names_mono qs known p (i + 1) ts (pattern_names q known (child p i) t rest) (names_mono q known (child p i) t rest h)

mutual
  pub names_skip : (q : Pattern) (known : Known) (p : Place) (t : Wanted) (rest : Entries) (y : Ref) → among y (bound_by q) ≡ false → at_name y (pattern_names q known p t rest) ≡ at_name y rest
  names_skip Anything known p t rest y e = refl
  names_skip (NamedPattern x) known p t rest y e = pass y (Local x) (Mono t) rest (among_cons y (Local x) [] e).0
  names_skip (As q x) known p t rest y e =
      let n = among_neither y (bound_by q) (Local x ∷ []) e in
      pass y (Local x) (Mono t) (pattern_names q known p t rest) (among_cons y (Local x) [] n.1).0 ∙ names_skip q known p t rest y n.0
  names_skip (Exactly l) known p t rest y e = refl
  names_skip (Construct u c qs) known p t rest y e = all_names_skip qs known (child p 1) 0 (shape u c known (child p 0)).parts rest y e
  names_skip (FieldsOf xs) known p t rest y e = fields_skip xs (child p 1) 0 rest y e
  names_skip (LocatedPattern start q) known p t rest y e = names_skip q known p t rest y e

  all_names_skip : (qs : Patterns) (known : Known) (p : Place) (i : ℕ) (ts : List Wanted) (rest : Entries) (y : Ref) → among y (all_bound_by qs) ≡ false
      → at_name y (patterns_names qs known p i ts rest) ≡ at_name y rest
  all_names_skip NoPattern known p i ts rest y e = refl
  all_names_skip (MorePattern q qs) known p i [] rest y e = refl
  all_names_skip (MorePattern q qs) known p i (t ∷ ts) rest y e =
      let n = among_neither y (bound_by q) (all_bound_by qs) e in
      all_names_skip qs known p (i + 1) ts (pattern_names q known (child p i) t rest) y n.1 ∙ names_skip q known (child p i) t rest y n.0

module _ (W : World) (steps : StepsKeepTypes W) where
  mutual
    pub names_has : (q : Pattern) → IsPattern W q → (known : Known) (p : Place) (t : Wanted) (rest : Entries) (y : Ref) → KnownIn W known → among y (bound_by q) ≡ true
        → (u : Wanted) × (at_name y (pattern_names q known p t rest) ≡ Some (Mono u))
    names_has Anything proper known p t rest y k e = not_both false e refl
    names_has (NamedPattern x) proper known p t rest y k e = (t, stop y (Local x) (Mono t) rest (among_head y (Local x) [] e refl))
    names_has (As q x) proper known p t rest y k e = elim (yes_or_no (same_ref y (Local x))) [
      | inl own ↦ (t, stop y (Local x) (Mono t) (pattern_names q known p t rest) own)
      | inr other ↦ (let r = names_has q proper known p t rest y k (inside (among_split y (bound_by q) (Local x ∷ []) e) other) in
          (r.0, pass y (Local x) (Mono t) (pattern_names q known p t rest) other ∙ r.1))
    ]
      where
        inside : (among y (bound_by q) ≡ true) ⊎ (among y (Local x ∷ []) ≡ true) → same_ref y (Local x) ≡ false → among y (bound_by q) ≡ true
        inside (inl f) n = f
        inside (inr f) n = not_both (same_ref y (Local x)) (among_head y (Local x) [] f refl) n
    names_has (Exactly l) proper known p t rest y k e = not_both false e refl
    names_has (Construct u c qs) proper known p t rest y k e =
        all_names_has qs proper.2 known (child p 1) 0 (shape u c known (child p 0)).parts rest y k (steps.counts u c known (child p 0) k proper.0 ∙ sym proper.1) e
    names_has (FieldsOf xs) proper known p t rest y k e = fields_has xs (child p 1) 0 rest y e
    names_has (LocatedPattern start q) proper known p t rest y k e = names_has q proper known p t rest y k e

    all_names_has : (qs : Patterns) → ArePatterns W qs → (known : Known) (p : Place) (i : ℕ) (ts : List Wanted) (rest : Entries) (y : Ref) → KnownIn W known → length ts ≡ count_of qs
        → among y (all_bound_by qs) ≡ true → (u : Wanted) × (at_name y (patterns_names qs known p i ts rest) ≡ Some (Mono u))
    all_names_has NoPattern proper known p i ts rest y k n e = not_both false e refl
    all_names_has (MorePattern q qs) proper known p i [] rest y k n e = absurd (let z : 0 ≡ suc (count_of qs) = n in omega arith)
    all_names_has (MorePattern q qs) proper known p i (t ∷ ts) rest y k n e =
        let inner = pattern_names q known (child p i) t rest in
        let m : length ts ≡ count_of qs = (let z : suc (length ts) ≡ suc (count_of qs) = n in omega arith) in
        elim (yes_or_no (among y (all_bound_by qs))) [
          | inl later ↦ all_names_has qs proper.1 known p (i + 1) ts inner y k m later
          | inr none ↦ (let r = names_has q proper.0 known (child p i) t rest y k (inside (among_split y (bound_by q) (all_bound_by qs) e) none) in
              (r.0, all_names_skip qs known p (i + 1) ts inner y none ∙ r.1))
        ]
      where
        inside : (among y (bound_by q) ≡ true) ⊎ (among y (all_bound_by qs) ≡ true) → among y (all_bound_by qs) ≡ false → among y (bound_by q) ≡ true
        inside (inl f) none = f
        inside (inr f) none = not_both (among y (all_bound_by qs)) f none

-- ---- patterns bind local names alone

top_locals : (m n : Name) (xs : List Name) → among (Top m n) (locals xs) ≡ false
top_locals m n [] = refl
top_locals m n (x ∷ xs) = top_locals m n xs

neither : (y : Ref) (xs ys : List Ref) → among y xs ≡ false → among y ys ≡ false → among y (xs ++ ys) ≡ false
neither y [] ys e f = f
neither y (x ∷ xs) ys e f = go (same_ref y x) e (λ g. neither y xs ys g f)
  where
    go : (b : Bool) → (if b then true else among y xs) ≡ false → (among y xs ≡ false → among y (xs ++ ys) ≡ false) → (if b then true else among y (xs ++ ys)) ≡ false
    go true g again = g
    go false g again = again g

mutual
  pub top_unbound : (m n : Name) (q : Pattern) → among (Top m n) (bound_by q) ≡ false
  top_unbound m n Anything = refl
  top_unbound m n (NamedPattern x) = refl
  top_unbound m n (As q x) = neither (Top m n) (bound_by q) (Local x ∷ []) (top_unbound m n q) refl
  top_unbound m n (Exactly l) = refl
  top_unbound m n (Construct u c qs) = tops_unbound m n qs
  top_unbound m n (FieldsOf xs) = top_locals m n xs
  top_unbound m n (LocatedPattern start q) = top_unbound m n q

  tops_unbound : (m n : Name) (qs : Patterns) → among (Top m n) (all_bound_by qs) ≡ false
  tops_unbound m n NoPattern = refl
  tops_unbound m n (MorePattern q qs) = neither (Top m n) (bound_by q) (all_bound_by qs) (top_unbound m n q) (tops_unbound m n qs)

-- ---- what a pattern binds

abbrev pub bind_all : List (Ref × Value) → Env → Env
bind_all [] env = env
bind_all (b ∷ bs) env = Bind b.0 b.1 (bind_all bs env)

bind_append : (xs ys : List (Ref × Value)) (env : Env) → bind_all (xs ++ ys) env ≡ bind_all xs (bind_all ys env)
bind_append [] ys env = refl
bind_append (x ∷ xs) ys env = ap (Bind x.0 x.1) (bind_append xs ys env)

-- the same whatever the environment; and names that are not the pattern's are left alone
abbrev Leaves : List Ref → List (Ref × Value) → Type 0
Leaves xs bs = (y : Ref) → among y xs ≡ false → (env : Env) → lookup y (bind_all bs env) ≡ lookup y env

pub record Binds (q : Pattern) (v : Value) : Type 0 where
  pub binds : List (Ref × Value)
  pub matched : (env : Env) → matches q v env ≡ Val (Some (bind_all binds env))
  pub leaves : Leaves (bound_by q) binds

record BindsAll (qs : Patterns) (vs : Values) : Type 0 where
  binds : List (Ref × Value)
  matched : (env : Env) → matches_all qs vs env ≡ Val (Some (bind_all binds env))
  leaves : Leaves (all_bound_by qs) binds

record BindsFields (xs : List Name) (fs : FieldValues) : Type 0 where
  binds : List (Ref × Value)
  matched : (env : Env) → bind_fields xs fs env ≡ Val (Some (bind_all binds env))
  leaves : Leaves (locals xs) binds

skip_bind : (y x : Ref) (v : Value) (env : Env) → same_ref y x ≡ false → lookup y (Bind x v env) ≡ lookup y env
skip_bind y x v env e = ap (λ b. if b then Val v else lookup y env) e

leaves_join : (xs ys : List Ref) (as_ bs : List (Ref × Value)) → Leaves xs as_ → Leaves ys bs → Leaves (xs ++ ys) (bs ++ as_)
leaves_join xs ys as_ bs l m y n env =
    let o = among_neither y xs ys n in
    ap (lookup y) (bind_append bs as_ env) ∙ (m y o.1 (bind_all as_ env) ∙ l y o.0 env)

and_some : (o : End (Option Env)) (go : Env → End (Option Env)) (env : Env) → and_match o go ≡ Val (Some env) → (mid : Env) × (o ≡ Val (Some mid)) × (go mid ≡ Val (Some env))
and_some (Val None) go env e = absurd cc
and_some (Val (Some mid)) go env e = (mid, refl, e)
and_some (Crashed t) go env e = absurd cc
and_some OutOfFuel go env e = absurd cc
and_some Unsafe go env e = absurd cc
and_some Stuck go env e = absurd cc

then_some : {X : Type 0} (o : End X) (go : X → End (Option Env)) (env : Env) → then_do o go ≡ Val (Some env) → (x : X) × (o ≡ Val x) × (go x ≡ Val (Some env))
then_some (Val x) go env e = (x, refl, e)
then_some (Crashed t) go env e = absurd cc
then_some OutOfFuel go env e = absurd cc
then_some Unsafe go env e = absurd cc
then_some Stuck go env e = absurd cc

fields_bind : (xs : List Name) (fs : FieldValues) (env inner : Env) → bind_fields xs fs env ≡ Val (Some inner) → BindsFields xs fs
fields_bind [] fs env inner e = record { binds = []; matched = λ other. refl; leaves = λ y n other. refl }
fields_bind (x ∷ xs) fs env inner e =
    let s = then_some (field_in x fs) (λ v. bind_fields xs fs (Bind (Local x) v env)) inner e in
    let r = fields_bind xs fs (Bind (Local x) s.0 env) inner s.2 in
    let own : List (Ref × Value) = (Local x, s.0) ∷ [] in record {
      binds = r.binds ++ own;
      matched = λ other.
          ap (λ o. then_do o (λ v. bind_fields xs fs (Bind (Local x) v other))) s.1
          ∙ (r.matched (Bind (Local x) s.0 other) ∙ ap (λ z. Val (Some z)) (sym (bind_append r.binds own other)));
      leaves = leaves_join (Local x ∷ []) (locals xs) own r.binds (λ y n other. skip_bind y (Local x) s.0 other (among_cons y (Local x) [] n).0) r.leaves;
    }

tested : (b : Bool) (env inner : Env) → Val (if b then Some env else None) ≡ Val (Some inner) → b ≡ true
tested true env inner e = refl
tested false env inner e = absurd cc

mutual
  pub match_binds : (q : Pattern) (v : Value) (env inner : Env) → matches q v env ≡ Val (Some inner) → Binds q v
  match_binds Anything v env inner e = record { binds = []; matched = λ other. refl; leaves = λ y n other. refl }
  match_binds (NamedPattern x) v env inner e = record {
    binds = (Local x, v) ∷ [];
    matched = λ other. refl;
    leaves = λ y n other. skip_bind y (Local x) v other (among_cons y (Local x) [] n).0;
  }
  match_binds (As q x) v env inner e =
      let s = and_some (matches q v env) (λ mid. Val (Some (Bind (Local x) v mid))) inner e in
      let r = match_binds q v env s.0 s.1 in
      let own : List (Ref × Value) = (Local x, v) ∷ [] in record {
        binds = own ++ r.binds;
        matched = λ other. ap (λ o. and_match o (λ mid. Val (Some (Bind (Local x) v mid)))) (r.matched other);
        leaves = leaves_join (bound_by q) (Local x ∷ []) r.binds own r.leaves (λ y n other. skip_bind y (Local x) v other (among_cons y (Local x) [] n).0);
      }
  match_binds (Exactly l) v env inner e =
      let s = then_some (is_literal l v) (λ same. Val (if same then Some env else None)) inner e in
      let holds = tested s.0 env inner s.2 in record {
        binds = [];
        matched = λ other. ap (λ o. then_do o (λ same. Val (if same then Some other else None))) (s.1 ∙ ap (λ b. Val b) holds);
        leaves = λ y n other. refl;
      }
  match_binds (Construct u c qs) (TagV tag vs) env inner e = go (is_of_one tag vs (alternatives u)) (is_of tag vs c) refl refl e (match_all_binds qs vs env inner)
    where
      go : (b d : Bool) → is_of_one tag vs (alternatives u) ≡ b → is_of tag vs c ≡ d → (if b then (if d then matches_all qs vs env else Val None) else Stuck) ≡ Val (Some inner)
          → (matches_all qs vs env ≡ Val (Some inner) → BindsAll qs vs) → Binds (Construct u c qs) (TagV tag vs)
      go true true i j f again =
          let r = again f in record {
            binds = r.binds;
            matched = λ other.
                ap (λ b. if b then (if is_of tag vs c then matches_all qs vs other else Val None) else Stuck) i
                ∙ (ap (λ b. if b then matches_all qs vs other else Val None) j ∙ r.matched other);
            leaves = r.leaves;
          }
      go true false i j f again = absurd cc
      go false d i j f again = absurd cc
  match_binds (Construct u c qs) (IntV n) env inner e = absurd cc
  match_binds (Construct u c qs) (TextV us) env inner e = absurd cc
  match_binds (Construct u c qs) (RecordV fs) env inner e = absurd cc
  match_binds (Construct u c qs) (CloV own ps b) env inner e = absurd cc
  match_binds (Construct u c qs) (KnownV k vs) env inner e = absurd cc
  match_binds (Construct u c qs) (WireV x) env inner e = absurd cc
  match_binds (FieldsOf xs) (RecordV fs) env inner e =
      let r = fields_bind xs fs env inner e in record { binds = r.binds; matched = r.matched; leaves = r.leaves }
  match_binds (FieldsOf xs) (IntV n) env inner e = absurd cc
  match_binds (FieldsOf xs) (TextV us) env inner e = absurd cc
  match_binds (FieldsOf xs) (TagV tag vs) env inner e = absurd cc
  match_binds (FieldsOf xs) (CloV own ps b) env inner e = absurd cc
  match_binds (FieldsOf xs) (KnownV k vs) env inner e = absurd cc
  match_binds (FieldsOf xs) (WireV x) env inner e = absurd cc
  match_binds (LocatedPattern start q) v env inner e =
      let r = match_binds q v env inner e in record { binds = r.binds; matched = r.matched; leaves = r.leaves }

  match_all_binds : (qs : Patterns) (vs : Values) (env inner : Env) → matches_all qs vs env ≡ Val (Some inner) → BindsAll qs vs
  match_all_binds NoPattern NoValue env inner e = record { binds = []; matched = λ other. refl; leaves = λ y n other. refl }
  match_all_binds NoPattern (MoreValue v vs) env inner e = absurd cc
  match_all_binds (MorePattern q qs) NoValue env inner e = absurd cc
  match_all_binds (MorePattern q qs) (MoreValue v vs) env inner e =
      let s = and_some (matches q v env) (λ mid. matches_all qs vs mid) inner e in
      let r = match_binds q v env s.0 s.1 in
      let rs = match_all_binds qs vs s.0 inner s.2 in record {
        binds = rs.binds ++ r.binds;
        matched = λ other.
            ap (λ o. and_match o (λ mid. matches_all qs vs mid)) (r.matched other)
            ∙ (rs.matched (bind_all r.binds other) ∙ ap (λ z. Val (Some z)) (sym (bind_append rs.binds r.binds other)));
        leaves = leaves_join (bound_by q) (all_bound_by qs) r.binds rs.binds r.leaves rs.leaves;
      }

-- ---- environments with what a pattern binds

abbrev pub hide_binds : List (Ref × Value) → (Ref → Bool) → Ref → Bool
hide_binds [] V = V
hide_binds (b ∷ bs) V = hide_binds bs (or_named b.0 V)

pub hide_lookup : (bs : List (Ref × Value)) (V : Ref → Bool) (y : Ref) → hide_binds bs V y ≡ false → (V y ≡ false) × ((env : Env) → lookup y (bind_all bs env) ≡ lookup y env)
hide_lookup [] V y n = (n, λ env. refl)
hide_lookup (b ∷ bs) V y n =
    let r = hide_lookup bs (or_named b.0 V) y n in
    let o = not_or (same_ref y b.0) (V y) r.0 in
    (o.1, λ env. skip_bind y b.0 b.1 (bind_all bs env) o.0 ∙ r.1 env)

pub fits_binds : (w : World) (S : Scope) (a : Frame) (bs : List (Ref × Value)) (env : Env) (V : Ref → Bool)
    → ((x : Ref) (v : Value) → V x ≡ false → lookup x (bind_all bs Nil) ≡ Val v → (entry : Entry) → entry_of S x ≡ Some entry → Serves (λ g. Has w v g) entry S a)
    → Fits w env (hide_binds bs V) S a → Fits w (bind_all bs env) V S a
fits_binds w S a [] env V serve fits = fits
fits_binds w S a (b ∷ bs) env V serve fits = (
  (λ n entry is. serve b.0 b.1 n (ap (λ z. if z then Val b.1 else lookup b.0 (bind_all bs Nil)) (ref_itself b.0)) entry is),
  fits_binds w S a bs env (or_named b.0 V) (λ x v n is entry found.
      let o = not_or (same_ref x b.0) (V x) n in
      serve x v o.1 (skip_bind x b.0 b.1 (bind_all bs Nil) o.0 ∙ is) entry found) fits,
)

abbrev pub is_top : Ref → Bool
is_top (Local x) = false
is_top (Top m x) = true

pub bound_local : (q : Pattern) (x : Ref) → among x (bound_by q) ≡ true → is_top x ≡ false
bound_local q (Local x) e = refl
bound_local q (Top m x) e = not_both (among (Top m x) (bound_by q)) e (top_unbound m x q)

-- what a pattern binds of a typed value
pub binds_typed : (W : World) (steps : StepsKeepTypes W) (q : Pattern) → IsPattern W q → (v : Value) (b : Binds q v) (known : Known) (start : Pos) (p : Place) (t : Wanted) (g : Frame) (x : Ref) (u : Wanted)
    → KnownIn W known → Stands g → Solves g.values (pattern_items q known start p t) → Has W v (of g t) → among x (bound_by q) ≡ true
    → at_name x (pattern_names q known p t []) ≡ Some (Mono u) → EndsWell (λ w. Has W w (of g u)) (lookup x (bind_all b.binds Nil))
binds_typed W steps q proper v b known start p t g x u same stands sol has own named =
    let S : Scope = record { known = known; names = []; constants = [] } in
    let R = bind_pattern q p t S in
    let matched = match_good W steps is_top g stands q proper v Nil S start p t sol has (same, λ y entry e. nothing y entry e) in
    let fits : Fits W (bind_all b.binds Nil) is_top R g = subst (λ o. EndsWell (IfMatched (λ inner. Fits W inner is_top R g)) o) (b.matched Nil) matched in
    look_good W (bind_all b.binds Nil) is_top R x (Mono u) g fits (bound_local q x own) (ap (λ o. option_or o (elsewhere known x)) named)
  where
    nothing : (y : Ref) (entry : Entry) → entry_of (record { known = known; names = []; constants = [] }) y ≡ Some entry → is_top y ≡ true
    nothing (Local z) entry e = absurd cc
    nothing (Top m z) entry e = refl
