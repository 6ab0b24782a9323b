-- Definitions that have a name: at most one does.
use Rattle.std.proofs.Common.{◌≡◌, ℕ, zero, suc, ◌+◌, ◌≤◌, List, [], ◌∷◌, ◌++◌, Bool, true, false, cond}
use Rattle.std.proofs.Common.{Some, refl, sym, ap, ◌∙◌, subst, inl, inr, arith}
use Rattle.std.specs.Prelude.{slice_get}
use Rattle.std.proofs.lemmas.Bool.{cases_lt}
use Rattle.std.proofs.lemmas.Option.{same_Some}
use Rattle.elm_canon.specs.declared.reference.Ref.{Ref}
use Rattle.elm_canon.specs.Tree.{Groups, NoGroup, MoreGroup, Group, Together, Constant, Destructure}
use Rattle.elm_canon.specs.Tree.{Functions, NoFunction, MoreFunction}
use Rattle.elm_canon.specs.Proper.{Scope, among, IsIn, with_all, AreFresh, group_names, function_names}
use Rattle.elm_canon.specs.Proper.{ProperGroups, ProperGroup}
use Rattle.type_items.specs.Definitions.{Definition, stands_before, insert_definition, in_written_order}
use Rattle.type_items.specs.Expressions.{definitions, group_definitions, function_definitions}
use Rattle.elm_canon.proofs.Among.{first, first_or_later, later, with_old, with_new, two_ways, fresh_new}

zero_first : (n : ℕ) → 0 + n ≡ n
zero_first n = omega arith

-- ---- counted by a test

module _ (has : Definition → Bool) where
  abbrev pub count : List Definition → ℕ
  count [] = 0
  count (d ∷ ds) = cond (has d) (suc (count ds)) (count ds)

  count_both : (cs ds : List Definition) → count (cs ++ ds) ≡ count cs + count ds
  count_both [] ds = sym (zero_first (count ds))
  count_both (c ∷ cs) ds = go (has c) (count_both cs ds)
    where
      go : (b : Bool) → count (cs ++ ds) ≡ count cs + count ds
          → cond b (suc (count (cs ++ ds))) (count (cs ++ ds)) ≡ cond b (suc (count cs)) (count cs) + count ds
      go true e = omega (arith, e)
      go false e = e

  turned : (b c : Bool) (n : ℕ) → cond b (suc (cond c (suc n) n)) (cond c (suc n) n)
      ≡ cond c (suc (cond b (suc n) n)) (cond b (suc n) n)
  turned true true n = refl
  turned true false n = refl
  turned false true n = refl
  turned false false n = refl

  count_inserted : (d : Definition) (ds : List Definition) → count (insert_definition d ds) ≡ count (d ∷ ds)
  count_inserted d [] = refl
  count_inserted d (e ∷ es) = go (stands_before e.place d.place) (count_inserted d es)
    where
      go : (b : Bool) → count (insert_definition d es) ≡ count (d ∷ es)
          → count (cond b (e ∷ insert_definition d es) (d ∷ e ∷ es)) ≡ count (d ∷ e ∷ es)
      go true again = ap (λ n. cond (has e) (suc n) n) again ∙ turned (has e) (has d) (count es)
      go false again = refl

  pub count_ordered : (ds : List Definition) → count (in_written_order ds) ≡ count ds
  count_ordered [] = refl
  count_ordered (d ∷ ds) =
      count_inserted d (in_written_order ds) ∙ ap (λ n. cond (has d) (suc n) n) (count_ordered ds)

  is_there : (ds : List Definition) (i : ℕ) (d : Definition) → slice_get ds i ≡ Some d → has d ≡ true → 1 ≤ count ds
  is_there [] i d e h = absurd cc
  is_there (c ∷ ds) zero d e h =
      let same : has c ≡ true = ap has (same_Some c d e) ∙ h in
      let n : count (c ∷ ds) ≡ suc (count ds) = ap (λ b. cond b (suc (count ds)) (count ds)) same in
      omega (arith, n)
  is_there (c ∷ ds) (suc i) d e h = go (has c) (is_there ds i d e h)
    where
      go : (b : Bool) → 1 ≤ count ds → 1 ≤ cond b (suc (count ds)) (count ds)
      go true l = omega (arith, l)
      go false l = l

  -- at most one passes, so two that pass stand at one place
  pub one_place : (ds : List Definition) (i j : ℕ) (d e : Definition) → count ds ≤ 1 → slice_get ds i ≡ Some d
      → slice_get ds j ≡ Some e → has d ≡ true → has e ≡ true → i ≡ j
  one_place [] i j d e few at there h k = absurd cc
  one_place (c ∷ ds) zero zero d e few at there h k = refl
  one_place (c ∷ ds) zero (suc j) d e few at there h k =
      let same : has c ≡ true = ap has (same_Some c d at) ∙ h in
      let n : count (c ∷ ds) ≡ suc (count ds) = ap (λ b. cond b (suc (count ds)) (count ds)) same in
      let m = is_there ds j e there k in
      absurd (omega (arith, n, m, few))
  one_place (c ∷ ds) (suc i) zero d e few at there h k =
      let same : has c ≡ true = ap has (same_Some c e there) ∙ k in
      let n : count (c ∷ ds) ≡ suc (count ds) = ap (λ b. cond b (suc (count ds)) (count ds)) same in
      let m = is_there ds i d at h in
      absurd (omega (arith, n, m, few))
  one_place (c ∷ ds) (suc i) (suc j) d e few at there h k =
      ap suc (one_place ds i j d e (fewer (has c) few) at there h k)
    where
      fewer : (b : Bool) → cond b (suc (count ds)) (count ds) ≤ 1 → count ds ≤ 1
      fewer true l = omega (arith, l)
      fewer false l = l

-- ---- a name

module _ (x : Ref) where
  abbrev pub has_name : Definition → Bool
  has_name d = among x d.names

  abbrev many : List Definition → ℕ
  many ds = count has_name ds

  only : (y : Ref) → IsIn x (y ∷ []) → x ≡ y
  only y h = elim (first_or_later x y [] h) [
    | inl is ↦ is
    | inr k ↦ absurd cc
  ]

  -- at most one has it, and none if it was in scope before
  record AtMostOnce (scope : Scope) (names : List Ref) (ds : List Definition) : Type 0 where
    once : many ds ≤ 1
    new : IsIn x scope → many ds ≡ 0
    named : 1 ≤ many ds → IsIn x names

  -- one definition
  alone : (scope : Scope) (d : Definition) → AreFresh d.names scope → AtMostOnce scope d.names (d ∷ [])
  alone scope d fresh = go (among x d.names) refl
    where
      go : (b : Bool) → among x d.names ≡ b → AtMostOnce scope d.names (d ∷ [])
      go true e =
          let n : many (d ∷ []) ≡ 1 = ap (λ b. cond b 1 0) e in
          record {
            once = omega (arith, n);
            new = λ i. absurd (two_ways (among x scope) i (fresh_new x d.names scope fresh e));
            named = λ l. e;
          }
      go false e =
          let n : many (d ∷ []) ≡ 0 = ap (λ b. cond b 1 0) e in
          record {
            once = omega (arith, n);
            new = λ i. n;
            named = λ l. absurd (omega (arith, n, l));
          }

  functions_once : (scope : Scope) (fs : Functions) → AreFresh (function_names fs) scope
      → AtMostOnce scope (function_names fs) (function_definitions fs)
  functions_once scope NoFunction fresh = record {
    once = omega arith;
    new = λ i. refl;
    named = λ l. absurd (omega (arith, l));
  }
  functions_once scope (MoreFunction title ps e fs) fresh =
      go (among x (title.name ∷ [])) refl (functions_once (title.name ∷ scope) fs fresh.1)
    where
      go : (b : Bool) → among x (title.name ∷ []) ≡ b
          → AtMostOnce (title.name ∷ scope) (function_names fs) (function_definitions fs)
          → AtMostOnce scope (title.name ∷ function_names fs)
          (function_definitions (MoreFunction title ps e fs))
      go true h later_ =
          let is : x ≡ title.name = only title.name h in
          let none_ : many (function_definitions fs) ≡ 0 = later_.new
          (subst (λ y. IsIn x (y ∷ scope)) is (first x scope)) in
          let n : many (function_definitions (MoreFunction title ps e fs)) ≡ suc (many (function_definitions fs)) =
          ap (λ b. cond b (suc (many (function_definitions fs))) (many (function_definitions fs))) h in
          record {
            once = omega (arith, n, none_);
            new = λ i. absurd (two_ways (among title.name scope) (subst (λ y. IsIn y scope) is i) fresh.0);
            named = λ l. subst (λ y. IsIn x (y ∷ function_names fs)) is (first x (function_names fs));
          }
      go false h later_ =
          let n : many (function_definitions (MoreFunction title ps e fs)) ≡ many (function_definitions fs) =
          ap (λ b. cond b (suc (many (function_definitions fs))) (many (function_definitions fs))) h in
          record {
            once = omega (arith, n, later_.once);
            new = λ i. n ∙ later_.new (later x title.name scope i);
            named = λ l. later x title.name (function_names fs) (later_.named (omega (arith, n, l)));
          }

  group_once : (scope : Scope) (g : Group) → ProperGroup scope g
      → AtMostOnce scope (group_names g) (group_definitions g)
  group_once scope (Together fs) p = functions_once scope fs p.0
  group_once scope (Constant title e) p = alone scope _ (p.1.0, tt)
  group_once scope (Destructure q e) p = alone scope _ p.0.1

  pub groups_once : (scope : Scope) (gs : Groups) → ProperGroups scope gs
      → (many (definitions gs) ≤ 1) × (IsIn x scope → many (definitions gs) ≡ 0)
  groups_once scope NoGroup p = (omega arith, λ i. refl)
  groups_once scope (MoreGroup g gs) p =
      let one = group_once scope g p.0 in
      let rest = groups_once (with_all (group_names g) scope) gs p.1 in
      let both = count_both has_name (group_definitions g) (definitions gs) in (
        elim (cases_lt (many (group_definitions g)) 1) [
          | inl l ↦ let k = rest.0 in omega (arith, both, l, k)
          | inr l ↦ let k = rest.1 (with_new x (group_names g) scope (one.named l)) in omega (arith, both, one.once, k)
        ],
        λ i. (
            let k = one.new i in
            let m = rest.1 (with_old x (group_names g) scope i) in
            omega (arith, both, k, m)),
      )
