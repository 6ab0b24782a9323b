-- Names that are given in turn.
use Rattle.std.proofs.Common.{◌≡◌, ℕ, zero, suc, ◌+◌, ◌≤◌, ◌<◌, List, [], ◌∷◌, ◌++◌, length, map, take, reverse, get_or}
use Rattle.std.proofs.Common.{Bool, true, false, cond, ◌||◌, refl, sym, ◌∙◌, ap, subst, arith, append-nil, ⊎_elim}
use Rattle.std.proofs.Common.{length-append}
use Rattle.std.specs.List.{flat_map}
use Rattle.std.proofs.lemmas.Grind.{flat_map-append}
use Rattle.std.specs.Str.{bytes_eq}
use Rattle.std.specs.HashSet as bag
use Rattle.std.specs.HashSet.{HashSet}
use Rattle.std.proofs.lemmas.List.{reverse-append, take_more, length-reverse}
use Rattle.std.proofs.lemmas.List.Folds.{list_any-append}
use Rattle.std.proofs.lemmas.Bool.{false≢true, cases_eq, cases_lt}
use Rattle.std.proofs.lemmas.Cmp.{nat_list_eq_equiv}
use Rattle.std.proofs.lemmas.Slice.Eq.{bytes_eq-Decides}
use Rattle.elm_type.specs.Types.{Name, Leaf, Free, Fixed, Kind}
use Rattle.elm_type.specs.Nodes.{leaves}
use Rattle.elm_type.specs.declared.node.Node.{Node}
use Rattle.elm_type.specs.declared.class.Class.{Class}
use Rattle.elm_type.specs.declared.class.Class.TheVariants.{Any, Number, Comparable, Appendable, CompAppend}
use Rattle.elm_type.specs.Naming.{suffix, candidate, is_used, first_free, constant_names}
use Rattle.elm_type.specs.Used.{stem, counter, with_counter, Reached, SameNames, Kept}
use Rattle.elm_type.specs.declared.naming.Counters.{Counters}

pub stemmed : (c : Class) (n : ℕ) → (c ≡ Any → ⊥) → stem c ++ suffix n ≡ candidate c n
unfolding candidate
stemmed Any n h = absurd (h refl)
stemmed Number n h = refl
stemmed Comparable n h = refl
stemmed Appendable n h = refl
stemmed CompAppend n h = refl

-- ---- the first that is free

first_by : (b : Bool) (x n r : ℕ) → (b ≡ true → x ≡ r) → (b ≡ false → n ≡ r) → cond b x n ≡ r
first_by true x n r f g = f refl
first_by false x n r f g = g refl

above : (n r : ℕ) → n ≤ r → (n ≡ r → ⊥) → n < r
above n r h f = ⊎_elim (λ e. absurd (f e)) (λ ne. omega (arith, ne)) (cases_eq n r)

same_place : (n r : ℕ) → n ≤ r → (n < r → ⊥) → n ≡ r
same_place n r h f = ⊎_elim (λ e. e) (λ ne. absurd (f (omega (arith, ne)))) (cases_eq n r)

pub first_is : (c : Class) (used : List Name) (r n tries : ℕ) → n ≤ r → r ≤ n + tries → ((m : ℕ) → n ≤ m → m < r → is_used used (candidate c m) ≡ true) →
    (r < n + tries → is_used used (candidate c r) ≡ false) → first_free c used n tries ≡ r
first_is c used r n zero low high all free = omega arith
first_is c used r n (suc tries) low high all free =
    first_by (is_used used (candidate c n)) (first_free c used (suc n) tries) n r
    (λ e. let h : n < r = above n r low (λ k. false≢true (sym (free (omega arith)) ∙ (ap (λ j. is_used used (candidate c j)) (sym k) ∙ e))) in
    first_is c used r (suc n) tries (omega arith) (omega arith) (λ m l u. all m (omega arith) u) (λ u. free (omega arith)))
    (λ e. same_place n r low (λ h. false≢true (sym e ∙ all n (omega arith) h)))

-- ---- what is kept

either : (a b : Bool) → cond a true b ≡ (a || b)
either true b = refl
either false b = refl

or_second : (a b : Bool) → b ≡ true → (a || b) ≡ true
or_second true b e = refl
or_second false b e = e

same_itself : (x : Name) → bytes_eq x x ≡ true
same_itself x = (bytes_eq-Decides x x).1 refl

each_counter : (Q : Class → ℕ → Type 0) (c : Class) (v : ℕ) (k : Counters) → Q c v → ((d : Class) → Q d (counter d k)) → (d : Class) → Q d (counter d (with_counter c v k))
each_counter Q Any v k h f Any = h
each_counter Q Any v k h f Number = f Number
each_counter Q Any v k h f Comparable = f Comparable
each_counter Q Any v k h f Appendable = f Appendable
each_counter Q Any v k h f CompAppend = f CompAppend
each_counter Q Number v k h f Any = f Any
each_counter Q Number v k h f Number = h
each_counter Q Number v k h f Comparable = f Comparable
each_counter Q Number v k h f Appendable = f Appendable
each_counter Q Number v k h f CompAppend = f CompAppend
each_counter Q Comparable v k h f Any = f Any
each_counter Q Comparable v k h f Number = f Number
each_counter Q Comparable v k h f Comparable = h
each_counter Q Comparable v k h f Appendable = f Appendable
each_counter Q Comparable v k h f CompAppend = f CompAppend
each_counter Q Appendable v k h f Any = f Any
each_counter Q Appendable v k h f Number = f Number
each_counter Q Appendable v k h f Comparable = f Comparable
each_counter Q Appendable v k h f Appendable = h
each_counter Q Appendable v k h f CompAppend = f CompAppend
each_counter Q CompAppend v k h f Any = f Any
each_counter Q CompAppend v k h f Number = f Number
each_counter Q CompAppend v k h f Comparable = f Comparable
each_counter Q CompAppend v k h f Appendable = f Appendable
each_counter Q CompAppend v k h f CompAppend = h

more_reached : (used : List Name) (x : Name) (d : Class) (m : ℕ) → Reached used d m → Reached (x ∷ used) d m
more_reached used x d m h = record {
  below = let b : m ≤ length used = h.below in omega arith;
  passed = λ j less. or_second (bytes_eq (candidate d j) x) (is_used used (candidate d j)) (h.passed j less);
}

given_reached : (used : List Name) (x : Name) (c : Class) (k r : ℕ) → x ≡ candidate c r → Reached used c k → r ≤ length used →
    ((m : ℕ) → k ≤ m → m < r → is_used used (candidate c m) ≡ true) → Reached (x ∷ used) c (r + 1)
given_reached used x c k r is h less all = record {
  below = omega arith;
  passed = λ j u.
      ⊎_elim
      (λ e. ap (λ y. bytes_eq y x || is_used used y) (ap (candidate c) e ∙ sym is) ∙ ap (λ b. b || is_used used x) (same_itself x))
      (λ ne. or_second (bytes_eq (candidate c j) x) (is_used used (candidate c j))
      (⊎_elim (λ l. h.passed j l) (λ l. all j l (omega (arith, ne))) (cases_lt j k)))
      (cases_eq j r);
}

pub kept_more : {S : Type 0} (names others : HashSet Name S) (next after : Counters) (used : List Name) (c : Class) (r : ℕ) (x : Name) → x ≡ candidate c r →
    Kept names next used → r ≤ length used → ((m : ℕ) → counter c next ≤ m → m < r → is_used used (candidate c m) ≡ true) →
    ((q : Name) → bag.contains bytes_eq others q ≡ cond (bytes_eq x q) true (bag.contains bytes_eq names q)) → after ≡ with_counter c (r + 1) next →
    Kept others after (x ∷ used)
kept_more names others next after used c r x is h less all u e = record {
  has = λ q.
      u q ∙ (ap (λ b. cond b true (bag.contains bytes_eq names q)) (nat_list_eq_equiv.symm x q)
      ∙ (ap (λ b. cond (bytes_eq q x) true b) (h.has q) ∙ either (bytes_eq q x) (is_used used q)));
  reached = λ d. subst (λ k. Reached (x ∷ used) d (counter d k)) (sym e)
      (each_counter (λ d m. Reached (x ∷ used) d m) c (r + 1) next (given_reached used x c (counter c next) r is (h.reached c) less all)
      (λ d. more_reached used x d (counter d next) (h.reached d)) d);
}

pub pushed_used : (names constants : List Name) (x : Name) → reverse (names ++ x ∷ []) ++ constants ≡ x ∷ (reverse names ++ constants)
pushed_used names constants x = ap (λ ys. ys ++ constants) (reverse-append names (x ∷ []))

-- ---- constants

constants_append : (xs ys : List (Leaf ℕ)) → constant_names (xs ++ ys) ≡ constant_names xs ++ constant_names ys
constants_append [] ys = refl
constants_append (Free i ∷ xs) ys = constants_append xs ys
constants_append (Fixed r ∷ xs) ys = ap (λ zs. r.name ∷ zs) (constants_append xs ys)

-- one node more
pub constants_more : (ns : List Node) (i : ℕ) (n : Node) → i < length ns → n ≡ get_or ns i n →
    constant_names (flat_map leaves (take i ns)) ++ constant_names (leaves n) ≡ constant_names (flat_map leaves (take (i + 1) ns))
constants_more ns i n less is =
    sym (constants_append (flat_map leaves (take i ns)) (leaves n))
    ∙ ap constant_names
    (ap (λ xs. flat_map leaves (take i ns) ++ xs) (sym (append-nil (leaves n)))
    ∙ (sym (flat_map-append leaves (take i ns) (n ∷ []))
    ∙ ap (flat_map leaves) (ap (λ m. take i ns ++ m ∷ []) is ∙ sym (take_more ns i n less))))

-- ---- the set of constants

used_append : (xs ys : List Name) (q : Name) → is_used (xs ++ ys) q ≡ (is_used xs q || is_used ys q)
used_append xs ys q = list_any-append (bytes_eq q) xs ys

or_turned : (a b : Bool) → (a || b) ≡ (b || (a || false))
or_turned true true = refl
or_turned true false = refl
or_turned false true = refl
or_turned false false = refl

-- one name more
pub set_more : {S : Type 0} (set more : HashSet Name S) (xs : List Name) (i : ℕ) (x : Name) → i < length xs → x ≡ get_or xs i x → SameNames set (take i xs) →
    ((q : Name) → bag.contains bytes_eq more q ≡ cond (bytes_eq x q) true (bag.contains bytes_eq set q)) → SameNames more (take (i + 1) xs)
set_more set more xs i x less is h u = λ q.
    u q
    ∙ (ap (λ b. cond b true (bag.contains bytes_eq set q)) (nat_list_eq_equiv.symm x q)
    ∙ (ap (λ b. cond (bytes_eq q x) true b) (h q)
    ∙ (either (bytes_eq q x) (is_used (take i xs) q)
    ∙ (or_turned (bytes_eq q x) (is_used (take i xs) q)
    ∙ (sym (used_append (take i xs) (x ∷ []) q)
    ∙ ap (λ ys. is_used ys q) (ap (λ y. take i xs ++ y ∷ []) is ∙ sym (take_more xs i x less)))))))

-- ---- the beginning

pub kept_first : {S : Type 0} (set : HashSet Name S) (next : Counters) (constants : List Name) → SameNames set constants → ((c : Class) → counter c next ≡ 0) → Kept set next constants
kept_first set next constants h z = record {
  has = h;
  reached = λ c. record {
    below = let e : counter c next ≡ 0 = z c in omega arith;
    passed = λ m less. let e : counter c next ≡ 0 = z c in absurd (omega arith);
  };
}

pub no_counter : (c : Class) → counter c (record { any = 0; number = 0; comparable = 0; appendable = 0; compappend = 0 }) ≡ 0
no_counter Any = refl
no_counter Number = refl
no_counter Comparable = refl
no_counter Appendable = refl
no_counter CompAppend = refl

-- ---- one name more

pub record Place (used : List Name) (c : Class) (k r : ℕ) : Type 0 where
  pub first : first_free c used 0 (length used) ≡ r
  pub bound : r ≤ length used
  pub passed : (m : ℕ) → k ≤ m → m < r → is_used used (candidate c m) ≡ true

pub place_is : {S : Type 0} (set : HashSet Name S) (next : Counters) (used : List Name) (c : Class) (r from end : ℕ) → Kept set next used → from ≡ counter c next → end ≡ length used →
    (from ≤ end → (from ≤ r) × (r ≤ end)) → ((m : ℕ) → from ≤ m → m < r → bag.contains bytes_eq set (candidate c m) ≡ true) →
    (r < end → bag.contains bytes_eq set (candidate c r) ≡ false) → Place used c (counter c next) r
place_is set next used c r from end k f e bounds passed free =
    let below : counter c next ≤ length used = (k.reached c).below in
    let b = bounds (omega arith) in
    let low : from ≤ r = b.0 in
    let high : r ≤ end = b.1 in
    let after : (m : ℕ) → counter c next ≤ m → m < r → is_used used (candidate c m) ≡ true = λ m l u. sym (k.has (candidate c m)) ∙ passed m (omega arith) u in
    record {
      first = first_is c used r 0 (length used) (omega arith) (omega arith)
          (λ m l u. ⊎_elim (λ h. (k.reached c).passed m h) (λ h. after m h u) (cases_lt m (counter c next)))
          (λ u. sym (k.has (candidate c r)) ∙ free (omega arith));
      bound = omega arith;
      passed = after;
    }

pub length_used : (names constants : List Name) → length (reverse names ++ constants) ≡ length constants + length names
length_used names constants = omega (arith, length-append (reverse names) constants, length-reverse names)

pub classes_of : {X : Type 0} (v : X → Kind) (f : X → Class) (ks : List X) → ((k : X) → (v k).class ≡ f k) → map (λ k. k.class) (map v ks) ≡ map f ks
classes_of v f [] h = refl
classes_of v f (k ∷ ks) h = ap (λ c. c ∷ map (λ j. j.class) (map v ks)) (h k) ∙ ap (λ cs. f k ∷ cs) (classes_of v f ks h)
