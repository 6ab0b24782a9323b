-- Classes that meet.
use Rattle.std.proofs.Common.{◌≡◌, ℕ, zero, suc, Bool, true, false, cond, not, ◌&&◌, ◌||◌, Option, Some, None, nat_eq}
use Rattle.std.proofs.Common.{codes, refl, sym, ◌∙◌, ap, subst, arith}
use Rattle.std.specs.Str.{bytes_eq}
use Rattle.std.proofs.lemmas.Bool.{eqb-true, false≢true}
use Rattle.std.proofs.lemmas.Slice.Eq.{bytes_eq-Decides}
use Rattle.elm_type.specs.Types.{Name, ElmTypes, End, Closed, Over, Made, Record, NoType, MoreType, NoField, MoreField}
use Rattle.elm_type.specs.Types.{Fields, count, Rigid, int_type}
use Rattle.elm_type.specs.Classes.{meet, is_below, is_int, is_char, is_string, is_list, is_tuple, asks, demand_met}
use Rattle.elm_type.specs.Classes.{meets, all_meet, meets_some, MeetsBoth, Ground, is_any, is_met, allows, TypeHead}
use Rattle.elm_type.specs.Classes.{MadeHead, RecordHead, head_of, AllowsSome}
use Rattle.elm_type.specs.declared.class.Class.{Class}
use Rattle.elm_type.specs.declared.class.Class.TheVariants.{Any, Number, Comparable, Appendable, CompAppend}
use Rattle.elm_type.specs.declared.head.Head.{Head}
use Rattle.elm_type.specs.declared.head.Head.TheVariants as head
use Rattle.elm_type.specs.declared.demands.Demand.{Demand}
use Rattle.elm_type.specs.declared.demands.Demand.TheVariants.{Never, Always, OfParts}

-- ---- tests

and_true : (b : Bool) → (b && true) ≡ b
and_true true = refl
and_true false = refl

and_false : (b : Bool) → (b && false) ≡ false
and_false true = refl
and_false false = refl

and_itself : (b : Bool) → (b && b) ≡ b
and_itself true = refl
and_itself false = refl

and_turned : (a b : Bool) → (a && b) ≡ (b && a)
and_turned true b = sym (and_true b)
and_turned false b = sym (and_false b)

and_first : (a b : Bool) → (a && b) ≡ true → a ≡ true
and_first true b e = refl
and_first false b e = e

and_second : (a b : Bool) → (a && b) ≡ true → b ≡ true
and_second true b e = e
and_second false b e = absurd (false≢true e)

not_both : (b : Bool) → (b ≡ true → ⊥) → b ≡ false
not_both true h = absurd (h refl)
not_both false h = refl

-- a test of all classes
every : (Class → Bool) → Bool
every f = f Any && (f Number && (f Comparable && (f Appendable && f CompAppend)))

each : (f : Class → Bool) → every f ≡ true → (c : Class) → f c ≡ true
unfolding every
each f e Any = and_first (f Any) (f Number && (f Comparable && (f Appendable && f CompAppend))) e
each f e Number = and_first (f Number) (f Comparable && (f Appendable && f CompAppend)) (and_second (f Any) (f Number && (f Comparable && (f Appendable && f CompAppend))) e)
each f e Comparable =
    and_first (f Comparable) (f Appendable && f CompAppend)
    (and_second (f Number) (f Comparable && (f Appendable && f CompAppend)) (and_second (f Any) (f Number && (f Comparable && (f Appendable && f CompAppend))) e))
each f e Appendable =
    and_first (f Appendable) (f CompAppend)
    (and_second (f Comparable) (f Appendable && f CompAppend)
    (and_second (f Number) (f Comparable && (f Appendable && f CompAppend)) (and_second (f Any) (f Number && (f Comparable && (f Appendable && f CompAppend))) e)))
each f e CompAppend =
    and_second (f Appendable) (f CompAppend)
    (and_second (f Comparable) (f Appendable && f CompAppend)
    (and_second (f Number) (f Comparable && (f Appendable && f CompAppend)) (and_second (f Any) (f Number && (f Comparable && (f Appendable && f CompAppend))) e)))

abbrev alike : Bool → Bool → Bool
alike a b = cond a b (not b)

from_alike : (a b : Bool) → alike a b ≡ true → a ≡ b
from_alike true true e = refl
from_alike true false e = sym e
from_alike false true e = e
from_alike false false e = refl

-- ---- constants and records

below_some : Option Class → Class → Bool
below_some None e = false
below_some (Some c) e = is_below e c

constants_meet : (c d e : Class) → (is_below e c && is_below e d) ≡ below_some (meet c d) e
unfolding every below_some
constants_meet c d e =
    from_alike (is_below e c && is_below e d) (below_some (meet c d) e)
    (each (λ q. alike (is_below q c && is_below q d) (below_some (meet c d) q))
    (each (λ p. every (λ q. alike (is_below q c && is_below q p) (below_some (meet c p) q)))
    (each (λ r. every (λ p. every (λ q. alike (is_below q r && is_below q p) (below_some (meet r p) q)))) refl c) d) e)

any_some : Option Class → Bool
any_some None = false
any_some (Some c) = is_any c

records_meet : (c d : Class) → (is_any c && is_any d) ≡ any_some (meet c d)
unfolding every any_some
records_meet c d =
    from_alike (is_any c && is_any d) (any_some (meet c d))
    (each (λ p. alike (is_any c && is_any p) (any_some (meet c p))) (each (λ r. every (λ p. alike (is_any r && is_any p) (any_some (meet r p)))) refl c) d)

-- ---- types of a head

-- what is tested of a head and its count of parts
record Tests : Type 0 where
  int : Bool
  char : Bool
  string : Bool
  list : Bool
  tuple : Bool
  none : Bool
  one : Bool

asks_by : Class → Tests → Demand
asks_by Any t = Always
asks_by Number t = cond (t.int && t.none) Always Never
asks_by Comparable t =
    cond ((t.int || (t.char || t.string)) && t.none) Always (cond ((t.list && t.one) || (t.tuple && not t.none)) (OfParts Comparable) Never)
asks_by Appendable t = cond ((t.string && t.none) || (t.list && t.one)) Always Never
asks_by CompAppend t = cond (t.string && t.none) Always (cond (t.list && t.one) (OfParts Comparable) Never)

tests : Head → ℕ → Tests
tests h n = record { int = is_int h; char = is_char h; string = is_string h; list = is_list h; tuple = is_tuple h; none = nat_eq n 0; one = nat_eq n 1 }

asks_is : (c : Class) (h : Head) (n : ℕ) → asks c h n ≡ asks_by c (tests h n)
unfolding asks_by tests
asks_is Any h n = refl
asks_is Number h n = refl
asks_is Comparable h n = refl
asks_is Appendable h n = refl
asks_is CompAppend h n = refl

-- ---- two demands at once, by what holds of a number (x), a plain comparable type (y), a text (z), a list (m) and a
-- tuple (u)

on_number : Bool → Demand
on_number x = cond x Always Never

on_comparable : (y m u : Bool) → Demand
on_comparable y m u = cond y Always (cond (m || u) (OfParts Comparable) Never)

on_appendable : (z m : Bool) → Demand
on_appendable z m = cond (z || m) Always Never

on_compappend : (z m : Bool) → Demand
on_compappend z m = cond z Always (cond m (OfParts Comparable) Never)

number_comparable : (x y m u : Bool) (P : Class → Bool) → (x ≡ true → y ≡ true) →
    (demand_met (on_number x) P && demand_met (on_comparable y m u) P) ≡ demand_met (on_number x) P
unfolding on_number on_comparable
number_comparable true true m u P h = refl
number_comparable true false m u P h = absurd (false≢true (h refl))
number_comparable false y m u P h = refl

number_appendable : (x y z m : Bool) (P : Class → Bool) → (x ≡ true → y ≡ true) → (x ≡ true → z ≡ false) → (m ≡ true → y ≡ false) →
    (demand_met (on_number x) P && demand_met (on_appendable z m) P) ≡ false
unfolding on_number on_appendable
number_appendable false y z m P h k f = refl
number_appendable true y true m P h k f = absurd (false≢true (sym (k refl)))
number_appendable true y false true P h k f = absurd (false≢true (sym (f refl) ∙ h refl))
number_appendable true y false false P h k f = refl

number_compappend : (x y z m : Bool) (P : Class → Bool) → (x ≡ true → y ≡ true) → (x ≡ true → z ≡ false) → (m ≡ true → y ≡ false) →
    (demand_met (on_number x) P && demand_met (on_compappend z m) P) ≡ false
unfolding on_number on_compappend
number_compappend false y z m P h k f = refl
number_compappend true y true m P h k f = absurd (false≢true (sym (k refl)))
number_compappend true y false true P h k f = absurd (false≢true (sym (f refl) ∙ h refl))
number_compappend true y false false P h k f = refl

comparable_appendable : (y z m u : Bool) (P : Class → Bool) → (z ≡ true → y ≡ true) → (m ≡ true → y ≡ false) →
    (demand_met (on_comparable y m u) P && demand_met (on_appendable z m) P) ≡ demand_met (on_compappend z m) P
unfolding on_comparable on_appendable on_compappend
comparable_appendable true true m u P h f = refl
comparable_appendable false true m u P h f = absurd (false≢true (h refl))
comparable_appendable true false true u P h f = absurd (false≢true (sym (f refl)))
comparable_appendable false false true u P h f = and_true (P Comparable)
comparable_appendable y false false u P h f = and_false (demand_met (cond y Always (cond u (OfParts Comparable) Never)) P)

comparable_compappend : (y z m u : Bool) (P : Class → Bool) → (z ≡ true → y ≡ true) → (m ≡ true → y ≡ false) →
    (demand_met (on_comparable y m u) P && demand_met (on_compappend z m) P) ≡ demand_met (on_compappend z m) P
unfolding on_comparable on_compappend
comparable_compappend true true m u P h f = refl
comparable_compappend false true m u P h f = absurd (false≢true (h refl))
comparable_compappend true false true u P h f = absurd (false≢true (sym (f refl)))
comparable_compappend false false true u P h f = and_itself (P Comparable)
comparable_compappend y false false u P h f = and_false (demand_met (cond y Always (cond u (OfParts Comparable) Never)) P)

appendable_compappend : (z m : Bool) (P : Class → Bool) →
    (demand_met (on_appendable z m) P && demand_met (on_compappend z m) P) ≡ demand_met (on_compappend z m) P
unfolding on_appendable on_compappend
appendable_compappend true m P = refl
appendable_compappend false true P = refl
appendable_compappend false false P = refl

-- what the tests exclude
record Sound (t : Tests) : Type 0 where
  no_text : (t.int && t.string) ≡ false
  one_count : (t.none && t.one) ≡ false

number_plain : (i b n : Bool) → (i && n) ≡ true → ((i || b) && n) ≡ true
number_plain true b n e = e
number_plain false b n e = absurd (false≢true e)

text_plain : (i c s n : Bool) → (s && n) ≡ true → ((i || (c || s)) && n) ≡ true
text_plain true c s n e = and_second s n e
text_plain false true s n e = and_second s n e
text_plain false false s n e = e

number_text : (i s n : Bool) → (i && s) ≡ false → (i && n) ≡ true → (s && n) ≡ false
number_text true s n e h = ap (λ b. b && n) e
number_text false s n e h = absurd (false≢true h)

list_plain : (a n l o : Bool) → (n && o) ≡ false → (l && o) ≡ true → (a && n) ≡ false
list_plain a true l o e h = absurd (false≢true (sym e ∙ and_second l o h))
list_plain a false l o e h = and_false a

demands_some : Option Class → Tests → (Class → Bool) → Bool
demands_some None t P = false
demands_some (Some c) t P = demand_met (asks_by c t) P

abbrev Meets : Class → Class → Type 0
Meets c d = (t : Tests) (P : Class → Bool) → Sound t → (demand_met (asks_by c t) P && demand_met (asks_by d t) P) ≡ demands_some (meet c d) t P

number_with_comparable : Meets Number Comparable
unfolding asks_by demands_some on_number on_comparable on_appendable on_compappend
number_with_comparable t P s =
    number_comparable (t.int && t.none) ((t.int || (t.char || t.string)) && t.none) (t.list && t.one) (t.tuple && not t.none) P (number_plain t.int (t.char || t.string) t.none)

number_with_appendable : Meets Number Appendable
unfolding asks_by demands_some on_number on_comparable on_appendable on_compappend
number_with_appendable t P s =
    number_appendable (t.int && t.none) ((t.int || (t.char || t.string)) && t.none) (t.string && t.none) (t.list && t.one) P (number_plain t.int (t.char || t.string) t.none) (number_text t.int t.string t.none s.no_text) (list_plain (t.int || (t.char || t.string)) t.none t.list t.one s.one_count)

number_with_compappend : Meets Number CompAppend
unfolding asks_by demands_some on_number on_comparable on_appendable on_compappend
number_with_compappend t P s =
    number_compappend (t.int && t.none) ((t.int || (t.char || t.string)) && t.none) (t.string && t.none) (t.list && t.one) P (number_plain t.int (t.char || t.string) t.none) (number_text t.int t.string t.none s.no_text) (list_plain (t.int || (t.char || t.string)) t.none t.list t.one s.one_count)

comparable_with_appendable : Meets Comparable Appendable
unfolding asks_by demands_some on_number on_comparable on_appendable on_compappend
comparable_with_appendable t P s =
    comparable_appendable ((t.int || (t.char || t.string)) && t.none) (t.string && t.none) (t.list && t.one) (t.tuple && not t.none) P (text_plain t.int t.char t.string t.none) (list_plain (t.int || (t.char || t.string)) t.none t.list t.one s.one_count)

comparable_with_compappend : Meets Comparable CompAppend
unfolding asks_by demands_some on_number on_comparable on_appendable on_compappend
comparable_with_compappend t P s =
    comparable_compappend ((t.int || (t.char || t.string)) && t.none) (t.string && t.none) (t.list && t.one) (t.tuple && not t.none) P (text_plain t.int t.char t.string t.none) (list_plain (t.int || (t.char || t.string)) t.none t.list t.one s.one_count)

appendable_with_compappend : Meets Appendable CompAppend
unfolding asks_by demands_some on_number on_comparable on_appendable on_compappend
appendable_with_compappend t P s =
    appendable_compappend (t.string && t.none) (t.list && t.one) P

demands_meet : (c d : Class) → Meets c d
unfolding asks_by demands_some on_number on_comparable on_appendable on_compappend
demands_meet Any Any t P s = refl
demands_meet Any Number t P s = refl
demands_meet Any Comparable t P s = refl
demands_meet Any Appendable t P s = refl
demands_meet Any CompAppend t P s = refl
demands_meet Number Any t P s = and_true (demand_met (asks_by Number t) P)
demands_meet Number Number t P s = and_itself (demand_met (asks_by Number t) P)
demands_meet Number Comparable t P s = number_with_comparable t P s
demands_meet Number Appendable t P s = number_with_appendable t P s
demands_meet Number CompAppend t P s = number_with_compappend t P s
demands_meet Comparable Any t P s = and_true (demand_met (asks_by Comparable t) P)
demands_meet Comparable Number t P s = and_turned (demand_met (asks_by Comparable t) P) (demand_met (asks_by Number t) P) ∙ number_with_comparable t P s
demands_meet Comparable Comparable t P s = and_itself (demand_met (asks_by Comparable t) P)
demands_meet Comparable Appendable t P s = comparable_with_appendable t P s
demands_meet Comparable CompAppend t P s = comparable_with_compappend t P s
demands_meet Appendable Any t P s = and_true (demand_met (asks_by Appendable t) P)
demands_meet Appendable Number t P s = and_turned (demand_met (asks_by Appendable t) P) (demand_met (asks_by Number t) P) ∙ number_with_appendable t P s
demands_meet Appendable Comparable t P s = and_turned (demand_met (asks_by Appendable t) P) (demand_met (asks_by Comparable t) P) ∙ comparable_with_appendable t P s
demands_meet Appendable Appendable t P s = and_itself (demand_met (asks_by Appendable t) P)
demands_meet Appendable CompAppend t P s = appendable_with_compappend t P s
demands_meet CompAppend Any t P s = and_true (demand_met (asks_by CompAppend t) P)
demands_meet CompAppend Number t P s = and_turned (demand_met (asks_by CompAppend t) P) (demand_met (asks_by Number t) P) ∙ number_with_compappend t P s
demands_meet CompAppend Comparable t P s = and_turned (demand_met (asks_by CompAppend t) P) (demand_met (asks_by Comparable t) P) ∙ comparable_with_compappend t P s
demands_meet CompAppend Appendable t P s = and_turned (demand_met (asks_by CompAppend t) P) (demand_met (asks_by Appendable t) P) ∙ appendable_with_compappend t P s
demands_meet CompAppend CompAppend t P s = and_itself (demand_met (asks_by CompAppend t) P)

-- a name is one name
one_name : (x m n : Name) (a b : Bool) → bytes_eq m n ≡ false → (a && bytes_eq x m) ≡ true → (b && bytes_eq x n) ≡ true → ⊥
one_name x m n a b e f g =
    let j : x ≡ m = (bytes_eq-Decides x m).0 (and_second a (bytes_eq x m) f) in
    let k : x ≡ n = (bytes_eq-Decides x n).0 (and_second b (bytes_eq x n) g) in
    false≢true (sym e ∙ (bytes_eq-Decides m n).1 (sym j ∙ k))

int_or_string : (h : Head) → (is_int h && is_string h) ≡ false
int_or_string (head.Named m x) =
    not_both (is_int (head.Named m x) && is_string (head.Named m x))
    (λ e. one_name x (codes "Int") (codes "String") (bytes_eq m (codes "Basics")) (bytes_eq m (codes "String")) refl
    (and_first (is_int (head.Named m x)) (is_string (head.Named m x)) e) (and_second (is_int (head.Named m x)) (is_string (head.Named m x)) e))
int_or_string head.Function = refl
int_or_string head.Tuple = refl

none_or_one : (n : ℕ) → (nat_eq n 0 && nat_eq n 1) ≡ false
none_or_one n =
    not_both (nat_eq n 0 && nat_eq n 1)
    (λ e. let j : n ≡ 0 = eqb-true n 0 (and_first (nat_eq n 0) (nat_eq n 1) e) in
    let k : n ≡ 1 = eqb-true n 1 (and_second (nat_eq n 0) (nat_eq n 1) e) in
    omega arith)

tests_sound : (h : Head) (n : ℕ) → Sound (tests h n)
unfolding tests
tests_sound h n = record { no_text = int_or_string h; one_count = none_or_one n }

made_meets : (c : Class) (h : Head) (ts : ElmTypes Rigid) → meets c (Made h ts) ≡ demand_met (asks_by c (tests h (count ts))) (λ d. all_meet d ts)
made_meets c h ts = ap (λ D. demand_met D (λ d. all_meet d ts)) (asks_is c h (count ts))

made_some : (o : Option Class) (h : Head) (ts : ElmTypes Rigid) → demands_some o (tests h (count ts)) (λ d. all_meet d ts) ≡ meets_some o (Made h ts)
unfolding demands_some
made_some None h ts = refl
made_some (Some c) h ts = sym (made_meets c h ts)

constant_some : (o : Option Class) (r : Rigid) → below_some o r.class ≡ meets_some o (Record NoField (Over r))
unfolding below_some
constant_some None r = refl
constant_some (Some c) r = refl

empty_some : (o : Option Class) → any_some o ≡ meets_some o (Record NoField Closed)
unfolding any_some
empty_some None = refl
empty_some (Some c) = refl

record_some : (o : Option Class) (k : Name) (t : Ground) (fs : Fields Rigid) (end : End Rigid) → any_some o ≡ meets_some o (Record (MoreField k t fs) end)
unfolding any_some
record_some None k t fs end = refl
record_some (Some c) k t fs end = refl

pub meets_both : MeetsBoth
meets_both c d (Made h ts) =
    ap (λ b. b && meets d (Made h ts)) (made_meets c h ts)
    ∙ (ap (λ b. demand_met (asks_by c (tests h (count ts))) (λ e. all_meet e ts) && b) (made_meets d h ts)
    ∙ (demands_meet c d (tests h (count ts)) (λ e. all_meet e ts) (tests_sound h (count ts)) ∙ made_some (meet c d) h ts))
meets_both c d (Record NoField (Over r)) = constants_meet c d r.class ∙ constant_some (meet c d) r
meets_both c d (Record NoField Closed) = records_meet c d ∙ empty_some (meet c d)
meets_both c d (Record (MoreField k t fs) end) = records_meet c d ∙ record_some (meet c d) k t fs end

-- ---- heads that a class allows

met_demand : (D : Demand) (P : Class → Bool) → demand_met D P ≡ true → is_met D ≡ true
met_demand Never P e = e
met_demand Always P e = refl
met_demand (OfParts c) P e = refl

inner : {h k : TypeHead} → Some h ≡ Some k → h ≡ k
inner e = cc

allowed_head : (c : Class) (t : Ground) (h : TypeHead) → head_of t ≡ Some h → meets c t ≡ true → allows c h ≡ true
allowed_head c (Made g ts) h e m = subst (λ k. allows c k ≡ true) (inner e) (met_demand (asks c g (count ts)) (λ d. all_meet d ts) m)
allowed_head c (Record NoField (Over r)) h e m = absurd cc
allowed_head c (Record NoField Closed) h e m = subst (λ k. allows c k ≡ true) (inner e) m
allowed_head c (Record (MoreField k t fs) end) h e m = subst (λ k. allows c k ≡ true) (inner e) m

-- so many integers meet what is asked
integers : ℕ → ElmTypes Rigid
integers zero = NoType
integers (suc n) = MoreType int_type (integers n)

count_integers : (n : ℕ) → count (integers n) ≡ n
unfolding integers
count_integers zero = refl
count_integers (suc n) = ap suc (count_integers n)

integers_compare : (n : ℕ) → all_meet Comparable (integers n) ≡ true
unfolding integers
integers_compare zero = refl
integers_compare (suc n) = integers_compare n

met_simple : (b : Bool) (P : Class → Bool) → is_met (cond b Always Never) ≡ true → demand_met (cond b Always Never) P ≡ true
met_simple true P e = refl
met_simple false P e = e

met_parts : (b d : Bool) (P : Class → Bool) → P Comparable ≡ true → is_met (cond b Always (cond d (OfParts Comparable) Never)) ≡ true →
    demand_met (cond b Always (cond d (OfParts Comparable) Never)) P ≡ true
met_parts true d P h e = refl
met_parts false true P h e = h
met_parts false false P h e = e

met_by : (c : Class) (t : Tests) (P : Class → Bool) → P Comparable ≡ true → is_met (asks_by c t) ≡ true → demand_met (asks_by c t) P ≡ true
unfolding asks_by
met_by Any t P h e = refl
met_by Number t P h e = met_simple (t.int && t.none) P e
met_by Comparable t P h e = met_parts ((t.int || (t.char || t.string)) && t.none) ((t.list && t.one) || (t.tuple && not t.none)) P h e
met_by Appendable t P h e = met_simple ((t.string && t.none) || (t.list && t.one)) P e
met_by CompAppend t P h e = met_parts (t.string && t.none) (t.list && t.one) P h e

integers_meet : (c : Class) (h : Head) (n : ℕ) → is_met (asks c h n) ≡ true → meets c (Made h (integers n)) ≡ true
integers_meet c h n e =
    ap (λ k. demand_met (asks c h k) (λ d. all_meet d (integers n))) (count_integers n)
    ∙ (ap (λ D. demand_met D (λ d. all_meet d (integers n))) (asks_is c h n)
    ∙ met_by c (tests h n) (λ d. all_meet d (integers n)) (integers_compare n) (ap is_met (sym (asks_is c h n)) ∙ e))

some_type : (c : Class) (h : TypeHead) → allows c h ≡ true → (t : Ground) × (head_of t ≡ Some h) × (meets c t ≡ true)
some_type c (MadeHead h n) e = (Made h (integers n), ap (λ k. Some (MadeHead h k)) (count_integers n), integers_meet c h n e)
some_type c RecordHead e = (Record NoField Closed, refl, e)

pub allows_some : AllowsSome
allows_some = record { allowed = allowed_head; some = some_type }
