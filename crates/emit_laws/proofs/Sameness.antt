-- Equality and order are the same on both sides, of values that stand for each other.
use Rattle.std.proofs.Common.{◌≡◌, ℕ, ℤ, pos, List, Bool, true, false, refl, sym, ap, ◌∙◌, subst}
use Rattle.std.specs.Prelude.{if◌then◌else◌, ◌&&◌, int_lt, cond}
use Rattle.std.specs.Str.{bytes_eq}
use Rattle.std.specs.declared.cmp.Ordering.{Ordering}
use Rattle.std.specs.declared.cmp.Ordering.TheVariants.{Less, Equal, Greater}
use Rattle.std.specs.Ordering.{nat_cmp, int_cmp, is_lt, is_eq}
use Rattle.std.specs.Cmp.Lexicographic.{slice_cmp}
use Rattle.wire_value.specs.Wire as wire
use Rattle.wire_value.specs.Wire.{Wire, no_wire, more_wires, no_member, more_members}
use Rattle.runs.specs.Ends.{End, Val, Stuck, then_do}
use Rattle.emit_laws.proofs.Records.{lt_by_order}
use Rattle.emit_laws.proofs.Tests.{text_by_order, number_by_order, right_so}
use Rattle.elm_canon.specs.Names.{Name}
use Rattle.elm_canon.specs.declared.unions.Tag.TheVariants.{Number}
use Rattle.elm_meaning.specs.Values.{Value}
use Rattle.elm_meaning.specs.Seen.{Seen, FunctionS, IntS, TextS, TagS, RecordS, DictS, OddS, WireS, Seens, NoSeen, MoreSeen, see}
use Rattle.elm_meaning.specs.Seen as source
use Rattle.elm_meaning.specs.Equal.{equal, equal_all, equals, same_wire, same_wires, same_members, member_names}
use Rattle.elm_meaning.specs.Equal as source_equal
use Rattle.elm_meaning.specs.Order.{compare, compare_all, compares, order_number, or_then}
use Rattle.js_meaning.specs.Values.{JVal}
use Rattle.js_meaning.specs.Lists.{is_number}
use Rattle.js_meaning.specs.Shapes.{Shape, NullS, NumberS, BoolS, ArrayS, TaggedS, Shapes, NoShape, MoreShape, Members, NoMember, MoreMember, shape}
use Rattle.js_meaning.specs.Shapes as js
use Rattle.emit_laws.specs.For.{For}
use Rattle.emit_laws.proofs.Ends.{EndFor, both_give, both_crash, any_stuck, end_then}
use Rattle.emit_laws.proofs.Arithmetic.{same_numbers, same_order}
use Rattle.emit_laws.proofs.Sights.{WireFor, wire_null, wire_bool, wire_int, wire_text, wire_list, wire_object, WiresFor, no_wires, more_wires_for, WireMembersFor, no_members, more_members_for, SeenFor, seen_function, seen_int, seen_text, seen_number, seen_truth, seen_blank, seen_record, seen_dict, seen_wire, SeensFor, no_seens, more_seens, MembersFor, no_member_seen, more_member_seen, seen}

-- the same end, where the source has a rule
abbrev Same : End Bool → End Bool → Type 0
Same o p = EndFor (λ (a : Bool) (b : Bool). a ≡ b) o p

gives_same : {a b : Bool} → a ≡ b → Same (Val a) (Val b)
gives_same e = both_give e

-- both go on where the first parts are the same
goes_on : {o p q r : End Bool} → Same o p → Same q r → Same (then_do o (λ t. if t then q else Val false)) (then_do p (λ t. if t then r else Val false))
goes_on {q} {r} s more = end_then (λ t. if t then q else Val false) (λ t. if t then r else Val false) s (λ a b e. subst (λ z. Same (if a then q else Val false) (if z then r else Val false)) e (go a))
  where
    go : (t : Bool) → Same (if t then q else Val false) (if t then r else Val false)
    go true = more
    go false = both_give refl

-- ---- what is sent: it has no functions, so that nothing crashes

pub data WireEnd : End Bool → End Bool → Type 0 where
  wire_gives : {b : Bool} → WireEnd (Val b) (Val b)
  wire_stuck : {o : End Bool} → WireEnd Stuck o

wire_same : {o p : End Bool} → WireEnd o p → Same o p
wire_same wire_gives = both_give refl
wire_same wire_stuck = any_stuck

wire_on : {o p q r : End Bool} → WireEnd o p → WireEnd q r → WireEnd (then_do o (λ t. if t then q else Val false)) (then_do p (λ t. if t then r else Val false))
wire_on {q} {r} (wire_gives {b}) more = go b
  where
    go : (t : Bool) → WireEnd (if t then q else Val false) (if t then r else Val false)
    go true = more
    go false = wire_gives
wire_on wire_stuck more = wire_stuck

no_crash : {o p : End Bool} → WireEnd o p → WireEnd o (js.without_crash p)
no_crash wire_gives = wire_gives
no_crash wire_stuck = wire_stuck

gives_as : {a b : Bool} → a ≡ b → WireEnd (Val a) (Val b)
gives_as {a} e = subst (λ z. WireEnd (Val a) (Val z)) e wire_gives

member_names_same : {ms ns : wire.Members} {xs ys : Members} → WireMembersFor ms xs → WireMembersFor ns ys → source_equal.same_names (member_names ms) (member_names ns) ≡ js.same_names xs ys
member_names_same no_members no_members = refl
member_names_same no_members (more_members_for r rs) = refl
member_names_same (more_members_for r rs) no_members = refl
member_names_same (more_members_for {k} r rs) (more_members_for {k = j} q qs) = ap (λ b. bytes_eq k j && b) (member_names_same rs qs)

bools : (a b : Bool) → source.same_bool a b ≡ js.same_bool a b
bools true b = refl
bools false true = refl
bools false false = refl

mutual
  wire_equal : {v w : Wire} {s t : Shape} → WireFor v s → WireFor w t → WireEnd (same_wire v w) (js.equal s t)
  wire_equal wire_null wire_null = wire_gives
  wire_equal wire_null wire_bool = wire_gives
  wire_equal wire_null wire_int = wire_gives
  wire_equal wire_null wire_text = wire_gives
  wire_equal wire_null (wire_list r) = wire_gives
  wire_equal wire_null (wire_object r) = wire_gives
  wire_equal wire_bool wire_null = wire_gives
  wire_equal wire_int wire_null = wire_gives
  wire_equal wire_text wire_null = wire_gives
  wire_equal (wire_list r) wire_null = wire_gives
  wire_equal (wire_object r) wire_null = wire_gives
  wire_equal (wire_bool {b = a}) (wire_bool {b}) = gives_as (bools a b)
  wire_equal (wire_int {n = m}) (wire_int {n}) = gives_as (same_numbers m n)
  wire_equal wire_text wire_text = wire_gives
  wire_equal (wire_list r) (wire_list q) = no_crash (wires_equal r q)
  wire_equal (wire_object {ms} {ns = xs} r) (wire_object {ms = ns} {ns = ys} q) =
      subst (λ b. WireEnd (if source_equal.same_names (member_names ms) (member_names ns) then same_members ms ns else Stuck) (if b then js.equal_members xs ys else Stuck)) (member_names_same r q) (go (source_equal.same_names (member_names ms) (member_names ns)) (members_equal r q))
    where
      go : (b : Bool) → WireEnd (same_members ms ns) (js.equal_members xs ys) → WireEnd (if b then same_members ms ns else Stuck) (if b then js.equal_members xs ys else Stuck)
      go true more = more
      go false more = wire_stuck
  wire_equal wire_bool wire_int = wire_stuck
  wire_equal wire_bool wire_text = wire_stuck
  wire_equal wire_bool (wire_list q) = wire_stuck
  wire_equal wire_bool (wire_object q) = wire_stuck
  wire_equal wire_int wire_bool = wire_stuck
  wire_equal wire_int wire_text = wire_stuck
  wire_equal wire_int (wire_list q) = wire_stuck
  wire_equal wire_int (wire_object q) = wire_stuck
  wire_equal wire_text wire_bool = wire_stuck
  wire_equal wire_text wire_int = wire_stuck
  wire_equal wire_text (wire_list q) = wire_stuck
  wire_equal wire_text (wire_object q) = wire_stuck
  wire_equal (wire_list r) wire_bool = wire_stuck
  wire_equal (wire_list r) wire_int = wire_stuck
  wire_equal (wire_list r) wire_text = wire_stuck
  wire_equal (wire_list r) (wire_object q) = wire_stuck
  wire_equal (wire_object r) wire_bool = wire_stuck
  wire_equal (wire_object r) wire_int = wire_stuck
  wire_equal (wire_object r) wire_text = wire_stuck
  wire_equal (wire_object r) (wire_list q) = wire_stuck

  wires_equal : {vs ws : wire.Wires} {xs ys : Shapes} → WiresFor vs xs → WiresFor ws ys → WireEnd (same_wires vs ws) (js.equal_all xs ys)
  wires_equal no_wires no_wires = wire_gives
  wires_equal no_wires (more_wires_for q qs) = wire_gives
  wires_equal (more_wires_for r rs) no_wires = wire_gives
  wires_equal (more_wires_for r rs) (more_wires_for q qs) = wire_on (wire_equal r q) (wires_equal rs qs)

  members_equal : {ms ns : wire.Members} {xs ys : Members} → WireMembersFor ms xs → WireMembersFor ns ys → WireEnd (same_members ms ns) (js.equal_members xs ys)
  members_equal no_members no_members = wire_gives
  members_equal no_members (more_members_for q qs) = wire_gives
  members_equal (more_members_for r rs) no_members = wire_gives
  members_equal (more_members_for r rs) (more_members_for q qs) = wire_on (wire_equal r q) (members_equal rs qs)

-- ---- values

names_same : {ks ls : List Name} {xs ys : Seens} {ms ns : Members} → MembersFor ks xs ms → MembersFor ls ys ns → source_equal.same_names ks ls ≡ js.same_names ms ns
names_same no_member_seen no_member_seen = refl
names_same no_member_seen (more_member_seen r rs) = refl
names_same (more_member_seen r rs) no_member_seen = refl
names_same (more_member_seen {k} r rs) (more_member_seen {k = j} q qs) = ap (λ b. bytes_eq k j && b) (names_same rs qs)

counts_same : {xs ys : Seens} {ss ts : Shapes} → SeensFor xs ss → SeensFor ys ts → source.same_count xs ys ≡ js.same_count ss ts
counts_same no_seens no_seens = refl
counts_same no_seens (more_seens r rs) = refl
counts_same (more_seens r rs) no_seens = refl
counts_same (more_seens r rs) (more_seens q qs) = counts_same rs qs

-- constructors with a number: where it is the same the fields decide
by_numbers : {A B : Type 0} {R : A → B → Type 0} {one other : End A} {one' other' : End B} (j k : ℤ) {xs ys : Seens} {ss ts : Shapes} → SeensFor xs ss → SeensFor ys ts → EndFor R one one' → (source.same_tag (Number j) (Number k) ≡ false → EndFor R other other')
    → EndFor R (source_equal.by_tags (Number j) (Number k) xs ys one other) (if is_number j k then (if js.same_count ss ts then one' else Stuck) else other')
by_numbers {A} {B} {R} {one} {other} {one'} {other'} j k {xs} {ys} {ss} {ts} r q same differ =
    subst (λ b. EndFor R (source_equal.by_tags (Number j) (Number k) xs ys one other) (if b then (if js.same_count ss ts then one' else Stuck) else other')) (same_numbers j k) (go (source.same_tag (Number j) (Number k)) refl)
  where
    counted : (b : Bool) → EndFor R (if b then one else Stuck) (if b then one' else Stuck)
    counted true = same
    counted false = any_stuck

    go : (b : Bool) → source.same_tag (Number j) (Number k) ≡ b → EndFor R (if b then (if source.same_count xs ys then one else Stuck) else other) (if b then (if js.same_count ss ts then one' else Stuck) else other')
    go true e = subst (λ z. EndFor R (if source.same_count xs ys then one else Stuck) (if z then one' else Stuck)) (counts_same r q) (counted (source.same_count xs ys))
    go false e = differ e

mutual
  both_equal : {x y : Seen} {s t : Shape} → SeenFor x s → SeenFor y t → Same (equal x y) (js.equal s t)
  both_equal seen_function q = both_crash
  both_equal (seen_int {n = m}) (seen_int {n}) = gives_same (same_numbers m n)
  both_equal seen_text seen_text = gives_same refl
  both_equal (seen_number {n = j} r) (seen_number {n = k} q) = by_numbers (pos j) (pos k) r q (all_equal r q) (λ e. both_give refl)
  both_equal (seen_truth {b = true}) (seen_truth {b = true}) = both_give refl
  both_equal (seen_truth {b = true}) (seen_truth {b = false}) = both_give refl
  both_equal (seen_truth {b = false}) (seen_truth {b = true}) = both_give refl
  both_equal (seen_truth {b = false}) (seen_truth {b = false}) = both_give refl
  both_equal seen_blank seen_blank = both_give refl
  both_equal (seen_record {ks} {xs} {ms} r) (seen_record {ks = ls} {xs = ys} {ms = ns} q) =
      subst (λ b. Same (if source_equal.same_names ks ls then equal_all xs ys else Stuck) (if b then js.equal_members ms ns else Stuck)) (names_same r q) (go (source_equal.same_names ks ls) refl (λ e. members_same r q e))
    where
      go : (b : Bool) → source_equal.same_names ks ls ≡ b → (source_equal.same_names ks ls ≡ true → Same (equal_all xs ys) (js.equal_members ms ns)) → Same (if b then equal_all xs ys else Stuck) (if b then js.equal_members ms ns else Stuck)
      go true e more = more e
      go false e more = any_stuck
  both_equal (seen_dict r) (seen_dict q) = all_equal r q
  both_equal (seen_wire r) (seen_wire q) = wire_same (wire_equal r q)
  both_equal _ _ = any_stuck

  all_equal : {xs ys : Seens} {ss ts : Shapes} → SeensFor xs ss → SeensFor ys ts → Same (equal_all xs ys) (js.equal_all ss ts)
  all_equal no_seens no_seens = both_give refl
  all_equal no_seens (more_seens q qs) = both_give refl
  all_equal (more_seens r rs) no_seens = both_give refl
  all_equal (more_seens r rs) (more_seens q qs) = goes_on (both_equal r q) (all_equal rs qs)

  members_same : {ks ls : List Name} {xs ys : Seens} {ms ns : Members} → MembersFor ks xs ms → MembersFor ls ys ns → source_equal.same_names ks ls ≡ true → Same (equal_all xs ys) (js.equal_members ms ns)
  members_same no_member_seen no_member_seen e = both_give refl
  members_same no_member_seen (more_member_seen q qs) e = absurd (cc)
  members_same (more_member_seen r rs) no_member_seen e = absurd (cc)
  members_same (more_member_seen {k} {ks} r rs) (more_member_seen {k = j} {ks = ls} q qs) e = goes_on (both_equal r q) (members_same rs qs (right_so (bytes_eq k j) (source_equal.same_names ks ls) e))

-- v == w
pub equal_same : {v w : Value} {a b : JVal} → For v a → For w b → EndFor (λ (x : Bool) (y : Bool). x ≡ y) (equals v w) (js.equal (shape a) (shape b))
equal_same {v} {w} {a} {b} r q = both_equal (seen v a r) (seen w b q)

-- ---- order

abbrev Ordered : End Ordering → End ℤ → Type 0
Ordered o p = EndFor (λ (a : Ordering) (n : ℤ). n ≡ order_number a) o p

by_order : (o : Ordering) (lt eq : Bool) → lt ≡ is_lt o → eq ≡ is_eq o → Ordered (Val o) (Val (js.order_of lt eq))
by_order Less lt eq e f = both_give (ap (λ b. js.order_of b eq) e)
by_order Equal lt eq e f = both_give (ap (λ b. js.order_of b eq) e ∙ ap (λ b. js.order_of false b) f)
by_order Greater lt eq e f = both_give (ap (λ b. js.order_of b eq) e ∙ ap (λ b. js.order_of false b) f)

order_then : {o : End Ordering} {p : End ℤ} {q : End Ordering} {r : End ℤ} → Ordered o p → Ordered q r → Ordered (then_do o (λ order. or_then order q)) (then_do p (λ order. if is_number order (pos 0) then r else Val order))
order_then {q} {r} s more = end_then (λ order. or_then order q) (λ order. if is_number order (pos 0) then r else Val order) s (λ a n e. subst (λ z. Ordered (or_then a q) (if is_number z (pos 0) then r else Val z)) (sym e) (go a))
  where
    go : (a : Ordering) → Ordered (or_then a q) (if is_number (order_number a) (pos 0) then r else Val (order_number a))
    go Less = both_give refl
    go Equal = more
    go Greater = both_give refl

first_is : (a b : Bool) → a ≡ is_lt (cond a Less (cond b Greater Equal))
first_is true b = refl
first_is false true = refl
first_is false false = refl

int_order : (m n : ℤ) → Ordered (Val (int_cmp m n)) (Val (js.order_of (int_lt m n) (is_number m n)))
int_order m n = by_order (int_cmp m n) (int_lt m n) (is_number m n) (first_is (int_lt m n) (int_lt n m)) (sym (same_numbers m n) ∙ number_by_order m n)

text_order : (s t : List ℕ) → Ordered (Val (slice_cmp nat_cmp s t)) (Val (js.order_of (js.units_lt s t) (bytes_eq s t)))
text_order s t = by_order (slice_cmp nat_cmp s t) (js.units_lt s t) (bytes_eq s t) (sym (same_order s t) ∙ lt_by_order s t) (text_by_order s t)

mutual
  both_compare : {x y : Seen} {s t : Shape} → SeenFor x s → SeenFor y t → Ordered (compare x y) (js.compare s t)
  both_compare (seen_int {n = m}) (seen_int {n}) = int_order m n
  both_compare (seen_text {t = s}) (seen_text {t}) = text_order s t
  both_compare (seen_number {n = j} r) (seen_number {n = k} q) =
      by_numbers (pos j) (pos k) r q (all_compare r q) (λ e. by_order (int_cmp (pos j) (pos k)) (int_lt (pos j) (pos k)) false (first_is (int_lt (pos j) (pos k)) (int_lt (pos k) (pos j))) (sym e ∙ number_by_order (pos j) (pos k)))
  both_compare _ _ = any_stuck

  all_compare : {xs ys : Seens} {ss ts : Shapes} → SeensFor xs ss → SeensFor ys ts → Ordered (compare_all xs ys) (js.compare_all ss ts)
  all_compare no_seens no_seens = both_give refl
  all_compare no_seens (more_seens q qs) = any_stuck
  all_compare (more_seens r rs) no_seens = any_stuck
  all_compare (more_seens r rs) (more_seens q qs) = order_then (both_compare r q) (all_compare rs qs)

-- the order of v and w
pub compare_same : {v w : Value} {a b : JVal} → For v a → For w b → EndFor (λ (o : Ordering) (n : ℤ). n ≡ order_number o) (compares v w) (js.compare (shape a) (shape b))
compare_same {v} {w} {a} {b} r q = both_compare (seen v a r) (seen w b q)
