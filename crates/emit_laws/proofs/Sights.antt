-- Values that stand for each other look alike where they are compared.
use Rattle.std.proofs.Common.{◌≡◌, ℕ, zero, suc, ◌+◌, ◌≤◌, ◌<◌, ◌^◌, ℤ, pos, negsuc, List, [], ◌∷◌, Bool, true, false, refl, sym, ap, ◌∙◌, subst, arith, codes, Option, Some, None}
use Rattle.std.specs.Prelude.{if◌then◌else◌, ◌||◌, ◌&&◌, not, length, option_and_then, int_lt}
use Rattle.std.specs.Str.{bytes_eq}
use Rattle.std.proofs.lemmas.Slice.Eq.{bytes_eq-Decides}
use Rattle.std.proofs.lemmas.Bool.{eqb-true, ltb-true, false_from_ne_true}
use Rattle.std.proofs.lemmas.Fmt.{decimal_digit}
use Rattle.wire_value.specs.Wire as wire
use Rattle.wire_value.specs.Wire.{Wire, no_wire, more_wires, no_member, more_members}
use Rattle.runs.specs.Ends.{End, Val, Stuck, then_do}
use Rattle.runs.specs.Texts.{units_lt}
use Rattle.emit_laws.specs.Records.{Rises}
use Rattle.emit_laws.proofs.Records.{Under, rest_rises, rises_more, under_less, same_record, found_inserted, inserted_rises}
use Rattle.elm_canon.specs.Names.{Name, same_name}
use Rattle.elm_canon.specs.declared.unions.Tag.TheVariants.{Number, Truth, Blank}
use Rattle.elm_meaning.specs.Values.{Value, TagV, RecordV, WireV, Values, NoValue, MoreValue, FieldValues, NoFieldV, MoreFieldV, count_of, field_in, has_field, insert_field}
use Rattle.elm_meaning.specs.Seen.{Seen, FunctionS, IntS, TextS, TagS, RecordS, DictS, OddS, WireS, Seens, NoSeen, MoreSeen, see, see_all, see_fields, names_of, entries, entries_in, dict_or_odd}
use Rattle.js_meaning.specs.Values.{JVal, JNumV, JBoolV, JNullV, JTextV, JArrayV, JObjV, JCloV, JVals, NoJVal, MoreJVal, JFields, NoJField, MoreJField}
use Rattle.js_meaning.specs.Values as js
use Rattle.js_meaning.specs.Lists.{part_name, is_number}
use Rattle.js_meaning.specs.Run.{wire_of, wires_of, members_of, put_wire}
use Rattle.js_meaning.specs.Shapes.{Shape, NullS, NumberS, BoolS, ArrayS, TaggedS, Shapes, NoShape, MoreShape, Members, NoMember, MoreMember, shape, shapes, seen_fields, before, seen_at, SeenFields, parts_from, put_member, members_by_name, object_shape, dict_pairs}
use Rattle.js_meaning.specs.Shapes as look
use Rattle.emit_laws.specs.For.{For, for_int, for_text, for_number, for_truth, for_blank, for_record, for_wire, for_function, for_started, for_getter, for_known, ForParts, no_part, more_part, ForField, no_field, one_field, is_untagged, are_untagged, fields_untagged, is_record}
use Rattle.emit_laws.proofs.Turns.{then_gives}
use Rattle.emit_laws.proofs.Trees.{part_apart}
use Rattle.emit_laws.proofs.Arithmetic.{same_order}

-- ---- what is seen on both sides

-- what is sent
mutual
  pub data WireFor : Wire → Shape → Type 0 where
    wire_null : WireFor wire.null NullS
    wire_bool : {b : Bool} → WireFor (wire.bool b) (BoolS b)
    wire_int : {n : ℤ} → WireFor (wire.int n) (NumberS n)
    wire_text : {t : List ℕ} → WireFor (wire.text t) (look.TextS t)
    wire_list : {ws : wire.Wires} {xs : Shapes} → WiresFor ws xs → WireFor (wire.list ws) (ArrayS xs)
    wire_object : {ms : wire.Members} {ns : Members} → WireMembersFor ms ns → WireFor (wire.object ms) (look.RecordS ns)

  pub data WiresFor : wire.Wires → Shapes → Type 0 where
    no_wires : WiresFor no_wire NoShape
    more_wires_for : {w : Wire} {s : Shape} {ws : wire.Wires} {xs : Shapes} → WireFor w s → WiresFor ws xs → WiresFor (more_wires w ws) (MoreShape s xs)

  pub data WireMembersFor : wire.Members → Members → Type 0 where
    no_members : WireMembersFor no_member NoMember
    more_members_for : {k : List ℕ} {w : Wire} {s : Shape} {ms : wire.Members} {ns : Members} → WireFor w s → WireMembersFor ms ns → WireMembersFor (more_members k w ms) (MoreMember k s ns)

mutual
  pub data SeenFor : Seen → Shape → Type 0 where
    -- what begins as a dictionary and is none has no rule
    seen_odd : {s : Shape} → SeenFor OddS s
    seen_function : SeenFor FunctionS look.FunctionS
    seen_int : {n : ℤ} → SeenFor (IntS n) (NumberS n)
    seen_text : {t : List ℕ} → SeenFor (TextS t) (look.TextS t)
    seen_number : {n : ℕ} {xs : Seens} {ys : Shapes} → SeensFor xs ys → SeenFor (TagS (Number (pos n)) xs) (TaggedS (pos n) ys)
    seen_truth : {b : Bool} → SeenFor (TagS (Truth b) NoSeen) (BoolS b)
    seen_blank : SeenFor (TagS Blank NoSeen) (NumberS (pos 0))
    seen_record : {ks : List Name} {xs : Seens} {ms : Members} → MembersFor ks xs ms → SeenFor (RecordS ks xs) (look.RecordS ms)
    seen_dict : {xs : Seens} {ys : Shapes} → SeensFor xs ys → SeenFor (DictS xs) (look.DictS ys)
    seen_wire : {w : Wire} {s : Shape} → WireFor w s → SeenFor (WireS w) s

  pub data SeensFor : Seens → Shapes → Type 0 where
    no_seens : SeensFor NoSeen NoShape
    more_seens : {x : Seen} {s : Shape} {xs : Seens} {ys : Shapes} → SeenFor x s → SeensFor xs ys → SeensFor (MoreSeen x xs) (MoreShape s ys)

  -- a record's, by names
  pub data MembersFor : List Name → Seens → Members → Type 0 where
    no_member_seen : MembersFor [] NoSeen NoMember
    more_member_seen : {k : Name} {ks : List Name} {x : Seen} {s : Shape} {xs : Seens} {ms : Members} → SeenFor x s → MembersFor ks xs ms → MembersFor (k ∷ ks) (MoreSeen x xs) (MoreMember k s ms)

-- the pairs of a dictionary, if it is one
pub data EntriesFor : Option Seens → Option Shapes → Type 0 where
  no_entries : {o : Option Shapes} → EntriesFor None o
  some_entries : {xs : Seens} {ys : Shapes} → SeensFor xs ys → EntriesFor (Some xs) (Some ys)

-- ---- what is sent

member_put : (k : List ℕ) {w : Wire} {s : Shape} {ms : wire.Members} {ns : Members} → WireFor w s → WireMembersFor ms ns → WireMembersFor (put_wire k w ms) (put_member k s ns)
member_put k r no_members = more_members_for r no_members
member_put k {w} {s} r (more_members_for {k = i} {w = u} {s = t} {ms} {ns} q rest) = go (look.units_lt i k) (member_put k r rest)
  where
    go : (b : Bool) → WireMembersFor (put_wire k w ms) (put_member k s ns) → WireMembersFor (if b then more_members i u (put_wire k w ms) else more_members k w (more_members i u ms)) (if b then MoreMember i t (put_member k s ns) else MoreMember k s (MoreMember i t ns))
    go true more = more_members_for q more
    go false more = more_members_for r (more_members_for q rest)

val_is : {A : Type 0} {a b : A} → Val a ≡ Val b → a ≡ b
val_is e = cc

both_true : (a b : Bool) → (a && b) ≡ true → (a ≡ true) × (b ≡ true)
both_true true b e = (refl, e)
both_true false b e = absurd (cc)

not_true : (b : Bool) → not b ≡ true → b ≡ false
not_true true e = absurd (cc)
not_true false e = refl

no_tag_in : (fs : JFields) → fields_untagged fs ≡ true → seen_at (codes "$") (seen_fields fs) ≡ None
no_tag_in NoJField e = refl
no_tag_in (MoreJField k v fs) e =
    let a = both_true (not (bytes_eq k (codes "$"))) (is_untagged v && fields_untagged fs) e in
    let b = both_true (is_untagged v) (fields_untagged fs) a.1 in
    ap (λ t. if t then Some (shape v, before v) else seen_at (codes "$") (seen_fields fs)) (turned k (not_true (bytes_eq k (codes "$")) a.0)) ∙ no_tag_in fs b.1
  where
    turned : (k : List ℕ) → bytes_eq k (codes "$") ≡ false → bytes_eq (codes "$") k ≡ false
    turned k e = go (bytes_eq (codes "$") k) refl
      where
        go : (t : Bool) → bytes_eq (codes "$") k ≡ t → t ≡ false
        go true f = let g = (bytes_eq-Decides k (codes "$")).1 (sym ((bytes_eq-Decides (codes "$") k).0 f)) in absurd (cc)
        go false f = refl

untagged_shape : (fs : SeenFields) → seen_at (codes "$") fs ≡ None → look.RecordS (members_by_name fs) ≡ object_shape fs
untagged_shape fs e = sym (ap (λ o. look.by_seen o (look.RecordS (members_by_name fs)) (λ k. if int_lt k (pos 0) then look.dict_or_odd (dict_pairs fs NoShape) else TaggedS k (parts_from (length fs) 0 fs)) look.OddS) e)

mutual
  pub wire_seen : (v : JVal) (w : Wire) → wire_of v ≡ Val w → is_untagged v ≡ true → WireFor w (shape v)
  wire_seen (JNumV n) w e u = subst (λ z. WireFor z (NumberS n)) (val_is e) wire_int
  wire_seen (JBoolV b) w e u = subst (λ z. WireFor z (BoolS b)) (val_is e) wire_bool
  wire_seen JNullV w e u = subst (λ z. WireFor z NullS) (val_is e) wire_null
  wire_seen (JTextV t) w e u = subst (λ z. WireFor z (look.TextS t)) (val_is e) wire_text
  wire_seen (JArrayV vs) w e u =
      let g = then_gives (wires_of vs) (λ ws. Val (wire.list ws)) w e in
      subst (λ z. WireFor z (ArrayS (shapes vs))) (val_is g.2) (wire_list (wires_seen vs g.0 g.1 u))
  wire_seen (JObjV fs) w e u =
      let g = then_gives (members_of fs) (λ ms. Val (wire.object ms)) w e in
      subst (λ z. WireFor z (object_shape (seen_fields fs))) (val_is g.2)
      (subst (λ z. WireFor (wire.object g.0) z) (untagged_shape (seen_fields fs) (no_tag_in fs u)) (wire_object (members_seen fs g.0 g.1 u)))
  wire_seen (JCloV env p s) w e u = absurd (cc)
  wire_seen _ w e u = absurd (cc)

  wires_seen : (vs : JVals) (ws : wire.Wires) → wires_of vs ≡ Val ws → are_untagged vs ≡ true → WiresFor ws (shapes vs)
  wires_seen NoJVal ws e u = subst (λ z. WiresFor z NoShape) (val_is e) no_wires
  wires_seen (MoreJVal v vs) ws e u =
      let b = both_true (is_untagged v) (are_untagged vs) u in
      let g = then_gives (wire_of v) (λ w. then_do (wires_of vs) (λ ws. Val (more_wires w ws))) ws e in
      let h = then_gives (wires_of vs) (λ ws. Val (more_wires g.0 ws)) ws g.2 in
      subst (λ z. WiresFor z (MoreShape (shape v) (shapes vs))) (val_is h.2) (more_wires_for (wire_seen v g.0 g.1 b.0) (wires_seen vs h.0 h.1 b.1))

  members_seen : (fs : JFields) (ms : wire.Members) → members_of fs ≡ Val ms → fields_untagged fs ≡ true → WireMembersFor ms (members_by_name (seen_fields fs))
  members_seen NoJField ms e u = subst (λ z. WireMembersFor z NoMember) (val_is e) no_members
  members_seen (MoreJField k v fs) ms e u =
      let a = both_true (not (bytes_eq k (codes "$"))) (is_untagged v && fields_untagged fs) u in
      let b = both_true (is_untagged v) (fields_untagged fs) a.1 in
      let g = then_gives (wire_of v) (λ w. then_do (members_of fs) (λ ms. Val (put_wire k w ms))) ms e in
      let h = then_gives (members_of fs) (λ ms. Val (put_wire k g.0 ms)) ms g.2 in
      subst (λ z. WireMembersFor z (members_by_name (seen_fields (MoreJField k v fs)))) (val_is h.2) (member_put k (wire_seen v g.0 g.1 b.0) (members_seen fs h.0 h.1 b.1))

-- ---- records

abbrev without : Name → FieldValues → FieldValues
without k NoFieldV = NoFieldV
without k (MoreFieldV i v fs) = if same_name k i then without k fs else MoreFieldV i v (without k fs)

names_turned : (i j : Name) → same_name i j ≡ false → same_name j i ≡ false
names_turned i j e = go (same_name j i) refl
  where
    go : (t : Bool) → same_name j i ≡ t → t ≡ false
    go true f = let g = (bytes_eq-Decides i j).1 (sym ((bytes_eq-Decides j i).0 f)) in absurd (cc)
    go false f = refl

without_found : (j k : Name) (fs : FieldValues) → field_in j (without k fs) ≡ (if same_name j k then Stuck else field_in j fs)
without_found j k NoFieldV = none (same_name j k)
  where
    none : (t : Bool) → field_in j NoFieldV ≡ (if t then Stuck else field_in j NoFieldV)
    none true = refl
    none false = refl
without_found j k (MoreFieldV i v fs) = go (same_name k i) refl (without_found j k fs)
  where
    other : (t b : Bool) → same_name j k ≡ t → same_name j i ≡ b → same_name k i ≡ false → (if b then Val v else (if t then Stuck else field_in j fs)) ≡ (if t then Stuck else (if b then Val v else field_in j fs))
    other true true e f g = let h = (bytes_eq-Decides k i).1 (sym ((bytes_eq-Decides j k).0 e) ∙ (bytes_eq-Decides j i).0 f) in absurd (cc)
    other true false e f g = refl
    other false true e f g = refl
    other false false e f g = refl

    same : (t b : Bool) → same_name j k ≡ t → same_name j i ≡ b → same_name k i ≡ true → (if t then Stuck else field_in j fs) ≡ (if t then Stuck else (if b then Val v else field_in j fs))
    same true b e f g = refl
    same false true e f g = let h = (bytes_eq-Decides j k).1 ((bytes_eq-Decides j i).0 f ∙ sym ((bytes_eq-Decides k i).0 g)) in absurd (cc)
    same false false e f g = refl

    go : (b : Bool) → same_name k i ≡ b → field_in j (without k fs) ≡ (if same_name j k then Stuck else field_in j fs) → field_in j (if b then without k fs else MoreFieldV i v (without k fs)) ≡ (if same_name j k then Stuck else field_in j (MoreFieldV i v fs))
    go true e rec = rec ∙ same (same_name j k) (same_name j i) refl refl e
    go false e rec = ap (λ o. if same_name j i then Val v else o) rec ∙ other (same_name j k) (same_name j i) refl refl e

without_has : (k : Name) (fs : FieldValues) → has_field k (without k fs) ≡ false
without_has k NoFieldV = refl
without_has k (MoreFieldV i v fs) = go (same_name k i) refl (without_has k fs)
  where
    go : (b : Bool) → same_name k i ≡ b → has_field k (without k fs) ≡ false → has_field k (if b then without k fs else MoreFieldV i v (without k fs)) ≡ false
    go true e rec = rec
    go false e rec = ap (λ t. t || has_field k (without k fs)) e ∙ rec

without_under : (i k : Name) (fs : FieldValues) → Under i fs → Rises fs → Under i (without k fs)
without_under i k NoFieldV u r = tt
without_under i k (MoreFieldV j v fs) u r = go (same_name k j) (without_under i k fs (under_less i j fs u (rest_rises j v fs r).0) (rest_rises j v fs r).1)
  where
    go : (b : Bool) → Under i (without k fs) → Under i (if b then without k fs else MoreFieldV j v (without k fs))
    go true rec = rec
    go false rec = u

without_rises : (k : Name) (fs : FieldValues) → Rises fs → Rises (without k fs)
without_rises k NoFieldV r = tt
without_rises k (MoreFieldV j v fs) r = go (same_name k j) (without_rises k fs (rest_rises j v fs r).1)
  where
    go : (b : Bool) → Rises (without k fs) → Rises (if b then without k fs else MoreFieldV j v (without k fs))
    go true rec = rec
    go false rec = rises_more j v (without k fs) (without_under j k fs (rest_rises j v fs r).0 (rest_rises j v fs r).1) rec

put_back : (k : Name) (v : Value) (fs : FieldValues) → Rises fs → field_in k fs ≡ Val v → insert_field k v (without k fs) ≡ fs
put_back k v fs r e = same_record (insert_field k v (without k fs)) fs (inserted_rises k v (without k fs) (without_has k fs) (without_rises k fs r)) r (λ j. found_inserted j k v (without k fs) (without_has k fs) ∙ go j (same_name j k) refl)
  where
    go : (j : Name) (t : Bool) → same_name j k ≡ t → (if t then Val v else field_in j (without k fs)) ≡ field_in j fs
    go j true f = sym e ∙ ap (λ z. field_in z fs) (sym ((bytes_eq-Decides j k).0 f))
    go j false f = without_found j k fs ∙ ap (λ t. if t then Stuck else field_in j fs) f

-- each field's value looks alike
abbrev EachSeen : FieldValues → Type 0
EachSeen NoFieldV = Unit {0}
EachSeen (MoreFieldV k v fs) = ((w : JVal) → For v w → SeenFor (see v) (shape w)) × EachSeen fs

seen_in : (k : Name) (v : Value) (fs : FieldValues) → EachSeen fs → field_in k fs ≡ Val v → (w : JVal) → For v w → SeenFor (see v) (shape w)
seen_in k v NoFieldV each e = absurd (cc)
seen_in k v (MoreFieldV i u fs) each e = go (same_name k i) e (seen_in k v fs each.1)
  where
    go : (t : Bool) → (if t then Val u else field_in k fs) ≡ Val v → (field_in k fs ≡ Val v → (w : JVal) → For v w → SeenFor (see v) (shape w)) → (w : JVal) → For v w → SeenFor (see v) (shape w)
    go true e rec w r = let is = val_is e in subst (λ z. SeenFor (see z) (shape w)) is (each.0 w (subst (λ z. For z w) (sym is) r))
    go false e rec w r = rec e w r

each_without : (k : Name) (fs : FieldValues) → EachSeen fs → EachSeen (without k fs)
each_without k NoFieldV each = tt
each_without k (MoreFieldV i v fs) each = go (same_name k i) (each_without k fs each.1)
  where
    go : (b : Bool) → EachSeen (without k fs) → EachSeen (if b then without k fs else MoreFieldV i v (without k fs))
    go true rec = rec
    go false rec = (each.0, rec)

seen_put : (k : Name) (v : Value) (s : Shape) (fs : FieldValues) {ms : Members} → SeenFor (see v) s → MembersFor (names_of fs) (see_fields fs) ms → MembersFor (names_of (insert_field k v fs)) (see_fields (insert_field k v fs)) (put_member k s ms)
seen_put k v s NoFieldV r no_member_seen = more_member_seen r no_member_seen
seen_put k v s (MoreFieldV i u fs) r (more_member_seen {s = t} {ms} q rest) =
    subst (λ b. MembersFor (names_of (insert_field k v (MoreFieldV i u fs))) (see_fields (insert_field k v (MoreFieldV i u fs))) (if b then MoreMember i t (put_member k s ms) else MoreMember k s (MoreMember i t ms))) (same_order i k)
    (go (units_lt i k) (seen_put k v s fs r rest))
  where
    go : (b : Bool) → MembersFor (names_of (insert_field k v fs)) (see_fields (insert_field k v fs)) (put_member k s ms)
        → MembersFor (names_of (if b then MoreFieldV i u (insert_field k v fs) else MoreFieldV k v (MoreFieldV i u fs))) (see_fields (if b then MoreFieldV i u (insert_field k v fs) else MoreFieldV k v (MoreFieldV i u fs))) (if b then MoreMember i t (put_member k s ms) else MoreMember k s (MoreMember i t ms))
    go true more = more_member_seen q more
    go false more = more_member_seen r (more_member_seen q rest)

-- what is found on one side is found on the other
pub field_value : {o : End Value} {p : End JVal} (w : JVal) → ForField o p → p ≡ Val w → (v : Value) × (o ≡ Val v) × For v w
field_value w no_field e = absurd (cc)
field_value w (one_field {v} r) e = (v, refl, subst (λ z. For v z) (val_is e) r)

field_none : {o : End Value} {p : End JVal} → ForField o p → p ≡ Stuck → o ≡ Stuck
field_none no_field e = refl
field_none (one_field r) e = absurd (cc)

pub not_found : (k : Name) (gs : JFields) → js.has_field k gs ≡ false → js.field_in k gs ≡ Stuck
not_found k NoJField e = refl
not_found k (MoreJField i w gs) e = go (bytes_eq k i) e (not_found k gs)
  where
    go : (t : Bool) → (t || js.has_field k gs) ≡ false → (js.has_field k gs ≡ false → js.field_in k gs ≡ Stuck) → (if t then Val w else js.field_in k gs) ≡ Stuck
    go true e rec = absurd (cc)
    go false e rec = rec e

first_found : {A : Type 0} (k : Name) (a b : A) → (if bytes_eq k k then a else b) ≡ a
first_found k a b = ap (λ t. if t then a else b) ((bytes_eq-Decides k k).1 refl)

-- of an object's fields
pub record FirstField (k : Name) (w : JVal) (gs : JFields) : Type 0 where
  pub no_tag : bytes_eq k (codes "$") ≡ false
  pub new : js.has_field k gs ≡ false
  pub rest : is_record gs ≡ true

pub first_field : (k : Name) (w : JVal) (gs : JFields) → is_record (MoreJField k w gs) ≡ true → FirstField k w gs
first_field k w gs e =
    let a = both_true (not (bytes_eq k (codes "$"))) (not (js.has_field k gs) && is_record gs) e in
    let b = both_true (not (js.has_field k gs)) (is_record gs) a.1 in
    record { no_tag = not_true (bytes_eq k (codes "$")) a.0; new = not_true (js.has_field k gs) b.0; rest = b.1 }

record_seen : (gs : JFields) (fs : FieldValues) → Rises fs → is_record gs ≡ true → ((k : Name) → ForField (field_in k fs) (js.field_in k gs)) → EachSeen fs → MembersFor (names_of fs) (see_fields fs) (members_by_name (seen_fields gs))
record_seen NoJField NoFieldV r is found each = no_member_seen
record_seen NoJField (MoreFieldV i v fs) r is found each =
    let e : Val v ≡ Stuck = sym (first_found i (Val v) (field_in i fs)) ∙ field_none (found i) refl in absurd (cc)
record_seen (MoreJField k w gs) fs r is found each =
    let f = first_field k w gs is in
    let v = field_value w (found k) (first_found k (Val w) (js.field_in k gs)) in
    let rest = record_seen gs (without k fs) (without_rises k fs r) f.rest (λ j. subst (λ o. ForField o (js.field_in j gs)) (sym (without_found j k fs)) (go f.new j (same_name j k) refl (found j))) (each_without k fs each) in
    subst (λ z. MembersFor (names_of z) (see_fields z) (put_member k (shape w) (members_by_name (seen_fields gs)))) (put_back k v.0 fs r v.1)
    (seen_put k v.0 (shape w) (without k fs) (seen_in k v.0 fs each v.1 w v.2) rest)
  where
    go : js.has_field k gs ≡ false → (j : Name) (t : Bool) → same_name j k ≡ t → ForField (field_in j fs) (if t then Val w else js.field_in j gs) → ForField (if t then Stuck else field_in j fs) (js.field_in j gs)
    go new j true e found = subst (λ p. ForField Stuck p) (sym (ap (λ z. js.field_in z gs) ((bytes_eq-Decides j k).0 e) ∙ not_found k gs new)) no_field
    go new j false e found = found

no_tag_there : (gs : JFields) → is_record gs ≡ true → seen_at (codes "$") (seen_fields gs) ≡ None
no_tag_there NoJField e = refl
no_tag_there (MoreJField k w gs) e =
    let f = first_field k w gs e in
    ap (λ t. if t then Some (shape w, before w) else seen_at (codes "$") (seen_fields gs)) (names_turned k (codes "$") f.no_tag) ∙ no_tag_there gs f.rest

-- ---- constructors

entries_then : {x : Option Seens} {y : Option Shapes} (f : Seens → Option Seens) (g : Shapes → Option Shapes) → EntriesFor x y → ((xs : Seens) (ys : Shapes) → SeensFor xs ys → EntriesFor (f xs) (g ys)) → EntriesFor (option_and_then f x) (option_and_then g y)
entries_then f g no_entries next = no_entries
entries_then f g (some_entries {xs} {ys} r) next = next xs ys r

dict_seen : {x : Option Seens} {y : Option Shapes} → EntriesFor x y → SeenFor (dict_or_odd x) (look.dict_or_odd y)
dict_seen no_entries = seen_odd
dict_seen (some_entries r) = seen_dict r

count_parts : {i : ℕ} {vs : Values} {ws : JFields} → ForParts i vs ws → length (seen_fields ws) ≡ count_of vs
count_parts no_part = refl
count_parts (more_part r rs) = ap suc (count_parts rs)

abbrev EachPart : Values → Type 0
EachPart NoValue = Unit {0}
EachPart (MoreValue v vs) = ((w : JVal) → For v w → SeenFor (see v) (shape w)) × EachPart vs

parts_seen : (limit : ℕ) → limit ≡ 2 ^ 64 → (most i : ℕ) (vs : Values) (ws : JFields) (whole : SeenFields) → EachPart vs → ForParts i vs ws → count_of vs ≤ most → i + count_of vs < limit
    → ((j : ℕ) → i ≤ j → j < limit → seen_at (part_name j) whole ≡ seen_at (part_name j) (seen_fields ws)) → SeensFor (see_all vs) (parts_from most i whole)
parts_seen limit is64 zero i NoValue ws whole each no_part enough le same = no_seens
parts_seen limit is64 (suc most) i NoValue ws whole each no_part enough le same =
    subst (λ o. SeensFor NoSeen (look.parts_or_end o (parts_from most (suc i) whole))) (sym (same i (omega arith) (omega arith))) no_seens
parts_seen limit is64 zero i (MoreValue v vs) ws whole each r enough le same = absurd (omega arith)
parts_seen limit is64 (suc most) i (MoreValue v vs) _ whole each (more_part {w} {ws = more} r rs) enough le same =
    subst (λ o. SeensFor (MoreSeen (see v) (see_all vs)) (look.parts_or_end o (parts_from most (suc i) whole)))
    (sym (same i (omega arith) (omega arith) ∙ first_found (part_name i) (Some (shape w, before w)) (seen_at (part_name i) (seen_fields more))))
    (more_seens (each.0 w r) (parts_seen limit is64 most (suc i) vs more whole each.1 rs (omega arith) (omega arith)
    (λ j lj ll. same j (omega arith) ll ∙ ap (λ t. if t then Some (shape w, before w) else seen_at (part_name j) (seen_fields more)) (part_apart i j (subst (λ n. i < n) is64 (omega arith)) (subst (λ n. j < n) is64 ll) (λ e. absurd (omega arith))))))

not_below : (n : ℕ) → int_lt (pos n) (pos 0) ≡ false
not_below n = false_from_ne_true (int_lt (pos n) (pos 0)) (λ e. let l = ltb-true n 0 e in absurd (omega arith))

few_enough : (n : ℕ) → n < 4294967296 → 0 + n < 2 ^ 64
few_enough n l = omega arith

at_most_next : (n m : ℕ) → m ≡ n → n ≤ suc m
at_most_next n m e = omega arith

number_seen : (n : ℕ) (vs : Values) (ws : JFields) → EachPart vs → count_of vs < 4294967296 → ForParts 0 vs ws → SeenFor (TagS (Number (pos n)) (see_all vs)) (object_shape (seen_fields (MoreJField (codes "$") (JNumV (pos n)) ws)))
number_seen n vs ws each few parts =
    subst (λ b. SeenFor (TagS (Number (pos n)) (see_all vs)) (if b then look.dict_or_odd (dict_pairs (seen_fields (MoreJField (codes "$") (JNumV (pos n)) ws)) NoShape) else TaggedS (pos n) (parts_from (suc (length (seen_fields ws))) 0 (seen_fields (MoreJField (codes "$") (JNumV (pos n)) ws))))) (sym (not_below n))
    (seen_number (parts_seen (2 ^ 64) refl (suc (length (seen_fields ws))) 0 vs ws (seen_fields (MoreJField (codes "$") (JNumV (pos n)) ws)) each parts (at_most_next (count_of vs) (length (seen_fields ws)) (count_parts parts)) (few_enough (count_of vs) few) (λ j lj ll. refl)))

-- the names of the first parts
pub part_is : (n : ℕ) → n < 10 → part_name n ≡ 97 ∷ (48 + n) ∷ []
part_is n l = ap (λ t. 97 ∷ t) (decimal_digit n l)

abbrev BeforeSeen : Value → Type 0
BeforeSeen v = (w : JVal) → For v w → (others : Seens) (others' : Shapes) → SeensFor others others' → EntriesFor (entries v others) (before w others')

abbrev EachBefore : Values → Type 0
EachBefore NoValue = Unit {0}
EachBefore (MoreValue v vs) = BeforeSeen v × EachBefore vs

-- the fields of a node
abbrev five : Name → Name → Name → Name → Name → JVal → JVal → JVal → JVal → JVal → JFields
five a b c d e wc wk wv wl wr = MoreJField a wc (MoreJField b wk (MoreJField c wv (MoreJField d wl (MoreJField e wr NoJField))))

abbrev NodeFor : Value → Value → Value → Value → Seens → Shapes → JVal → JVal → JVal → JVal → JVal → Name → Name → Name → Name → Name → Type 0
NodeFor key value left right others others' wc wk wv wl wr a b c d e =
    EntriesFor (option_and_then (λ after. entries left (MoreSeen (see key) (MoreSeen (see value) after))) (entries right others))
    (dict_pairs (seen_fields (MoreJField (codes "$") (JNumV (negsuc 0)) (five a b c d e wc wk wv wl wr))) others')

node_seen : (n : ℕ) (vs : Values) (ws : JFields) → EachPart vs → EachBefore vs → ForParts 0 vs ws → (others : Seens) (others' : Shapes) → SeensFor others others' → EntriesFor (entries_in n vs others) (dict_pairs (seen_fields (MoreJField (codes "$") (JNumV (negsuc n)) ws)) others')
node_seen (suc n) vs ws each befores ps others others' r =
    subst (λ b. EntriesFor (Some others) (if b then dict_pairs (seen_fields (MoreJField (codes "$") (JNumV (negsuc 0)) ws)) others' else Some others')) (sym no) (some_entries r)
  where
    no : is_number (negsuc (suc n)) (negsuc 0) ≡ false
    no = false_from_ne_true (is_number (negsuc (suc n)) (negsuc 0)) (λ e. let f = eqb-true (suc n) 0 e in absurd (cc))
node_seen zero (MoreValue color (MoreValue key (MoreValue value (MoreValue left (MoreValue right NoValue))))) _ each befores (more_part {w = wc} rc (more_part {w = wk} rk (more_part {w = wv} rv (more_part {w = wl} rl (more_part {w = wr} rr no_part))))) others others' r =
    subst (λ a. NodeFor key value left right others others' wc wk wv wl wr a (part_name 1) (part_name 2) (part_name 3) (part_name 4)) (sym (part_is 0 (omega arith)))
    (subst (λ b. NodeFor key value left right others others' wc wk wv wl wr (codes "a0") b (part_name 2) (part_name 3) (part_name 4)) (sym (part_is 1 (omega arith)))
    (subst (λ c. NodeFor key value left right others others' wc wk wv wl wr (codes "a0") (codes "a1") c (part_name 3) (part_name 4)) (sym (part_is 2 (omega arith)))
    (subst (λ d. NodeFor key value left right others others' wc wk wv wl wr (codes "a0") (codes "a1") (codes "a2") d (part_name 4)) (sym (part_is 3 (omega arith)))
    (subst (λ e. NodeFor key value left right others others' wc wk wv wl wr (codes "a0") (codes "a1") (codes "a2") (codes "a3") e) (sym (part_is 4 (omega arith)))
    (entries_then (λ after. entries left (MoreSeen (see key) (MoreSeen (see value) after))) (λ behind. before wl (MoreShape (shape wk) (MoreShape (shape wv) behind))) (befores.1.1.1.1.0 wr rr others others' r) (λ xs ys q.
    befores.1.1.1.0 wl rl (MoreSeen (see key) (MoreSeen (see value) xs)) (MoreShape (shape wk) (MoreShape (shape wv) ys)) (more_seens (each.1.0 wk rk) (more_seens (each.1.1.0 wv rv) q))))))))
node_seen zero _ ws each befores ps others others' r = no_entries

-- ---- values

mutual
  pub seen : (v : Value) (w : JVal) → For v w → SeenFor (see v) (shape w)
  seen v w for_int = seen_int
  seen v w for_text = seen_text
  seen (TagV (Number (pos n)) vs) w (for_number {ws} few ps) = number_seen n vs ws (parts vs) few ps
  seen (TagV (Number (negsuc n)) vs) w (for_number {ws} few ps) = dict_seen (node_seen n vs ws (parts vs) (befores vs) ps NoSeen NoShape no_seens)
  seen v w for_truth = seen_truth
  seen v w for_blank = seen_blank
  seen (RecordV fs) w (for_record {gs} rises is found) =
      subst (λ z. SeenFor (RecordS (names_of fs) (see_fields fs)) z) (untagged_shape (seen_fields gs) (no_tag_there gs is)) (seen_record (record_seen gs fs rises is found (fields fs)))
  seen (WireV u) w (for_wire e un) = seen_wire (wire_seen w u e un)
  seen v w (for_function scope made re) = seen_function
  seen v w (for_started scope d next left f turning re started count) = seen_function
  seen v w (for_getter d) = seen_function
  seen v w (for_known next left proper given is) = seen_function

  parts : (vs : Values) → EachPart vs
  parts NoValue = tt
  parts (MoreValue v vs) = ((λ w r. seen v w r), parts vs)

  fields : (fs : FieldValues) → EachSeen fs
  fields NoFieldV = tt
  fields (MoreFieldV k v fs) = ((λ w r. seen v w r), fields fs)

  befores : (vs : Values) → EachBefore vs
  befores NoValue = tt
  befores (MoreValue v vs) = ((λ w r others others' q. before_seen v w r others others' q), befores vs)

  before_seen : (v : Value) → BeforeSeen v
  before_seen (TagV (Number (negsuc n)) vs) w (for_number {ws} few ps) others others' q = node_seen n vs ws (parts vs) (befores vs) ps others others' q
  before_seen (TagV (Number (pos n)) vs) w (for_number {ws} few ps) others others' q = some_entries q
  before_seen _ w r others others' q = no_entries
