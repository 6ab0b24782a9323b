-- What is sent on a port: the wire value of a value by its type, on both sides.
use Rattle.std.proofs.Common.{◌≡◌, ℕ, zero, suc, ◌+◌, ◌≤◌, ◌<◌, ◌^◌, pos, List, ◌∷◌, Bool, true, false, refl, sym, ap, ◌∙◌, subst, arith, codes}
use Rattle.std.specs.Prelude.{if◌then◌else◌, ◌&&◌, ◌||◌, not}
use Rattle.std.specs.List.{list_any}
use Rattle.std.specs.Str.{bytes_eq}
use Rattle.std.proofs.lemmas.Slice.Eq.{bytes_eq-Decides}
use Rattle.wire_value.specs.Wire as wire
use Rattle.wire_value.specs.Wire.{Wire, no_wire, more_wires, no_member, more_members}
use Rattle.runs.specs.Ends.{End, Val, Stuck, then_do, MVal, and_then, with_budget}
use Rattle.runs.specs.Members as base
use Rattle.elm_canon.specs.Names.{Name, same_name}
use Rattle.elm_canon.specs.declared.unions.Tag.TheVariants.{Number}
use Rattle.elm_canon.specs.Tree.{Payload, IntPayload, BoolPayload, TextPayload, MaybePayload, ListPayload, TuplePayload, RecordPayload, Payloads, NoPayload, MorePayload, PayloadFields, NoPayloadField, MorePayloadField}
use Rattle.elm_canon.specs.Spelled.{are_fields}
use Rattle.elm_meaning.specs.Values.{Value, TagV, Values, NoValue, MoreValue}
use Rattle.elm_meaning.specs.Ports.{unshape, unshape_each, unshape_all, unshape_fields}
use Rattle.js_tree.specs.Tree as js
use Rattle.js_meaning.specs.Values.{JVal, JNumV, JTextV, JArrayV, JObjV, JCodecV, JVals, NoJVal, MoreJVal, JFields, NoJField, MoreJField, JEnv, field_in, has_field, put_field}
use Rattle.js_meaning.specs.Lists.{part_name, tagged}
use Rattle.js_meaning.specs.Codecs.{encode, encode_each, encode_parts, encode_fields}
use Rattle.js_meaning.specs.Run.{wire_of, wires_of, members_of, put_wire}
use Rattle.js_meaning.specs.Helpers.{j_help}
use Rattle.js_meaning.specs.Shapes.{units_lt as js_lt}
use Rattle.js_meaning.specs.Eval.{JCallee, JLoop, j_eval, j_evals}
use Rattle.js_emit.specs.Codecs.{encoder, encoders, field_encoders}
use Rattle.emit_laws.specs.Given.{count_payloads, payload_names, ProperPayload, ProperPayloads, ProperPayloadFields}
use Rattle.emit_laws.specs.For.{For, for_int, for_text, for_number, for_truth, for_blank, ForParts, no_part, more_part, is_untagged, are_untagged, fields_untagged}
use Rattle.emit_laws.proofs.Ends.{EndFor, both_give, any_stuck, end_then}
use Rattle.emit_laws.proofs.Constructs.{ForAll, for_none, for_more}
use Rattle.emit_laws.proofs.Objects.{next_field, word_is_not}
use Rattle.emit_laws.proofs.Trees.{part_apart}
use Rattle.emit_laws.proofs.Sights.{part_is}
use Rattle.emit_laws.proofs.Arithmetic.{same_order}
use Rattle.emit_laws.proofs.Lists.{items_same}
use Rattle.emit_laws.proofs.Operators.{field_same}

-- ---- what encoders are

abbrev mutual
  pub encoding : Payload → JVal
  encoding IntPayload = JCodecV js.EncodeSame NoJVal
  encoding BoolPayload = JCodecV js.EncodeSame NoJVal
  encoding TextPayload = JCodecV js.EncodeSame NoJVal
  encoding (MaybePayload t) = JCodecV js.EncodeMaybe (MoreJVal (encoding t) NoJVal)
  encoding (ListPayload t) = JCodecV js.EncodeList (MoreJVal (encoding t) NoJVal)
  encoding (TuplePayload NoPayload) = JCodecV js.EncodeNull NoJVal
  encoding (TuplePayload (MorePayload t ts)) = JCodecV js.EncodeTuple (encodings (MorePayload t ts))
  encoding (RecordPayload fs) = JCodecV js.EncodeRecord (field_encodings fs)

  pub encodings : Payloads → JVals
  encodings NoPayload = NoJVal
  encodings (MorePayload t ts) = MoreJVal (encoding t) (encodings ts)

  pub field_encodings : PayloadFields → JVals
  field_encodings NoPayloadField = NoJVal
  field_encodings (MorePayloadField k t fs) = MoreJVal (JTextV k) (MoreJVal (encoding t) (field_encodings fs))

module _ (call : JCallee) (loop : JLoop) (env : JEnv) where
  mutual
    pub encoder_is : (t : Payload) (m : ℕ) → j_eval call loop (encoder t) env m ≡ MVal (encoding t) m
    encoder_is IntPayload m = refl
    encoder_is BoolPayload m = refl
    encoder_is TextPayload m = refl
    encoder_is (MaybePayload t) m = ap (λ o. and_then (and_then o (λ v m1. MVal (MoreJVal v NoJVal) m1)) (λ vs m1. with_budget (j_help js.EncodeMaybe vs) m1)) (encoder_is t m)
    encoder_is (ListPayload t) m = ap (λ o. and_then (and_then o (λ v m1. MVal (MoreJVal v NoJVal) m1)) (λ vs m1. with_budget (j_help js.EncodeList vs) m1)) (encoder_is t m)
    encoder_is (TuplePayload NoPayload) m = refl
    encoder_is (TuplePayload (MorePayload t ts)) m = ap (λ o. and_then o (λ vs m1. with_budget (j_help js.EncodeTuple vs) m1)) (encoders_are (MorePayload t ts) m)
    encoder_is (RecordPayload fs) m = ap (λ o. and_then o (λ vs m1. with_budget (j_help js.EncodeRecord vs) m1)) (field_encoders_are fs m)

    encoders_are : (ts : Payloads) (m : ℕ) → j_evals call loop (encoders ts) env m ≡ MVal (encodings ts) m
    encoders_are NoPayload m = refl
    encoders_are (MorePayload t ts) m =
        ap (λ o. and_then o (λ v m1. and_then (j_evals call loop (encoders ts) env m1) (λ vs m2. MVal (MoreJVal v vs) m2))) (encoder_is t m)
        ∙ ap (λ o. and_then o (λ vs m2. MVal (MoreJVal (encoding t) vs) m2)) (encoders_are ts m)

    field_encoders_are : (fs : PayloadFields) (m : ℕ) → j_evals call loop (field_encoders fs) env m ≡ MVal (field_encodings fs) m
    field_encoders_are NoPayloadField m = refl
    field_encoders_are (MorePayloadField k t fs) m =
        ap (λ o. and_then (and_then o (λ v m1. and_then (j_evals call loop (field_encoders fs) env m1) (λ vs m2. MVal (MoreJVal v vs) m2))) (λ vs m2. MVal (MoreJVal (JTextV k) vs) m2)) (encoder_is t m)
        ∙ ap (λ o. and_then (and_then o (λ vs m2. MVal (MoreJVal (encoding t) vs) m2)) (λ vs m2. MVal (MoreJVal (JTextV k) vs) m2)) (field_encoders_are fs m)

-- ---- what they do

-- the wire value that the host is given
pub record Sends (w : Wire) (v : JVal) : Type 0 where
  pub is : wire_of v ≡ Val w
  pub plain : is_untagged v ≡ true

pub record SendsAll (ws : wire.Wires) (vs : JVals) : Type 0 where
  pub are : wires_of vs ≡ Val ws
  pub plains : are_untagged vs ≡ true

-- of no other names
pub record SendsFields (ks : List Name) (ms : wire.Members) (fs : JFields) : Type 0 where
  pub members : members_of fs ≡ Val ms
  pub tagless : fields_untagged fs ≡ true
  pub absent : (k : Name) → list_any (same_name k) ks ≡ false → has_field k fs ≡ false

sends_one : (w : Wire) (v : JVal) → wire_of v ≡ Val w → is_untagged v ≡ true → Sends w v
sends_one w v e u = record { is = e; plain = u }

both : (a b : Bool) → a ≡ true → b ≡ true → (a && b) ≡ true
both true b e f = f
both false b e f = absurd (cc)

sends_more : {w : Wire} {v : JVal} {ws : wire.Wires} {vs : JVals} → Sends w v → SendsAll ws vs → SendsAll (more_wires w ws) (MoreJVal v vs)
sends_more {w} {v} {ws} {vs} r rs = record {
  are = ap (λ o. then_do o (λ x. then_do (wires_of vs) (λ xs. Val (more_wires x xs)))) r.is ∙ ap (λ o. then_do o (λ xs. Val (more_wires w xs))) rs.are;
  plains = both (is_untagged v) (are_untagged vs) r.plain rs.plains;
}

pub same_put : (k : Name) (w : Wire) (ms : wire.Members) → base.put_wire k w ms ≡ put_wire k w ms
same_put k w no_member = refl
same_put k w (more_members i x ms) =
    ap (λ b. if b then more_members i x (base.put_wire k w ms) else more_members k w (more_members i x ms)) (same_order i k)
    ∙ ap (λ z. if js_lt i k then more_members i x z else more_members k w (more_members i x ms)) (same_put k w ms)

either_false : (a b : Bool) → a ≡ false → b ≡ false → (a || b) ≡ false
either_false true b e f = e
either_false false b e f = f

split_or : (a b : Bool) → (a || b) ≡ false → (a ≡ false) × (b ≡ false)
split_or true b e = absurd (cc)
split_or false b e = (refl, e)

-- one field before the others
put_sent : {w : Wire} {v : JVal} {ms : wire.Members} {fs : JFields} (k : Name) (ks : List Name) → are_fields (k ∷ ks) ≡ true → Sends w v → SendsFields ks ms fs → EndFor (SendsFields (k ∷ ks)) (Val (base.put_wire k w ms)) (put_field k v fs)
put_sent {w} {v} {ms} {fs} k ks fields r rs =
    let n = next_field k ks fields in
    subst (λ t. EndFor (SendsFields (k ∷ ks)) (Val (base.put_wire k w ms)) (if t then Stuck else Val (MoreJField k v fs))) (sym (either_false (bytes_eq k (codes "__proto__")) (has_field k fs) (word_is_not k (codes "__proto__") n.word refl) (rs.absent k n.new)))
    (both_give (record {
      members = ap (λ o. then_do o (λ x. then_do (members_of fs) (λ xs. Val (put_wire k x xs)))) r.is ∙ ap (λ o. then_do o (λ xs. Val (put_wire k w xs))) rs.members ∙ ap (λ z. Val z) (sym (same_put k w ms));
      tagless = both (not (bytes_eq k (codes "$"))) (is_untagged v && fields_untagged fs) (ap not (word_is_not k (codes "$") n.word refl)) (both (is_untagged v) (fields_untagged fs) r.plain rs.tagless);
      absent = λ j e. let s = split_or (same_name j k) (list_any (same_name j) ks) e in either_false (bytes_eq j k) (has_field j fs) s.0 (rs.absent j s.1);
    }))

-- a part of a value is found under its name
abbrev PartsAre : ℕ → ℕ → JFields → JFields → Type 0
PartsAre limit i whole ws = (j : ℕ) → i ≤ j → j < limit → field_in (part_name j) whole ≡ field_in (part_name j) ws

first_part : {A : Type 0} (k : Name) (a b : A) → (if bytes_eq k k then a else b) ≡ a
first_part k a b = ap (λ t. if t then a else b) ((bytes_eq-Decides k k).1 refl)

few_enough : (n : ℕ) → n < 4294967296 → 0 + n ≤ 2 ^ 64
few_enough n l = omega arith

each_encodes : {vs : Values} {ws : JVals} (f : Value → End Wire) (g : JVal → End JVal) → ((v : Value) (w : JVal) → For v w → EndFor Sends (f v) (g w)) → ForAll vs ws → EndFor SendsAll (unshape_each f vs) (encode_each g ws)
each_encodes f g one for_none = both_give (record { are = refl; plains = refl })
each_encodes f g one (for_more {v} {w} {vs} {ws} r rs) =
    end_then (λ x. then_do (unshape_each f vs) (λ xs. Val (more_wires x xs))) (λ x. then_do (encode_each g ws) (λ xs. Val (MoreJVal x xs))) (one v w r) (λ x y s.
    end_then (λ xs. Val (more_wires x xs)) (λ xs. Val (MoreJVal y xs)) (each_encodes f g one rs) (λ xs ys ss. both_give (sends_more s ss)))

mutual
  pub encodes : (t : Payload) → ProperPayload t → (v : Value) (w : JVal) → For v w → EndFor Sends (unshape t v) (encode (encoding t) w)
  encodes IntPayload pr v w (for_int {n}) = both_give (record { is = refl; plain = refl })
  encodes IntPayload pr v w _ = any_stuck
  encodes BoolPayload pr v w for_truth = both_give (record { is = refl; plain = refl })
  encodes BoolPayload pr v w _ = any_stuck
  encodes TextPayload pr v w for_text = both_give (record { is = refl; plain = refl })
  encodes TextPayload pr v w _ = any_stuck
  encodes (MaybePayload t) pr (TagV (Number (pos zero)) (MoreValue v NoValue)) w (for_number few (more_part {w = x} r no_part)) =
      subst (λ k. EndFor Sends (unshape t v) (encode (encoding (MaybePayload t)) (tagged (pos 0) (MoreJField k x NoJField)))) (sym (part_is 0 (omega arith))) (encodes t pr v x r)
  encodes (MaybePayload t) pr (TagV (Number (pos (suc zero))) NoValue) w (for_number few no_part) = both_give (record { is = refl; plain = refl })
  encodes (MaybePayload t) pr _ w r = any_stuck
  encodes (ListPayload t) pr v w r =
      end_then (λ vs. then_do (unshape_each (λ item. unshape t item) vs) (λ ws. Val (wire.list ws))) (λ vs. then_do (encode_each (λ x. encode (encoding t) x) vs) (λ ws. Val (JArrayV ws))) (items_same v w r) (λ vs ws rs.
      end_then (λ xs. Val (wire.list xs)) (λ ys. Val (JArrayV ys)) (each_encodes (λ item. unshape t item) (λ x. encode (encoding t) x) (λ a b q. encodes t pr a b q) rs) (λ xs ys s.
      both_give (sends_one (wire.list xs) (JArrayV ys) (ap (λ o. then_do o (λ zs. Val (wire.list zs))) s.are) s.plains)))
  encodes (TuplePayload NoPayload) pr v w for_blank = both_give (record { is = refl; plain = refl })
  encodes (TuplePayload NoPayload) pr v w _ = any_stuck
  encodes (TuplePayload (MorePayload t ts)) pr (TagV (Number (pos zero)) vs) w (for_number {ws} few parts) =
      end_then (λ xs. Val (wire.list xs)) (λ ys. Val (JArrayV ys)) (parts_encode (2 ^ 64) refl 0 (MorePayload t ts) vs ws (MoreJField (codes "$") (JNumV (pos 0)) ws) pr.1 (few_enough (count_payloads (MorePayload t ts)) pr.0) parts (λ j l m. refl)) (λ xs ys s.
      both_give (sends_one (wire.list xs) (JArrayV ys) (ap (λ o. then_do o (λ zs. Val (wire.list zs))) s.are) s.plains))
  encodes (TuplePayload (MorePayload t ts)) pr _ w r = any_stuck
  encodes (RecordPayload fs) pr v w r =
      end_then (λ ms. Val (wire.object ms)) (λ ys. Val (JObjV ys)) (fields_encode fs pr.0 pr.1 v w r) (λ ms ys s.
      both_give (sends_one (wire.object ms) (JObjV ys) (ap (λ o. then_do o (λ zs. Val (wire.object zs))) s.members) s.tagless))

  parts_encode : (limit : ℕ) → limit ≡ 2 ^ 64 → (i : ℕ) (ts : Payloads) (vs : Values) (ws whole : JFields) → ProperPayloads ts → i + count_payloads ts ≤ limit → ForParts i vs ws → PartsAre limit i whole ws → EndFor SendsAll (unshape_all ts vs) (encode_parts i (encodings ts) (JObjV whole))
  parts_encode limit is64 i NoPayload NoValue ws whole pr le no_part same = both_give (record { are = refl; plains = refl })
  parts_encode limit is64 i NoPayload (MoreValue v vs) ws whole pr le r same = any_stuck
  parts_encode limit is64 i (MorePayload t ts) NoValue ws whole pr le r same = any_stuck
  parts_encode limit is64 i (MorePayload t ts) (MoreValue v vs) _ whole pr le (more_part {w} {ws = more} r rs) same =
      subst (λ o. EndFor SendsAll (unshape_all (MorePayload t ts) (MoreValue v vs)) (then_do o (λ part. then_do (encode (encoding t) part) (λ x. then_do (encode_parts (suc i) (encodings ts) (JObjV whole)) (λ xs. Val (MoreJVal x xs))))))
      (sym (same i (omega arith) (omega arith) ∙ first_part (part_name i) (Val w) (field_in (part_name i) more)))
      (end_then (λ x. then_do (unshape_all ts vs) (λ xs. Val (more_wires x xs))) (λ x. then_do (encode_parts (suc i) (encodings ts) (JObjV whole)) (λ xs. Val (MoreJVal x xs))) (encodes t pr.0 v w r) (λ x y s.
      end_then (λ xs. Val (more_wires x xs)) (λ xs. Val (MoreJVal y xs)) (parts_encode limit is64 (suc i) ts vs more whole pr.1 (omega arith) rs
      (λ j lj ll. same j (omega arith) ll ∙ ap (λ b. if b then Val w else field_in (part_name j) more) (part_apart i j (subst (λ n. i < n) is64 (omega arith)) (subst (λ n. j < n) is64 ll) (λ e. absurd (omega arith)))))
      (λ xs ys ss. both_give (sends_more s ss))))

  fields_encode : (fs : PayloadFields) → are_fields (payload_names fs) ≡ true → ProperPayloadFields fs → (v : Value) (w : JVal) → For v w → EndFor (SendsFields (payload_names fs)) (unshape_fields fs v) (encode_fields (field_encodings fs) w)
  fields_encode NoPayloadField fields pr v w r = both_give (record { members = refl; tagless = refl; absent = λ k e. refl })
  fields_encode (MorePayloadField k t fs) fields pr v w r =
      end_then (λ part. then_do (unshape t part) (λ x. then_do (unshape_fields fs v) (λ ms. Val (base.put_wire k x ms)))) (λ part. then_do (encode (encoding t) part) (λ x. then_do (encode_fields (field_encodings fs) w) (λ ms. put_field k x ms))) (field_same k r) (λ a b q.
      end_then (λ x. then_do (unshape_fields fs v) (λ ms. Val (base.put_wire k x ms))) (λ x. then_do (encode_fields (field_encodings fs) w) (λ ms. put_field k x ms)) (encodes t pr.0 a b q) (λ x y s.
      end_then (λ ms. Val (base.put_wire k x ms)) (λ ms. put_field k y ms) (fields_encode fs (next_field k (payload_names fs) fields).rest pr.1 v w r) (λ ms ns ss. put_sent k (payload_names fs) fields s ss)))
