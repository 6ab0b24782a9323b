-- What is read from a wire value, as flags and inputs are, on both sides.
use Rattle.std.proofs.Common.{◌≡◌, ℕ, suc, ◌+◌, ◌≤◌, ◌<◌, ◌^◌, ℤ, pos, List, ◌∷◌, Bool, true, false, refl, sym, ap, ◌∙◌, subst, arith, codes, Option, Some, None}
use Rattle.std.specs.Prelude.{if◌then◌else◌, ◌||◌, option_and_then, option_map}
use Rattle.std.specs.List.{list_any}
use Rattle.std.specs.Str.{bytes_eq}
use Rattle.wire_value.specs.Wire as wire
use Rattle.wire_value.specs.Wire.{Wire, no_wire, more_wires, no_member, more_members}
use Rattle.wire_value.specs.Exact.{is_exact}
use Rattle.runs.specs.Ends.{End, Val, then_do, MVal, and_then, with_budget}
use Rattle.runs.specs.Texts.{units_lt}
use Rattle.emit_laws.specs.Records.{Rises}
use Rattle.emit_laws.proofs.Records.{found_inserted, inserted_rises}
use Rattle.elm_canon.specs.Names.{Name, same_name}
use Rattle.elm_canon.specs.Tree.{Payload, IntPayload, BoolPayload, TextPayload, MaybePayload, ListPayload, TuplePayload, RecordPayload, Payloads, NoPayload, MorePayload, PayloadFields, NoPayloadField, MorePayloadField}
use Rattle.elm_canon.specs.Spelled.{are_fields}
use Rattle.elm_meaning.specs.Values.{Value, IntV, RecordV, Values, MoreValue, FieldValues, NoFieldV, MoreFieldV, field_in, has_field, insert_field, list_of, tuple, just}
use Rattle.elm_meaning.specs.Ports.{shape, shape_each, shape_all, shape_fields, member_at}
use Rattle.js_tree.specs.Tree as js
use Rattle.js_meaning.specs.Values.{JVal, JNumV, JTextV, JObjV, JCodecV, JVals, NoJVal, MoreJVal, JFields, NoJField, MoreJField, JEnv, put_field}
use Rattle.js_meaning.specs.Values as values
use Rattle.js_meaning.specs.Lists.{part_name, tagged}
use Rattle.js_meaning.specs.Helpers.{j_help}
use Rattle.js_meaning.specs.Codecs.{Decoded, Refusal, Decoding, DecodedAll, RefusalOfOne, Decodings, DecodedFields, RefusalOfField, FieldDecodings, as_just, as_list, as_tuple, as_object, with_decoding, decode_each, then_fields, put_decoding, are_enough, decode, decode_parts, decode_fields}
use Rattle.js_meaning.specs.Codecs as codecs
use Rattle.js_meaning.specs.Eval.{JCallee, JLoop, j_eval, j_evals}
use Rattle.js_emit.specs.Codecs.{decoder, decoders, field_decoders}
use Rattle.emit_laws.specs.Given.{count_payloads, payload_names, ProperPayload, ProperPayloads, ProperPayloadFields}
use Rattle.emit_laws.specs.For.{For, for_int, for_text, for_number, for_truth, for_blank, for_record, no_part, more_part, ForField, no_field, one_field, is_record}
use Rattle.emit_laws.proofs.Constructs.{ForAll, for_none, for_more, count_vals}
use Rattle.emit_laws.proofs.Objects.{made_parts, for_parts, no_part_again, puts, next_field, word_is_not, same_counts}
use Rattle.emit_laws.proofs.Sights.{part_is}
use Rattle.emit_laws.proofs.Lists.{for_list, for_nil_list, all_three}

-- ---- what decoders are

abbrev mutual
  pub decoding : Payload → JVal
  decoding IntPayload = JCodecV js.DecodeInt NoJVal
  decoding BoolPayload = JCodecV js.DecodeBool NoJVal
  decoding TextPayload = JCodecV js.DecodeText NoJVal
  decoding (MaybePayload t) = JCodecV js.DecodeMaybe (MoreJVal (decoding t) NoJVal)
  decoding (ListPayload t) = JCodecV js.DecodeList (MoreJVal (decoding t) NoJVal)
  decoding (TuplePayload NoPayload) = JCodecV js.DecodeNull NoJVal
  decoding (TuplePayload (MorePayload t ts)) = JCodecV js.DecodeTuple (decodings (MorePayload t ts))
  decoding (RecordPayload fs) = JCodecV js.DecodeRecord (field_decodings fs)

  pub decodings : Payloads → JVals
  decodings NoPayload = NoJVal
  decodings (MorePayload t ts) = MoreJVal (decoding t) (decodings ts)

  pub field_decodings : PayloadFields → JVals
  field_decodings NoPayloadField = NoJVal
  field_decodings (MorePayloadField k t fs) = MoreJVal (JTextV k) (MoreJVal (decoding t) (field_decodings fs))

module _ (call : JCallee) (loop : JLoop) (env : JEnv) where
  mutual
    pub decoder_is : (t : Payload) (m : ℕ) → j_eval call loop (decoder t) env m ≡ MVal (decoding t) m
    decoder_is IntPayload m = refl
    decoder_is BoolPayload m = refl
    decoder_is TextPayload m = refl
    decoder_is (MaybePayload t) m = ap (λ o. and_then (and_then o (λ v m1. MVal (MoreJVal v NoJVal) m1)) (λ vs m1. with_budget (j_help js.DecodeMaybe vs) m1)) (decoder_is t m)
    decoder_is (ListPayload t) m = ap (λ o. and_then (and_then o (λ v m1. MVal (MoreJVal v NoJVal) m1)) (λ vs m1. with_budget (j_help js.DecodeList vs) m1)) (decoder_is t m)
    decoder_is (TuplePayload NoPayload) m = refl
    decoder_is (TuplePayload (MorePayload t ts)) m = ap (λ o. and_then o (λ vs m1. with_budget (j_help js.DecodeTuple vs) m1)) (decoders_are (MorePayload t ts) m)
    decoder_is (RecordPayload fs) m = ap (λ o. and_then o (λ vs m1. with_budget (j_help js.DecodeRecord vs) m1)) (field_decoders_are fs m)

    decoders_are : (ts : Payloads) (m : ℕ) → j_evals call loop (decoders ts) env m ≡ MVal (decodings ts) m
    decoders_are NoPayload m = refl
    decoders_are (MorePayload t ts) m =
        ap (λ o. and_then o (λ v m1. and_then (j_evals call loop (decoders ts) env m1) (λ vs m2. MVal (MoreJVal v vs) m2))) (decoder_is t m)
        ∙ ap (λ o. and_then o (λ vs m2. MVal (MoreJVal (decoding t) vs) m2)) (decoders_are ts m)

    field_decoders_are : (fs : PayloadFields) (m : ℕ) → j_evals call loop (field_decoders fs) env m ≡ MVal (field_decodings fs) m
    field_decoders_are NoPayloadField m = refl
    field_decoders_are (MorePayloadField k t fs) m =
        ap (λ o. and_then (and_then o (λ v m1. and_then (j_evals call loop (field_decoders fs) env m1) (λ vs m2. MVal (MoreJVal v vs) m2))) (λ vs m2. MVal (MoreJVal (JTextV k) vs) m2)) (decoder_is t m)
        ∙ ap (λ o. and_then (and_then o (λ vs m2. MVal (MoreJVal (decoding t) vs) m2)) (λ vs m2. MVal (MoreJVal (JTextV k) vs) m2)) (field_decoders_are fs m)

-- ---- what they read

pub data ReadFor : Option Value → End Decoded → Type 0 where
  both_refuse : ReadFor None (Val Refusal)
  both_read : {v : Value} {w : JVal} → For v w → ReadFor (Some v) (Val (Decoding w))

data ReadAll : Option Values → End DecodedAll → Type 0 where
  refuse_one : ReadAll None (Val RefusalOfOne)
  read_all : {vs : Values} {ws : JVals} → ForAll vs ws → ReadAll (Some vs) (Val (Decodings ws))

-- so many parts from the i-th on
data ReadParts (i count : ℕ) : Option Values → End DecodedFields → Type 0 where
  refuse_part : ReadParts i count None (Val RefusalOfField)
  read_parts : {vs : Values} {ws : JVals} → ForAll vs ws → count_vals ws ≡ count → ReadParts i count (Some vs) (Val (FieldDecodings (made_parts i ws)))

-- fields of these names alone
record FieldsFor (ks : List Name) (fs : FieldValues) (gs : JFields) : Type 0 where
  pub rises : Rises fs
  pub is : is_record gs ≡ true
  pub found : (k : Name) → ForField (field_in k fs) (values.field_in k gs)
  pub absent : (k : Name) → list_any (same_name k) ks ≡ false → (has_field k fs ≡ false) × (values.has_field k gs ≡ false)

data ReadFields (ks : List Name) : Option FieldValues → End DecodedFields → Type 0 where
  refuse_field : ReadFields ks None (Val RefusalOfField)
  read_fields : {fs : FieldValues} {gs : JFields} → FieldsFor ks fs gs → ReadFields ks (Some fs) (Val (FieldDecodings gs))

-- ---- maybe and lists

read_just : {o : Option Value} {p : End Decoded} → ReadFor o p → ReadFor (option_map (λ v. just v) o) (then_do p (λ read. Val (as_just read)))
read_just both_refuse = both_refuse
read_just (both_read {v} {w} r) = both_read (subst (λ k. For (just v) (tagged (pos 0) (MoreJField k w NoJField))) (part_is 0 (omega arith)) (for_number (omega arith) (more_part r no_part)))

read_list : {o : Option Values} {p : End DecodedAll} → ReadAll o p → ReadFor (option_map (λ vs. list_of vs) o) (then_do p (λ read. Val (as_list read)))
read_list refuse_one = both_refuse
read_list (read_all r) = both_read (for_list r for_nil_list)

read_more : {o : Option Value} {p : End Decoded} {os : Option Values} {ps : End DecodedAll} → ReadFor o p → ReadAll os ps → ReadAll (option_and_then (λ v. option_map (λ vs. MoreValue v vs) os) o) (then_do p (λ d. then_do ps (λ ds. Val (with_decoding d ds))))
read_more both_refuse refuse_one = refuse_one
read_more both_refuse (read_all r) = refuse_one
read_more (both_read r) refuse_one = refuse_one
read_more (both_read r) (read_all rs) = read_all (for_more r rs)

each_reads : (f : Wire → Option Value) (g : Wire → End Decoded) → ((w : Wire) → ReadFor (f w) (g w)) → (ws : wire.Wires) → ReadAll (shape_each f ws) (decode_each g ws)
each_reads f g one no_wire = read_all for_none
each_reads f g one (more_wires w ws) = read_more (one w) (each_reads f g one ws)

-- ---- tuples

too_few : (ts : Payloads) (ws : wire.Wires) → are_enough (decodings ts) ws ≡ false → shape_all ts ws ≡ None
too_few NoPayload ws e = absurd (cc)
too_few (MorePayload t ts) no_wire e = refl
too_few (MorePayload t ts) (more_wires w ws) e =
    ap (λ o. option_and_then (λ v. option_map (λ vs. MoreValue v vs) o) (shape t w)) (too_few ts ws e) ∙ none (shape t w)
  where
    none : (o : Option Value) → option_and_then (λ v. option_map (λ vs. MoreValue v vs) None) o ≡ None
    none (Some v) = refl
    none None = refl

read_part : {o : Option Value} {p : End Decoded} {os : Option Values} {ps : End DecodedFields} (limit i count : ℕ) → limit ≡ 2 ^ 64 → suc i + count ≤ limit → ReadFor o p → ReadParts (suc i) count os ps
    → ReadParts i (suc count) (option_and_then (λ v. option_map (λ vs. MoreValue v vs) os) o) (then_do p (λ read. then_fields (part_name i) read ps))
read_part limit i count is64 le both_refuse r = refuse_part
read_part limit i count is64 le (both_read q) refuse_part = refuse_part
read_part limit i count is64 le (both_read {v} {w} q) (read_parts {vs} {ws} r c) =
    subst (λ o. ReadParts i (suc count) (Some (MoreValue v vs)) (then_do o (λ gs. Val (FieldDecodings gs)))) (sym (puts (part_name i) w (made_parts (suc i) ws) refl (no_part_again limit is64 i (suc i) ws (omega arith) (subst (λ z. suc i + z ≤ limit) (sym c) le))))
    (read_parts (for_more q r) (ap suc c))

read_tuple : {o : Option Values} {p : End DecodedFields} (count : ℕ) → suc count < 4294967296 → ReadParts 0 (suc count) o p → ReadFor (option_map (λ vs. tuple vs) o) (then_do p (λ read. Val (as_tuple read)))
read_tuple count few refuse_part = both_refuse
read_tuple count few (read_parts for_none c) = absurd (cc)
read_tuple count few (read_parts (for_more r rs) c) = both_read (for_number (subst (λ z. z < 4294967296) (sym (same_counts (for_more r rs) ∙ c)) few) (for_parts 0 (for_more r rs)))

few_enough : (n : ℕ) → n < 4294967296 → 0 + n ≤ 2 ^ 64
few_enough n l = omega arith

-- ---- records

split_or : (a b : Bool) → (a || b) ≡ false → (a ≡ false) × (b ≡ false)
split_or true b e = absurd (cc)
split_or false b e = (refl, e)

inserted_has : (j k : Name) (v : Value) (fs : FieldValues) → same_name j k ≡ false → has_field j fs ≡ false → has_field j (insert_field k v fs) ≡ false
inserted_has j k v NoFieldV e f = ap (λ b. b || false) e
inserted_has j k v (MoreFieldV i w fs) e f = let s = split_or (same_name j i) (has_field j fs) f in go (units_lt i k) s.0 (inserted_has j k v fs e s.1)
  where
    go : (b : Bool) → same_name j i ≡ false → has_field j (insert_field k v fs) ≡ false → has_field j (if b then MoreFieldV i w (insert_field k v fs) else MoreFieldV k v (MoreFieldV i w fs)) ≡ false
    go true g rec = ap (λ t. t || has_field j (insert_field k v fs)) g ∙ rec
    go false g rec = ap (λ t. t || (same_name j i || has_field j fs)) e ∙ f

fields_more : {v : Value} {w : JVal} {fs : FieldValues} {gs : JFields} (k : Name) (ks : List Name) → are_fields (k ∷ ks) ≡ true → For v w → FieldsFor ks fs gs → FieldsFor (k ∷ ks) (insert_field k v fs) (MoreJField k w gs)
fields_more {v} {w} {fs} {gs} k ks fields r f =
    let n = next_field k ks fields in
    let gone = f.absent k n.new in
    record {
      rises = inserted_rises k v fs gone.0 f.rises;
      is = all_three (bytes_eq k (codes "$")) (values.has_field k gs) (is_record gs) (word_is_not k (codes "$") n.word refl) gone.1 f.is;
      found = λ j. subst (λ o. ForField o (if bytes_eq j k then Val w else values.field_in j gs)) (sym (found_inserted j k v fs gone.0)) (one j (same_name j k) (f.found j));
      absent = λ j e. let s = split_or (same_name j k) (list_any (same_name j) ks) e in let g = f.absent j s.1 in (inserted_has j k v fs s.0 g.0, ap (λ t. t || values.has_field j gs) s.0 ∙ g.1);
    }
  where
    one : (j : Name) (t : Bool) → ForField (field_in j fs) (values.field_in j gs) → ForField (if t then Val v else field_in j fs) (if t then Val w else values.field_in j gs)
    one j true q = one_field r
    one j false q = q

read_field : {o : Option Value} {p : End Decoded} {os : Option FieldValues} {ps : End DecodedFields} (k : Name) (ks : List Name) → are_fields (k ∷ ks) ≡ true → ReadFor o p → ReadFields ks os ps
    → ReadFields (k ∷ ks) (option_and_then (λ v. option_map (λ vs. insert_field k v vs) os) o) (then_do p (λ read. then_fields k read ps))
read_field k ks fields both_refuse r = refuse_field
read_field k ks fields (both_read q) refuse_field = refuse_field
read_field k ks fields (both_read {v} {w} q) (read_fields {fs} {gs} r) =
    let n = next_field k ks fields in
    subst (λ o. ReadFields (k ∷ ks) (Some (insert_field k v fs)) (then_do o (λ hs. Val (FieldDecodings hs)))) (sym (puts k w gs (word_is_not k (codes "__proto__") n.word refl) (r.absent k n.new).1)) (read_fields (fields_more k ks fields q r))

-- the member of that name, if there is one
read_member : (k : Name) (ks : List Name) (f : Wire → Option Value) (g : Wire → End Decoded) {os : Option FieldValues} {ps : End DecodedFields} → are_fields (k ∷ ks) ≡ true → ((w : Wire) → ReadFor (f w) (g w)) → (ms : wire.Members) → ReadFields ks os ps
    → ReadFields (k ∷ ks) (option_and_then (λ w. option_and_then (λ v. option_map (λ vs. insert_field k v vs) os) (f w)) (member_at k ms)) (then_do (codecs.member_at k ms g) (λ read. then_fields k read ps))
read_member k ks f g fields one no_member r = refuse_field
read_member k ks f g {os} {ps} fields one (more_members i w ms) r = go (same_name k i) (read_member k ks f g fields one ms r)
  where
    go : (t : Bool) → ReadFields (k ∷ ks) (option_and_then (λ w. option_and_then (λ v. option_map (λ vs. insert_field k v vs) os) (f w)) (member_at k ms)) (then_do (codecs.member_at k ms g) (λ read. then_fields k read ps))
        → ReadFields (k ∷ ks) (option_and_then (λ w. option_and_then (λ v. option_map (λ vs. insert_field k v vs) os) (f w)) (if t then Some w else member_at k ms)) (then_do (if t then g w else codecs.member_at k ms g) (λ read. then_fields k read ps))
    go true rec = read_field k ks fields (one w) r
    go false rec = rec

read_record : {o : Option FieldValues} {p : End DecodedFields} (ks : List Name) → ReadFields ks o p → ReadFor (option_map (λ vs. RecordV vs) o) (then_do p (λ read. Val (as_object read)))
read_record ks refuse_field = both_refuse
read_record ks (read_fields r) = both_read (for_record r.rises r.is r.found)

read_int : (n : ℤ) → ReadFor (if is_exact n then Some (IntV n) else None) (Val (if is_exact n then Decoding (JNumV n) else Refusal))
read_int n = go (is_exact n)
  where
    go : (t : Bool) → ReadFor (if t then Some (IntV n) else None) (Val (if t then Decoding (JNumV n) else Refusal))
    go true = both_read for_int
    go false = both_refuse

mutual
  pub reads : (t : Payload) → ProperPayload t → (w : Wire) → ReadFor (shape t w) (decode (decoding t) w)
  reads IntPayload pr (wire.int n) = read_int n
  reads IntPayload pr _ = both_refuse
  reads BoolPayload pr (wire.bool b) = both_read for_truth
  reads BoolPayload pr _ = both_refuse
  reads TextPayload pr (wire.text t) = both_read for_text
  reads TextPayload pr _ = both_refuse
  reads (MaybePayload t) pr wire.null = both_read (for_number (omega arith) no_part)
  reads (MaybePayload t) pr (wire.bool b) = read_just (reads t pr (wire.bool b))
  reads (MaybePayload t) pr (wire.int n) = read_just (reads t pr (wire.int n))
  reads (MaybePayload t) pr (wire.text us) = read_just (reads t pr (wire.text us))
  reads (MaybePayload t) pr (wire.list ws) = read_just (reads t pr (wire.list ws))
  reads (MaybePayload t) pr (wire.object ms) = read_just (reads t pr (wire.object ms))
  reads (ListPayload t) pr (wire.list ws) = read_list (each_reads (λ w. shape t w) (λ w. decode (decoding t) w) (λ w. reads t pr w) ws)
  reads (ListPayload t) pr _ = both_refuse
  reads (TuplePayload NoPayload) pr wire.null = both_read for_blank
  reads (TuplePayload NoPayload) pr _ = both_refuse
  reads (TuplePayload (MorePayload t ts)) pr (wire.list ws) = go (are_enough (decodings (MorePayload t ts)) ws) refl (λ e. parts_read (2 ^ 64) refl 0 (MorePayload t ts) ws pr.1 (few_enough (count_payloads (MorePayload t ts)) pr.0) e)
    where
      go : (b : Bool) → are_enough (decodings (MorePayload t ts)) ws ≡ b → (are_enough (decodings (MorePayload t ts)) ws ≡ true → ReadParts 0 (count_payloads (MorePayload t ts)) (shape_all (MorePayload t ts) ws) (decode_parts 0 (decodings (MorePayload t ts)) ws))
          → ReadFor (option_map (λ vs. tuple vs) (shape_all (MorePayload t ts) ws)) (if b then then_do (decode_parts 0 (decodings (MorePayload t ts)) ws) (λ read. Val (as_tuple read)) else Val Refusal)
      go true e rec = read_tuple (count_payloads ts) pr.0 (rec e)
      go false e rec = subst (λ o. ReadFor (option_map (λ vs. tuple vs) o) (Val Refusal)) (sym (too_few (MorePayload t ts) ws e)) both_refuse
  reads (TuplePayload (MorePayload t ts)) pr _ = both_refuse
  reads (RecordPayload fs) pr (wire.object ms) = read_record (payload_names fs) (fields_read fs pr.0 pr.1 ms)
  reads (RecordPayload fs) pr _ = both_refuse

  parts_read : (limit : ℕ) → limit ≡ 2 ^ 64 → (i : ℕ) (ts : Payloads) (ws : wire.Wires) → ProperPayloads ts → i + count_payloads ts ≤ limit → are_enough (decodings ts) ws ≡ true → ReadParts i (count_payloads ts) (shape_all ts ws) (decode_parts i (decodings ts) ws)
  parts_read limit is64 i NoPayload ws pr le e = read_parts for_none refl
  parts_read limit is64 i (MorePayload t ts) no_wire pr le e = absurd (cc)
  parts_read limit is64 i (MorePayload t ts) (more_wires w ws) pr le e = read_part limit i (count_payloads ts) is64 (omega arith) (reads t pr.0 w) (parts_read limit is64 (suc i) ts ws pr.1 (omega arith) e)

  fields_read : (fs : PayloadFields) → are_fields (payload_names fs) ≡ true → ProperPayloadFields fs → (ms : wire.Members) → ReadFields (payload_names fs) (shape_fields fs ms) (decode_fields (field_decodings fs) ms)
  fields_read NoPayloadField fields pr ms = read_fields (record { rises = tt; is = refl; found = λ k. no_field; absent = λ k e. (refl, refl) })
  fields_read (MorePayloadField k t fs) fields pr ms =
      read_member k (payload_names fs) (λ w. shape t w) (λ w. decode (decoding t) w) fields (λ w. reads t pr.0 w) ms (fields_read fs (next_field k (payload_names fs) fields).rest pr.1 ms)
