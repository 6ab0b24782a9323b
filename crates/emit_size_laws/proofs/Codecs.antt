-- Decoders, encoders and functions without a body are in the subset.
use Rattle.std.proofs.Common.{◌≡◌, ℕ, zero, suc, ◌+◌, ◌≤◌, ◌<◌, ◌^◌, pos, List, [], ◌∷◌, Bool, true, false, nat_eq, refl, ap, arith}
use Rattle.std.specs.Prelude.{if◌then◌else◌, ◌&&◌, ◌||◌, ◌==◌, not}
use Rattle.std.specs.List.{list_all, list_any}
use Rattle.std.proofs.lemmas.Bool.Decides.{Decides-eqb}
use Rattle.elm_canon.specs.Names as source
use Rattle.elm_canon.specs.declared.unions.Tag.TheVariants.{Number}
use Rattle.elm_canon.specs.Tree.{Payload, IntPayload, BoolPayload, TextPayload, MaybePayload, ListPayload, TuplePayload, RecordPayload, Payloads, NoPayload, MorePayload, PayloadFields, NoPayloadField, MorePayloadField, Known, Maker, RecordMaker, OutPort, InPort}
use Rattle.elm_canon.specs.Spelled as elm
use Rattle.elm_canon.specs.Constructors.{is_exact_tag, same_kind}
use Rattle.elm_canon.specs.Declarations.{is_proper_known}
use Rattle.elm_meaning.specs.Functions as functions
use Rattle.elm_meaning.specs.Functions.{Primitive, Bodiless, Core, arity_of, known_arity, primitive_arity}
use Rattle.js_tree.specs.Tree.{Name, Made, Js, JText, JCall, JsList, NoJs, MoreJs, Return}
use Rattle.js_tree.specs.Subset.{is_unit, is_name, is_spelled, list_spelled, Fixed, may_read, Scope, use_of, within, is_bound, list_bound, fields_bound}
use Rattle.js_emit.specs.Names.{made_names, vars, now, two, fields_js}
use Rattle.js_emit.specs.Codecs.{decoder, decoders, field_decoders, encoder, encoders, field_encoders}
use Rattle.js_emit.specs.Operators.{given_js, finish_js, arrows_of, bodiless_js}
use Rattle.emit_laws.specs.Given.{payload_names, ProperPayload, ProperPayloads, ProperPayloadFields, ProperBodiless}
use Rattle.emit_size_laws.proofs.Uses.{readable, fixed_within}
use Rattle.emit_size_laws.proofs.Parts.{both, first_of, second_of, build_bound}
use Rattle.emit_size_laws.proofs.Words.{word_units, count_js, named_spelled, tagged_spelled, build_spelled, now_spelled}
use Rattle.emit_size_laws.proofs.Spelled.{AllNames, made_all_names, arrows_of_spelled}
use Rattle.emit_size_laws.proofs.Functions.{arrows_of_bound}

and_true : (a : Bool) → a ≡ true → (a && true) ≡ true
and_true a e = both a true e refl

first_word : (k : source.Name) (ks : List source.Name) → elm.are_fields (k ∷ ks) ≡ true → elm.is_word k ≡ true
first_word k ks e = first_of (elm.is_word k) (not (list_any (source.same_name k) ks) && elm.are_fields ks) e

later_fields : (k : source.Name) (ks : List source.Name) → elm.are_fields (k ∷ ks) ≡ true → elm.are_fields ks ≡ true
later_fields k ks e = second_of (not (list_any (source.same_name k) ks)) (elm.are_fields ks) (second_of (elm.is_word k) (not (list_any (source.same_name k) ks) && elm.are_fields ks) e)

-- ---- spelled

mutual
  pub decoder_spelled : (t : Payload) → ProperPayload t → is_spelled (decoder t) ≡ true
  decoder_spelled IntPayload pr = refl
  decoder_spelled BoolPayload pr = refl
  decoder_spelled TextPayload pr = refl
  decoder_spelled (MaybePayload t) pr = and_true (is_spelled (decoder t)) (decoder_spelled t pr)
  decoder_spelled (ListPayload t) pr = and_true (is_spelled (decoder t)) (decoder_spelled t pr)
  decoder_spelled (TuplePayload NoPayload) pr = refl
  decoder_spelled (TuplePayload (MorePayload t ts)) pr = decoders_spelled (MorePayload t ts) pr.1
  decoder_spelled (RecordPayload fs) pr = field_decoders_spelled fs pr.0 pr.1

  decoders_spelled : (ts : Payloads) → ProperPayloads ts → list_spelled (decoders ts) ≡ true
  decoders_spelled NoPayload pr = refl
  decoders_spelled (MorePayload t ts) pr = both (is_spelled (decoder t)) (list_spelled (decoders ts)) (decoder_spelled t pr.0) (decoders_spelled ts pr.1)

  field_decoders_spelled : (fs : PayloadFields) → elm.are_fields (payload_names fs) ≡ true → ProperPayloadFields fs → list_spelled (field_decoders fs) ≡ true
  field_decoders_spelled NoPayloadField e pr = refl
  field_decoders_spelled (MorePayloadField k t fs) e pr =
      both (list_all is_unit k) (is_spelled (decoder t) && list_spelled (field_decoders fs)) (word_units k (first_word k (payload_names fs) e))
      (both (is_spelled (decoder t)) (list_spelled (field_decoders fs)) (decoder_spelled t pr.0) (field_decoders_spelled fs (later_fields k (payload_names fs) e) pr.1))

mutual
  pub encoder_spelled : (t : Payload) → ProperPayload t → is_spelled (encoder t) ≡ true
  encoder_spelled IntPayload pr = refl
  encoder_spelled BoolPayload pr = refl
  encoder_spelled TextPayload pr = refl
  encoder_spelled (MaybePayload t) pr = and_true (is_spelled (encoder t)) (encoder_spelled t pr)
  encoder_spelled (ListPayload t) pr = and_true (is_spelled (encoder t)) (encoder_spelled t pr)
  encoder_spelled (TuplePayload NoPayload) pr = refl
  encoder_spelled (TuplePayload (MorePayload t ts)) pr = encoders_spelled (MorePayload t ts) pr.1
  encoder_spelled (RecordPayload fs) pr = field_encoders_spelled fs pr.0 pr.1

  encoders_spelled : (ts : Payloads) → ProperPayloads ts → list_spelled (encoders ts) ≡ true
  encoders_spelled NoPayload pr = refl
  encoders_spelled (MorePayload t ts) pr = both (is_spelled (encoder t)) (list_spelled (encoders ts)) (encoder_spelled t pr.0) (encoders_spelled ts pr.1)

  field_encoders_spelled : (fs : PayloadFields) → elm.are_fields (payload_names fs) ≡ true → ProperPayloadFields fs → list_spelled (field_encoders fs) ≡ true
  field_encoders_spelled NoPayloadField e pr = refl
  field_encoders_spelled (MorePayloadField k t fs) e pr =
      both (list_all is_unit k) (is_spelled (encoder t) && list_spelled (field_encoders fs)) (word_units k (first_word k (payload_names fs) e))
      (both (is_spelled (encoder t)) (list_spelled (field_encoders fs)) (encoder_spelled t pr.0) (field_encoders_spelled fs (later_fields k (payload_names fs) e) pr.1))

vars_spelled : (xs : List Name) → AllNames xs → list_spelled (vars xs) ≡ true
vars_spelled [] all = refl
vars_spelled (x ∷ xs) all = both (is_name x) (list_spelled (vars xs)) all.0 (vars_spelled xs all.1)

count_vars : (a k : ℕ) → count_js (vars (made_names a k)) ≡ k
count_vars a zero = refl
count_vars a (suc k) = ap suc (count_vars (suc a) k)

few_of : (n m : ℕ) → n ≡ m → m < 4294967296 → n < 4294967296
few_of n m e l = omega arith

given_spelled : (k : Known) (xs : JsList) → ProperBodiless (functions.Given k) → is_proper_known k ≡ true → count_js xs ≡ known_arity k → list_spelled xs ≡ true → is_spelled (given_js k xs) ≡ true
given_spelled (Maker a) xs pr known count h = build_spelled a.tag xs (first_of (is_exact_tag a.tag) (same_kind a.tag (Number (pos 0)) || a.arity == 0) pr.0) (few_of (count_js xs) a.arity count pr.1) h
given_spelled (RecordMaker ks) xs pr known count h = named_spelled ks xs pr h
given_spelled (OutPort port t) NoJs pr known count h = refl
given_spelled (OutPort port t) (MoreJs x NoJs) pr known count h =
    tagged_spelled (pos 0) (two (JText port) (JCall (encoder t) x)) refl (omega arith)
    (both (list_all is_unit port) ((is_spelled (encoder t) && is_spelled x) && true) (word_units port known) (and_true (is_spelled (encoder t) && is_spelled x) (both (is_spelled (encoder t)) (is_spelled x) (encoder_spelled t pr) (first_of (is_spelled x) true h))))
given_spelled (OutPort port t) (MoreJs x (MoreJs y xs)) pr known count h = refl
given_spelled (InPort port t) NoJs pr known count h = refl
given_spelled (InPort port t) (MoreJs x NoJs) pr known count h =
    tagged_spelled (pos 0) (two (JText port) x) refl (omega arith) (both (list_all is_unit port) (is_spelled x && true) (word_units port known) h)
given_spelled (InPort port t) (MoreJs x (MoreJs y xs)) pr known count h = refl

-- as a function of its arguments in turn
arguments_spelled : (k : ℕ) (x : Js) → k ≤ 2 ^ 64 → is_spelled x ≡ true → is_spelled (now (arrows_of (made_names 0 k) (Return x))) ≡ true
arguments_spelled k x le h = now_spelled (arrows_of (made_names 0 k) (Return x)) (arrows_of_spelled (made_names 0 k) (Return x) (made_all_names 0 k (plain k le)) h)
  where
    plain : (k : ℕ) → k ≤ 2 ^ 64 → 0 + k ≤ 2 ^ 64
    plain k le = omega arith

all_vars : (k : ℕ) → k ≤ 2 ^ 64 → list_spelled (vars (made_names 0 k)) ≡ true
all_vars k le = vars_spelled (made_names 0 k) (made_all_names 0 k (plain k le))
  where
    plain : (k : ℕ) → k ≤ 2 ^ 64 → 0 + k ≤ 2 ^ 64
    plain k le = omega arith

pub known_spelled : (k : Known) → ProperBodiless (functions.Given k) → is_proper_known k ≡ true → known_arity k ≤ 2 ^ 64 → is_spelled (bodiless_js (functions.Given k)) ≡ true
known_spelled k pr known le = arguments_spelled (known_arity k) (given_js k (vars (made_names 0 (known_arity k)))) le (given_spelled k (vars (made_names 0 (known_arity k))) pr known (count_vars 0 (known_arity k)) (all_vars (known_arity k) le))

few_arguments : (p : Primitive) → primitive_arity p ≤ 2 ^ 64
few_arguments functions.Crash = omega arith
few_arguments functions.BitNot = omega arith
few_arguments functions.FromInt = omega arith
few_arguments functions.Length = omega arith
few_arguments functions.FromUnit = omega arith
few_arguments functions.Same = omega arith
few_arguments functions.Slice = omega arith
few_arguments functions.Find = omega arith
few_arguments _ = omega arith

pub primitive_spelled : (p : Primitive) → is_spelled (bodiless_js (Core p)) ≡ true
primitive_spelled p = arguments_spelled (primitive_arity p) (finish_js (Core p) (vars (made_names 0 (primitive_arity p)))) (few_arguments p) (all_vars (primitive_arity p) (few_arguments p))

-- ---- bound

mutual
  pub decoder_bound : (names : Scope) (t : Payload) → is_bound names (decoder t) ≡ true
  decoder_bound names IntPayload = refl
  decoder_bound names BoolPayload = refl
  decoder_bound names TextPayload = refl
  decoder_bound names (MaybePayload t) = and_true (is_bound names (decoder t)) (decoder_bound names t)
  decoder_bound names (ListPayload t) = and_true (is_bound names (decoder t)) (decoder_bound names t)
  decoder_bound names (TuplePayload NoPayload) = refl
  decoder_bound names (TuplePayload (MorePayload t ts)) = decoders_bound names (MorePayload t ts)
  decoder_bound names (RecordPayload fs) = field_decoders_bound names fs

  decoders_bound : (names : Scope) (ts : Payloads) → list_bound names (decoders ts) ≡ true
  decoders_bound names NoPayload = refl
  decoders_bound names (MorePayload t ts) = both (is_bound names (decoder t)) (list_bound names (decoders ts)) (decoder_bound names t) (decoders_bound names ts)

  field_decoders_bound : (names : Scope) (fs : PayloadFields) → list_bound names (field_decoders fs) ≡ true
  field_decoders_bound names NoPayloadField = refl
  field_decoders_bound names (MorePayloadField k t fs) = both (is_bound names (decoder t)) (list_bound names (field_decoders fs)) (decoder_bound names t) (field_decoders_bound names fs)

mutual
  encoder_bound : (names : Scope) (t : Payload) → is_bound names (encoder t) ≡ true
  encoder_bound names IntPayload = refl
  encoder_bound names BoolPayload = refl
  encoder_bound names TextPayload = refl
  encoder_bound names (MaybePayload t) = and_true (is_bound names (encoder t)) (encoder_bound names t)
  encoder_bound names (ListPayload t) = and_true (is_bound names (encoder t)) (encoder_bound names t)
  encoder_bound names (TuplePayload NoPayload) = refl
  encoder_bound names (TuplePayload (MorePayload t ts)) = encoders_bound names (MorePayload t ts)
  encoder_bound names (RecordPayload fs) = field_encoders_bound names fs

  encoders_bound : (names : Scope) (ts : Payloads) → list_bound names (encoders ts) ≡ true
  encoders_bound names NoPayload = refl
  encoders_bound names (MorePayload t ts) = both (is_bound names (encoder t)) (list_bound names (encoders ts)) (encoder_bound names t) (encoders_bound names ts)

  field_encoders_bound : (names : Scope) (fs : PayloadFields) → list_bound names (field_encoders fs) ≡ true
  field_encoders_bound names NoPayloadField = refl
  field_encoders_bound names (MorePayloadField k t fs) = both (is_bound names (encoder t)) (list_bound names (field_encoders fs)) (encoder_bound names t) (field_encoders_bound names fs)

named_bound : (names : Scope) (ks : List source.Name) (xs : JsList) → list_bound names xs ≡ true → fields_bound names (fields_js ks xs) ≡ true
named_bound names [] xs e = refl
named_bound names (k ∷ ks) NoJs e = refl
named_bound names (k ∷ ks) (MoreJs x xs) e = both (is_bound names x) (fields_bound names (fields_js ks xs)) (first_of (is_bound names x) (list_bound names xs) e) (named_bound names ks xs (second_of (is_bound names x) (list_bound names xs) e))

given_bound : (names : Scope) (k : Known) (xs : JsList) → list_bound names xs ≡ true → is_bound names (given_js k xs) ≡ true
given_bound names (Maker a) xs h = build_bound names a.tag xs h
given_bound names (RecordMaker ks) xs h = named_bound names ks xs h
given_bound names (OutPort port t) NoJs h = refl
given_bound names (OutPort port t) (MoreJs x NoJs) h = and_true (is_bound names (encoder t) && is_bound names x) (both (is_bound names (encoder t)) (is_bound names x) (encoder_bound names t) (first_of (is_bound names x) true h))
given_bound names (OutPort port t) (MoreJs x (MoreJs y xs)) h = refl
given_bound names (InPort port t) NoJs h = refl
given_bound names (InPort port t) (MoreJs x NoJs) h = h
given_bound names (InPort port t) (MoreJs x (MoreJs y xs)) h = refl

vars_bound : (a k : ℕ) (names : Scope) → ((j : ℕ) → j < a + k → use_of (Made j) names ≡ Fixed) → list_bound names (vars (made_names a k)) ≡ true
vars_bound a zero names fixed = refl
vars_bound a (suc k) names fixed = both (may_read (use_of (Made a) names)) (list_bound names (vars (made_names (suc a) k))) (readable (Made a) names (fixed a (omega arith))) (vars_bound (suc a) k names (λ j l. fixed j (omega arith)))

arguments_bound : (k : ℕ) (x : Js) → ((names : Scope) → list_bound names (vars (made_names 0 k)) ≡ true → is_bound names x ≡ true) → (names : Scope) → is_bound names (now (arrows_of (made_names 0 k) (Return x))) ≡ true
arguments_bound zero x body names = body names refl
arguments_bound (suc k) x body names =
    arrows_of_bound 0 k 0 (Return x) [] (λ names refs fixed.
    let inner = (Made (0 + k), Fixed) ∷ within names in
    body inner (vars_bound 0 (suc k) inner (λ j l. by_last names j (nat_eq j (0 + k)) refl (λ differ. fixed_within (Made j) names (fixed j (omega arith) (omega arith))))))
    names (λ r is. absurd (cc)) (λ j l m. absurd (omega arith))
  where
    by_last : (names : Scope) (j : ℕ) (b : Bool) → nat_eq j (0 + k) ≡ b → ((j ≡ 0 + k → ⊥) → use_of (Made j) (within names) ≡ Fixed) → (if b then Fixed else use_of (Made j) (within names)) ≡ Fixed
    by_last names j true e rec = refl
    by_last names j false e rec = rec (λ same. let f = (Decides-eqb j (0 + k)).1 same in absurd (cc))

pub known_bound : (names : Scope) (k : Known) → is_bound names (bodiless_js (functions.Given k)) ≡ true
known_bound names k = arguments_bound (known_arity k) (given_js k (vars (made_names 0 (known_arity k)))) (λ names h. given_bound names k (vars (made_names 0 (known_arity k))) h) names

pub primitive_bound : (names : Scope) (p : Primitive) → is_bound names (bodiless_js (Core p)) ≡ true
primitive_bound names p = arguments_bound (primitive_arity p) (finish_js (Core p) (vars (made_names 0 (primitive_arity p)))) (λ names h. h) names
