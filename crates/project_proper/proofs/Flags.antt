-- The records of a program's flags have words for fields, each once: `words_are_fields`.
use Rattle.std.proofs.Common.{◌≡◌, ℕ, List, Bool, true, false, Option, Some, None, refl, sym, ap, ◌∙◌, subst}
use Rattle.std.specs.Prelude.{◌&&◌, ◌||◌, not, if◌then◌else◌, option_and_then}
use Rattle.std.specs.List.{list_any}
use Rattle.std.proofs.Common.{Ordering, Less, Equal, Greater}
use Rattle.std.specs.Ordering.{is_lt, nat_cmp}
use Rattle.std.specs.Cmp.Lexicographic.{slice_cmp}
use Rattle.std.proofs.lemmas.Cmp.{nat_list_cmp_total, tied_itself}
use Rattle.std.proofs.lemmas.Bool.{false≢true, and_parts}
use Rattle.decl_groups.proofs.Ordering.{not_true}
use Rattle.elm_canon.specs.Names.{Name, same_name}
use Rattle.elm_canon.specs.Tree.{Payload, IntPayload, BoolPayload, TextPayload, MaybePayload, ListPayload}
use Rattle.elm_canon.specs.Tree.{TuplePayload, RecordPayload, Payloads, NoPayload, MorePayload, PayloadFields}
use Rattle.elm_canon.specs.Tree.{NoPayloadField, MorePayloadField}
use Rattle.elm_type.specs.Types.{ElmType, Leaf, Scheme}
use Rattle.elm_type.specs.Rows.{name_lt}
use Rattle.elm_canon.specs.Spelled.{is_word}
use Rattle.elm_canon.specs.Spelled as spelled
use Rattle.canon_env.proofs.Adding.{one_name}
use Rattle.elm_meaning.specs.Run.{AnyFlags}
use Rattle.emit_laws.specs.Given.{payload_names}
use Rattle.emit_size_laws.specs.Small.{HasFields, AllHaveFields, FieldsHaveFields, FlagsHaveFields}
use Rattle.port_payload.specs.EntryTypePayloads.{is_after, has_fields, all_have_fields, are_fields, with_fields, type_payload}
use Rattle.port_payload.specs.EntryTypePayloads.{flags_payload}
use Rattle.port_payload.specs.Entry.{entry_type, entry_by, with_flags, with_payload, flags_in, is_unit, text_of}
use Rattle.port_payload.specs.Entry as entry
use Rattle.link.specs.Programs.{flags_said}
use Rattle.project_proper.specs.Flags.{WordsAreFields}

-- ---- the order of names

less : (o : Ordering) → is_lt o ≡ true → o ≡ Less
less Less e = refl
less Equal e = absurd (false≢true e)
less Greater e = absurd (false≢true e)

lt_trans : (x y z : Name) → name_lt x y ≡ true → name_lt y z ≡ true → name_lt x z ≡ true
lt_trans x y z a b =
    ap is_lt (nat_list_cmp_total.trans x y z (less (slice_cmp nat_cmp x y) a) (less (slice_cmp nat_cmp y z) b))

lt_itself : (x : Name) → name_lt x x ≡ false
lt_itself x = ap is_lt (tied_itself nat_list_cmp_total x)

other : (k j : Name) → name_lt k j ≡ true → same_name k j ≡ false
other k j u =
    not_true (same_name k j)
    (λ e. false≢true (sym (lt_itself k) ∙ subst (λ z. name_lt k z ≡ true) (sym (one_name k j e)) u))

-- ---- fields in order, each once

-- what is said of a field, and of those after it
field_parts : (before : Option Name) (k : Name) (t : Payload) (fs : PayloadFields) →
    are_fields before (MorePayloadField k t fs) ≡ true →
    ((is_word k ≡ true) × (is_after before k ≡ true)) × ((has_fields t ≡ true) × (are_fields (Some k) fs ≡ true))
field_parts before k t fs e =
    let p = and_parts (is_word k && is_after before k) (has_fields t && are_fields (Some k) fs) e in
    (and_parts (is_word k) (is_after before k) p.0, and_parts (has_fields t) (are_fields (Some k) fs) p.1)

-- what comes after a field comes after those before it
after_less : (k m : Name) (fs : PayloadFields) → name_lt k m ≡ true → are_fields (Some m) fs ≡ true →
    are_fields (Some k) fs ≡ true
after_less k m NoPayloadField l e = refl
after_less k m (MorePayloadField j t fs) l e =
    let h = field_parts (Some m) j t fs e in
    ap (λ b. (b && name_lt k j) && (has_fields t && are_fields (Some j) fs)) h.0.0
    ∙ ap (λ b. b && (has_fields t && are_fields (Some j) fs)) (lt_trans k m j l h.0.1)
    ∙ ap (λ b. b && are_fields (Some j) fs) h.1.0 ∙ h.1.1

not_among : (k : Name) (fs : PayloadFields) → are_fields (Some k) fs ≡ true →
    list_any (same_name k) (payload_names fs) ≡ false
not_among k NoPayloadField e = refl
not_among k (MorePayloadField j t fs) e =
    let h = field_parts (Some k) j t fs e in
    ap (λ b. b || list_any (same_name k) (payload_names fs)) (other k j h.0.1)
    ∙ not_among k fs (after_less k j fs h.0.1 h.1.1)

each_once : (before : Option Name) (fs : PayloadFields) → are_fields before fs ≡ true →
    spelled.are_fields (payload_names fs) ≡ true
each_once before NoPayloadField e = refl
each_once before (MorePayloadField k t fs) e =
    let h = field_parts before k t fs e in
    let ks = payload_names fs in
    ap (λ b. b && (not (list_any (same_name k) ks) && spelled.are_fields ks)) h.0.0
    ∙ ap (λ b. not b && spelled.are_fields ks) (not_among k fs h.1.1)
    ∙ each_once (Some k) fs h.1.1

mutual
  records : (t : Payload) → has_fields t ≡ true → HasFields t
  records IntPayload e = tt
  records BoolPayload e = tt
  records TextPayload e = tt
  records (MaybePayload t) e = records t e
  records (ListPayload t) e = records t e
  records (TuplePayload ts) e = all_records ts e
  records (RecordPayload fs) e = (each_once None fs e, field_records None fs e)

  all_records : (ts : Payloads) → all_have_fields ts ≡ true → AllHaveFields ts
  all_records NoPayload e = tt
  all_records (MorePayload t ts) e =
      let h = and_parts (has_fields t) (all_have_fields ts) e in (records t h.0, all_records ts h.1)

  field_records : (before : Option Name) (fs : PayloadFields) → are_fields before fs ≡ true → FieldsHaveFields fs
  field_records before NoPayloadField e = tt
  field_records before (MorePayloadField k t fs) e =
      let h = field_parts before k t fs e in (records t h.1.0, field_records (Some k) fs h.1.1)

-- ---- flags

crossing : (text : List ℕ) (q : Option Payload) →
    FlagsHaveFields (flags_said (with_payload text (option_and_then with_fields q)))
crossing text None = tt
crossing text (Some p) = by (has_fields p) refl
  where
    by : (b : Bool) → has_fields p ≡ b → FlagsHaveFields (flags_said (with_payload text (if b then Some p else None)))
    by true e = records p e
    by false e = tt

flags_from : (s : Scheme) (t : ElmType (Leaf ℕ)) → FlagsHaveFields (flags_said (with_flags s.kinds t))
flags_from s t = by (is_unit t)
  where
    by : (b : Bool) → FlagsHaveFields (flags_said (if b then entry.IsProgram AnyFlags
        else with_payload (text_of s.kinds t) (flags_payload t)))
    by true = tt
    by false = crossing (text_of s.kinds t) (type_payload t)

pub words_are_fields : WordsAreFields
unfolding entry_type
words_are_fields None = tt
words_are_fields (Some s) = by (flags_in s.type)
  where
    by : (q : Option (ElmType (Leaf ℕ))) → FlagsHaveFields (flags_said (entry_by s q))
    by None = tt
    by (Some t) = flags_from s t
