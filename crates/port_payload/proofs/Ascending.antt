-- Fields of a record among flags, one after another: `at_field`.
use Rattle.std.proofs.Common.{◌≡◌, ℕ, suc, ◌+◌, ◌<◌, List, ◌∷◌, length, map, drop, get_or, Bool, true, false, Some}
use Rattle.std.proofs.Common.{sym, ap, ◌∙◌, arith, drop-cons}
use Rattle.std.specs.Prelude.{Option, ◌&&◌}
use Rattle.std.proofs.lemmas.Bool.{false≢true}
use Rattle.elm_canon.proofs.Views.{payload_field}
use Rattle.elm_canon.specs.Names.{Name}
use Rattle.elm_canon.specs.Tree.{payload_fields_of}
use Rattle.elm_canon.specs.View.{NamedPayload, payload_view, payload_field_view}
use Rattle.elm_canon.specs.declared.tree.PayloadField.{PayloadField}
use Rattle.elm_canon.specs.Spelled.{is_word}
use Rattle.port_payload.specs.EntryTypePayloads.{is_after, has_fields, are_fields}

abbrev pub fields_after : Option Name → List PayloadField → Bool
fields_after before fs = are_fields before (payload_fields_of (map payload_field_view fs))

next_field : (before : Option Name) (f : PayloadField) (fs : List NamedPayload) →
    are_fields before (payload_fields_of (payload_field_view f ∷ fs))
    ≡ ((is_word f.name && is_after before f.name)
    && (has_fields (payload_view f.value) && are_fields (Some f.name) (payload_fields_of fs)))
next_field before f fs = ap (λ v. are_fields before (payload_fields_of (v ∷ fs))) (payload_field f)

drop_at : {A : Type 0} (xs : List A) (i : ℕ) (x : A) → i < length xs → x ≡ get_or xs i x →
    drop i xs ≡ x ∷ drop (i + 1) xs
drop_at xs i x h is =
    let next : suc i ≡ i + 1 = omega arith in
    drop-cons xs i x h ∙ (ap (λ z. z ∷ drop (suc i) xs) (sym is) ∙ ap (λ n. x ∷ drop n xs) next)

-- the field at a place, and those after it
pub at_field : (before : Option Name) (fs : List PayloadField) (i : ℕ) (f : PayloadField) → i < length fs →
    f ≡ get_or fs i f →
    fields_after before (drop i fs)
    ≡ ((is_word f.name && is_after before f.name)
    && (has_fields (payload_view f.value) && fields_after (Some f.name) (drop (i + 1) fs)))
at_field before fs i f h is =
    ap (fields_after before) (drop_at fs i f h is) ∙ next_field before f (map payload_field_view (drop (i + 1) fs))

-- ---- what is known of all

pub first_fails : (w r all : Bool) → (w && r) ≡ all → w ≡ false → false ≡ all
first_fails true r all e h = absurd (false≢true (sym h))
first_fails false r all e h = e

pub second_fails : (w h r all : Bool) → (w && (h && r)) ≡ all → w ≡ true → h ≡ false → false ≡ all
second_fails true true r all e f g = absurd (false≢true (sym g))
second_fails true false r all e f g = e
second_fails false h r all e f g = absurd (false≢true f)

pub both_hold : (w h r all : Bool) → (w && (h && r)) ≡ all → w ≡ true → h ≡ true → r ≡ all
both_hold true true r all e f g = e
both_hold true false r all e f g = absurd (false≢true g)
both_hold false h r all e f g = absurd (false≢true f)
