-- Items and members, one on.
use Rattle.std.proofs.Common.{◌≡◌, ℕ, ◌+◌, ◌<◌, ◌≤◌, List, [], ◌∷◌, ◌++◌, map, drop, length, get_or, Option, Some, None}
use Rattle.std.proofs.Common.{option_map, option_and_then, String, Global, Ordering, Less, Equal, Greater, nat_cmp}
use Rattle.std.proofs.Common.{string_bytes, refl, sym, ap, ◌∙◌}
use Rattle.std.proofs.lemmas.List.{at_drop_more, at_drop_all}
use Rattle.std.specs.Ordering.{match_ordering}
use Rattle.std.specs.Cmp.Lexicographic.{slice_cmp}
use Rattle.std.specs.BTreeMap.{insert_entry}
use Rattle.serde_json.specs.View.{view, items_view, members_view}
use Rattle.serde_json.specs.declared.value.Value.{Value}
use Rattle.wire_value.specs.Wire as wire
use Rattle.wire_value.specs.Wire.{Wire}
use Rattle.wire_value.specs.View as value
use Rattle.wire_value.specs.View.{wire_view, member_view}
use Rattle.wire_value.specs.declared.wire.Wire as program
use Rattle.elm_base.specs.Units.{text_units}
use Rattle.wire_value.specs.FromJson.{put}
use Rattle.wire_value.specs.Within.{wire_within, items_within, members_within, entries_view}

abbrev pub Entry : Type 0
Entry = List ℕ × program.Wire

entries_view-match : (o : Ordering) (a b c : List Entry) → entries_view (match_ordering o a b c) ≡ match_ordering o (entries_view a) (entries_view b) (entries_view c)
entries_view-match Less a b c = refl
entries_view-match Equal a b c = refl
entries_view-match Greater a b c = refl

-- an insert puts
pub entries_view-insert : (es : List Entry) (k : List ℕ) (w : program.Wire) → entries_view (insert_entry (slice_cmp nat_cmp) es k w) ≡ put k (wire_view w) (entries_view es)
entries_view-insert [] k w = refl
entries_view-insert (e ∷ es) k w = entries_view-match (slice_cmp nat_cmp k e.0) _ _ _ ∙ rw (entries_view-insert es k w) refl

-- items after those that are done
abbrev pub onto : List Wire → wire.Wires → wire.Wires
onto [] ws = ws
onto (w ∷ done) ws = wire.more_wires w (onto done ws)

pub onto-push : (done : List Wire) (w : Wire) (ws : wire.Wires) → onto (done ++ w ∷ []) ws ≡ onto done (wire.more_wires w ws)
onto-push [] w ws = refl
onto-push (d ∷ done) w ws = ap (wire.more_wires d) (onto-push done w ws)

pub onto-nothing : (done : List Wire) → onto done wire.no_wire ≡ value.wires_of done
onto-nothing [] = refl
onto-nothing (d ∷ done) = ap (wire.more_wires d) (onto-nothing done)

abbrev pub Found : Type 0
Found = Option wire.Wires

pushed : (done : List Wire) (w : Wire) (rest : Found) → option_map (onto done) (option_map (wire.more_wires w) rest) ≡ option_map (onto (done ++ w ∷ [])) rest
pushed done w None = refl
pushed done w (Some ws) = ap Some (sym (onto-push done w ws))

map-push : {A B : Type 0} (f : A → B) (xs : List A) (x : A) → map f (xs ++ x ∷ []) ≡ map f xs ++ f x ∷ []
map-push f [] x = refl
map-push f (y ∷ xs) x = ap (λ ys. f y ∷ ys) (map-push f xs x)

-- one item more is done
pub items_next : (room : ℕ) (items : List Value) (i : ℕ) (v : Value) (done done_then : List program.Wire) (found : Option program.Wire) (w : program.Wire) (whole : Found)
    → i < length items → v ≡ get_or items i v → found ≡ Some w → option_map wire_view found ≡ wire_within room (view v) → done_then ≡ done ++ w ∷ []
    → option_map (onto (map wire_view done)) (items_within room (items_view (drop i items))) ≡ whole
    → option_map (onto (map wire_view done_then)) (items_within room (items_view (drop (i + 1) items))) ≡ whole
items_next room items i v done done_then found w whole inside is found-is converted done-is so_far =
    let rest : Found = items_within room (items_view (drop (i + 1) items)) in
    let here : items_within room (items_view (drop i items)) ≡ option_and_then (λ x. option_map (wire.more_wires x) rest) (wire_within room (view v)) =
    at_drop_more (λ vs. items_within room (items_view vs)) items i v inside ∙ ap (λ x. items_within room (items_view (x ∷ drop (i + 1) items))) (sym is) in
    let one : wire_within room (view v) ≡ Some (wire_view w) = sym converted ∙ ap (option_map wire_view) found-is in
    let split : items_within room (items_view (drop i items)) ≡ option_map (wire.more_wires (wire_view w)) rest = here ∙ ap (option_and_then (λ x. option_map (wire.more_wires x) rest)) one in
    ap (λ ws. option_map (onto ws) rest) (ap (map wire_view) done-is ∙ map-push wire_view done w)
    ∙ (sym (pushed (map wire_view done) (wire_view w) rest)
    ∙ (sym (ap (option_map (onto (map wire_view done))) split) ∙ so_far))

-- no item is left
pub items_last : (room : ℕ) (items : List Value) (i : ℕ) (done : List program.Wire) (whole : Found) → length items ≤ i
    → option_map (onto (map wire_view done)) (items_within room (items_view (drop i items))) ≡ whole → Some (value.wires_of (map wire_view done)) ≡ whole
items_last room items i done whole past so_far =
    ap Some (sym (onto-nothing (map wire_view done))) ∙ (sym (ap (option_map (onto (map wire_view done))) (at_drop_all (λ vs. items_within room (items_view vs)) items i past)) ∙ so_far)

-- one member more is done
pub members_next : (room : ℕ) (before rest : List (String Global × Value)) (key : String Global) (v : Value) (found found_then : List Entry) (name : List ℕ) (converted : Option program.Wire) (w : program.Wire) (whole : Option wire.Members)
    → before ≡ (key, v) ∷ rest → converted ≡ Some w → option_map wire_view converted ≡ wire_within room (view v) → name ≡ text_units (string_bytes key)
    → found_then ≡ insert_entry (slice_cmp nat_cmp) found name w
    → members_within room (members_view before) (entries_view found) ≡ whole → members_within room (members_view rest) (entries_view found_then) ≡ whole
members_next room before rest key v found found_then name converted w whole before-is converted-is is name-is found-is so_far =
    let one : wire_within room (view v) ≡ Some (wire_view w) = sym is ∙ ap (option_map wire_view) converted-is in
    let put_in : entries_view found_then ≡ put (text_units (string_bytes key)) (wire_view w) (entries_view found) =
    ap entries_view found-is ∙ (entries_view-insert found name w ∙ ap (λ k. put k (wire_view w) (entries_view found)) name-is) in
    ap (members_within room (members_view rest)) put_in
    ∙ (sym (ap (option_and_then (λ x. members_within room (members_view rest) (put (text_units (string_bytes key)) x (entries_view found)))) one)
    ∙ (sym (ap (λ es. members_within room (members_view es) (entries_view found)) before-is) ∙ so_far))
