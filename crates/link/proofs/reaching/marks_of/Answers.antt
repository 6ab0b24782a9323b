-- The marks are those of what is reached, by the places of names.
use Rattle.std.proofs.Common.{◌≡◌, ◌<◌, ℕ, List, Vec, Global, length, map, sym, ap, ◌∙◌, subst}
use Rattle.std.specs.List.{All, range_with_len}
use Rattle.std.proofs.lemmas.List.{length-map}
use Rattle.decl_groups.specs.Groups.{plain}
use Rattle.link.specs.Names.{TopName}
use Rattle.link.specs.Link.{Placed}
use Rattle.link.specs.Reached.{is_reached, reaches_from, places_used}
use Rattle.link.specs.View.{placed_view}
use Rattle.link.proofs.Numbering.{length_used, find_below}
use Rattle.link.proofs.reaching.marks_of.Goals as goal

abbrev names_in : List Placed → List (List TopName)
names_in ds = map (λ d. d.piece.names) ds

abbrev uses_in : List Placed → List (List TopName)
uses_in ds = map (λ d. d.piece.uses) ds

-- each piece has a row
rows_long : (ds : List Placed) (rows : List (Vec ℕ Global)) → plain rows ≡ places_used (names_in ds) (uses_in ds) →
    length rows ≡ length ds
rows_long ds rows e =
    sym (length-map rows (λ (v : Vec ℕ Global). v.items)) ∙ ap length e ∙ length_used (names_in ds) (uses_in ds)
    ∙ length-map ds (λ (d : Placed). d.piece.uses)

pub marks_from-requires-clause-places : goal.marks_from-requires-clause-places
marks_from-requires-clause-places c =
    let ds = map placed_view c.args.pieces.now in
    let rows = c.in_ok-uses.uses.items in
    let numbered = c.in_ok-places.ensures.numbered in
    let long = rows_long ds rows (c.in_ok-uses.ensures.used (names_in ds) numbered)
    ∙ sym (length-map ds (λ (d : Placed). d.piece.names)) in
    subst (λ (us : List (Vec ℕ Global)). All (λ row. All (λ j. j < length us) row.items) us) (sym c.deref.ensures.value)
    (subst (λ n. All (λ row. All (λ j. j < n) row.items) rows) (sym long) (c.in_ok-uses.ensures.within (names_in ds)
    numbered))

pub marks_from-requires-clause-start : goal.marks_from-requires-clause-start
marks_from-requires-clause-start c =
    let ds = map placed_view c.args.pieces.now in
    let rows = c.in_ok-uses.uses.items in
    let numbered = c.in_ok-places.ensures.numbered in
    let long = rows_long ds rows (c.in_ok-uses.ensures.used (names_in ds) numbered)
    ∙ sym (length-map ds (λ (d : Placed). d.piece.names)) in
    find_below (names_in ds) c.args.start.now c.find-place.result (length c.deref.result.now) (c.find-place.ensures
    (names_in ds) numbered)
    (sym long ∙ ap length (sym c.deref.ensures.value))

pub returns : goal.returns
unfolding is_reached
returns c =
    let ds = map placed_view c.args.pieces.now in
    let n = length c.args.pieces.now in
    let numbered = c.in_ok-places.ensures.numbered in
    let used = c.in_ok-uses.ensures.used (names_in ds) numbered in
    let long = rows_long ds c.in_ok-uses.uses.items used in
    c.in_ok-marks.ensures
    ∙ ap (λ m. map (reaches_from (plain c.deref.result.now) c.find-place.result) (range_with_len 0 m))
    (ap length c.deref.ensures.value ∙ long ∙ length-map c.args.pieces.now placed_view)
    ∙ ap (λ us. map (reaches_from us c.find-place.result) (range_with_len 0 n)) (ap plain c.deref.ensures.value ∙ used)
    ∙ ap (λ o. map (reaches_from (places_used (names_in ds) (uses_in ds)) o) (range_with_len 0 n))
    (c.find-place.ensures (names_in ds) numbered)
