-- One piece more: `map_next`.
use Rattle.std.proofs.Common.{◌≡◌, [], ◌∷◌, ◌++◌, length, take, map, sym, ap, ◌∙◌, arith}
use Rattle.std.proofs.lemmas.List.{length-map, length-take-le, map-append}
use Rattle.canon_env.proofs.Filtering.{map_next}
use Rattle.link.specs.Link.{Placed}
use Rattle.link.specs.Reached.{place_of}
use Rattle.link.specs.View.{placed_view}
use Rattle.link.specs.declared.pieces.Placed as kept
use Rattle.link.proofs.places.Places.of.Goals as goal

pub loop-place-preserved : goal.loop-place-preserved
loop-place-preserved c = λ x.
    let ds = c.args.pieces.now in
    let i = c.loop-place.place in
    let d = c.index-pieces-place.result in
    let before = map placed_view (take i ds) in
    let many : length (map (λ (d : Placed). d.piece.names) before) ≡ i =
    length-map before (λ (d : Placed). d.piece.names) ∙ length-map (take i ds) placed_view
    ∙ length-take-le i ds (omega (arith, c.in-Ok.ensures)) in
    c.in_ok-add_all.ensures (map (λ (d : Placed). d.piece.names) before) many c.loop-place.invariant x
    ∙ ap (λ ns. place_of (map (λ (d : Placed). d.piece.names) before ++ ns ∷ []) x) c.deref.ensures.value
    ∙ ap (λ (p : kept.Placed). place_of (map (λ (d : Placed). d.piece.names) before ++ (placed_view p).piece.names ∷
    []) x)
    (sym c.index-pieces-place.is)
    ∙ ap (λ e. place_of e x) (sym (ap (map (λ (d : Placed). d.piece.names)) (map_next placed_view ds i d (omega
    (arith, c.in-Ok.ensures)) c.index-pieces-place.is)
    ∙ map-append (λ (d : Placed). d.piece.names) before (placed_view d ∷ [])))
