-- The marks are those of what is reached.
use Rattle.std.proofs.Common.{List, length, map, sym, ap, ◌∙◌}
use Rattle.std.proofs.lemmas.List.FromFn.{length-map-range_with_len}
use Rattle.link.specs.Names.{TopName}
use Rattle.link.specs.Link.{Placed}
use Rattle.link.specs.Reached.{is_reached}
use Rattle.link.specs.View.{placed_view}
use Rattle.link.proofs.reaching.reached_among.Goals as goal

abbrev names_in : List Placed → List (List TopName)
names_in ds = map (λ d. d.piece.names) ds

abbrev uses_in : List Placed → List (List TopName)
uses_in ds = map (λ d. d.piece.uses) ds

pub marked-requires : goal.marked-requires
marked-requires c =
    let ds = map placed_view c.args.pieces.now in
    sym (ap length (c.deref.ensures.value ∙ c.in_ok-marks.ensures)
    ∙ length-map-range_with_len (is_reached (names_in ds) (uses_in ds) c.args.start.now) 0 (length c.args.pieces.now))

pub returns : goal.returns
returns c =
    let ds = map placed_view c.args.pieces.now in
    c.in_ok-found.ensures (is_reached (names_in ds) (uses_in ds) c.args.start.now)
    (c.deref.ensures.value ∙ c.in_ok-marks.ensures)
