-- One place more: `kept_step`.
use Rattle.std.proofs.Common.{◌≡◌, ◌+◌, ◌∷◌, ◌++◌, false, length, map, drop, get_or, if◌then◌else◌, sym, ap, ◌∙◌, arith}
use Rattle.link.proofs.Naming.{drop_at}
use Rattle.link.specs.Reached.{kept}
use Rattle.link.specs.View.{placed_view}
use Rattle.link.proofs.Numbering.{kept_step, mark_at, place_after}
use Rattle.link.proofs.reaching.marked.Goals as goal

pub loop-place-preserved : goal.loop-place-preserved
loop-place-preserved c = λ test e.
    let i = c.loop-place.place in
    let ds = c.args.pieces.now in
    let d = c.index-pieces-place.result in
    let old = map placed_view c.loop-place.found.items in
    let rest = map placed_view (drop (i + 1) ds) in
    ap (λ xs. xs ++ kept test (i + 1) rest) c.in_ok-push_if.ensures
    ∙ kept_step old (kept test (i + 1) rest) (placed_view d) (get_or c.args.marks.now i false) (test i)
    (mark_at test (length ds) i c.args.marks.now e (omega arith))
    ∙ ap (λ k. old ++ (if test i then placed_view d ∷ kept test k rest else kept test k rest)) (place_after i)
    ∙ ap (λ es. old ++ kept test i (map placed_view es)) (sym (drop_at ds i d (omega arith) c.index-pieces-place.is))
    ∙ c.loop-place.invariant test e
