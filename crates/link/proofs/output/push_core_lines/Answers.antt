-- The lines of one piece more: `kept_step`.
use Rattle.std.proofs.Common.{◌≡◌, ◌+◌, [], ◌∷◌, ◌++◌, map, drop, if◌then◌else◌, refl, sym, ap, ◌∙◌, arith, append-nil}
use Rattle.link.proofs.Naming.{drop_at}
use Rattle.link.specs.Link.{core_lines}
use Rattle.link.specs.View.{kept_piece}
use Rattle.link.proofs.Numbering.{kept_step}
use Rattle.link.proofs.output.push_core_lines.Goals as goal

pub loop-placed-preserved : goal.loop-placed-preserved
loop-placed-preserved c =
    let i = c.loop-placed.placed-index in
    let ds = c.args.pieces.now in
    let d = c.placed-item.result in
    let old = map (λ line. line.now) c.loop-placed.lines.items in
    let rest = core_lines (map kept_piece (drop (i + 1) ds)) in
    ap (λ ls. ls ++ rest) c.in_ok-push_line.ensures
    ∙ kept_step old rest (kept_piece d).lines (kept_piece d).is_core (kept_piece d).is_core refl
    ∙ ap (λ es. old ++ core_lines (map kept_piece es)) (sym (drop_at ds i d (omega arith) c.placed-item.is))
    ∙ c.loop-placed.invariant
