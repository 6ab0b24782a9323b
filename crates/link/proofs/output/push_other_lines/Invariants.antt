use Rattle.std.proofs.Common.{◌≡◌, ◌++◌, map, drop}
use Rattle.link.specs.Link.{other_lines}
use Rattle.link.specs.View.{kept_piece}
use Rattle.link.proofs.output.push_other_lines.Given as goal

abbrev pub invariant-loop-placed : goal.invariant-loop-placed
invariant-loop-placed l =
    map (λ line. line.now) l.lines.items ++ other_lines (map kept_piece (drop l.placed-index l.pieces))
    ≡ map (λ line. line.now) l.initial.lines.items ++ other_lines (map kept_piece l.pieces)
