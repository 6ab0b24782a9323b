use Rattle.std.proofs.Common.{◌≡◌, map, reverse, None, length}
use Rattle.elm_lexer.specs.View.{token_view}
use Rattle.elm_parser.specs.Scan.{found_view, first_among, scan, bottom}
use Rattle.elm_parser.proofs.scan.scan.Given as goal

abbrev pub invariant-loop-rest : goal.invariant-loop-rest
invariant-loop-rest l =
    first_among l.ended (found_view l.found) (scan (map token_view l.tokens) (reverse l.stack.items) l.rest)
    ≡ first_among l.ended None (scan (map token_view l.tokens) bottom l.steps)

abbrev pub decreases-loop-rest : goal.decreases-loop-rest
decreases-loop-rest l = length l.rest
