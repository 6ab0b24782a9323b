use Rattle.std.proofs.Common.{◌≡◌, ◌++◌, Some, length}
use Rattle.std.specs.Prelude.{option_map}
use Rattle.pattern_check.specs.Flat.{open_parts}
use Rattle.pattern_check.specs.Starts.{parts_view}
use Rattle.pattern_check.specs.Search.{frames_found}
use Rattle.pattern_check.proofs.search.path.Given as goal

abbrev pub invariant-loop-rest : goal.invariant-loop-rest
invariant-loop-rest l =
    option_map (λ ps. parts_view l.parts.items ++ ps) (frames_found l.rest (Some (open_parts l.opens)))
    ≡ frames_found l.fn.frames (Some (open_parts l.opens))

abbrev pub decreases-loop-rest : goal.decreases-loop-rest
decreases-loop-rest l = length l.rest
