use Rattle.std.proofs.Common.{◌≡◌, ◌≤◌, None, length}
use Rattle.pattern_check.specs.Search.{frames_found, frames_work}
use Rattle.pattern_check.proofs.search.advance.Given as goal

abbrev pub invariant-loop-frame : goal.invariant-loop-frame
invariant-loop-frame l = record {
  found : frames_found l.frames.items None ≡ frames_found l.fn.frames.items None;
  light : frames_work l.frames.items ≤ frames_work l.fn.frames.items;
}

abbrev pub decreases-loop-frame : goal.decreases-loop-frame
decreases-loop-frame l = length l.frames.items
