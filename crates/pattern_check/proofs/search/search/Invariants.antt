use Rattle.std.proofs.Common.{◌≡◌, ◌+◌}
use Rattle.pattern_check.specs.Search.{frames_found, next_found, task_found, frames_work, next_work, IsDone}
use Rattle.pattern_check.proofs.search.search.Given as goal

abbrev pub invariant-loop-next : goal.invariant-loop-next
invariant-loop-next l = record {
  found : frames_found l.frames.items (next_found l.next) ≡ task_found l.fn.task;
  done : IsDone l.next l.frames.items;
}

abbrev pub decreases-loop-next : goal.decreases-loop-next
decreases-loop-next l = frames_work l.frames.items + next_work l.next
