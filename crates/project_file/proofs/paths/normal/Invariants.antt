use Rattle.std.proofs.Common.{string_bytes, map}
use Rattle.std.specs.List.{filter}
use Rattle.project_file.specs.Paths.{is_kept}
use Rattle.project_file.proofs.Joins.{IsJoined}
use Rattle.project_file.proofs.paths.normal.Given as goal

-- what was kept so far stands joined
abbrev pub invariant-loop-part : goal.invariant-loop-part
invariant-loop-part l =
    IsJoined (filter is_kept (map (λ part. part.now) l.yielded)) (string_bytes l.normal) l.is_first
