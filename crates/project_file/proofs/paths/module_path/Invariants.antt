use Rattle.std.proofs.Common.{string_bytes, map}
use Rattle.project_file.proofs.Joins.{IsJoined}
use Rattle.project_file.proofs.paths.module_path.Given as goal

-- the parts so far stand joined
abbrev pub invariant-loop-part : goal.invariant-loop-part
invariant-loop-part l = IsJoined (map (λ part. part.now) l.yielded) (string_bytes l.path) l.is_first
