use Rattle.std.proofs.Common.{◌≡◌, ℕ, [], ◌++◌, reverse, vec_len}
use Rattle.elm_type.specs.Types.{Name, Leaf}
use Rattle.elm_type.specs.Frames.{pending}
use Rattle.elm_type.proofs.frame.close_all.Given as goal

abbrev pub invariant-loop-top : goal.invariant-loop-top
invariant-loop-top l =
    (name : Leaf ℕ → Name) → l.text.items ++ pending name (reverse l.frames.items) [] ≡ l.initial.text.items ++ pending name (reverse l.initial.frames.items) []

abbrev pub decreases-loop-top : goal.decreases-loop-top
decreases-loop-top l = vec_len l.frames
