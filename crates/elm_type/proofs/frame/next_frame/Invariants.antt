use Rattle.std.proofs.Common.{◌≡◌, ℕ, ◌++◌, reverse, vec_len}
use Rattle.elm_type.specs.Types.{Name, Leaf}
use Rattle.elm_type.specs.Spelling.{Read}
use Rattle.elm_type.specs.Frames.{pending, wanted}
use Rattle.elm_type.proofs.frame.next_frame.Given as goal

abbrev pub invariant-loop-top : goal.invariant-loop-top
invariant-loop-top l = record {
  text : (name : Leaf ℕ → Name) (rs : Read) → l.text.items ++ pending name (reverse l.frames.items) rs ≡ l.initial.text.items ++ pending name (reverse l.initial.frames.items) rs;
  wanted : wanted (reverse l.frames.items) ≡ wanted (reverse l.initial.frames.items);
}

abbrev pub decreases-loop-top : goal.decreases-loop-top
decreases-loop-top l = vec_len l.frames
