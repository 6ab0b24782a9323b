use Rattle.std.proofs.Common.{◌≡◌, ◌+◌, ◌*◌, ◌∷◌, [], ◌++◌, reverse, length}
use Rattle.pattern_check.specs.Starts.{parts_view}
use Rattle.pattern_check.specs.Built.{unlisted}
use Rattle.pattern_check.specs.Written.{pending, rest}
use Rattle.pattern_check.specs.declared.text.Kind.TheVariants.{Parts}
use Rattle.pattern_check.specs.declared.text.Closing.TheVariants.{Nothing}
use Rattle.pattern_check.proofs.text.write.Given as goal

-- what is written and what is to be written are the whole text
abbrev pub invariant-loop-top : goal.invariant-loop-top
invariant-loop-top l =
    l.text.items ++ pending (reverse l.rests.items) (unlisted (parts_view l.others) [])
    ≡ pending (rest Parts 1 Nothing ∷ []) (unlisted (parts_view l.fn.parts) [])

abbrev pub decreases-loop-top : goal.decreases-loop-top
decreases-loop-top l = 2 * length l.others + length l.rests.items
