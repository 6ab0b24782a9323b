use Rattle.std.proofs.Common.{◌≡◌, ◌++◌, take}
use Rattle.canon_expr.proofs.words.push_each.Given as goal

abbrev pub invariant-loop-word : goal.invariant-loop-word
invariant-loop-word l = l.words.items ≡ l.initial.words.items ++ take l.word-index l.added
