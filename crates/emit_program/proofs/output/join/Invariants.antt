use Rattle.std.proofs.Common.{◌≡◌, ◌++◌, map, take}
use Rattle.emit_program.specs.Texts.{joined}
use Rattle.emit_program.proofs.output.join.Given as goal

abbrev pub invariant-loop-line : goal.invariant-loop-line
invariant-loop-line l =
    l.text.items ≡ l.initial.text.items ++ joined (map (λ line. line.now) (take l.line-index l.lines))
