-- By how many there are: `one_alone`, `not_alone`.
use Rattle.std.proofs.Common.{sym, ap, ◌∙◌, arith}
use Rattle.std.specs.Prelude.{option_and_then}
use Rattle.link.specs.Cores.{named}
use Rattle.link.proofs.Alone.{one_alone, not_alone}
use Rattle.link.proofs.split.core_alone.Goals as goal

pub returns-then-len-eq1 : goal.returns-then-len-eq1
returns-then-len-eq1 c =
    let fs = c.args.functions.now.items in
    let f = c.index.result.now in
    let alone = one_alone fs f (omega (arith, c.len.ensures, c.if-len-eq1.true)) c.index.ensures in
    c.core_named.ensures ∙ ap (option_and_then named) (sym alone)

pub returns-else-len-eq1 : goal.returns-else-len-eq1
returns-else-len-eq1 c =
    let fs = c.args.functions.now.items in
    ap (option_and_then named) (sym (not_alone fs (λ e. c.if-len-eq1.false (omega (arith, c.len.ensures, e)))))
