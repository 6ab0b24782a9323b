-- By the length of the text: `over_limit`, `in_limit`.
use Rattle.std.proofs.Common.{sym, arith}
use Rattle.project_parts.proofs.Adding.{over_limit, in_limit}
use Rattle.project_parts.proofs.loading.within.Goals as goal

pub returns-then-len-gt-MAX_TEXT : goal.returns-then-len-gt-MAX_TEXT
returns-then-len-gt-MAX_TEXT c =
    sym (over_limit c.args.text.items (omega (arith, c.if-len-gt-MAX_TEXT.true, c.len.ensures, c.args.text.ok)))

pub returns-else-len-gt-MAX_TEXT : goal.returns-else-len-gt-MAX_TEXT
returns-else-len-gt-MAX_TEXT c =
    sym (in_limit c.args.text.items (omega (arith, c.if-len-gt-MAX_TEXT.false, c.len.ensures, c.args.text.ok)))
