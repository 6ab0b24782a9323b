-- Numbers: `int_none`.
use Rattle.elm_lexer.proofs.Numbers.{int_none}
use Rattle.elm_lexer.proofs.kind.int.Goals as goal

pub returns-then-value-gt-GREATEST : goal.returns-then-value-gt-GREATEST
returns-then-value-gt-GREATEST c =
    int_none c.args.base c.loop-rest.value c.digit_value.result c.loop-rest.rest.now c.args.digits.now c.requires.one c.in-len1-up.len_at_least c.digit_value.ensures.value c.if-value-gt-GREATEST.true c.loop-rest.invariant.same
