-- Numbers: `decimal_digits`.
use Rattle.std.proofs.Common.{sym}
use Rattle.elm_lexer.proofs.Numbers.{decimal_digits}
use Rattle.elm_lexer.proofs.kind.number_kind.Goals as goal

pub int-requires-clause-digits : goal.int-requires-clause-digits
int-requires-clause-digits c = decimal_digits c.args.number.now (sym c.if-is_decimal.ensures)
