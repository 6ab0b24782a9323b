-- What `parse` reads, by the test that `specs/Command.antt` makes: `number_read`, `number_refused`, `other_form`.
use Rattle.std.proofs.Common.{◌∙◌, arith, sym}
use Rattle.command_line.proofs.NumberLemmas.{number_read, number_refused, other_form}
use Rattle.command_line.proofs.numbers.number.Goals as goal

pub returns-then-is_in_other_form : goal.returns-then-is_in_other_form
returns-then-is_in_other_form c =
    other_form c.args.least c.args.most c.args.text.now (sym c.is_in_other_form.ensures ∙ c.if-is_in_other_form.true)

pub returns-then-n-most : goal.returns-then-n-most
returns-then-n-most c =
    number_read c.args.least c.args.most c.in-Ok.n c.args.text.now (sym c.is_in_other_form.ensures ∙ c.if-is_in_other_form.false)
    c.in-Ok.ensures.value.0 (omega arith) (omega arith)

pub returns-in-Err : goal.returns-in-Err
returns-in-Err c =
    number_refused c.args.least c.args.most c.args.text.now (sym c.is_in_other_form.ensures ∙ c.if-is_in_other_form.false)
    c.in-Err.ensures.value.0 (omega arith)
