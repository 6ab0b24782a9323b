use Rattle.infer_steps.proofs.Reading.{reads}
use Rattle.infer_steps.proofs.accessor.reader.Goals as goal

pub returns : goal.returns
returns c =
    reads _ _ _ c.args.name.now c.args.rest c.args.field c.in_ok-record.record c.in_ok-variable.variable
    (rw (c.in_ok-push.ensures.items, c.new-fields.ensures.items, c.in_ok-clone.ensures.cases) at c.in_ok-record.ensures) c.in_ok-variable.ensures
