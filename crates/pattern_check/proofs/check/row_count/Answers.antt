use Rattle.std.proofs.Common.{◌∙◌, sym}
use Rattle.std.proofs.lemmas.Result.{IfOk-weaker}
use Rattle.pattern_check.specs.Starts.{parts_view}
use Rattle.pattern_check.proofs.Lists.{open_count}
use Rattle.pattern_check.proofs.check.row_count.Goals as goal

pub returns : goal.returns
returns c =
    IfOk-weaker c.count.result _ _ (λ n h. h ∙ sym (open_count c.args.row.open (parts_view c.args.row.rest.now))) c.count.ensures
