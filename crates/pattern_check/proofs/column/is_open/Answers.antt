use Rattle.std.proofs.Common.{◌∙◌, sym}
use Rattle.pattern_check.specs.Starts.{parts_view}
use Rattle.pattern_check.proofs.Lists.{open_skips}
use Rattle.pattern_check.proofs.column.is_open.Goals as goal

pub returns : goal.returns
returns c = c.are_open.ensures ∙ sym (open_skips c.args.row.open (parts_view c.args.row.rest.now))
