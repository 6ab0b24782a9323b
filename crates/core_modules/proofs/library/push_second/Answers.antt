-- One module after another: `five_more`.
use Rattle.std.proofs.Common.{map}
use Rattle.core_modules.specs.Library.{module_view}
use Rattle.core_modules.proofs.Modules.{five_more}
use Rattle.core_modules.proofs.library.push_second.Goals as goal

pub returns : goal.returns
returns c =
    five_more (map module_view c.args.modules.now.items) _ _ _ _ _ _ _ _ _ _
    c.in_ok-push_halves.ensures
    c.in_ok-push_halves-2.ensures
    c.in_ok-push.ensures
    c.in_ok-push-2.ensures
    c.in_ok-push-3.ensures
