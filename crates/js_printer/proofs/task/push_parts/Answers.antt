-- Tasks are pushed from the last part to the first.
use Rattle.std.proofs.Common.{◌++◌, ap, ◌∙◌}
use Rattle.std.proofs.lemmas.Iterator.Adapters.{YieldsList-from_rev_slice}
use Rattle.std.proofs.lemmas.Iterator.Consumers.{YieldsList-end}
use Rattle.js_printer.proofs.task.push_parts.Goals as goal

pub returns : goal.returns
returns c =
    let e = YieldsList-end (YieldsList-from_rev_slice c.args.parts.now cc) c.loop-part.yielded _ c.loop-part.yielded_by _ _ c.in-None.is c.next.ensures.steps in
    c.loop-part.invariant ∙ ap (λ ts. c.args.tasks.now.items ++ ts) e.0
