use Rattle.std.proofs.Common.{◌∙◌}
use Rattle.pattern_check.specs.Flat.{open_parts}
use Rattle.pattern_check.proofs.Searching.{path_step}
use Rattle.pattern_check.proofs.search.path.Goals as goal

pub loop-rest-preserved : goal.loop-rest-preserved
loop-rest-preserved c =
    path_step c.loop-rest.rest.now c.frame-item.result c.loop-rest.parts.items c.add_open.new.parts.items c.push.new.self.items
    (open_parts c.args.opens) c.in-len1-up.len_at_least c.frame-item.is c.in_ok-add_open.ensures c.in_ok-push.ensures.items
    ∙ c.loop-rest.invariant
