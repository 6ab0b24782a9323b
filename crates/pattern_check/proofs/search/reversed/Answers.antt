use Rattle.std.proofs.Common.{◌∙◌}
use Rattle.pattern_check.proofs.Searching.{turned}
use Rattle.pattern_check.proofs.search.reversed.Goals as goal

pub loop-start-preserved : goal.loop-start-preserved
loop-start-preserved c =
    turned c.loop-start.starts.items c.pop.new.self.items c.loop-start.out.items c.push.new.self.items c.in-Some.start
    c.in-Some.ensures.items c.in_ok-push.ensures.items ∙ c.loop-start.invariant
