use Rattle.std.proofs.Common.{arith, ◌+◌, ◌-◌, ◌++◌}
use Rattle.js_tree.specs.Tree.{JProperty}
use Rattle.js_emit.specs.Names.{part_name}
use Rattle.js_emit.specs.Choice.{part_paths}
use Rattle.decision_tree.specs.Views.{path_view, paths_view}
use Rattle.decision_tree.proofs.Lists.{grown}
use Rattle.decision_tree.proofs.Splitting.{part_more}
use Rattle.decision_tree.proofs.path.add_parts.Goals as goal

pub loop-number-preserved : goal.loop-number-preserved
loop-number-preserved c = λ subject.
    let i = c.loop-number.number in
    let n = c.args.arity in
    let e = path_view subject c.args.path.now in
    grown (path_view subject) c.loop-number.out.items c.push.new.self.items c.in_ok-part.field-0
    (JProperty e (part_name i)) (part_paths (n - i) i e) (part_paths (n - (i + 1)) (i + 1) e)
    (paths_view subject c.args.out.now.items ++ part_paths (n - 0) 0 e) c.in_ok-push.ensures.items
    (c.in_ok-part.ensures subject) (part_more n i e (omega arith)) (c.loop-number.invariant subject)
