use Rattle.std.proofs.Common.{◌∙◌, ap, reverse}
use Rattle.type_schemes.specs.Walk.{entered}
use Rattle.type_schemes.proofs.Working.{pushed, all_pushed, same_list}
use Rattle.type_schemes.proofs.order.push_all.Goals as goal

pub loop-variable-preserved : goal.loop-variable-preserved
loop-variable-preserved c =
    pushed (λ v. v) c.args.variables.now c.loop-variable.variable-index 0 c.args.todo.now.items c.loop-variable.todo.items c.push.new.self.items
    c.loop-variable-test.true c.loop-variable.invariant c.in_ok-push.ensures.items

pub returns : goal.returns
returns c =
    all_pushed (λ v. v) c.args.variables.now c.loop-variable.variable-index c.args.todo.now.items c.loop-variable.todo.items c.loop-variable-test.false c.loop-variable.invariant
    ∙ ap (λ vs. entered vs (reverse c.args.todo.now.items)) (same_list c.args.variables.now)
