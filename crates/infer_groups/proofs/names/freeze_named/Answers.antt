use Rattle.std.proofs.Common.{◌<◌, length, sym, subst, arith}
use Rattle.infer_groups.proofs.Entering.{next_frozen}
use Rattle.infer_groups.proofs.names.freeze_named.Goals as goal

pub freeze-requires-clause-inside : goal.freeze-requires-clause-inside
freeze-requires-clause-inside c =
    subst (λ n. n.variable < length c.args.store.now) (sym c.each-item.is)
    (c.requires.inside c.loop-each.each-index c.each-item.result (omega arith))

pub loop-each-preserved : goal.loop-each-preserved
loop-each-preserved c =
    next_frozen c.args.depth c.args.store.now c.args.names.now c.loop-each.each-index c.each-item.result
    c.loop-each.general.items c.push.new.self.items
    (record { name = c.in_ok-name.name; frozen = c.in_ok-frozen.frozen }) (omega arith) c.each-item.is
    c.in_ok-push.ensures.items c.loop-each.invariant
    c.in_ok-name.ensures c.in_ok-frozen.ensures
