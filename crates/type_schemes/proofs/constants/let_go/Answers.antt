use Rattle.std.proofs.Common.{◌≡◌, suc, get_or, sym, subst, arith, ◌+◌}
use Rattle.std.proofs.lemmas.List.{get_or_default}
use Rattle.type_schemes.proofs.Calls.{GoneSoFar, is_held, gone_next, gone_last}
use Rattle.type_schemes.proofs.constants.let_go.Goals as goal

pub loosen-requires-clause-constant : goal.loosen-requires-clause-constant
loosen-requires-clause-constant c =
    is_held c.choice_law.ensures c.args.store.now c.args.slots.now c.loop-slot.slot-index c.loop-slot.store c.root-root.result _ c.requires.whole c.loop-slot.invariant
    c.loop-slot-test.true (get_or_default c.args.slots.now c.loop-slot.slot-index 0 (get_or c.args.slots.now c.loop-slot.slot-index 0) c.loop-slot-test.true)
    c.root-root.ensures.leads c.root-root.ensures.ends c.requires.own

pub loop-slot-preserved : goal.loop-slot-preserved
loop-slot-preserved c =
    let i = c.loop-slot.slot-index in
    let e : i + 1 ≡ suc i = omega arith in
    subst (λ n. GoneSoFar c.args.store.now c.args.slots.now n c.loosen.new.self) (sym e)
    (gone_next c.choice_law.ensures c.args.store.now c.args.slots.now c.loop-slot.slot-index c.loop-slot.store c.root-root.result _ c.requires.whole c.loop-slot.invariant
    c.loop-slot-test.true (get_or_default c.args.slots.now c.loop-slot.slot-index 0 (get_or c.args.slots.now c.loop-slot.slot-index 0) c.loop-slot-test.true)
    c.root-root.ensures.leads c.root-root.ensures.ends c.loosen.new.self c.in_ok-loosen.ensures.whole c.in_ok-loosen.ensures.made c.root-root.ensures.inside)

pub returns : goal.returns
returns c = gone_last c.args.store.now c.args.slots.now c.loop-slot.slot-index c.loop-slot.store c.loop-slot.invariant
    (omega (arith, c.loop-slot-test.false, c.loop-slot.auto.slot-index-end))
