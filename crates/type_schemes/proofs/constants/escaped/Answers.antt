use Rattle.std.proofs.Common.{subst, arith}
use Rattle.std.specs.List.{All}
use Rattle.std.proofs.lemmas.List.Elements.{All-more}
use Rattle.type_schemes.specs.Constants.{IsFree}
use Rattle.type_schemes.proofs.Calls.{taken_all}
use Rattle.type_schemes.proofs.constants.escaped.Goals as goal

pub loop-at-preserved : goal.loop-at-preserved
loop-at-preserved c =
    All-more (IsFree c.args.depth c.args.store.now) c.args.slots.now c.loop-at.at 0 c.loop-at-test.true c.loop-at.invariant
    (record { root = c.root.result; leads = c.root.ensures.leads; ends = c.root.ensures.ends; deep = omega (arith, c.depth.ensures, c.if-depth.false) })

pub returns-clause-free : goal.returns-clause-free
returns-clause-free c e =
    subst (All (IsFree c.args.depth c.args.store.now)) (taken_all c.args.slots.now c.loop-at.at (omega (arith, c.loop-at-test.false))) c.loop-at.invariant
