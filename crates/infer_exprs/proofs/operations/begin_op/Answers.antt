use Rattle.infer_steps.specs.View.{here}
use Rattle.infer_steps.proofs.Beginning.{update_begun}
use Rattle.infer_exprs.proofs.Building.{ok_so}
use Rattle.infer_exprs.proofs.operations.begin_op.Goals as goal

pub returns-in-Tuple-clause-begins : goal.returns-in-Tuple-clause-begins
returns-in-Tuple-clause-begins c =
    rw c.in-Tuple.is (ok_so _ _ c.tuple.result (λ vs h code known. h code) c.tuple.ensures.begins)

pub returns-in-List-clause-begins : goal.returns-in-List-clause-begins
returns-in-List-clause-begins c =
    rw c.in-List.is (ok_so _ _ c.list.result (λ vs h code known. h code) c.list.ensures.begins)

pub returns-in-Build-clause-begins : goal.returns-in-Build-clause-begins
returns-in-Build-clause-begins c =
    rw c.in-Build.is
    (ok_so _ _ c.build.result (λ vs h code known. h code c.args.position known) c.build.ensures.begins)

pub returns-in-Record-clause-begins : goal.returns-in-Record-clause-begins
returns-in-Record-clause-begins c =
    rw c.in-Record.is
    (ok_so _ _ c.record.result (λ vs h code known. h code) (rw c.deref.ensures.value at c.record.ensures.begins))

pub returns-in_ok-owner-in-Update-clause-begins : goal.returns-in_ok-owner-in-Update-clause-begins
returns-in_ok-owner-in-Update-clause-begins c code known =
    rw c.in-Update.is
    (update_begun code (here c.args.state.now) c.args.position c.in-Update._names.items c.args.count c.args.wanted
    c.in_ok-owner-in-Update.owner.items c.if_any.result.items c.if_any.ensures c.in_ok-owner-in-Update.ensures
    c.requires.whole c.requires.wanted)

pub returns-in-Negate-clause-begins : goal.returns-in-Negate-clause-begins
returns-in-Negate-clause-begins c =
    rw c.in-Negate.is (ok_so _ _ c.negation.result (λ vs h code known. h code) c.negation.ensures.begins)

pub returns-in-Binary-clause-begins : goal.returns-in-Binary-clause-begins
returns-in-Binary-clause-begins c =
    rw c.in-Binary.is
    (ok_so _ _ c.binary.result (λ vs h code known. h code c.args.position) c.binary.ensures.begins)
