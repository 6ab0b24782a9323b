use Rattle.std.proofs.Common.{◌≡◌, length, map, arith}
use Rattle.std.proofs.lemmas.List.{length-map}
use Rattle.elm_canon.specs.View.{branch_view}
use Rattle.emit_exprs.proofs.EmitFramesSteps.{choice_one, choice_many}
use Rattle.emit_exprs.proofs.branches.begin_choice.Goals as goal

pub returns-then-len-eq1-clause-counted : goal.returns-then-len-eq1-clause-counted
returns-then-len-eq1-clause-counted c =
    let bs = map branch_view c.args.branches.now.items in
    let many : length bs ≡ 1 =
    omega (arith, length-map c.args.branches.now.items branch_view, c.len.ensures, c.if-len-eq1.true) in
    omega (arith, choice_one bs many)

pub returns-clause-counted : goal.returns-clause-counted
returns-clause-counted c =
    let bs = map branch_view c.args.branches.now.items in
    let none : length bs ≡ 1 → ⊥ = λ h.
    c.if-len-eq1.false (omega (arith, h, length-map c.args.branches.now.items branch_view, c.len.ensures)) in
    omega (arith, choice_many bs none, c.in_ok-number.ensures.counted)
