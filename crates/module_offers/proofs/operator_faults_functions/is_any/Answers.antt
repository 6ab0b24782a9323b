-- One function more: `at_function`.
use Rattle.std.proofs.Common.{sym, ◌∙◌, arith}
use Rattle.elm_canon.specs.declared.reference.Ref.TheVariants.{Top}
use Rattle.module_offers.proofs.Names.{at_function, is_here, is_later}
use Rattle.module_offers.proofs.operator_faults_functions.is_any.Goals as goal

pub returns-then-is_function : goal.returns-then-is_function
returns-then-is_function c =
    let r = Top c.args.home.now c.args.function.now in
    is_here _ _ _
    (sym (at_function r c.args.functions.now c.loop-defined.defined-index c.defined-item.result (omega arith)
    c.defined-item.is)
    ∙ c.loop-defined.invariant) (sym c.is_function.ensures ∙ c.if-is_function.true)

pub loop-defined-preserved : goal.loop-defined-preserved
loop-defined-preserved c =
    let r = Top c.args.home.now c.args.function.now in
    is_later _ _ _
    (sym (at_function r c.args.functions.now c.loop-defined.defined-index c.defined-item.result (omega arith)
    c.defined-item.is)
    ∙ c.loop-defined.invariant) (sym c.is_function.ensures ∙ c.if-is_function.false)
