-- One value more: `at_value`.
use Rattle.std.proofs.Common.{sym, ◌∙◌, arith}
use Rattle.module_offers.proofs.Names.{at_value, is_this, is_another}
use Rattle.module_offers.proofs.operator_faults_functions.is_named.Goals as goal

pub returns-then-is_text : goal.returns-then-is_text
returns-then-is_text c =
    is_this _ _ _
    (sym (at_value c.args.name.now c.args.values.now c.loop-value.value-index c.value-item.result (omega arith)
    c.value-item.is)
    ∙ c.loop-value.invariant) (sym c.is_text.ensures ∙ c.if-is_text.true)

pub loop-value-preserved : goal.loop-value-preserved
loop-value-preserved c =
    is_another _ _ _
    (sym (at_value c.args.name.now c.args.values.now c.loop-value.value-index c.value-item.result (omega arith)
    c.value-item.is)
    ∙ c.loop-value.invariant) (sym c.is_text.ensures ∙ c.if-is_text.false)
