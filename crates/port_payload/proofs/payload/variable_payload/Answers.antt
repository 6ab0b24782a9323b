-- The variable without a name stands for what has no meaning.
use Rattle.std.proofs.Common.{length, Some, sym, ap, ◌∙◌}
use Rattle.elm_canon.proofs.Views.{int_payload}
use Rattle.port_payload.proofs.Plain.{as_blank}
use Rattle.port_payload.proofs.payload.variable_payload.Goals as goal

pub returns-then-as_slice-eq0 : goal.returns-then-as_slice-eq0
returns-then-as_slice-eq0 c =
    ap Some int_payload ∙ as_blank c.args.name.now (ap length (sym c.as_slice.ensures) ∙ c.if-as_slice-eq0.true)
