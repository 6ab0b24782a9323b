-- Each of the three types is told by its module and its name.
use Rattle.std.proofs.Common.{Some, sym, ap, ◌∙◌}
use Rattle.elm_canon.proofs.Views.{int_payload, bool_payload, text_payload}
use Rattle.port_payload.proofs.Plain.{as_int, as_bool, as_text}
use Rattle.port_payload.proofs.payload.plain_payload.Goals as goal

pub returns-then-is_int : goal.returns-then-is_int
returns-then-is_int c = ap Some int_payload ∙ as_int c.args.home.now c.args.name.now (sym c.is_int.ensures ∙ c.if-is_int.true)

pub returns-then-is_bool : goal.returns-then-is_bool
returns-then-is_bool c =
    ap Some bool_payload
    ∙ as_bool c.args.home.now c.args.name.now (sym c.is_int.ensures ∙ c.if-is_int.false) (sym c.is_bool.ensures ∙ c.if-is_bool.true)

pub returns-then-is_string : goal.returns-then-is_string
returns-then-is_string c =
    ap Some text_payload
    ∙ as_text c.args.home.now c.args.name.now (sym c.is_int.ensures ∙ c.if-is_int.false) (sym c.is_bool.ensures ∙ c.if-is_bool.false)
    (sym c.is_string.ensures ∙ c.if-is_string.true)
