-- Of no fields, and of some.
use Rattle.std.proofs.Common.{◌∙◌, sym, arith}
use Rattle.elm_canon.proofs.Views.{anything_pattern, fields_pattern}
use Rattle.canon_expr.proofs.CanonPatternForms.{fields_none, fields_some}
use Rattle.canon_expr.proofs.parts.fields.Goals as goal

pub returns-then-len-eq0 : goal.returns-then-len-eq0
returns-then-len-eq0 c =
    anything_pattern
    ∙ sym (fields_none c.args.names.items (omega (arith, c.len.ensures, c.if-len-eq0.true, c.args.names.ok.0)))

pub returns-else-len-eq0 : goal.returns-else-len-eq0
returns-else-len-eq0 c =
    fields_pattern c.args.names
    ∙ sym (fields_some c.args.names.items
    (λ e. c.if-len-eq0.false (omega (arith, e, c.len.ensures, c.args.names.ok.0))))
