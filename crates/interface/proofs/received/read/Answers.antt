-- What is read was written: `text_read`.
use Rattle.std.proofs.Common.{◌≡◌, Some, sym, ◌∙◌, arith}
use Rattle.std.proofs.lemmas.Grind.{common_steps}
use Rattle.interface.specs.Formats.{whole}
use Rattle.interface.specs.Interface.{parts_view}
use Rattle.interface.specs.Text.{interface_format, values_format, unions_format, aliases_format}
use Rattle.interface.proofs.Whole.{text_read}
use Rattle.interface.proofs.received.read.Goals as goal

pub invariant_of-result : goal.invariant_of-result
unfolding interface_format values_format unions_format aliases_format
invariant_of-result c =
    let e : whole interface_format c.args.bytes.now ≡ Some (parts_view c.in_ok-values.values.items c.in_ok-unions.unions.items c.in_ok-aliases.aliases.items) = grind (arith, common_steps) in
    let r = text_read c.args.bytes.now (parts_view c.in_ok-values.values.items c.in_ok-unions.unions.items c.in_ok-aliases.aliases.items) e in
    record { written = (c.in_ok-text.ensures.items ∙ sym r.0, r.1) }
