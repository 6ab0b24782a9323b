use Rattle.std.proofs.Common.{◌++◌, ◌∙◌, map, ap}
use Rattle.std.proofs.lemmas.Result.{on_ok_weaker}
use Rattle.js_emit.specs.Program.{in_decoders}
use Rattle.emit_program.specs.Texts.{in_view, listed}
use Rattle.emit_program.proofs.Ordered.{fields_listed}
use Rattle.emit_program.proofs.emit_text_ports.write_ins.Goals as goal

pub returns : goal.returns
returns c =
    let old = c.args.text.now.items in
    on_ok_weaker c.write_fields.result
    (λ is ds same. is ∙ ap (λ ps. old ++ listed (map in_view ps)) c.deref.ensures.value
    ∙ ap (λ l. old ++ listed l) (c.in_ok-ports.ensures ds same) ∙ ap (λ t. old ++ t) (fields_listed (in_decoders ds)))
    c.write_fields.ensures
