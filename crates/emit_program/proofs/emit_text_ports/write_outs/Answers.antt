use Rattle.std.proofs.Common.{◌++◌, ◌∙◌, ap}
use Rattle.std.proofs.lemmas.Result.{on_ok_weaker}
use Rattle.js_tree.specs.Text.{fields_text, outs_fields}
use Rattle.emit_program.proofs.Order.{outs_sorted}
use Rattle.emit_program.proofs.emit_text_ports.write_outs.Goals as goal

pub returns : goal.returns
returns c =
    let old = c.args.text.now.items in
    on_ok_weaker c.write_zeros.result
    (λ is ds same. is ∙ ap (λ names. old ++ fields_text (outs_fields names)) (c.deref.ensures.value
    ∙ outs_sorted ds c.args.outs.items c.sort.new.self.items same c.in_ok-sort.ensures.sorted c.sort.ensures.stable))
    c.write_zeros.ensures
