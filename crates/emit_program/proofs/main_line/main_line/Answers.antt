use Rattle.std.proofs.Common.{◌∙◌}
use Rattle.std.specs.Prelude.{codes}
use Rattle.js_tree.specs.Tree.{JVar}
use Rattle.js_tree.specs.Text.{js_text, text_text, fields_text, outs_fields}
use Rattle.js_emit.specs.Names.{js_name}
use Rattle.js_emit.specs.Program.{module_of, in_decoders, out_names}
use Rattle.emit_program.proofs.Pieces.{main_whole, eleven}
use Rattle.emit_program.proofs.main_line.main_line.Goals as goal

pub returns : goal.returns
returns c = λ p is.
    let main = c.args.main.now in
    let flags = c.args.flags.now in
    eleven (codes "const _main={\"name\":") (text_text (module_of main)) (codes ",\"program\":") (js_text (JVar (js_name main))) (codes ",\"flags\":") flags
    (codes ",\"ins\":{") (fields_text (in_decoders p.declarations)) (codes "},\"outs\":{") (fields_text (outs_fields (out_names p.declarations))) (codes "}};\n")
    c.new-text.result.items c.extend_from_slice.new.self.items c.write_module.new.text.items c.extend_from_slice-2.new.self.items
    c.write_use.new.text.items c.extend_from_slice-3.new.self.items c.extend_from_slice-4.new.self.items c.extend_from_slice-5.new.self.items
    c.write_ins.new.text.items c.extend_from_slice-6.new.self.items c.write_outs.new.text.items c.extend_from_slice-7.new.self.items
    c.new-text.ensures.items c.in_ok-extend_from_slice.ensures.items c.in_ok-write_module.ensures c.in_ok-extend_from_slice-2.ensures.items
    c.in_ok-write_use.ensures c.in_ok-extend_from_slice-3.ensures.items c.in_ok-extend_from_slice-4.ensures.items c.in_ok-extend_from_slice-5.ensures.items
    (c.in_ok-write_ins.ensures p.declarations is.ins) c.in_ok-extend_from_slice-6.ensures.items (c.in_ok-write_outs.ensures p.declarations is.outs)
    c.in_ok-extend_from_slice-7.ensures.items
    ∙ main_whole p main flags is.main is.flags
