use Rattle.std.proofs.Common.{[], ◌∷◌, ◌∙◌, ap}
use Rattle.std.proofs.lemmas.Result.{IfOk-weaker}
use Rattle.js_tree.specs.Postorder.{LinesOf, NoLineYet, trees_of}
use Rattle.js_emit.specs.Program.{primitive_lines}
use Rattle.emit_program.specs.Programs.{core_view}
use Rattle.emit_program.proofs.Joined.{lines_printed}
use Rattle.emit_program.proofs.lines.core_name_text.Goals as goal

pub returns : goal.returns
returns c =
    let was = c.in_ok-push.ensures.trees ∙ ap (λ ns. LinesOf NoLineYet ∷ trees_of ns) c.new-trees.ensures in
    IfOk-weaker c.print.result _ _
    (λ text is. is ∙ lines_printed (trees_of c.push.new.self) (trees_of c.push_core_name.new.trees)
    (primitive_lines (core_view c.args.core_name.now ∷ [])) was c.in_ok-push_core_name.ensures)
    c.print.ensures.text
