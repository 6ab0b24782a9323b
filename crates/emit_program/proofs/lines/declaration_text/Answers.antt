use Rattle.std.proofs.Common.{◌∷◌, ◌∙◌, ap}
use Rattle.std.proofs.lemmas.Result.{IfOk-weaker}
use Rattle.elm_canon.specs.View.{declaration_view}
use Rattle.js_tree.specs.Postorder.{LinesOf, NoLineYet, trees_of}
use Rattle.emit_program.proofs.Joined.{declared_printed}
use Rattle.emit_program.proofs.lines.declaration_text.Goals as goal

pub returns : goal.returns
returns c =
    let was = c.in_ok-push.ensures.trees ∙ ap (λ ns. LinesOf NoLineYet ∷ trees_of ns) c.new-trees.ensures in
    IfOk-weaker c.print.result _ _
    (λ text is. is ∙ declared_printed (trees_of c.push.new.self) (trees_of c.push_declaration.new.trees)
    (declaration_view c.args.declaration.now) was c.in_ok-push_declaration.ensures)
    c.print.ensures.text
