use Rattle.std.proofs.Common.{◌∷◌, ◌∙◌, ap, sym}
use Rattle.std.proofs.lemmas.Result.{on_ok_weaker}
use Rattle.elm_canon.proofs.Views as view
use Rattle.elm_canon.specs.View.{function_view}
use Rattle.js_tree.specs.Tree.{MoreLine}
use Rattle.js_tree.specs.Postorder.{Expression, trees_of, apply, name_view}
use Rattle.js_tree.specs.declared.tree.Node as node
use Rattle.js_emit.specs.Names.{js_name}
use Rattle.emit_exprs.specs.Chains.{function_at}
use Rattle.emit_program.proofs.Growing.{lines_same, line_grown}
use Rattle.emit_program.proofs.declarations.push_function_line.Goals as goal

pub returns : goal.returns
returns c =
    let g = c.args.function.now in
    let v = function_at 0 (function_view g) in
    let x = c.in_ok-js_name.field-0 in
    on_ok_weaker c.push.result
    (λ is. lines_same
    (λ ls. ap (λ n. MoreLine n v ls) (c.in_ok-js_name.ensures ∙ ap (λ f. js_name f.0.name) (sym (view.function g))))
    (line_grown (trees_of c.args.trees.now) (trees_of c.push.new.self) (name_view x) v
    (λ before ts was. is ∙ ap (apply (node.Node.Line x))
    (c.in_ok-push_function.ensures.emitted ∙ ap (λ t. Expression v ∷ t) was))))
    c.push.ensures.trees
