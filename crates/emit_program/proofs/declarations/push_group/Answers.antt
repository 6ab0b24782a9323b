use Rattle.std.proofs.Common.{◌∷◌, ◌∙◌, ap, sym}
use Rattle.std.proofs.lemmas.Result.{on_ok_weaker}
use Rattle.elm_canon.proofs.Views as view
use Rattle.elm_canon.specs.Tree as plain
use Rattle.elm_canon.specs.View.{expr_view, group_view, title_view}
use Rattle.js_tree.specs.Tree.{MoreLine}
use Rattle.js_tree.specs.Postorder.{Expression, trees_of, apply, name_view}
use Rattle.js_tree.specs.declared.tree.Node as node
use Rattle.js_emit.specs.Program.{group_lines}
use Rattle.emit_exprs.specs.Chains.{value}
use Rattle.emit_program.proofs.Growing.{lines_none, lines_same, line_grown}
use Rattle.emit_program.proofs.declarations.push_group.Goals as goal

pub returns-in-Together : goal.returns-in-Together
returns-in-Together c =
    let whole = ap group_view c.in-Together.is ∙ view.together c.in-Together.functions in
    on_ok_weaker c.push_functions.result (λ grown. lines_same (λ ls. ap (λ g. group_lines g ls) (sym whole)) grown)
    c.push_functions.ensures

pub returns-in_ok-js_name-in-Constant : goal.returns-in_ok-js_name-in-Constant
returns-in_ok-js_name-in-Constant c =
    let v = value 0 (expr_view c.deref.result.now) in
    let x = c.in_ok-js_name-in-Constant.field-0 in
    let whole = ap group_view c.in-Constant.is ∙ view.constant c.in-Constant.title c.in-Constant.value
    ∙ ap (λ e. plain.Constant (title_view c.in-Constant.title) (expr_view e)) (sym c.deref.ensures) in
    on_ok_weaker c.push.result
    (λ is. lines_same
    (λ ls. ap (λ n. MoreLine n v ls) c.in_ok-js_name-in-Constant.ensures ∙ ap (λ g. group_lines g ls) (sym whole))
    (line_grown (trees_of c.args.trees.now) (trees_of c.push.new.self) (name_view x) v
    (λ before ts was. is ∙ ap (apply (node.Node.Line x))
    (c.in_ok-push_value-in-Constant.ensures.emitted ∙ ap (λ t. Expression v ∷ t) was))))
    c.push.ensures.trees

pub returns-in-Destructure : goal.returns-in-Destructure
returns-in-Destructure c =
    let whole = ap group_view c.in-Destructure.is ∙ view.destructure c.in-Destructure.field-0 c.in-Destructure.field-1 in
    lines_same (λ ls. ap (λ g. group_lines g ls) (sym whole)) (lines_none (trees_of c.args.trees.now))
