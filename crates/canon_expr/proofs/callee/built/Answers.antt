-- What is built goes on from the last part, if that is a chain.
use Rattle.std.proofs.Common.{◌≡◌, List, ◌++◌, ◌∷◌, [], map, sym, ap, ◌∙◌, append-nil}
use Rattle.std.proofs.lemmas.List.{map-append}
use Rattle.std.proofs.lemmas.Result.{IfOk-weaker}
use Rattle.elm_canon.specs.declared.tree.Expr.{Expr}
use Rattle.elm_canon.specs.Tree.{Strict, Build, exprs_of}
use Rattle.elm_canon.specs.View.{expr_view}
use Rattle.canon_expr.specs.Parts.{in_box}
use Rattle.canon_expr.proofs.callee.built.Goals as goal

pub returns-in-Some : goal.returns-in-Some
returns-in-Some c =
    let before = c.last_chain.new.parts in
    let last = expr_view c.in-Some.last.value in
    let fields : map expr_view c.args.fields.items ≡ map expr_view before.items ++ last ∷ [] =
    ap (map expr_view) (c.in_ok-last.ensures ∙ ap (λ x. before.items ++ in_box x) c.in-Some.is)
    ∙ map-append expr_view before.items (c.in-Some.last.value ∷ []) in
    IfOk-weaker c.built_after.result _ _
    (λ e is. is ∙ ap (λ es. Strict (Build c.args.place c.args.union c.args.alternative) (exprs_of es)) (sym fields))
    c.built_after.ensures

pub returns-in-None : goal.returns-in-None
returns-in-None c =
    let before = c.last_chain.new.parts in
    let same : c.args.fields.items ≡ before.items =
    c.in_ok-last.ensures ∙ ap (λ x. before.items ++ in_box x) c.in-None.is ∙ append-nil before.items in
    IfOk-weaker c.built_of.result _ _
    (λ e is. is ∙ ap (λ (l : List Expr). Strict (Build c.args.place c.args.union c.args.alternative)
    (exprs_of (map expr_view l))) (sym same))
    c.built_of.ensures
