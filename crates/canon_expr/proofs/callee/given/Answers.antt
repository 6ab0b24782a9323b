-- A function is applied to the last part, if that is a chain.
use Rattle.std.proofs.Common.{◌≡◌, List, ◌++◌, ◌∷◌, [], map, sym, ap, ◌∙◌, append-nil}
use Rattle.std.proofs.lemmas.List.{map-append}
use Rattle.std.proofs.lemmas.Result.{IfOk-weaker}
use Rattle.elm_canon.specs.declared.tree.Expr.{Expr}
use Rattle.elm_canon.specs.View.{expr_view}
use Rattle.canon_expr.specs.Callees as spec
use Rattle.canon_expr.specs.Parts.{in_box}
use Rattle.canon_expr.proofs.Linking.{given_more}
use Rattle.canon_expr.proofs.callee.given.Goals as goal

pub returns-in-Some : goal.returns-in-Some
returns-in-Some c =
    let f = expr_view c.args.function.value in
    let before = c.last_chain.new.parts in
    let last = expr_view c.in-Some.last.value in
    let arguments : map expr_view c.args.arguments.items ≡ map expr_view before.items ++ last ∷ [] =
    ap (map expr_view) (c.in_ok-last.ensures ∙ ap (λ x. before.items ++ in_box x) c.in-Some.is)
    ∙ map-append expr_view before.items (c.in-Some.last.value ∷ []) in
    IfOk-weaker c.given_last.result _ _
    (λ e is. is ∙ given_more f (map expr_view before.items) last ∙ ap (spec.given f) (sym arguments))
    c.given_last.ensures

pub returns-in-None : goal.returns-in-None
returns-in-None c =
    let es = c.last_chain.new.parts in
    let same : c.args.arguments.items ≡ es.items =
    c.in_ok-last.ensures ∙ ap (λ x. es.items ++ in_box x) c.in-None.is ∙ append-nil es.items in
    IfOk-weaker c.given_all.result _ _
    (λ e is. is ∙ ap (λ (l : List Expr). spec.given (expr_view c.args.function.value) (map expr_view l)) (sym same))
    c.given_all.ensures
