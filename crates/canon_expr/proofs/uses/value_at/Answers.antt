-- By what the name of the value means: `value_means`.
use Rattle.std.proofs.Common.{◌≡◌, sym, ap, ◌∙◌}
use Rattle.elm_tree.specs.View.{long_view}
use Rattle.elm_tree.specs.Turns.{tokens_view}
use Rattle.elm_canon.specs.Tree.{Located}
use Rattle.elm_canon.specs.View.{expr_view}
use Rattle.elm_canon.proofs.Views as views
use Rattle.canon_env.specs.Sites.{value_meaning}
use Rattle.canon_expr.specs.Scope.{locals_of}
use Rattle.canon_expr.proofs.Using.{value_means}
use Rattle.canon_expr.proofs.uses.value_at.Goals as goal

pub returns-in_ok-name-in-Some-clause-meaning : goal.returns-in_ok-name-in-Some-clause-meaning
returns-in_ok-name-in-Some-clause-meaning c = λ w h.
    let x = long_view (tokens_view c.args.tokens.now) c.args.word in
    let place : c.place_at.result ≡ x.place =
    λ i. record { row = c.place_at.ensures.row i; column = c.place_at.ensures.column i } in
    views.located c.place_at.result c.in_ok-name-in-Some.name
    ∙ ap (λ p. Located p (expr_view c.in_ok-name-in-Some.name.value)) place
    ∙ ap (Located x.place) (ap expr_view c.in_ok-name-in-Some.ensures.ok ∙ views.name c.in-Some.reference)
    ∙ value_means x (value_meaning w (locals_of c.args.scope.now) x) c.in-Some.reference
    (sym (c.in_ok-reference.ensures.meaning w h) ∙ c.in-Some.is)
