-- The one function, as the view of the tree tells it.
use Rattle.std.proofs.Common.{[], ◌∷◌, map, ap, ◌∙◌}
use Rattle.std.proofs.lemmas.Result.{IfOk-weaker}
use Rattle.elm_canon.specs.View.{function_view}
use Rattle.elm_canon.proofs.Views as views
use Rattle.canon_expr.proofs.groups.one_function.Goals as goal

pub returns : goal.returns
returns c =
    IfOk-weaker c.one_item.result _ _
    (λ fs is. ap (map function_view) is
    ∙ ap (λ f. f ∷ [])
    (views.function (record { title = c.args.title; parameters = c.args.parameters; body = c.args.body })))
    c.one_item.ensures
