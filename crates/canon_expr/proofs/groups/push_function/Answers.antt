-- One function more, if the definition is one.
use Rattle.std.proofs.Common.{◌++◌, [], ◌∷◌, map, sym, ap, ◌∙◌}
use Rattle.std.proofs.lemmas.Result.{on_ok_weaker}
use Rattle.elm_canon.specs.View.{function_view}
use Rattle.canon_expr.specs.Kept.{made_view, functions_among}
use Rattle.canon_expr.proofs.groups.push_function.Goals as goal

pub returns-in-Function : goal.returns-in-Function
returns-in-Function c =
    on_ok_weaker c.add_function.result
    (λ is. is ∙ ap (λ m. map function_view c.args.functions.now.items ++ functions_among (made_view m ∷ []))
    (sym c.in-Function.is))
    c.add_function.ensures
