-- The view of functions together.
use Rattle.std.proofs.Common.{[], ◌∷◌, ◌++◌, map, ap, ◌∙◌}
use Rattle.std.proofs.lemmas.Result.{on_ok_weaker}
use Rattle.elm_canon.specs.Tree as canon
use Rattle.elm_canon.specs.View.{declaration_view}
use Rattle.elm_canon.proofs.Views as views
use Rattle.canon_module.proofs.groups.push_functions.Goals as goal

pub returns : goal.returns
returns c =
    on_ok_weaker c.push.result
    (λ e. e ∙ ap (λ g. map declaration_view c.args.declarations.now.items ++ canon.Define g ∷ [])
    (views.together c.args.functions))
    c.push.ensures
