-- By what the definition is, as the views of the tree tell it.
use Rattle.std.proofs.Common.{[], ◌∷◌, sym, ap, ◌∙◌}
use Rattle.elm_canon.specs.Tree as canon
use Rattle.elm_canon.specs.Tree.{functions_of}
use Rattle.elm_canon.proofs.Views as views
use Rattle.canon_expr.specs.Blocks.{group_of}
use Rattle.canon_expr.specs.Kept.{made_view}
use Rattle.canon_expr.proofs.groups.one_group.Goals as goal

pub returns-in_ok-functions-in-Function : goal.returns-in_ok-functions-in-Function
returns-in_ok-functions-in-Function c =
    ap (λ g. g ∷ [])
    (views.together c.in_ok-functions-in-Function.functions
    ∙ ap (λ l. canon.Together (functions_of l)) c.in_ok-functions-in-Function.ensures)
    ∙ ap (λ m. group_of (made_view m ∷ [])) (sym c.in-Function.is)

pub returns-in-Constant : goal.returns-in-Constant
returns-in-Constant c =
    ap (λ g. g ∷ []) (views.constant c.in-Constant.title c.in-Constant.value)
    ∙ ap (λ m. group_of (made_view m ∷ [])) (sym c.in-Constant.is)

pub returns-in-Parts : goal.returns-in-Parts
returns-in-Parts c =
    ap (λ g. g ∷ []) (views.destructure c.in-Parts.pattern c.in-Parts.value)
    ∙ ap (λ m. group_of (made_view m ∷ [])) (sym c.in-Parts.is)
