-- By the form of the group.
use Rattle.std.proofs.Common.{sym, ap, ◌∙◌}
use Rattle.elm_canon.specs.View.{group_view}
use Rattle.elm_canon.proofs.Views.{together, constant, destructure}
use Rattle.link.specs.Cores as spec
use Rattle.link.proofs.split.core_in.Goals as goal

pub returns-in-Together : goal.returns-in-Together
returns-in-Together c =
    c.core_alone.ensures ∙ ap spec.core_in (sym (together c.in-Together.functions))
    ∙ ap (λ g. spec.core_in (group_view g)) (sym c.in-Together.is)

pub returns-in-Constant : goal.returns-in-Constant
returns-in-Constant c =
    ap spec.core_in (sym (constant c.in-Constant.field-0 c.in-Constant.field-1))
    ∙ ap (λ g. spec.core_in (group_view g)) (sym c.in-Constant.is)

pub returns-in-Destructure : goal.returns-in-Destructure
returns-in-Destructure c =
    ap spec.core_in (sym (destructure c.in-Destructure.field-0 c.in-Destructure.field-1))
    ∙ ap (λ g. spec.core_in (group_view g)) (sym c.in-Destructure.is)
