-- The names of what the definition is made of, which stands in a box.
use Rattle.std.proofs.Common.{◌≡◌, ◌++◌, OnOk, sym, ap, ◌∙◌, subst}
use Rattle.elm_canon.specs.View.{expr_view}
use Rattle.canon_env.specs.Uses.{expr_uses}
use Rattle.canon_expr.specs.Kept.{made_view}
use Rattle.canon_module.specs.Items.{made_uses}
use Rattle.canon_module.proofs.uses.push_made_uses.Goals as goal

pub returns-in-Function : goal.returns-in-Function
returns-in-Function c =
    subst (λ z. OnOk c.push_uses.result (c.push_uses.new.uses.items ≡ c.args.uses.now.items ++ z))
    (ap (λ e. expr_uses (expr_view e)) c.deref.ensures ∙ ap (λ m. made_uses (made_view m)) (sym c.in-Function.is))
    c.push_uses.ensures

pub returns-in-Constant : goal.returns-in-Constant
returns-in-Constant c =
    subst (λ z. OnOk c.push_uses-in-Constant.result (c.push_uses-in-Constant.new.uses.items ≡ c.args.uses.now.items ++ z))
    (ap (λ e. expr_uses (expr_view e)) c.deref-in-Constant.ensures ∙ ap (λ m. made_uses (made_view m)) (sym c.in-Constant.is))
    c.push_uses-in-Constant.ensures

pub returns-in-Parts : goal.returns-in-Parts
returns-in-Parts c =
    subst (λ z. OnOk c.push_uses-in-Parts.result (c.push_uses-in-Parts.new.uses.items ≡ c.args.uses.now.items ++ z))
    (ap (λ e. expr_uses (expr_view e)) c.deref-in-Parts.ensures ∙ ap (λ m. made_uses (made_view m)) (sym c.in-Parts.is))
    c.push_uses-in-Parts.ensures
