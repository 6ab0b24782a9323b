-- What is no value of its own is never refused: `told`.
use Rattle.std.proofs.Common.{[], ◌∷◌, sym, ap, ◌∙◌, subst}
use Rattle.std.proofs.lemmas.Result.{on_ok_weaker}
use Rattle.elm_tree.specs.View.{declaration_view}
use Rattle.elm_tree.specs.Turns.{tokens_view}
use Rattle.canon_env.specs.Sites.{Reaching}
use Rattle.canon_expr.specs.Logs.{Grows}
use Rattle.canon_expr.proofs.Marking.{not_refused, no_function}
use Rattle.canon_module.specs.CanonValuesFaults.{defined_top}
use Rattle.canon_module.proofs.reaching.note_one.Goals as goal

pub returns-in-Value : goal.returns-in-Value
returns-in-Value c =
    let view = declaration_view (tokens_view c.args.tokens.now) in
    on_ok_weaker c.note_recursion.result
    (λ g w. subst (λ d. Grows w c.args.log.now c.note_recursion.new.log (Reaching c.args.reaches (defined_top (view d)) ∷ []))
    (sym c.in-Value.is ∙ c.get.ensures) (g w))
    c.note_recursion.ensures

pub returns-in-Port : goal.returns-in-Port
returns-in-Port c = λ w.
    let d = defined_top (declaration_view (tokens_view c.args.tokens.now) c.args.declaration.now) in
    not_refused w c.args.log.now c.args.reaches d
    (no_function c.args.reaches d (ap (λ e. (defined_top (declaration_view (tokens_view c.args.tokens.now) e)).is_function) (sym c.get.ensures ∙ c.in-Port.is)))

pub returns-in-Union : goal.returns-in-Union
returns-in-Union c = λ w.
    let d = defined_top (declaration_view (tokens_view c.args.tokens.now) c.args.declaration.now) in
    not_refused w c.args.log.now c.args.reaches d
    (no_function c.args.reaches d (ap (λ e. (defined_top (declaration_view (tokens_view c.args.tokens.now) e)).is_function) (sym c.get.ensures ∙ c.in-Union.is)))

pub returns-in-Alias : goal.returns-in-Alias
returns-in-Alias c = λ w.
    let d = defined_top (declaration_view (tokens_view c.args.tokens.now) c.args.declaration.now) in
    not_refused w c.args.log.now c.args.reaches d
    (no_function c.args.reaches d (ap (λ e. (defined_top (declaration_view (tokens_view c.args.tokens.now) e)).is_function) (sym c.get.ensures ∙ c.in-Alias.is)))
