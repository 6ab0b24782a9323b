-- The words of the names are those that the definitions bind.
use Rattle.std.proofs.Common.{sym, ap, ◌∙◌}
use Rattle.std.proofs.lemmas.Result.{on_ok_weaker}
use Rattle.elm_tree.specs.View.{words_view}
use Rattle.elm_tree.specs.Turns.{tokens_view}
use Rattle.canon_env.specs.Locals.{with_names}
use Rattle.canon_env.specs.Patterns.{binding_sites}
use Rattle.canon_expr.specs.Scope.{locals_of}
use Rattle.canon_expr.proofs.Meaning.{grows_at, on_ok}
use Rattle.canon_expr.proofs.binding.enter_block.Goals as goal

pub returns-clause-names : goal.returns-clause-names
returns-clause-names c =
    let words = ap (words_view (tokens_view c.args.tokens.now)) c.deref-2.ensures.value ∙ c.in_ok-words.ensures in
    on_ok_weaker c.enter.result (λ e. e ∙ ap (λ ws. with_names ws (locals_of c.args.scope.now)) words) c.enter.ensures.names

pub returns-clause-log : goal.returns-clause-log
returns-clause-log c =
    let words = ap (words_view (tokens_view c.args.tokens.now)) c.deref.ensures.value ∙ c.in_ok-words.ensures in
    on_ok c.enter.result
    (λ w h. grows_at _ _ (ap (binding_sites (locals_of c.args.scope.now)) (sym words)) (c.in_ok-note_bindings.ensures w h))
