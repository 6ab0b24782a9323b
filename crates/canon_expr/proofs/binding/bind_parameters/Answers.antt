-- The sites of the patterns, and then those of their names.
use Rattle.std.proofs.Common.{sym, ap, ◌∙◌}
use Rattle.elm_tree.specs.View.{words_view}
use Rattle.elm_tree.specs.Turns.{tokens_view}
use Rattle.canon_env.specs.Patterns.{binding_sites}
use Rattle.canon_expr.specs.Scope.{locals_of}
use Rattle.canon_expr.proofs.Growing.{grows_more}
use Rattle.canon_expr.proofs.Meaning.{grows_at}
use Rattle.canon_expr.proofs.binding.bind_parameters.Goals as goal

pub returns-clause-log : goal.returns-clause-log
returns-clause-log c = λ w h.
    let tokens = tokens_view c.args.tokens.now in
    grows_more (c.in_ok-patterns.ensures.log w h)
    (grows_at _ _
    (ap (binding_sites (locals_of c.args.scope.now)) (sym (ap (words_view tokens) c.deref.ensures.value ∙ c.in_ok-words.ensures)))
    (c.in_ok-note_bindings.ensures w h))
