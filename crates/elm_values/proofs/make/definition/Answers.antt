-- One level of the view.
use Rattle.std.proofs.Common.{sym, ap, ◌∙◌}
use Rattle.elm_tree.specs.View.{token_view}
use Rattle.elm_grammar.specs.Values.{defined}
use Rattle.elm_values.specs.Stack.{rest_view}
use Rattle.elm_tree.proofs.Views.{annotate_definition, define_definition}
use Rattle.elm_values.proofs.make.definition.Goals as goal

pub returns-in-Typed : goal.returns-in-Typed
returns-in-Typed c = λ tokens.
    annotate_definition tokens c.args.name c.in-Typed.written ∙
    ap (λ z. defined (token_view tokens c.args.name) (rest_view tokens z)) (sym c.in-Typed.is)

pub returns-in-Bodied : goal.returns-in-Bodied
returns-in-Bodied c = λ tokens.
    define_definition tokens c.args.name c.in-Bodied.parameters c.in-Bodied.body ∙
    ap (λ z. defined (token_view tokens c.args.name) (rest_view tokens z)) (sym c.in-Bodied.is)
