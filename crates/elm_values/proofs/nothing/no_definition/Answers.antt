-- One level of the view of an annotation, and the view of its type.
use Rattle.std.proofs.Common.{ap, ◌∙◌}
use Rattle.elm_tree.specs.Tree.{Annotate}
use Rattle.elm_tree.specs.View.{word_view}
use Rattle.elm_tree.proofs.Views.{annotate_definition}
use Rattle.elm_values.proofs.nothing.no_definition.Goals as goal

pub returns : goal.returns
returns c = λ tokens.
    annotate_definition tokens (record { index = 0 }) c.no_type.result ∙
    ap (Annotate (word_view tokens (record { index = 0 }))) (c.no_type.ensures tokens)
