-- A definition of a name defines it, and others define nothing.
use Rattle.std.proofs.Common.{sym, ap, ◌∙◌}
use Rattle.elm_tree.specs.View.{definition_view}
use Rattle.elm_tree.proofs.Views.{annotate_definition, define_definition, destructure_definition}
use Rattle.canon_module.specs.Names.{defined_word}
use Rattle.canon_module.proofs.numbers.defined_word.Goals as goal

pub returns-in-Define : goal.returns-in-Define
returns-in-Define c = λ tokens.
    let d = c.in-Define in
    sym (ap (λ e. defined_word (definition_view tokens e)) d.is
    ∙ ap defined_word (define_definition tokens d.name d.field-1 d.field-2))

pub returns-in-Annotate : goal.returns-in-Annotate
returns-in-Annotate c = λ tokens.
    let d = c.in-Annotate in
    sym (ap (λ e. defined_word (definition_view tokens e)) d.is
    ∙ ap defined_word (annotate_definition tokens d.field-0 d.field-1))

pub returns-in-Destructure : goal.returns-in-Destructure
returns-in-Destructure c = λ tokens.
    let d = c.in-Destructure in
    sym (ap (λ e. defined_word (definition_view tokens e)) d.is
    ∙ ap defined_word (destructure_definition tokens d.field-0 d.field-1))
