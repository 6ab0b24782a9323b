-- A definition of a name adds the name, and others add nothing.
use Rattle.std.proofs.Common.{rules, ◌≡◌, [], ◌++◌, refl, sym, ap, ◌∙◌}
use Rattle.std.proofs.lemmas.Result.{on_ok_weaker}
use Rattle.elm_tree.specs.View.{word_view, words_view, definition_view}
use Rattle.elm_tree.proofs.Views.{annotate_definition, define_definition, destructure_definition}
use Rattle.canon_env.proofs.Filtering.{pushed}
use Rattle.canon_module.specs.Names.{defined_word}
use Rattle.canon_module.proofs.names.push_defined.Goals as goal

pub returns-in-Define : goal.returns-in-Define
returns-in-Define c =
    let old = c.args.words.now.items in
    let d = c.in-Define in
    on_ok_weaker c.push_word.result
    (λ more tokens.
    pushed (word_view tokens) old c.push_word.new.words.items d.name (words_view tokens old) (word_view tokens d.name)
    more refl refl
    ∙ ap (λ e. words_view tokens old ++ defined_word e)
    (sym (ap (definition_view tokens) d.is ∙ define_definition tokens d.name d.field-1 d.field-2)))
    c.push_word.ensures

pub returns-in-Annotate : goal.returns-in-Annotate
returns-in-Annotate c = λ tokens.
    let ws = words_view tokens c.args.words.now.items in
    let d = c.in-Annotate in
    let same : ws ≡ ws ++ [] = search rules in
    same ∙ ap (λ e. ws ++ defined_word e)
    (sym (ap (definition_view tokens) d.is ∙ annotate_definition tokens d.field-0 d.field-1))

pub returns-in-Destructure : goal.returns-in-Destructure
returns-in-Destructure c = λ tokens.
    let ws = words_view tokens c.args.words.now.items in
    let d = c.in-Destructure in
    let same : ws ≡ ws ++ [] = search rules in
    same ∙ ap (λ e. ws ++ defined_word e)
    (sym (ap (definition_view tokens) d.is ∙ destructure_definition tokens d.field-0 d.field-1))
