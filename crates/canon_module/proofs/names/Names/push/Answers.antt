-- By the form of the declaration.
use Rattle.std.proofs.Common.{map, sym, ap, ◌∙◌}
use Rattle.std.proofs.lemmas.Result.{on_ok_weaker}
use Rattle.elm_tree.specs.Tree as tree
use Rattle.elm_tree.specs.View.{word_view, words_view, type_view, constructor_view, declaration_view}
use Rattle.canon_module.specs.Names.{join, names_of}
use Rattle.canon_module.specs.View.{names_view}
use Rattle.canon_module.proofs.names.Names.push.Goals as goal

pub returns-in-Value : goal.returns-in-Value
returns-in-Value c =
    on_ok_weaker c.push_value.result
    (λ more tokens.
    more tokens
    ∙ ap (λ d. join (names_view tokens c.args.self.now) (names_of (declaration_view tokens d)))
    (sym c.in-Value.is ∙ c.get.ensures))
    c.push_value.ensures

pub returns-in-Port : goal.returns-in-Port
returns-in-Port c =
    on_ok_weaker c.push_port.result
    (λ more tokens.
    more tokens (type_view tokens c.in-Port.field-1)
    ∙ ap (λ d. join (names_view tokens c.args.self.now) (names_of (declaration_view tokens d))) (sym c.in-Port.is ∙ c.get.ensures))
    c.push_port.ensures

pub returns-in-Union : goal.returns-in-Union
returns-in-Union c =
    on_ok_weaker c.push_union.result
    (λ more tokens.
    let old = names_view tokens c.args.self.now in
    let x = word_view tokens c.in-Union.name in
    let ps = words_view tokens c.in-Union.field-1.items in
    more tokens ps
    ∙ ap (λ cs. join old (names_of (tree.Union x ps (map (constructor_view tokens) cs)))) c.deref.ensures.value
    ∙ ap (λ d. join old (names_of (declaration_view tokens d))) (sym c.in-Union.is ∙ c.get.ensures))
    c.push_union.ensures

pub returns-in-Alias : goal.returns-in-Alias
returns-in-Alias c =
    on_ok_weaker c.push_alias.result
    (λ more tokens.
    more tokens (words_view tokens c.in-Alias.field-1.items)
    ∙ ap (λ d. join (names_view tokens c.args.self.now) (names_of (declaration_view tokens d))) (sym c.in-Alias.is ∙ c.get.ensures))
    c.push_alias.ensures
