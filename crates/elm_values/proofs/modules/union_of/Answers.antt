-- What is taken off the stacks in turn (`took`) gives way to what is made of it (`acted`).
use Rattle.std.proofs.Common.{map, reverse, refl, ap, ap₂, ◌∙◌}
use Rattle.std.proofs.lemmas.Result.{on_ok_weaker}
use Rattle.elm_tree.specs.Tree.{Union}
use Rattle.elm_tree.specs.View.{constructor_view, declaration_view, word_view, words_view}
use Rattle.elm_tree.specs.declared.tree.Declaration.TheVariants as declaration
use Rattle.elm_grammar.specs.declared.action.Action.TheVariants.{UnionOf}
use Rattle.elm_grammar.specs.declared.action.Item.TheVariants as item
use Rattle.elm_grammar.specs.Values.{Many, One, act, gives, takes}
use Rattle.elm_values.specs.Stack.{columns, pop, push, top}
use Rattle.elm_values.proofs.Acting.{acted, done, took, words_seen}
use Rattle.elm_values.proofs.modules.union_of.Goals as goal

pub returns : goal.returns
unfolding takes gives act push pop top
returns c =
    on_ok_weaker c.put_declaration.result
    (λ e tokens.
    acted UnionOf
    (took {s = columns tokens c.args.stacks.now} (One item.Word) (c.take_word-name.ensures.value tokens) (c.take_word-name.ensures.rest tokens)
    (took (Many item.Word) (c.take_words.ensures.value tokens) (c.take_words.ensures.rest tokens)
    (took (One item.Word) refl (c.skip_word.ensures tokens)
    (took (One item.Constructor) refl refl
    (took (Many item.Constructor) refl refl
    (done tokens _))))))
    (ap₂ (λ y z. Union (word_view tokens c.take_word-name.result) y z)
    (ap (words_view tokens) c.turned-parameters.ensures ∙ words_seen tokens (reverse c.take_words.result.items))
    (ap (map (constructor_view tokens)) c.turned-constructors.ensures ∙
    (c.take_constructors.ensures.value tokens ∙
    ap (top tokens (Many item.Constructor)) (c.in_ok-more_constructors.ensures tokens)))) (e tokens ∙
    ap (push (One item.Declaration) (declaration_view tokens (declaration.Union c.take_word-name.result c.turned-parameters.result c.turned-constructors.result)))
    (c.take_constructors.ensures.rest tokens ∙
    ap (pop (Many item.Constructor)) (c.in_ok-more_constructors.ensures tokens))))
    c.put_declaration.ensures
