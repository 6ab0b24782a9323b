-- What is taken off the stacks in turn (`took`) gives way to what is made of it (`acted`).
use Rattle.std.proofs.Common.{map, ap, List}
use Rattle.std.proofs.lemmas.Result.{on_ok_weaker}
use Rattle.elm_tree.specs.Tree.{types_of}
use Rattle.elm_tree.specs.View.{type_view, word_view}
use Rattle.elm_tree.specs.declared.tree.TypeTree.{TypeTree}
use Rattle.elm_grammar.specs.declared.action.Action.TheVariants.{ConstructorOf}
use Rattle.elm_grammar.specs.declared.action.Item.TheVariants as item
use Rattle.elm_grammar.specs.Values.{One, Many, takes, gives, act}
use Rattle.elm_values.proofs.Acting.{acted, done, took}
use Rattle.elm_values.proofs.modules.constructor_of.Goals as goal

pub returns : goal.returns
unfolding takes gives act
returns c =
    on_ok_weaker c.put_constructor.result
    (λ e tokens.
    acted ConstructorOf
    (took (One item.Word) (c.take_word-name.ensures.value tokens) (c.take_word-name.ensures.rest tokens)
    (took (Many item.TypeTree) (c.take_types.ensures.value tokens) (c.take_types.ensures.rest tokens)
    (done tokens _)))
    (ap (λ (z : List TypeTree). record {
      name = word_view tokens c.take_word-name.result;
      fields = types_of (map (type_view tokens) z);
    }) c.turned-arguments.ensures) (e tokens)) c.put_constructor.ensures
