-- What is taken off the stacks in turn (`took`) gives way to what is made of it (`acted`).
use Rattle.std.proofs.Common.{map, ap, ◌∙◌}
use Rattle.std.proofs.lemmas.Result.{on_ok_weaker}
use Rattle.elm_tree.specs.Tree.{types_of, TypeName}
use Rattle.elm_tree.specs.View.{type_view, long_view}
use Rattle.elm_grammar.specs.declared.action.Action.TheVariants.{NamedType}
use Rattle.elm_grammar.specs.declared.action.Item.TheVariants as item
use Rattle.elm_grammar.specs.Values.{One, Many, takes, gives, act}
use Rattle.elm_tree.proofs.Views.{named_type}
use Rattle.elm_values.proofs.Acting.{acted, done, took}
use Rattle.elm_values.proofs.types.named_type.Goals as goal

pub returns : goal.returns
unfolding takes gives act
returns c =
    on_ok_weaker c.put_type.result
    (λ e tokens.
    acted NamedType
    (took (One item.Word) (c.take_word-name.ensures.value tokens) (c.take_word-name.ensures.rest tokens)
    (took (Many item.TypeTree) (c.take_types.ensures.value tokens) (c.take_types.ensures.rest tokens)
    (done tokens _)))
    (named_type tokens c.take_word-name.result c.turned-arguments.result ∙
    ap (λ z. TypeName (long_view tokens c.take_word-name.result) (types_of (map (type_view tokens) z)))
    c.turned-arguments.ensures) (e tokens)) c.put_type.ensures
