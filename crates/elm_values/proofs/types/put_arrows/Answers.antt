-- One level of the view.
use Rattle.std.proofs.Common.{map, ap, ap₂, ◌∙◌}
use Rattle.std.proofs.lemmas.Result.{on_ok_weaker}
use Rattle.elm_tree.specs.Tree.{FunctionType, types_of}
use Rattle.elm_tree.specs.View.{type_view}
use Rattle.elm_grammar.specs.declared.action.Item.TheVariants as item
use Rattle.elm_grammar.specs.Values.{One}
use Rattle.elm_values.specs.Stack.{push}
use Rattle.elm_tree.proofs.Views.{function_type}
use Rattle.elm_values.proofs.types.put_arrows.Goals as goal

pub returns : goal.returns
returns c =
    on_ok_weaker c.put_type.result
    (λ h tokens.
    h tokens ∙
    ap₂ (push (One item.TypeTree))
    (function_type tokens c.turned-types.result ∙
    ap (λ z. FunctionType (types_of z))
    (ap (map (type_view tokens)) c.turned-types.ensures ∙ c.take_types.ensures.value tokens))
    (c.take_types.ensures.rest tokens))
    c.put_type.ensures
