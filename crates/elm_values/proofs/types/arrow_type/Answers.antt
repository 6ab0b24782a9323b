-- Without others it stays (`held_none`). Otherwise it goes in front of them, and the list becomes the type.
use Rattle.std.proofs.Common.{sym, ap, ◌∙◌}
use Rattle.std.proofs.lemmas.Result.{on_ok_weaker}
use Rattle.elm_tree.specs.Tree.{FunctionType, types_of}
use Rattle.elm_tree.specs.View.{type_view}
use Rattle.elm_grammar.specs.declared.action.Action.TheVariants.{More}
use Rattle.elm_grammar.specs.declared.action.Item.TheVariants as item
use Rattle.elm_grammar.specs.Values.{Many, One, act, arrows_of, gives, takes}
use Rattle.elm_values.specs.Stack.{apply, columns, held, pop, push, top}
use Rattle.elm_values.proofs.Making.{arrows_some, held_none, held_some}
use Rattle.elm_values.proofs.types.arrow_type.Goals as goal

pub returns-then-is_empty : goal.returns-then-is_empty
unfolding takes gives act push pop top
returns-then-is_empty c =
    on_ok_weaker c.same_type.result
    (λ h tokens.
    let t = top tokens (One item.TypeTree) (columns tokens c.args.stacks.now) in
    let none = held_none (type_view tokens) c.take_types-others.result.items c.take_types-others.result.ok.0 c.if-is_empty.ensures in
    h tokens ∙
    (ap (λ z. push (One item.TypeTree) (top tokens (One item.TypeTree) z) (pop (One item.TypeTree) z))
    (c.take_types-others.ensures.rest tokens) ∙
    ap (λ z. push (One item.TypeTree) (arrows_of t z)
    (pop (One item.TypeTree) (pop (Many item.TypeTree) (columns tokens c.args.stacks.now))))
    (sym none ∙ c.take_types-others.ensures.value tokens)))
    c.same_type.ensures

pub returns : goal.returns
unfolding takes gives act push pop top
returns c =
    on_ok_weaker c.put_arrows.result
    (λ h tokens.
    let s = columns tokens c.args.stacks.now in
    let t = top tokens (One item.TypeTree) s in
    let ts = held (type_view tokens) c.take_types-others.result.items in
    h tokens ∙
    (ap (λ z. push (One item.TypeTree) (FunctionType (types_of (top tokens (Many item.TypeTree) z)))
    (pop (Many item.TypeTree) z))
    (c.in_ok-more_types.ensures tokens ∙
    ap (apply tokens (More item.TypeTree))
    (c.in_ok-put_types.ensures tokens ∙
    ap (push (Many item.TypeTree) ts) (c.take_types-others.ensures.rest tokens))) ∙
    ap (λ z. push (One item.TypeTree) z (pop (One item.TypeTree) (pop (Many item.TypeTree) s)))
    (arrows_some t ts
    (held_some (type_view tokens) c.take_types-others.result.items c.take_types-others.result.ok.0 c.if-is_empty.ensures) ∙
    ap (arrows_of t) (c.take_types-others.ensures.value tokens))))
    c.put_arrows.ensures
