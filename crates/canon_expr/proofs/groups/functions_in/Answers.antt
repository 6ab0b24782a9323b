-- All functions: `among_is`.
use Rattle.std.proofs.Common.{◌++◌, map, sym, ap, ◌∙◌, arith}
use Rattle.std.proofs.lemmas.List.{append-nil, nil_from_length}
use Rattle.elm_canon.specs.Tree.{functions_of}
use Rattle.elm_canon.specs.View.{function_view}
use Rattle.canon_expr.specs.Blocks.{functions_in}
use Rattle.canon_expr.specs.Kept.{made_view, functions_among}
use Rattle.canon_expr.proofs.Taking.{among_is}
use Rattle.canon_expr.proofs.groups.functions_in.Goals as goal

pub returns : goal.returns
returns c =
    let left = c.loop-one.one-iterator.rest in
    let none = nil_from_length left.items (omega (arith, left.ok, c.in-None.ensures.steps.0)) in
    ap functions_of
    (sym (append-nil (map function_view c.loop-one.functions.items))
    ∙ ap (λ ms. map function_view c.loop-one.functions.items ++ functions_among (map made_view ms)) (sym none)
    ∙ c.loop-one.invariant)
    ∙ among_is (map made_view c.into_iter-one-iterator.result.rest.items)
    ∙ ap (λ ms. functions_in (map made_view ms)) c.into_iter-one-iterator.ensures.into_iter_gives.0
