use Rattle.std.proofs.Common.{◌≡◌, ◌++◌, map}
use Rattle.elm_canon.specs.View.{function_view}
use Rattle.canon_expr.specs.Kept.{made_view, functions_among}
use Rattle.canon_expr.proofs.groups.functions_in.Given as goal

-- the functions so far, and those of the rest
abbrev pub invariant-loop-one : goal.invariant-loop-one
invariant-loop-one l =
    map function_view l.functions.items ++ functions_among (map made_view l.one-iterator.rest.items)
    ≡ functions_among (map made_view l.initial.one-iterator.rest.items)
