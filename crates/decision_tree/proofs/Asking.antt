-- The parts of a constructor's pattern, as a list.
use Rattle.std.proofs.Common.{◌≡◌, List, [], ◌∷◌, length, map, refl, ap, ◌∙◌}
use Rattle.std.proofs.lemmas.List.{length-map}
use Rattle.elm_canon.specs.Unions.{TupleUnion, tuple_alternative}
use Rattle.elm_canon.specs.View.{pattern_view, tuple_pattern}
use Rattle.elm_canon.specs.declared.tree.Pattern as declared
use Rattle.elm_canon.specs.Tree.{Pattern, patterns_of}
use Rattle.js_emit.specs.Matrix.{list_of, Tagged, First, ask}

pub listed : (ps : List Pattern) → list_of (patterns_of ps) ≡ ps
listed [] = refl
listed (p ∷ ps) = ap (λ qs. p ∷ qs) (listed ps)

pub tuple_asks : (ps : List declared.Pattern) → ask (tuple_pattern (map pattern_view ps))
    ≡ First (Tagged (TupleUnion (length ps)) (tuple_alternative (length ps))) (map pattern_view ps)
tuple_asks ps =
    ap (λ n. First (Tagged (TupleUnion n) (tuple_alternative n)) (list_of (patterns_of (map pattern_view ps))))
    (length-map ps pattern_view)
    ∙ ap (First (Tagged (TupleUnion (length ps)) (tuple_alternative (length ps)))) (listed (map pattern_view ps))
