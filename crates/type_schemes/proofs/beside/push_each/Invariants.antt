use Rattle.std.proofs.Common.{◌≡◌, ◌++◌, map, take}
use Rattle.elm_canon.specs.View.{NamedType, field_type_view}
use Rattle.type_schemes.specs.Kinds.{pair_view}
use Rattle.type_schemes.proofs.beside.push_each.Given as goal

abbrev pub invariant-loop-field : goal.invariant-loop-field
invariant-loop-field l =
    map pair_view l.pairs.items
    ≡ map pair_view l.fn.pairs.items
    ++ map (λ (f : NamedType). (l.variable, f.0)) (map field_type_view (take l.field-index l.fields))
