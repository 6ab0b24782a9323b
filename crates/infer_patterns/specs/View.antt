-- Names that patterns bind, with their variables.
use Rattle.std.specs.Prelude.{List, map, reverse}
use Rattle.infer_steps.specs.Codes as codes
use Rattle.infer_patterns.specs.declared.bound.Bound.{Bound}

abbrev pub bound_view : Bound → codes.Bound
bound_view b = (b.name, b.variable)

-- names that were bound in turn, in the order of the scope: the last one is the first
abbrev pub in_scope : List Bound → List codes.Bound
in_scope bound = map bound_view (reverse bound)
