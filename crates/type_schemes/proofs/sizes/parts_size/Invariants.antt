use Rattle.std.proofs.Common.{◌≡◌, take, map, min}
use Rattle.elm_type.specs.Types.{size_all, types_of}
use Rattle.type_schemes.specs.Bases.{most, older_of, type_in}
use Rattle.type_schemes.proofs.sizes.parts_size.Given as goal

abbrev pub invariant-loop-variable : goal.invariant-loop-variable
invariant-loop-variable l = l.sum ≡ min (size_all (types_of (map (type_in l.store (older_of l.known)) (take l.variable-index l.variables)))) most
