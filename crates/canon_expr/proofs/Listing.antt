-- What holds of lists of definitions.
use Rattle.std.proofs.Common.{◌≡◌, List, [], ◌∷◌, ◌++◌, map, refl, ap}
use Rattle.std.specs.List.{flat_map}
use Rattle.elm_tree.specs.Tree.{Definition, definitions_of}
use Rattle.canon_expr.specs.Binding.{bound_by, bound_by_each, bound_in, defined_by, defined_in}

pub each_bound : (ds : List Definition) → bound_by_each (definitions_of ds) ≡ map bound_by ds
each_bound [] = refl
each_bound (d ∷ ds) = ap (λ xs. bound_by d ∷ xs) (each_bound ds)

pub all_bound : (ds : List Definition) → bound_in (definitions_of ds) ≡ flat_map bound_by ds
all_bound [] = refl
all_bound (d ∷ ds) = ap (λ xs. bound_by d ++ xs) (all_bound ds)

pub each_defined : (ds : List Definition) → defined_in (definitions_of ds) ≡ map defined_by ds
each_defined [] = refl
each_defined (d ∷ ds) = ap (λ xs. defined_by d ∷ xs) (each_defined ds)
