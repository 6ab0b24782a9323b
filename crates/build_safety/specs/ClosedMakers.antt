-- The constructors of a union whose fields have no other variables than its parameters.
use Rattle.std.specs.Prelude.{map}
use Rattle.std.specs.List.{AllByRecursion, zip}
use Rattle.elm_canon.specs.Names.{Name}
use Rattle.elm_canon.specs.Unions.{alternatives}
use Rattle.elm_canon.specs.Tree.{UnionDeclaration}
use Rattle.elm_type.specs.Types.{variables}
use Rattle.typed_values.specs.World.{Constructor, Among, IsOneOf}
use Rattle.told_modules.specs.Schemes.{constructor_of}
use Rattle.told_modules.specs.Closed.{UnionIsClosed}

-- the variables of the types of its fields are arguments of its union
abbrev pub MakerIsClosed : Constructor → Type 0
MakerIsClosed k = AllByRecursion (λ t. AllByRecursion (IsOneOf k.arguments) (variables t)) k.fields

abbrev pub MakersAreClosed : Type 0
MakersAreClosed =
    (m : Name) (u : UnionDeclaration) → UnionIsClosed u → (k : Constructor)
    → Among k (map (constructor_of m u) (zip (alternatives u.union) u.fields)) → MakerIsClosed k
