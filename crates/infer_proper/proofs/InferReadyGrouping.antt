-- The groups of declarations are as inference asks where each declaration is.
use Rattle.std.proofs.Common.{List, [], ◌∷◌}
use Rattle.std.specs.Prelude.{flat_map}
use Rattle.std.specs.List.{AllByRecursion}
use Rattle.elm_canon.specs.Tree.{Declaration, Given, Define, groups_of}
use Rattle.infer_parts.specs.Formed.{FormedGroups}
use Rattle.infer_proper.specs.Formed.{FormedDeclaration}
use Rattle.infer.specs.Modules.{groups_in}

pub all_formed : (ds : List Declaration) → AllByRecursion FormedDeclaration ds
    → FormedGroups (groups_of (flat_map groups_in ds))
all_formed [] h = tt
all_formed (Given r k ∷ ds) h = all_formed ds h.1
all_formed (Define g ∷ ds) h = (h.0, all_formed ds h.1)
