-- The fields that record patterns and record updates of a module name that a text means.
use Rattle.std.specs.Prelude.{ℕ, List}
use Rattle.std.specs.List.{AllByRecursion}
use Rattle.elm_tree.specs.Tree as tree
use Rattle.elm_canon.specs.Tree.{Module, Declaration}
use Rattle.module_made.specs.Around.{Around}
use Rattle.module_made.specs.Made.{Means}
use Rattle.program_safety.specs.Parts.{AreSome}
use Rattle.told_modules.specs.Resolved.{DeclarationHasFields}

abbrev pub MadeHaveFields : Type 0
MadeHaveFields =
    (a : Around) (text : List ℕ) (t : tree.Module) (m : Module) (ds : List Declaration) → Means a text t m
    → AreSome ds m.declarations → AllByRecursion DeclarationHasFields ds
