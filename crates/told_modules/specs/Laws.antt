-- The record patterns of a resolved module name fields. So do its record updates, where those that are written do.
use Rattle.std.specs.List.{AllByRecursion}
use Rattle.elm_tree.specs.Tree as tree
use Rattle.elm_canon.specs.Tree as canon
use Rattle.canon_module.specs.Resolve.{Setting, IsModule}
use Rattle.told_modules.specs.Resolved.{DeclarationHasFields}
use Rattle.elm_tree.specs.Written.{DeclarationsUpdateSome}

abbrev pub ModulesHaveFields : Type 0
ModulesHaveFields =
    (s : Setting) (t : tree.Module) (m : canon.Module) → IsModule s t.declarations m
    → DeclarationsUpdateSome t.declarations → AllByRecursion DeclarationHasFields m.declarations
