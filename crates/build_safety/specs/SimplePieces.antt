-- Some of the declarations of a module of a build, and their expressions.
use Rattle.std.specs.Prelude.{List, ◌∷◌, ◌++◌}
use Rattle.std.specs.List.{AllByRecursion}
use Rattle.elm_canon.specs.Tree.{Declaration}
use Rattle.elm_canon.specs.Proper.{Scope}
use Rattle.elm_canon.specs.Declarations.{ProperDeclarations}
use Rattle.elm_canon.specs.Mentions.{DeclarationsMention}
use Rattle.typed_values.specs.World.{World}
use Rattle.typed_values.specs.Simple.{SimpleGroups}
use Rattle.type_safety.specs.Modules.{groups_in}
use Rattle.program_safety.specs.Parts.{AreSome}
use Rattle.told_modules.specs.Resolved.{DeclarationHasFields}
use Rattle.build_safety.specs.Compiled.{Compiled, home_of, AreModules}
use Rattle.program_safety.specs.Ports.{KeepsPorts, IsOfWorld}

pub record IsPiece (w : World) (c : Compiled) (ds : List Declaration) : Type 0 where
  pub some : AreSome ds c.resolved.whole.declarations
  pub scope : Scope
  pub proper : ProperDeclarations scope ds
  pub mentions : DeclarationsMention (IsOfWorld w) (IsOfWorld w) (home_of c) c.resolved.whole.declarations
  pub keeps : AllByRecursion KeepsPorts ds
  pub fields : AllByRecursion DeclarationHasFields ds

abbrev pub PiecesAreSimple : Type 0
PiecesAreSimple =
    (w : World) (before : List Compiled) (c : Compiled) (after : List Compiled) (ds : List Declaration)
    → AreModules (before ++ c ∷ after) → IsPiece w c ds → SimpleGroups w (groups_in ds)
