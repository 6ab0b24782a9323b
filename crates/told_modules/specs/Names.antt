-- What names give of some of a module's declarations.
use Rattle.std.specs.Prelude.{◌≡◌, List, true}
use Rattle.std.specs.List.{AllByRecursion}
use Rattle.elm_canon.specs.Names.{Name}
use Rattle.elm_canon.specs.declared.reference.Ref.{Ref}
use Rattle.elm_canon.specs.Tree.{Declaration}
use Rattle.elm_canon.specs.Proper.{Scope}
use Rattle.elm_canon.specs.Declarations.{ProperDeclarations}
use Rattle.elm_canon.specs.Mentions.{anything, DeclarationsMention}
use Rattle.type_items.specs.Expressions.{definitions}
use Rattle.typed_values.specs.Simple.{Without, defines, AreApart, UseEarlier}
use Rattle.type_safety.specs.Modules.{groups_in, given_in, AreTitled, UseGivenBefore}
use Rattle.program_safety.specs.Parts.{IsOf, AreSome}

-- declarations of a module, proper in order, whose names are of the module and whose `let`s bind local names
pub record AreNamed (home : Name) (ds : List Declaration) : Type 0 where
  pub scope : Scope
  pub proper : ProperDeclarations scope ds
  pub mentions : DeclarationsMention anything anything home ds

-- What the law of programs asks of their names, and of those of some of them.
pub record HaveNames (home : Name) (ds all : List Declaration) : Type 0 where
  pub titled : AreTitled (groups_in all)
  pub apart : AreApart (definitions (groups_in all))
  pub own : (y : Ref) → defines (definitions (groups_in all)) y ≡ true → IsOf home y
  pub others : Without (defines (definitions (groups_in all))) (given_in ds)
  pub given_own : AllByRecursion (IsOf home) (given_in ds)
  pub use_before : UseGivenBefore ds
  pub earlier : UseEarlier (groups_in ds)

abbrev pub NamedHaveNames : Type 0
NamedHaveNames =
    (home : Name) (ds all : List Declaration) → AreNamed home all → AreSome ds all → HaveNames home ds all
