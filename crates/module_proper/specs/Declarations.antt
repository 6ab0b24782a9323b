-- Declarations of a module in which each `let` has names of its own: those that its definitions bind inside are none of
-- them.
use Rattle.std.specs.Prelude.{List}
use Rattle.std.specs.List.{AllByRecursion}
use Rattle.elm_canon.specs.Tree.{Declaration, Given, Define}
use Rattle.elm_canon.specs.Apart.{GroupApart}

abbrev pub DeclarationApart : Declaration → Type 0
DeclarationApart (Given r k) = Unit {0}
DeclarationApart (Define g) = GroupApart g

abbrev pub DeclarationsApart : List Declaration → Type 0
DeclarationsApart ds = AllByRecursion DeclarationApart ds
