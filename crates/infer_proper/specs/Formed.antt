-- Declarations whose groups are as inference asks.
use Rattle.elm_canon.specs.Tree.{Declaration, Given, Define}
use Rattle.infer_parts.specs.Formed.{FormedGroup}

abbrev pub FormedDeclaration : Declaration → Type 0
FormedDeclaration (Given r k) = Unit {0}
FormedDeclaration (Define g) = FormedGroup g
