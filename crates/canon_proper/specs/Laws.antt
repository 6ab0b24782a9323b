-- The record updates of a read text name fields.
use Rattle.std.specs.Prelude.{List}
use Rattle.elm_lexer.specs.Tokens.{Token}
use Rattle.elm_tree.specs.Tree as tree
use Rattle.elm_tree.specs.Written.{DeclarationsUpdateSome}
use Rattle.canon_proper.specs.Spelled.{SpellModule}

abbrev pub TextsUpdateSome : Type 0
TextsUpdateSome =
    (tokens : List Token) (m : tree.Module) → SpellModule tokens m → DeclarationsUpdateSome m.declarations
