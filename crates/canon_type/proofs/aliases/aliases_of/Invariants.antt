use Rattle.std.proofs.Common.{◌≡◌, List, map, take}
use Rattle.elm_lexer.specs.Tokens.{Token}
use Rattle.elm_tree.specs.View.{declaration_view}
use Rattle.canon_type.specs.Written.{aliases_in}
use Rattle.canon_type.specs.Kept.{aliases_view}
use Rattle.canon_type.proofs.aliases.aliases_of.Given as goal

abbrev pub invariant-loop-declaration : goal.invariant-loop-declaration
invariant-loop-declaration l =
    (tokens : List Token) → aliases_view tokens l.aliases.items
    ≡ aliases_in (map (declaration_view tokens) (take l.declaration-index l.declarations))
