use Rattle.std.proofs.Common.{◌≡◌, List, map, take}
use Rattle.elm_lexer.specs.Tokens.{Token}
use Rattle.elm_tree.specs.View.{declaration_view}
use Rattle.canon_module.specs.Names.{join, names_in}
use Rattle.canon_module.specs.View.{names_view}
use Rattle.canon_module.proofs.names.Names.fill.Given as goal

abbrev pub invariant-loop-number : goal.invariant-loop-number
invariant-loop-number l =
    (tokens : List Token) →
    names_view tokens l.self
    ≡ join (names_view tokens l.initial.self)
    (names_in (map (declaration_view tokens) (take l.number l.declarations)))
