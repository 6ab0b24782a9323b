use Rattle.std.proofs.Common.{◌≡◌, map, take}
use Rattle.elm_tree.specs.View.{declaration_view}
use Rattle.elm_tree.specs.Turns.{tokens_view}
use Rattle.canon_env.specs.Shown.{unions_view}
use Rattle.canon_type.specs.Unions.{unions_in, bare_union}
use Rattle.canon_type.proofs.unions.bare_unions.Given as goal

abbrev pub invariant-loop-declaration : goal.invariant-loop-declaration
invariant-loop-declaration l =
    unions_view l.unions.items
    ≡ map (bare_union l.home)
    (unions_in (map (declaration_view (tokens_view l.tokens)) (take l.declaration-index l.declarations)))
