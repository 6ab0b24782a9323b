use Rattle.std.proofs.Common.{◌≡◌, List, map, take}
use Rattle.elm_tree.specs.Turns.{tokens_view}
use Rattle.elm_canon.specs.Names.{Name}
use Rattle.decl_groups.specs.Groups.{plain}
use Rattle.canon_type.specs.Recursion.{uses_of}
use Rattle.canon_type.specs.Kept.{Keeps, aliases_view}
use Rattle.canon_type.proofs.uses.uses_of.Given as goal

abbrev pub invariant-loop-alias : goal.invariant-loop-alias
invariant-loop-alias l =
    (unions aliases : List Name) → Keeps l.names unions aliases → plain l.uses.items
    ≡ map (uses_of unions aliases) (aliases_view (tokens_view l.tokens) (take l.alias-index l.aliases))
