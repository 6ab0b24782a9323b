use Rattle.std.proofs.Common.{List, [], take}
use Rattle.elm_tree.specs.Turns.{tokens_view}
use Rattle.elm_canon.specs.Names.{Name}
use Rattle.canon_type.specs.Written.{alias_names}
use Rattle.canon_type.specs.Kept.{Keeps, aliases_view}
use Rattle.canon_type.proofs.uses.OwnNames.add_aliases.Given as goal

abbrev pub invariant-loop-place : goal.invariant-loop-place
invariant-loop-place l =
    (unions : List Name) → Keeps l.initial.self unions [] →
    Keeps l.self unions (alias_names (aliases_view (tokens_view l.tokens) (take l.place l.aliases)))
