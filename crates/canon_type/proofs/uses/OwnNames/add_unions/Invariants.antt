use Rattle.std.proofs.Common.{[], map, take}
use Rattle.elm_tree.specs.View.{declaration_view}
use Rattle.elm_tree.specs.Turns.{tokens_view}
use Rattle.canon_type.specs.Written.{union_names_in}
use Rattle.canon_type.specs.Kept.{Keeps}
use Rattle.canon_type.proofs.uses.OwnNames.add_unions.Given as goal

abbrev pub invariant-loop-declaration : goal.invariant-loop-declaration
invariant-loop-declaration l =
    Keeps l.initial.self [] [] →
    Keeps l.self (union_names_in (map (declaration_view (tokens_view l.tokens)) (take l.declaration-index l.declarations))) []
