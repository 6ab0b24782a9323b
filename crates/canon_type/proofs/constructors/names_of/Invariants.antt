use Rattle.std.proofs.Common.{◌≡◌, map, take}
use Rattle.elm_tree.specs.View.{words_view}
use Rattle.elm_tree.specs.Turns.{tokens_view}
use Rattle.canon_env.specs.Imports.{name_of}
use Rattle.canon_type.proofs.constructors.names_of.Given as goal

abbrev pub invariant-loop-word : goal.invariant-loop-word
invariant-loop-word l =
    l.names.items ≡ map name_of (words_view (tokens_view l.tokens) (take l.word-index l.words))
