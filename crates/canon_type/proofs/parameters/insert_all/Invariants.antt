use Rattle.std.proofs.Common.{◌≡◌, false, map, take}
use Rattle.indexmap.specs.IndexSet.{contains}
use Rattle.elm_tree.specs.View.{words_view}
use Rattle.elm_tree.specs.Turns.{tokens_view}
use Rattle.elm_canon.specs.Names.{Name, same_name}
use Rattle.canon_env.specs.Exposing.{is_among}
use Rattle.canon_env.specs.Imports.{name_of}
use Rattle.canon_type.proofs.parameters.insert_all.Given as goal

abbrev pub invariant-loop-word : goal.invariant-loop-word
invariant-loop-word l =
    ((x : Name) → contains same_name l.initial.names x ≡ false) → (x : Name) → contains same_name l.names x
    ≡ is_among x (map name_of (words_view (tokens_view l.tokens) (take l.word-index l.words)))
