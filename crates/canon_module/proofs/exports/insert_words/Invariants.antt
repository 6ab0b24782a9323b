use Rattle.std.proofs.Common.{◌≡◌, ◌||◌, map, take}
use Rattle.indexmap.specs.IndexSet.{contains}
use Rattle.elm_tree.specs.View.{words_view}
use Rattle.elm_tree.specs.Turns.{tokens_view}
use Rattle.elm_canon.specs.Names.{Name, same_name}
use Rattle.canon_env.specs.Imports.{name_of}
use Rattle.canon_env.specs.Exposing.{is_among}
use Rattle.canon_module.proofs.exports.insert_words.Given as goal

abbrev pub invariant-loop-word : goal.invariant-loop-word
invariant-loop-word l =
    (x : Name) → contains same_name l.names x
    ≡ (contains same_name l.initial.names x
    || is_among x (map name_of (words_view (tokens_view l.tokens) (take l.word-index l.words))))
