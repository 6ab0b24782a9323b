-- Names that were seen before a word.
use Rattle.std.specs.Prelude.{◌≡◌, List, [], ◌∷◌, if◌then◌else◌}
use Rattle.indexmap.specs.IndexSet.{IndexSet, contains}
use Rattle.elm_canon.specs.Names.{Name, same_name}
use Rattle.elm_tree.specs.Tree.{Word}
use Rattle.canon_env.specs.Imports.{name_of}
use Rattle.canon_env.specs.Exposing.{is_among}

-- the set has these names
abbrev pub IsSeen : {S : Type 0} → IndexSet Name S → List Name → Type 0
IsSeen seen before = (x : Name) → contains same_name seen x ≡ is_among x before

-- the word, if its name stands before it
abbrev pub repeat_of : List Name → Word → List Word
repeat_of before w = if is_among (name_of w) before then w ∷ [] else []

-- the names that stand before what comes after these words, the nearest first
abbrev pub seen_after : List Name → List Word → List Name
seen_after before [] = before
seen_after before (w ∷ ws) = seen_after (name_of w ∷ before) ws
