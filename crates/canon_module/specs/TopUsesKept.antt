-- What the program keeps of the numbers of declarations.
use Rattle.std.specs.Prelude.{◌≡◌, List, [], ◌∷◌, Option, Some, None}
use Rattle.indexmap.specs.IndexMap.{get}
use Rattle.elm_lexer.specs.Tokens.{Token}
use Rattle.elm_tree.specs.Tree as tree
use Rattle.elm_tree.specs.View.{word_view}
use Rattle.elm_tree.specs.declared.tree.Word.{Word}
use Rattle.elm_canon.specs.Names.{Name, same_name}
use Rattle.canon_module.specs.TopUses.{number_of}
use Rattle.canon_module.specs.declared.numbers.Numbers.{Numbers}

-- what the map says
abbrev pub Numbered : Numbers → List (List Name) → Type 0
Numbered numbers each = (x : Name) → get same_name numbers.by_name x ≡ number_of each x

abbrev pub one_word : List Token → Option Word → List tree.Word
one_word tokens None = []
one_word tokens (Some x) = word_view tokens x ∷ []
