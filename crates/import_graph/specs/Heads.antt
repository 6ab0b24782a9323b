-- The imports in the head of a module's text. (Elm guide, modules.)
use Rattle.std.specs.Prelude.{ℕ, ◌<◌, ◌≤◌, List, [], length, map, ⊤}
use Rattle.elm_lexer.specs.Tokens.{Token, Tokens}
use Rattle.elm_lexer.specs.declared.error.TextError.{TextError}
use Rattle.elm_lexer.specs.declared.error.TextError.TheVariants.{NoMemory, Fault}
use Rattle.elm_tree.specs.Tree.{Head}
use Rattle.elm_tree.specs.Tree as tree
use Rattle.import_graph.specs.Modules.{Word}
use Rattle.parse_machine.specs.declared.table.Token as machine
use Rattle.elm_parser.specs.Reading.{ReadsHead}

-- a word of the text
abbrev pub word_of : tree.Word → Word
word_of w = record { place = w.place; text = w.text }

-- the names that a head imports, in written order
abbrev pub words_of : Head → List Word
words_of h = map (λ i. word_of i.name) h.imports

-- the names of the imports in the head that the tokens begin with, in written order; tokens that begin with no head
-- have none
pub data HeadImports (tokens : List Token) : List Word → Type 0 where
  written : {h : Head} {rest : List machine.Token} → ReadsHead tokens h rest → HeadImports tokens (words_of h)
  no_head : ((h : Head) (rest : List machine.Token) → ReadsHead tokens h rest → ⊥) → HeadImports tokens []

-- the names of the imports in the head of a text; a text of more than 4194304 bytes and one that has no tokens have
-- none
pub data HasImports (text : List ℕ) : List Word → Type 0 where
  too_long : 4194304 < length text → HasImports text []
  of_tokens : {tokens : List Token} {names : List Word} → length text ≤ 4194304 → Tokens text tokens → HeadImports tokens names → HasImports text names
  no_tokens : length text ≤ 4194304 → ((tokens : List Token) → Tokens text tokens → ⊥) → HasImports text []

-- the error is a fault, and not out of memory
abbrev pub IsFault : TextError → Type 0
IsFault NoMemory = ⊥
IsFault (Fault f) = ⊤
