-- The turns of a chain, as the program has them.
use Rattle.std.specs.Prelude.{◌≡◌, List, ◌∷◌, map, reverse, ⊤}
use Rattle.elm_lexer.specs.declared.token.Token as lexed
use Rattle.elm_lexer.specs.Tokens.{Token}
use Rattle.elm_lexer.specs.View as lexer
use Rattle.elm_tree.specs.declared.tree.Word as declared
use Rattle.elm_tree.specs.declared.turns.Turn as program
use Rattle.elm_tree.specs.declared.turns.Ungrouped as fault
use Rattle.elm_tree.specs.Tree.{Word}
use Rattle.elm_tree.specs.View.{word_view}
use Rattle.elm_tree.specs.Regroup.{Turn, Operand, Join, clashing}

abbrev pub tokens_view : List lexed.Token → List Token
tokens_view tokens = map lexer.token_view tokens

abbrev pub turn_view : List Token → program.Turn → Turn
turn_view tokens (program.Turn.Operand n) = Operand n
turn_view tokens (program.Turn.Join op) = Join (word_view tokens op)

-- the operators of the chain that clash with one before them
abbrev pub clashes : List Token → List declared.Word → List declared.Word
clashes tokens ops = clashing (word_view tokens) ops

-- the error is out of memory, or this operator
abbrev pub IfClash : fault.Ungrouped → (declared.Word → Type 0) → Type 0
IfClash fault.Ungrouped.Memory Holds = ⊤
IfClash (fault.Ungrouped.Clash op) Holds = Holds op

-- the list begins with x
abbrev pub BeginsWith : List declared.Word → declared.Word → Type 0
BeginsWith xs x = (rest : List declared.Word) × (xs ≡ x ∷ rest)

-- operators that wait for their right part, the nearest first
abbrev pub nearest : List Token → List declared.Word → List Word
nearest tokens ops = map (word_view tokens) (reverse ops)
