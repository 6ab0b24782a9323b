-- What the readers answer: the tree, and what follows it; or the fault that is reported.
use Rattle.std.specs.Prelude.{◌≡◌, ℕ, ◌-◌, List, length, drop, ◌⊎◌}
use Rattle.elm_lexer.specs.Tokens.{Token, Tokens, Place, Fault, HasFault, first_place, place_after}
use Rattle.elm_tree.specs.Tree as tree
use Rattle.parse_machine.specs.declared.table.Token as machine
use Rattle.elm_grammar.specs.Classes.{classed}
use Rattle.elm_grammar.specs.Table as table
use Rattle.elm_parser.specs.Standing.{Finding}
use Rattle.elm_parser.specs.Reading.{BeginsPort, Faulty, FrontFaulty, ReadsModule}
use Rattle.elm_parser.specs.Reported.{IsReported}

-- the tokens that are left are the last ones, as many as some rest of which this holds
abbrev pub LeavesRest : {A : Type 0} → List A → List A → (List machine.Token → Type 0) → Type 0
LeavesRest all left Holds = (rest : List machine.Token) × Holds rest × (left ≡ drop (length all - length rest) all)

-- ---- the fault that is reported

abbrev pub ModuleFault : List Token → Place → Fault → Type 0
ModuleFault tokens end f = IsReported tokens end (Faulty tokens table.Module 1 (classed tokens)) f

-- of a front of the tokens
abbrev pub FaultAhead : List Token → ℕ → ℕ → Place → Fault → Type 0
FaultAhead tokens n column end f = IsReported tokens end (FrontFaulty tokens n column) f

abbrev pub HeadFault : List Token → Place → Fault → Type 0
HeadFault tokens end f = (BeginsPort tokens → ⊥) × FaultAhead tokens table.Head 1 end f

abbrev pub TypeFault : List Token → ℕ → Place → Fault → Type 0
TypeFault tokens column end f = FaultAhead tokens table.Typing column end f

abbrev pub PatternFault : List Token → ℕ → Place → Fault → Type 0
PatternFault tokens column end f = FaultAhead tokens table.Pattern column end f

abbrev pub ExprFault : List Token → ℕ → Place → Fault → Type 0
ExprFault tokens column end f = FaultAhead tokens table.Expression column end f

-- ---- texts

-- the text has these tokens, which spell this module, and no fault
abbrev pub IsText : List ℕ → List Token → tree.Module → Type 0
IsText text tokens m = Tokens text tokens × ReadsModule tokens m

-- the text has no tokens and this fault, or its tokens have it
pub data HasTextFault (text : List ℕ) (f : Fault) : Type 0 where
  of_text : HasFault text f → HasTextFault text f
  of_tokens : {tokens : List Token} → Tokens text tokens → ModuleFault tokens (place_after first_place text) f →
      HasTextFault text f
