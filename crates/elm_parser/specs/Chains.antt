-- Chains of operators: how they group, or the fault.
use Rattle.std.specs.Prelude.{◌≡◌, ℕ, ◌≤◌, List, [], ◌∷◌, length, take, drop}
use Rattle.elm_base.specs.declared.fault.Code.TheVariants.{MixedOperators, TooDeep}
use Rattle.elm_lexer.specs.Tokens.{Token, Fault, first_place}
use Rattle.elm_tree.specs.declared.tree.Word.{Word}
use Rattle.elm_tree.specs.Regroup.{Turn, turns}
use Rattle.elm_tree.specs.Turns.{BeginsWith, clashes}
use Rattle.elm_tree.specs.View.{words_view}
use Rattle.elm_parser.specs.Faults.{most_operators}
use Rattle.elm_parser.specs.Reported.{reported}

-- the operators are not too many, no two of them clash, and these are their turns
pub record IsChain (tokens : List Token) (operators : List Word) (ts : List Turn) : Type 0 where
  pub few : length operators ≤ most_operators
  pub groups : clashes tokens operators ≡ []
  pub turned : ts ≡ turns (words_view tokens operators)

-- the fault of the first operator that clashes with one before it
abbrev pub IsMixed : List Token → List Word → Fault → Type 0
IsMixed tokens operators f =
    (op : Word) × BeginsWith (clashes tokens operators) op
    × (f ≡ reported tokens first_place (op.index, MixedOperators))

-- the first operator that clashes with one before it, or the first one too many, whichever comes first
pub data ChainFault (tokens : List Token) (operators : List Word) (f : Fault) : Type 0 where
  mixed : IsMixed tokens (take most_operators operators) f → ChainFault tokens operators f
  too_many : {op : Word} → clashes tokens (take most_operators operators) ≡ [] →
      BeginsWith (drop most_operators operators) op → f ≡ reported tokens first_place (op.index, TooDeep) →
      ChainFault tokens operators f
