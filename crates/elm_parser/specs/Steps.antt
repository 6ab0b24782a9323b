-- The steps of a derivation in which no fault stands.
use Rattle.std.specs.Prelude.{ℕ, List, [], ◌∷◌}
use Rattle.elm_lexer.specs.Tokens.{Token}
use Rattle.parse_machine.specs.declared.table.Symbol.TheVariants.{Part}
use Rattle.parse_machine.specs.declared.table.Step.{Step}
use Rattle.parse_machine.specs.declared.table.Token as machine
use Rattle.parse_machine.specs.Grammar.{IsReading, IsFront}
use Rattle.elm_grammar.specs.Classes.{classed}
use Rattle.elm_grammar.specs.Table.{elm}
use Rattle.elm_parser.specs.Standing.{IsClean}

-- of all of the tokens
abbrev pub HasSteps : List Token → ℕ → ℕ → List Step → Type 0
HasSteps tokens n column steps =
    IsReading elm (Part n ∷ []) column (classed tokens) steps × IsClean tokens n column (classed tokens)

-- of the longest front that begins a text, after which rest stands
abbrev pub HasFrontSteps : List Token → ℕ → ℕ → List machine.Token → List Step → Type 0
HasFrontSteps tokens n column rest steps =
    (h : IsFront elm (Part n ∷ []) column (classed tokens) rest steps) × IsClean tokens n column h.front
