use Rattle.std.proofs.Common.{◌≡◌, ◌++◌, ℕ, List}
use Rattle.elm_lexer.specs.declared.reading.Reading.TheVariants.{Plain}
use Rattle.elm_lexer.specs.Literals.{units_from}
use Rattle.elm_lexer.proofs.units.literal_units.Given as goal

abbrev pub invariant-loop-c : goal.invariant-loop-c
invariant-loop-c l = (rest : List ℕ) → l.units.items ++ units_from l.reading rest ≡ units_from Plain (l.yielded ++ rest)
