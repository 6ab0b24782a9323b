-- The numbers of a command lie within their bounds: `command_within`.
-- What `parse` reads, by the test that `specs/Command.antt` makes: `number_in-decimal`, `one_spelling`.
use Rattle.std.proofs.Common.{◌≡◌, List, [], ◌∷◌, refl}
use Rattle.command_line.specs.Command.{Text}
use Rattle.command_line.specs.Given.{command_line}
use Rattle.command_line.proofs.Bounds.{command_within}
use Rattle.command_line.proofs.NumberLemmas.{number_in-decimal, one_spelling}
use Rattle.command_line.proofs.laws.Goals as goal

same_program : (p q : Text) (words : List Text) → command_line (p ∷ words) ≡ command_line (q ∷ words)
same_program p q [] = refl
same_program p q (name ∷ rest) = refl

pub returns : goal.returns
returns c = record {
  program = same_program;
  makes = λ p entry output. refl;
  makes_with_jobs = λ p entry output number jobs is. rw is refl;
  runs = λ p program inputs. refl;
  runs_with_fuel = λ p program inputs number fuel is. rw is refl;
  plain_places = λ p program inputs is that. rw (is, that) refl;
  plain_value = λ p entry output is that. rw (is, that) refl;
  numbers = number_in-decimal;
  one_spelling = one_spelling;
  bounds = command_within;
}
