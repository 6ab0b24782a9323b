-- The commands of `elmc`, and the numbers of their options.
use Rattle.std.specs.Prelude.{ℕ, Bool, List, [], ◌∷◌, Option, Some, None, ◌==◌, ◌&&◌, ◌||◌, false, not, nat_le}
use Rattle.std.specs.Prelude.{if◌then◌else◌}
use Rattle.std.specs.List.{list_all}
use Rattle.std.specs.Option.{option_map_or}
use Rattle.std.specs.Char.{is_digit}
use Rattle.std.specs.Str.Parse.{digits_value}
use Rattle.command_line.specs.declared.words.Command.{Command as Borrowed}
use Rattle.command_line.specs.declared.words.Command.TheVariants as borrowed

abbrev pub Text : Type 0
Text = List ℕ

-- what a command line asks for
pub data Command : Type 0 where
  -- the module, the JavaScript to write, and the number of workers
  make : Text → Text → ℕ → Command
  -- the JavaScript, the inputs, and the fuel
  run : Text → Text → ℕ → Command

-- the command that the enum of the code stands for
abbrev pub meaning : Borrowed → Command
meaning (borrowed.Make entry output jobs) = make entry.now output.now jobs
meaning (borrowed.Run program inputs fuel) = run program.now inputs.now fuel

-- one or more decimal digits, of which the first is not 0 (code 48), and nothing else
abbrev pub is_number : Text → Bool
is_number [] = false
is_number (d ∷ ds) = not (d == 48) && list_all (λ x. is_digit x 10) (d ∷ ds)

-- the number from `least` to `most` that the text writes
abbrev pub number_in : ℕ → ℕ → Text → Option ℕ
number_in least most text =
    let n = digits_value 10 text in
    if is_number text && (nat_le least n && nat_le n most) then Some n else None

-- the number that an option gives, or `other` if it is not given
abbrev pub number_or : ℕ → ℕ → ℕ → Option Text → Option ℕ
number_or least most other text = option_map_or (number_in least most) text (Some other)

-- the text begins with a plus (43) or a 0
abbrev pub begins_with_plus_or_zero : Text → Bool
begins_with_plus_or_zero [] = false
begins_with_plus_or_zero (x ∷ rest) = (x == 43) || (x == 48)
