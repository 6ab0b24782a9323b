-- Each line of words is read by the definition itself.
use Rattle.std.proofs.Common.{refl}
use Rattle.std.specs.Str.{chars}
use Rattle.command_line.specs.Examples.{TakesCommands, TakesHyphens, TakesNumbers, TakesOptions}
use Rattle.command_line.proofs.examples.Goals as goal

options : TakesOptions
unfolding chars
options = record {
  with_equals = refl;
  without_equals = refl;
  before = refl;
  before_without_equals = refl;
  after = refl;
  between = refl;
  twice = refl;
  jobs_twice = refl;
  fuel_twice = refl;
  missing = refl;
  no_value = refl;
  empty_value = refl;
  empty_word = refl;
  second_equals = refl;
  unknown = refl;
  unknown_to_run = refl;
  shortened = refl;
  in_upper_case = refl;
  one_hyphen = refl;
}

hyphens : TakesHyphens
unfolding chars
hyphens = record {
  ended = refl;
  ended_late = refl;
  ended_before = refl;
  option_as_place = refl;
  end_as_place = refl;
  end_as_value = refl;
  hyphen_alone = refl;
  hyphen_as_value = refl;
  hyphen_first = refl;
  hyphen_first_value = refl;
  hyphen_first_attached = refl;
  option_for_value = refl;
}

numbers : TakesNumbers
unfolding chars
numbers = record {
  least_jobs = refl;
  most_jobs = refl;
  no_jobs = refl;
  many_jobs = refl;
  plus = refl;
  zero_first = refl;
  minus = refl;
  space = refl;
  space_after = refl;
  empty = refl;
  hexadecimal = refl;
  letter = refl;
  underscore = refl;
  unsaid_fuel = refl;
  least_fuel = refl;
  most_fuel = refl;
  no_fuel = refl;
  much_fuel = refl;
  much_more_fuel = refl;
}

commands : TakesCommands
unfolding chars
commands = record {
  no_words = refl;
  nothing = refl;
  empty_name = refl;
  other = refl;
  session = refl;
  gen = refl;
  upper_case = refl;
  shortened = refl;
  ended = refl;
  option_first = refl;
  make_alone = refl;
  make_without_place = refl;
  run_alone = refl;
  too_many = refl;
  too_many_to_run = refl;
  too_few = refl;
  empty_place = refl;
  place_named_as_command = refl;
  help = refl;
  short_help = refl;
  help_command = refl;
  help_on = refl;
  help_of_make = refl;
  short_help_of_run = refl;
  help_with_all = refl;
  version = refl;
  short_version = refl;
}

pub returns : goal.returns
returns c = record { options = options; hyphens = hyphens; numbers = numbers; commands = commands }
