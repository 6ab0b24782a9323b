-- Command lines, and what they are.
use Rattle.std.specs.Prelude.{◌≡◌, ℕ, List, [], ◌∷◌, Option, Some, None, codes}
use Rattle.command_line.specs.Command.{Command, Text, make, run}
use Rattle.command_line.specs.Given.{command_line}

-- the words after the program's name give this command, or none
abbrev pub Gives : List Text → Option Command → Type 0
Gives words found = command_line (codes "elmc" ∷ words) ≡ found

abbrev pub a_to_b : ℕ → Option Command
a_to_b jobs = Some (make (codes "a") (codes "b") jobs)

abbrev pub p_on_i : ℕ → Option Command
p_on_i fuel = Some (run (codes "p") (codes "i") fuel)

pub record TakesOptions : Type 0 where
  pub with_equals : Gives (codes "make" ∷ codes "a" ∷ codes "--output=b" ∷ []) (a_to_b 1)
  pub without_equals : Gives (codes "make" ∷ codes "a" ∷ codes "--output" ∷ codes "b" ∷ []) (a_to_b 1)
  pub before : Gives (codes "make" ∷ codes "--jobs=4" ∷ codes "--output=b" ∷ codes "a" ∷ []) (a_to_b 4)
  pub before_without_equals : Gives (codes "make" ∷ codes "--output" ∷ codes "b" ∷ codes "a" ∷ []) (a_to_b 1)
  pub after : Gives (codes "make" ∷ codes "a" ∷ codes "--jobs" ∷ codes "64" ∷ codes "--output" ∷ codes "b" ∷ []) (a_to_b 64)
  pub between : Gives (codes "run" ∷ codes "p" ∷ codes "--fuel=5" ∷ codes "i" ∷ []) (p_on_i 5)
  pub twice : Gives (codes "make" ∷ codes "a" ∷ codes "--output=b" ∷ codes "--output=b" ∷ []) None
  pub jobs_twice : Gives (codes "make" ∷ codes "a" ∷ codes "--output=b" ∷ codes "--jobs=1" ∷ codes "--jobs=1" ∷ []) None
  pub fuel_twice : Gives (codes "run" ∷ codes "p" ∷ codes "i" ∷ codes "--fuel=1" ∷ codes "--fuel=2" ∷ []) None
  pub missing : Gives (codes "make" ∷ codes "a" ∷ []) None
  pub no_value : Gives (codes "make" ∷ codes "a" ∷ codes "--output" ∷ []) None
  pub empty_value : Gives (codes "make" ∷ codes "a" ∷ codes "--output=" ∷ []) (Some (make (codes "a") [] 1))
  pub empty_word : Gives (codes "make" ∷ codes "a" ∷ codes "--output" ∷ [] ∷ []) (Some (make (codes "a") [] 1))
  pub second_equals : Gives (codes "make" ∷ codes "a" ∷ codes "--output=b=c" ∷ []) (Some (make (codes "a") (codes "b=c") 1))
  pub unknown : Gives (codes "make" ∷ codes "a" ∷ codes "--output=b" ∷ codes "--fuel=1" ∷ []) None
  pub unknown_to_run : Gives (codes "run" ∷ codes "p" ∷ codes "i" ∷ codes "--jobs=1" ∷ []) None
  pub shortened : Gives (codes "make" ∷ codes "a" ∷ codes "--out=b" ∷ []) None
  pub in_upper_case : Gives (codes "make" ∷ codes "a" ∷ codes "--OUTPUT=b" ∷ []) None
  pub one_hyphen : Gives (codes "make" ∷ codes "a" ∷ codes "-output=b" ∷ []) None

pub record TakesHyphens : Type 0 where
  pub ended : Gives (codes "make" ∷ codes "--output=b" ∷ codes "--" ∷ codes "a" ∷ []) (a_to_b 1)
  pub ended_late : Gives (codes "make" ∷ codes "--output=b" ∷ codes "a" ∷ codes "--" ∷ []) (a_to_b 1)
  pub ended_before : Gives (codes "make" ∷ codes "--" ∷ codes "a" ∷ codes "--output=b" ∷ []) None
  pub option_as_place : Gives (codes "run" ∷ codes "--" ∷ codes "--fuel=1" ∷ codes "i" ∷ []) (Some (run (codes "--fuel=1") (codes "i") 1000000))
  pub end_as_place : Gives (codes "run" ∷ codes "--" ∷ codes "--" ∷ codes "i" ∷ []) (Some (run (codes "--") (codes "i") 1000000))
  pub end_as_value : Gives (codes "make" ∷ codes "a" ∷ codes "--output" ∷ codes "--" ∷ codes "b" ∷ []) None
  pub hyphen_alone : Gives (codes "run" ∷ codes "p" ∷ codes "-" ∷ []) (Some (run (codes "p") (codes "-") 1000000))
  pub hyphen_as_value : Gives (codes "make" ∷ codes "a" ∷ codes "--output" ∷ codes "-" ∷ []) (Some (make (codes "a") (codes "-") 1))
  pub hyphen_first : Gives (codes "run" ∷ codes "-p" ∷ codes "i" ∷ []) None
  pub hyphen_first_value : Gives (codes "make" ∷ codes "a" ∷ codes "--output" ∷ codes "-b" ∷ []) None
  pub hyphen_first_attached : Gives (codes "make" ∷ codes "a" ∷ codes "--output=-b" ∷ []) (Some (make (codes "a") (codes "-b") 1))
  pub option_for_value : Gives (codes "make" ∷ codes "a" ∷ codes "--output" ∷ codes "--jobs=1" ∷ []) None

pub record TakesNumbers : Type 0 where
  pub least_jobs : Gives (codes "make" ∷ codes "a" ∷ codes "--output=b" ∷ codes "--jobs=1" ∷ []) (a_to_b 1)
  pub most_jobs : Gives (codes "make" ∷ codes "a" ∷ codes "--output=b" ∷ codes "--jobs=64" ∷ []) (a_to_b 64)
  pub no_jobs : Gives (codes "make" ∷ codes "a" ∷ codes "--output=b" ∷ codes "--jobs=0" ∷ []) None
  pub many_jobs : Gives (codes "make" ∷ codes "a" ∷ codes "--output=b" ∷ codes "--jobs=65" ∷ []) None
  pub plus : Gives (codes "make" ∷ codes "a" ∷ codes "--output=b" ∷ codes "--jobs=+4" ∷ []) None
  pub zero_first : Gives (codes "make" ∷ codes "a" ∷ codes "--output=b" ∷ codes "--jobs=04" ∷ []) None
  pub minus : Gives (codes "make" ∷ codes "a" ∷ codes "--output=b" ∷ codes "--jobs=-4" ∷ []) None
  pub space : Gives (codes "make" ∷ codes "a" ∷ codes "--output=b" ∷ codes "--jobs= 4" ∷ []) None
  pub space_after : Gives (codes "make" ∷ codes "a" ∷ codes "--output=b" ∷ codes "--jobs=4 " ∷ []) None
  pub empty : Gives (codes "make" ∷ codes "a" ∷ codes "--output=b" ∷ codes "--jobs=" ∷ []) None
  pub hexadecimal : Gives (codes "make" ∷ codes "a" ∷ codes "--output=b" ∷ codes "--jobs=0x4" ∷ []) None
  pub letter : Gives (codes "make" ∷ codes "a" ∷ codes "--output=b" ∷ codes "--jobs=4a" ∷ []) None
  pub underscore : Gives (codes "run" ∷ codes "p" ∷ codes "i" ∷ codes "--fuel=1_000" ∷ []) None
  pub unsaid_fuel : Gives (codes "run" ∷ codes "p" ∷ codes "i" ∷ []) (p_on_i 1000000)
  pub least_fuel : Gives (codes "run" ∷ codes "p" ∷ codes "i" ∷ codes "--fuel" ∷ codes "1" ∷ []) (p_on_i 1)
  pub most_fuel : Gives (codes "run" ∷ codes "p" ∷ codes "i" ∷ codes "--fuel=4294967295" ∷ []) (p_on_i 4294967295)
  pub no_fuel : Gives (codes "run" ∷ codes "p" ∷ codes "i" ∷ codes "--fuel=0" ∷ []) None
  pub much_fuel : Gives (codes "run" ∷ codes "p" ∷ codes "i" ∷ codes "--fuel=4294967296" ∷ []) None
  pub much_more_fuel : Gives (codes "run" ∷ codes "p" ∷ codes "i" ∷ codes "--fuel=18446744073709551617" ∷ []) None

pub record TakesCommands : Type 0 where
  pub no_words : command_line [] ≡ None
  pub nothing : Gives [] None
  pub empty_name : Gives ([] ∷ []) None
  pub other : Gives (codes "build" ∷ codes "a" ∷ codes "--output=b" ∷ []) None
  pub session : Gives (codes "session" ∷ codes "s" ∷ []) None
  pub gen : Gives (codes "gen" ∷ codes "1" ∷ codes "0" ∷ []) None
  pub upper_case : Gives (codes "Run" ∷ codes "p" ∷ codes "i" ∷ []) None
  pub shortened : Gives (codes "ru" ∷ codes "p" ∷ codes "i" ∷ []) None
  pub ended : Gives (codes "--" ∷ codes "run" ∷ codes "p" ∷ codes "i" ∷ []) None
  pub option_first : Gives (codes "--output=b" ∷ codes "make" ∷ codes "a" ∷ []) None
  pub make_alone : Gives (codes "make" ∷ []) None
  pub make_without_place : Gives (codes "make" ∷ codes "--output=b" ∷ []) None
  pub run_alone : Gives (codes "run" ∷ []) None
  pub too_many : Gives (codes "make" ∷ codes "a" ∷ codes "c" ∷ codes "--output=b" ∷ []) None
  pub too_many_to_run : Gives (codes "run" ∷ codes "p" ∷ codes "i" ∷ codes "j" ∷ []) None
  pub too_few : Gives (codes "run" ∷ codes "p" ∷ []) None
  pub empty_place : Gives (codes "run" ∷ [] ∷ codes "i" ∷ []) (Some (run [] (codes "i") 1000000))
  pub place_named_as_command : Gives (codes "run" ∷ codes "run" ∷ codes "make" ∷ []) (Some (run (codes "run") (codes "make") 1000000))
  pub help : Gives (codes "--help" ∷ []) None
  pub short_help : Gives (codes "-h" ∷ []) None
  pub help_command : Gives (codes "help" ∷ []) None
  pub help_on : Gives (codes "help" ∷ codes "make" ∷ []) None
  pub help_of_make : Gives (codes "make" ∷ codes "--help" ∷ []) None
  pub short_help_of_run : Gives (codes "run" ∷ codes "-h" ∷ []) None
  pub help_with_all : Gives (codes "make" ∷ codes "a" ∷ codes "--output=b" ∷ codes "--help" ∷ []) None
  pub version : Gives (codes "--version" ∷ []) None
  pub short_version : Gives (codes "-V" ∷ []) None

pub record Examples : Type 0 where
  pub options : TakesOptions
  pub hyphens : TakesHyphens
  pub numbers : TakesNumbers
  pub commands : TakesCommands
