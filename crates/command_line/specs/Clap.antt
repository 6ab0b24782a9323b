-- What `clap` reads from the words.
use Rattle.std.specs.Prelude.{true, List, Option, Some, None, codes, if◌then◌else◌, option_and_then, option_map, length}
use Rattle.std.specs.Prelude.{◌==◌}
use Rattle.std.specs.Str.{bytes_eq}
use Rattle.clap.specs.Words.{App, Row, Rule, fault_of, first_of, new_app, new_rule, subcommand_of, with_rule}
use Rattle.clap.specs.Words.{with_subcommand}
use Rattle.clap.specs.Simple.{on_top}
use Rattle.command_line.specs.Command.{Command, Text, make, run, number_or}

-- an argument that is given by its position
abbrev pub positional : Text → Rule
positional id = record (new_rule id) { required = true }

-- `--name=value`
abbrev pub needed_option : Text → Rule
needed_option name = record (new_rule name) { long = Some name; required = true }

abbrev pub free_option : Text → Rule
free_option name = record (new_rule name) { long = Some name }

abbrev pub make_app : App
make_app = with_rule (with_rule (with_rule (new_app (codes "make")) (positional (codes "entry"))) (needed_option (codes "output"))) (free_option (codes "jobs"))

abbrev pub run_app : App
run_app = with_rule (with_rule (with_rule (new_app (codes "run")) (positional (codes "program"))) (positional (codes "inputs"))) (free_option (codes "fuel"))

-- a program without the help of clap
abbrev pub plain_app : Text → App
plain_app name = on_top (λ s. record s { disable_help_flag = true; disable_help_subcommand = true }) (new_app name)

abbrev pub elmc_app : App
elmc_app = with_subcommand (with_subcommand (plain_app (codes "elmc")) make_app.top) run_app.top

abbrev pub make_of : List Row → Option Command
make_of rows =
    option_and_then (λ entry. option_and_then (λ output. option_map (λ jobs. make entry output jobs)
    (number_or 1 64 1 (first_of (codes "jobs") rows))) (first_of (codes "output") rows))
    (first_of (codes "entry") rows)

abbrev pub run_of : List Row → Option Command
run_of rows =
    option_and_then (λ program. option_and_then (λ inputs. option_map (λ fuel. run program inputs fuel)
    (number_or 1 4294967295 1000000 (first_of (codes "fuel") rows))) (first_of (codes "inputs") rows))
    (first_of (codes "program") rows)

-- the command that a subcommand's name and matches give
abbrev pub read : Text × List Row → Option Command
read p = if bytes_eq p.0 (codes "make") then make_of p.1
    else (if bytes_eq p.0 (codes "run") then run_of p.1 else None)

-- the command that the two subcommands give by clap's exact matches, or none if clap refuses
abbrev pub command_of : List Text → Option Command
command_of words = if length (fault_of elmc_app words) == 0
    then option_and_then read (subcommand_of elmc_app words) else None
