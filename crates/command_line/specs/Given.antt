-- How a command line is read, word by word, into named texts. The forms are those that `clap` documents: the name of a
-- subcommand, then positional arguments and long options in any order. An option is `--name=value`, or the two words
-- `--name value`. After `--` each word is a positional argument.
use Rattle.std.specs.Prelude.{◌==◌, Bool, List, [], ◌∷◌, ◌++◌, Option, Some, None, is_some, if◌then◌else◌, find}
use Rattle.std.specs.Prelude.{slice_get, option_map, option_and_then, codes}
use Rattle.std.specs.List.{after_first, before_first, list_any}
use Rattle.std.specs.Str.{bytes_eq, chars}
use Rattle.command_line.specs.Command.{Command, Text, make, run, number_or}

-- what a word looks like
pub data Form : Type 0 where
  -- `--`
  ending : Form
  -- `--name` or `--name=value`
  option : Text → Option Text → Form
  -- one hyphen and a character, as `-x`
  short : Form
  -- any other word: one that does not begin with a hyphen, or a hyphen alone
  plain : Form

-- `name` or `name=value`, as it stands after two hyphens (61 is `=`)
abbrev pub option_in : Text → Form
option_in text = option (before_first (λ x. x == 61) text)
    (if list_any (λ x. x == 61) text then Some (after_first (λ x. x == 61) text) else None)

-- what follows `--` in a word
abbrev pub after_two_hyphens : Text → Form
after_two_hyphens [] = ending
after_two_hyphens (x ∷ rest) = option_in (x ∷ rest)

-- what follows `-` (45) in a word; bytes that spell no character are not a flag, and no text has such bytes
abbrev pub after_hyphen : Text → Form
after_hyphen [] = plain
after_hyphen (x ∷ rest) = if x == 45 then after_two_hyphens rest
    else (if is_some (slice_get (chars (x ∷ rest)) 0) then short else plain)

-- the form of a word
abbrev pub form_of : Text → Form
form_of [] = plain
form_of (x ∷ rest) = if x == 45 then after_hyphen rest else plain

-- the texts that are given, each under its name
abbrev pub Given : Type 0
Given = List (Text × Text)

-- whether the name has a text
abbrev pub is_given : Text → Given → Bool
is_given name given = list_any (λ e. bytes_eq e.0 name) given

-- nothing is given twice
abbrev pub give : Text → Text → Given → Option Given
give name text given = if is_given name given then None else Some (given ++ (name, text) ∷ [])

-- how to go on: with the option that waits for its value, the places that are left, and what is given
abbrev pub Next : Type 0
Next = Option Text → List Text → Given → Option Given

-- the word goes to the first place that is left
abbrev pub place : Text → List Text → Given → (List Text → Given → Option Given) → Option Given
place word [] given next = None
place word (name ∷ places) given next = option_and_then (next places) (give name word given)

-- after `--` each word goes to a place
abbrev pub places_only : List Text → List Text → Given → Option Given
places_only [] places given = Some given
places_only (word ∷ rest) places given = place word places given (places_only rest)

-- whether the name is one of these options
abbrev pub has_name : List Text → Text → Bool
has_name options name = list_any (λ o. bytes_eq o name) options

-- an option that the command has takes the value that is attached to it, or waits for the next word
abbrev pub use_option : Text → Option Text → List Text → Given → Next → Option Given
use_option name None places given next = next (Some name) places given
use_option name (Some value) places given next =
    option_and_then (next None places) (give name value given)

-- what a word does by its form, if no option waits for a value: `only` goes on after `--`, and `next` otherwise
abbrev pub read_form : List Text → Form → Text → List Text → Given → (List Text → Given → Option Given)
    → Next → Option Given
read_form options ending word places given only next = only places given
read_form options (option name value) word places given only next =
    if has_name options name then use_option name value places given next else None
read_form options short word places given only next = None
read_form options plain word places given only next = place word places given (next None)

-- only a plain word is the value of an option that waits
abbrev pub read_value : Form → Text → Text → List Text → Given → Next → Option Given
read_value plain name word places given next =
    option_and_then (next None places) (give name word given)
read_value _ name word places given next = None

-- what a word does, with the option that waits for its value if there is one
abbrev pub read_word : List Text → Option Text → Text → List Text → Given
    → (List Text → Given → Option Given) → Next → Option Given
read_word options (Some name) word places given only next =
    read_value (form_of word) name word places given next
read_word options None word places given only next =
    read_form options (form_of word) word places given only next

-- what the words give to a command with these options, from what is given so far
abbrev pub given_by : List Text → List Text → Option Text → List Text → Given → Option Given
given_by options [] None places given = Some given
given_by options [] (Some name) places given = None
given_by options (word ∷ rest) waiting places given =
    read_word options waiting word places given (places_only rest) (given_by options rest)

-- the same, of the words after the command's name
abbrev pub gives : List Text → List Text → List Text → Option Given
gives places options words = given_by options words None places []

-- the text that is given under the name
abbrev pub text_of : Given → Text → Option Text
text_of given name = option_map (λ e. e.1) (find (λ e. bytes_eq e.0 name) given)

-- ---- the command lines of the program

-- `make` takes ENTRY, `--output`, and 1 to 64 jobs: 1 if they are not given
abbrev pub make_given : Given → Option Command
make_given given =
    option_and_then (λ entry. option_and_then (λ output. option_map (λ jobs. make entry output jobs)
    (number_or 1 64 1 (text_of given (codes "jobs")))) (text_of given (codes "output")))
    (text_of given (codes "entry"))

-- `run` takes JSFILE, INPUTS, and the fuel: 1000000 if it is not given
abbrev pub run_given : Given → Option Command
run_given given =
    option_and_then (λ program. option_and_then (λ inputs. option_map (λ fuel. run program inputs fuel)
    (number_or 1 4294967295 1000000 (text_of given (codes "fuel")))) (text_of given (codes "inputs")))
    (text_of given (codes "program"))

-- the command of that name, with its places and its options
abbrev pub command_named : Text → List Text → Option Command
command_named name words = if bytes_eq (codes "make") name
    then option_and_then make_given (gives (codes "entry" ∷ []) (codes "output" ∷ codes "jobs" ∷ []) words)
    else (if bytes_eq (codes "run") name
    then option_and_then run_given (gives (codes "program" ∷ codes "inputs" ∷ []) (codes "fuel" ∷ []) words)
    else None)

-- the command that the words of a process ask for; the first word is the name of the program
abbrev pub command_line : List Text → Option Command
command_line [] = None
command_line (program ∷ []) = None
command_line (program ∷ name ∷ words) = command_named name words
