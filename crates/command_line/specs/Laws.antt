-- Laws of command lines.
use Rattle.std.specs.Prelude.{◌≡◌, ℕ, ◌<◌, ◌≤◌, ◌^◌, List, [], ◌∷◌, ◌++◌, Some, IfSome, codes, decimal}
use Rattle.command_line.specs.Command.{Command, Text, make, run, number_in}
use Rattle.command_line.specs.Given.{command_line, form_of, plain}

-- the jobs or the fuel of a command are within their bounds
abbrev pub IsWithin : Command → Type 0
IsWithin (make entry output jobs) = (1 ≤ jobs) × (jobs ≤ 64)
IsWithin (run program inputs fuel) = (1 ≤ fuel) × (fuel ≤ 4294967295)

pub record Laws : Type 0 where
  -- the program's own name says nothing
  pub program : (p q : Text) (words : List Text) → command_line (p ∷ words) ≡ command_line (q ∷ words)
  -- each command has a spelling, whatever its texts are
  pub makes : (p entry output : Text) → command_line (p ∷ codes "make" ∷ (codes "--output=" ++ output) ∷ codes "--" ∷ entry ∷ [])
      ≡ Some (make entry output 1)
  pub makes_with_jobs : (p entry output number : Text) (jobs : ℕ) → number_in 1 64 number ≡ Some jobs
      → command_line (p ∷ codes "make" ∷ (codes "--output=" ++ output) ∷ (codes "--jobs=" ++ number) ∷ codes "--" ∷ entry ∷ [])
      ≡ Some (make entry output jobs)
  pub runs : (p program inputs : Text) → command_line (p ∷ codes "run" ∷ codes "--" ∷ program ∷ inputs ∷ [])
      ≡ Some (run program inputs 1000000)
  pub runs_with_fuel : (p program inputs number : Text) (fuel : ℕ) → number_in 1 4294967295 number ≡ Some fuel
      → command_line (p ∷ codes "run" ∷ (codes "--fuel=" ++ number) ∷ codes "--" ∷ program ∷ inputs ∷ [])
      ≡ Some (run program inputs fuel)
  -- a word that does not begin with a hyphen needs no `--`
  pub plain_places : (p program inputs : Text) → form_of program ≡ plain → form_of inputs ≡ plain
      → command_line (p ∷ codes "run" ∷ program ∷ inputs ∷ []) ≡ Some (run program inputs 1000000)
  pub plain_value : (p entry output : Text) → form_of entry ≡ plain → form_of output ≡ plain
      → command_line (p ∷ codes "make" ∷ entry ∷ codes "--output" ∷ output ∷ []) ≡ Some (make entry output 1)
  -- a number is written in one way, in decimal
  pub numbers : (least most n : ℕ) → 0 < n → n < 2 ^ 64 → least ≤ n → n ≤ most → number_in least most (decimal n) ≡ Some n
  pub one_spelling : (least most n : ℕ) (text : Text) → n < 2 ^ 64 → number_in least most text ≡ Some n
      → (text ≡ decimal n) × (least ≤ n) × (n ≤ most)
  -- each command has its number within the bounds
  pub bounds : (words : List Text) → IfSome (command_line words) IsWithin
