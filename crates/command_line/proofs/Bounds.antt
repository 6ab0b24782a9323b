-- The numbers of a command lie within their bounds.
use Rattle.std.proofs.Common.{◌≡◌, Bool, true, false, refl, List, [], ◌∷◌, Option, Some, None, arith, codes, cond}
use Rattle.std.specs.Prelude.{IfSome, option_and_then, option_map}
use Rattle.std.specs.Str.{bytes_eq}
use Rattle.command_line.specs.Command.{Command, Text, make, number_or, run}
use Rattle.command_line.specs.Given.{Given, command_line, gives, make_given, run_given, text_of}
use Rattle.command_line.specs.Laws.{IsWithin}
use Rattle.command_line.proofs.NumberLemmas.{number_or-within}

within_then : {X : Type 0} (o : Option X) (f : X → Option Command) → ((x : X) → IfSome (f x) IsWithin) → IfSome (option_and_then f o) IsWithin
within_then None f each = tt
within_then (Some x) f each = each x

within_map : {X : Type 0} (o : Option X) (f : X → Command) → ((x : X) → o ≡ Some x → IsWithin (f x)) → IfSome (option_map f o) IsWithin
within_map None f each = tt
within_map (Some x) f each = each x refl

within_either : (b : Bool) (o u : Option Command) → IfSome o IsWithin → IfSome u IsWithin → IfSome (cond b o u) IsWithin
within_either true o u h k = h
within_either false o u h k = k

make_within : (given : Given) → IfSome (make_given given) IsWithin
make_within given =
    within_then (text_of given (codes "entry")) _ (λ entry. within_then (text_of given (codes "output")) _ (λ output.
    within_map (number_or 1 64 1 (text_of given (codes "jobs"))) (λ jobs. make entry output jobs)
    (λ jobs is. number_or-within 1 64 1 jobs (text_of given (codes "jobs")) (omega arith) (omega arith) is)))

run_within : (given : Given) → IfSome (run_given given) IsWithin
run_within given =
    within_then (text_of given (codes "program")) _ (λ program. within_then (text_of given (codes "inputs")) _ (λ inputs.
    within_map (number_or 1 4294967295 1000000 (text_of given (codes "fuel"))) (λ fuel. run program inputs fuel)
    (λ fuel is. number_or-within 1 4294967295 1000000 fuel (text_of given (codes "fuel")) (omega arith) (omega arith) is)))

pub command_within : (words : List Text) → IfSome (command_line words) IsWithin
command_within [] = tt
command_within (program ∷ []) = tt
command_within (program ∷ name ∷ rest) =
    within_either (bytes_eq (codes "make") name) _ _
    (within_then (gives (codes "entry" ∷ []) (codes "output" ∷ codes "jobs" ∷ []) rest) make_given make_within)
    (within_either (bytes_eq (codes "run") name) _ _
    (within_then (gives (codes "program" ∷ codes "inputs" ∷ []) (codes "fuel" ∷ []) rest) run_given run_within) tt)
