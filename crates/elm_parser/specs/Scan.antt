-- The faults of a derivation told from its steps, from left to right. What the program keeps of a level are counts of
-- what may still come, and for each level of operators the side of the nearest one.
use Rattle.std.specs.Prelude.{ℕ, zero, suc, ◌-◌, List, [], ◌∷◌, ◌++◌, replicate, Bool, false, ◌&&◌, ◌||◌, if◌then◌else◌}
use Rattle.std.specs.Prelude.{nat_eq, nat_lt, is_some, get_or, Option, Some, None, option_map}
use Rattle.elm_base.specs.declared.fault.Code.TheVariants.{TooDeep, MixedOperators, TupleTooLarge}
use Rattle.elm_lexer.specs.Tokens.{Token}
use Rattle.elm_tree.specs.Tree.{Word}
use Rattle.elm_tree.specs.Words.{token_at, word_of}
use Rattle.elm_tree.specs.Regroup.{level_of, side_of, clash_of}
use Rattle.elm_tree.specs.declared.operator.Side.{Side}
use Rattle.parse_machine.specs.declared.table.Step.{Step}
use Rattle.parse_machine.specs.declared.table.Step.TheVariants.{Take, Read}
use Rattle.parse_machine.specs.declared.table.Token as machine
use Rattle.elm_grammar.specs.Classes as class
use Rattle.elm_parser.specs.declared.level.Level.{Level}
use Rattle.elm_parser.specs.declared.scan.Frame.{Frame}
use Rattle.elm_parser.specs.declared.finding.Finding as declared
use Rattle.elm_parser.specs.Faults.{is_one_of, is_of, begins_with, openers, operators, lists, ends, entries, is_named}
use Rattle.elm_parser.specs.Faults.{annotates, size, is_empty, Decided, fault_if, same_name, lone}
use Rattle.elm_parser.specs.Standing.{Finding, finding, number_of}

-- ---- levels

abbrev pub outermost : ℕ → Level
outermost left = record { constructs_left = left; operators_left = 1024; commas_left = 2; sides = replicate 11 None; annotated = None }

abbrev pub below : Level → ℕ → Level
below l p =
    let left = (if begins_with openers p then l.constructs_left - 1 else l.constructs_left) in
    if is_of lists p then record l { constructs_left = left } else outermost left

-- the side of the nearest operator at one level, after one at level k
abbrev pub slot : List (Option Side) → ℕ → ℕ → Side → Option Side
slot sides place k side =
    if nat_lt place k then get_or sides place None else (if nat_eq place k then Some side else None)

abbrev pub sides_after : List (Option Side) → ℕ → Side → List (Option Side)
sides_after sides k side =
    slot sides 0 k side ∷ slot sides 1 k side ∷ slot sides 2 k side ∷ slot sides 3 k side ∷ slot sides 4 k side
    ∷ slot sides 5 k side ∷ slot sides 6 k side ∷ slot sides 7 k side ∷ slot sides 8 k side ∷ slot sides 9 k side
    ∷ slot sides 10 k side ∷ []

abbrev pub operator_word : List Token → machine.Token → Word
operator_word tokens t = word_of (token_at tokens t.index)

abbrev pub with_operator : List Token → Level → machine.Token → Level
with_operator tokens l t =
    record l {
      operators_left = l.operators_left - 1;
      sides = sides_after l.sides (level_of (operator_word tokens t)) (side_of (operator_word tokens t));
    }

abbrev pub with_comma : machine.Token → Level → Level
with_comma t l = if nat_eq t.class class.comma then record l { commas_left = l.commas_left - 1 } else l

abbrev pub read : List Token → Level → machine.Token → Level
read tokens l t = with_comma t (if is_one_of operators t.class then with_operator tokens l t else l)

abbrev pub clash_with : Option Side → Side → Bool
clash_with (Some p) q = clash_of p q
clash_with None q = false

abbrev pub clashes : List Token → Level → machine.Token → Bool
clashes tokens l t =
    clash_with (get_or l.sides (level_of (operator_word tokens t)) None) (side_of (operator_word tokens t))

abbrev pub at_token : List Token → Level → machine.Token → List Decided
at_token tokens l t =
    fault_if (is_one_of openers t.class && nat_eq l.constructs_left 0) t TooDeep
    ++ fault_if (is_one_of operators t.class && nat_eq l.operators_left 0) t TooDeep
    ++ fault_if (is_one_of operators t.class && clashes tokens l t) t MixedOperators
    ++ fault_if (nat_eq t.class class.comma && nat_eq l.commas_left 0) t TupleTooLarge

-- ---- what the next steps tell

-- the next token
abbrev pub next_of : List Step → Option machine.Token
next_of [] = None
next_of (Read t ∷ steps) = Some t
next_of (Take p ∷ steps) = next_of steps

-- the name that an entry annotates, of which these are the first steps
abbrev pub name_in : List Step → Option machine.Token
name_in (Read y ∷ Take q ∷ steps) = if annotates q then Some y else None
name_in _ = None

abbrev pub annotated_by : ℕ → List Step → Option machine.Token
annotated_by p steps = if is_named p then name_in steps else None

abbrev pub passed : Level → ℕ → List Step → Level
passed l p steps = if is_of entries p then record l { annotated = annotated_by p steps } else l

abbrev pub same_named : machine.Token → List Step → List Decided
same_named a (Take q ∷ steps) = if annotates q then lone a (next_of steps) else []
same_named a _ = []

abbrev pub by_name : List Token → machine.Token → List Step → List Decided
by_name tokens a (Read y ∷ steps) = if same_name tokens a y then same_named a steps else lone a (Some y)
by_name tokens a _ = []

abbrev pub after_annotation : List Token → machine.Token → ℕ → List Step → List Decided
after_annotation tokens a p steps =
    if is_named p then by_name tokens a steps
    else (if is_of entries p then lone a (next_of steps)
    else (if is_of ends p && is_empty p then lone a (next_of steps) else []))

abbrev pub at_production : List Token → Option machine.Token → ℕ → List Step → List Decided
at_production tokens (Some a) p steps = after_annotation tokens a p steps
at_production tokens None p steps = []

-- ---- all steps

-- a frame on the stack: the symbols of a production that are left, unless there are none, and their level
abbrev pub push : ℕ → Level → List Frame → List Frame
push zero l S = S
push (suc n) l S = record { left = suc n; level = l } ∷ S

abbrev pub scan : List Token → List Frame → List Step → List Decided
scan tokens S [] = []
scan tokens [] (s ∷ steps) = []
scan tokens (f ∷ S) (Read t ∷ steps) =
    at_token tokens f.level t ++ scan tokens (push (f.left - 1) (read tokens f.level t) S) steps
scan tokens (f ∷ S) (Take p ∷ steps) =
    at_production tokens f.level.annotated p steps
    ++ scan tokens (push (size p) (below f.level p) (push (f.left - 1) (passed f.level p steps) S)) steps

abbrev pub bottom : List Frame
bottom = record { left = 1; level = outermost 257 } ∷ []

-- ---- the first fault

abbrev pub is_before : Finding → Finding → Bool
is_before f g = nat_lt f.0 g.0 || (nat_eq f.0 g.0 && nat_lt (number_of f.1) (number_of g.1))

abbrev pub earlier : Option Finding → Finding → Option Finding
earlier None g = Some g
earlier (Some f) g = if is_before g f then Some g else Some f

-- faults that no token decides count only where the text is at its end
abbrev pub counted : Bool → Option Finding → Decided → Option Finding
counted ended best d = if is_some d.by || ended then earlier best (finding d) else best

-- the first of these and of one found before
abbrev pub first_among : Bool → Option Finding → List Decided → Option Finding
first_among ended best [] = best
first_among ended best (d ∷ ds) = first_among ended (counted ended best d) ds

-- what was found by the program
abbrev pub finding_view : declared.Finding → Finding
finding_view f = (f.index, f.code)

abbrev pub found_view : Option declared.Finding → Option Finding
found_view o = option_map finding_view o
