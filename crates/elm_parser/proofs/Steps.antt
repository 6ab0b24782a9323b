-- One step of the pass over the steps.
use Rattle.std.proofs.Common.{◌≡◌, ℕ, suc, ◌-◌, ◌≤◌, List, [], ◌∷◌, ◌++◌, reverse, length, take, drop, get_or, Bool}
use Rattle.std.proofs.Common.{Option, Result, Ok, Err, IfOk, refl, sym, ap, ◌∙◌, arith}
use Rattle.std.proofs.Math.Seq.{take-length}
use Rattle.std.proofs.lemmas.List.{reverse-append}
use Rattle.elm_lexer.specs.Tokens.{Token}
use Rattle.parse_machine.specs.declared.table.Step.{Step}
use Rattle.parse_machine.specs.declared.table.Step.TheVariants.{Take, Read}
use Rattle.parse_machine.specs.declared.table.Token as machine
use Rattle.elm_parser.specs.declared.level.Level.{Level}
use Rattle.elm_parser.specs.declared.scan.Frame.{Frame}
use Rattle.elm_parser.specs.Faults.{Decided, size}
use Rattle.elm_parser.specs.Standing.{Finding}
use Rattle.elm_parser.specs.Scan.{at_token, at_production, read, passed, below, push, scan, counted, first_among}

pub among_append : (ended : Bool) (best : Option Finding) (xs ys : List Decided) →
    first_among ended best (xs ++ ys) ≡ first_among ended (first_among ended best xs) ys
among_append ended best [] ys = refl
among_append ended best (d ∷ xs) ys = among_append ended (counted ended best d) xs ys

-- four lists, one after the other
pub among_four : (ended : Bool) (a b c d e : Option Finding) (w x y z : List Decided) → b ≡ first_among ended a w →
    c ≡ first_among ended b x → d ≡ first_among ended c y → e ≡ first_among ended d z →
    e ≡ first_among ended a (((w ++ x) ++ y) ++ z)
among_four ended a b c d e w x y z p q r s =
    s ∙ ap (λ v. first_among ended v z) (r ∙ ap (λ v. first_among ended v y) (q ∙ ap (λ v. first_among ended v x) p
    ∙ sym (among_append ended a w x)) ∙ sym (among_append ended a (w ++ x) y)) ∙ sym (among_append ended a ((w ++ x) ++ y) z)

top_of : (stack S : List Frame) (f : Frame) → stack ≡ S ++ f ∷ [] → reverse stack ≡ f ∷ reverse S
top_of stack S f e = ap reverse e ∙ reverse-append S (f ∷ [])

pub read_step : (ended : Bool) (tokens : List Token) (stack S T : List Frame) (f : Frame) (t : machine.Token)
    (steps : List Step) (before found : Option Finding) (l : Level) → stack ≡ S ++ f ∷ [] →
    found ≡ first_among ended before (at_token tokens f.level t) → l ≡ read tokens f.level t →
    reverse T ≡ push (f.left - 1) l (reverse S) →
    first_among ended found (scan tokens (reverse T) steps)
    ≡ first_among ended before (scan tokens (reverse stack) (Read t ∷ steps))
read_step ended tokens stack S T f t steps before found l e i j k =
    ap (λ z. first_among ended found (scan tokens z steps)) (k ∙ ap (λ z. push (f.left - 1) z (reverse S)) j)
    ∙ ap (λ z. first_among ended z (scan tokens (push (f.left - 1) (read tokens f.level t) (reverse S)) steps)) i
    ∙ sym (among_append ended before (at_token tokens f.level t)
    (scan tokens (push (f.left - 1) (read tokens f.level t) (reverse S)) steps))
    ∙ ap (λ z. first_among ended before (scan tokens z (Read t ∷ steps))) (sym (top_of stack S f e))

pub take_step : (ended : Bool) (tokens : List Token) (stack S T U : List Frame) (f : Frame) (p : ℕ)
    (steps : List Step) (before found : Option Finding) (l m : Level) → stack ≡ S ++ f ∷ [] →
    found ≡ first_among ended before (at_production tokens f.level.annotated p steps) → l ≡ passed f.level p steps →
    m ≡ below f.level p → reverse T ≡ push (f.left - 1) l (reverse S) → reverse U ≡ push (size p) m (reverse T) →
    first_among ended found (scan tokens (reverse U) steps)
    ≡ first_among ended before (scan tokens (reverse stack) (Take p ∷ steps))
take_step ended tokens stack S T U f p steps before found l m e i j h k n =
    let last = push (size p) (below f.level p) (push (f.left - 1) (passed f.level p steps) (reverse S)) in
    ap (λ z. first_among ended found (scan tokens z steps))
    (n ∙ ap (λ z. push (size p) z (reverse T)) h ∙ ap (λ z. push (size p) (below f.level p) z) (k ∙ ap (λ z. push (f.left - 1) z (reverse S)) j))
    ∙ ap (λ z. first_among ended z (scan tokens last steps)) i
    ∙ sym (among_append ended before (at_production tokens f.level.annotated p steps) (scan tokens last steps))
    ∙ ap (λ z. first_among ended before (scan tokens z (Take p ∷ steps))) (sym (top_of stack S f e))

-- nothing is left on the stack
pub no_step : (ended : Bool) (tokens : List Token) (stack : List Frame) (steps : List Step) (found : Option Finding) →
    stack ≡ [] → first_among ended found (scan tokens (reverse stack) steps) ≡ found
no_step ended tokens stack [] found e = ap (λ z. first_among ended found (scan tokens (reverse z) [])) e
no_step ended tokens stack (s ∷ steps) found e = ap (λ z. first_among ended found (scan tokens (reverse z) (s ∷ steps))) e

-- no steps are left
pub steps_end : (ended : Bool) (tokens : List Token) (stack : List Frame) (found : Option Finding) →
    first_among ended found (scan tokens (reverse stack) []) ≡ found
steps_end ended tokens stack found = by (reverse stack)
  where
    by : (S : List Frame) → first_among ended found (scan tokens S []) ≡ found
    by [] = refl
    by (f ∷ S) = refl

-- a list that begins so
pub split_first : (xs : List Step) (d s : Step) → 1 ≤ length xs → get_or xs 0 d ≡ s →
    xs ≡ s ∷ take (length xs - 1) (drop 1 xs)
split_first [] d s h e = absurd (omega arith)
split_first (x ∷ xs) d s h e =
    let one : suc (length xs) - 1 ≡ length xs = omega arith in
    let same : x ≡ s = e in
    ap (λ z. z ∷ xs) same
    ∙ ap (λ z. s ∷ z) (sym (take-length xs) ∙ ap (λ k. take k xs) (sym one))

-- what holds of the value in an Ok
pub mapped : {T E : Type 0} (r : Result T E) (P Q : T → Type 0) → ((v : T) → P v → Q v) → IfOk r P → IfOk r Q
mapped (Ok v) P Q f h = f v h
mapped (Err e) P Q f h = h
