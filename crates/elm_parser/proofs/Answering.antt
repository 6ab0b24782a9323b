-- From what the machine and the search for faults answer to the steps of a text, or its fault.
use Rattle.std.proofs.Common.{◌≡◌, ℕ, suc, ◌+◌, ◌-◌, ◌<◌, ◌≤◌, List, [], ◌∷◌, ◌++◌, length, take, drop, get_or}
use Rattle.std.proofs.Common.{append-nil, Result, Ok, Err, IfErr, Option, Some, None, refl, sym, ap, subst, ◌∙◌, arith}
use Rattle.std.proofs.Common.{length-append}
use Rattle.std.proofs.lemmas.List.{take_rest, take-append-drop}
use Rattle.std.proofs.Math.ListN.{drop_of_length-le}
use Rattle.elm_base.specs.declared.fault.Code.TheVariants.{Syntax}
use Rattle.elm_lexer.specs.Tokens.{Token, Fault}
use Rattle.elm_lexer.specs.View.{fault_view, IfFault}
use Rattle.elm_lexer.specs.declared.error.TextError.{TextError}
use Rattle.elm_lexer.specs.declared.error.TextError.TheVariants as error
use Rattle.elm_tree.specs.declared.tree.Word.{Word}
use Rattle.elm_tree.specs.Turns.{BeginsWith}
use Rattle.parse_machine.specs.declared.table.Symbol.TheVariants.{Part}
use Rattle.parse_machine.specs.declared.table.Step.{Step}
use Rattle.parse_machine.specs.declared.table.Token as machine
use Rattle.parse_machine.specs.Grammar.{Production, IsReading, IsFront, IsFaultAt, IsRefused}
use Rattle.elm_grammar.specs.Classes.{classed, classed_from, class_by, other}
use Rattle.elm_grammar.specs.Table.{elm, nonterminals}
use Rattle.elm_parser.specs.Standing.{Finding, Finds}
use Rattle.elm_parser.specs.Reading.{Faulty, early, syntax_at, FrontFaulty}
use Rattle.elm_parser.specs.Reported.{or_syntax}
use Rattle.elm_parser.specs.Steps.{HasFrontSteps}
use Rattle.elm_parser.proofs.Fronts.{reading_front, front_front}

-- ---- how many tokens there are

classed_length : (n before : ℕ) (ts : List Token) → length (classed_from n before ts) ≡ length ts
classed_length n before [] = refl
classed_length n before (t ∷ ts) = ap suc (classed_length (suc n) (class_by t.kind before t) ts)

pub as_many : (tokens : List Token) → length (classed tokens) ≡ length tokens
as_many tokens = classed_length 0 other tokens

-- ---- what the search for faults answers

abbrev pub TextFound : List Token → List Step → Option Finding → Type 0
TextFound tokens steps r =
    (n column : ℕ) (at : List machine.Token) (h : IsFront elm (Part n ∷ []) column (classed tokens) at steps) →
    n < nonterminals → Finds tokens n column h.front r

abbrev pub FrontFound : List Token → List Step → Option Finding → Type 0
FrontFound tokens steps r =
    (n column : ℕ) (ts front at : List machine.Token) → n < nonterminals →
    IsFaultAt elm (Part n ∷ []) column (classed tokens) front at steps → IsRefused elm (Part n ∷ []) column ts →
    Finds tokens n column ts r

-- ---- all of the tokens

pub record ReadSo (tokens : List Token) (n column : ℕ) (steps : List Step) (r : Option Finding) : Type 0 where
  pub reading : IsReading elm (Part n ∷ []) column (classed tokens) steps
  pub finds : Finds tokens n column (classed tokens) r

pub whole_read : (tokens : List Token) (n column : ℕ) (g : List Production) (us : List machine.Token)
    (steps taken : List Step) (r : Option Finding) → g ≡ elm → us ≡ classed tokens → taken ≡ steps → n < nonterminals →
    IsReading g (Part n ∷ []) column us steps → TextFound tokens taken r → ReadSo tokens n column steps r
whole_read tokens n column g us steps taken r e f k l h found =
    let i = subst (λ z. IsReading elm (Part n ∷ []) column z steps) f
    (subst (λ z. IsReading z (Part n ∷ []) column us steps) e h) in
    let j = subst (λ z. TextFound tokens z r) k found in
    record { reading = i; finds = j n column [] (reading_front n column (classed tokens) steps i) l }

count_of : (us front at : List machine.Token) (k : ℕ) → us ≡ front ++ at → k ≡ length us - length at → k ≡ length front
count_of us front at k e f =
    let g : length us ≡ length front + length at = ap length e ∙ length-append front at in
    omega (arith, f, g)

pub whole_fault : (tokens : List Token) (n column : ℕ) (g : List Production) (us at : List machine.Token)
    (steps taken : List Step) (r : Option Finding) (k : ℕ) → g ≡ elm → us ≡ classed tokens → taken ≡ steps →
    n < nonterminals → k ≡ length us - length at →
    (front : List machine.Token) × IsFaultAt g (Part n ∷ []) column us front at steps × IsRefused g (Part n ∷ []) column us →
    FrontFound tokens taken r → Faulty tokens n column (classed tokens) (or_syntax r k)
whole_fault tokens n column g us at steps taken r k e f same l count h found =
    let i = subst (λ z. IsFaultAt elm (Part n ∷ []) column z h.0 at steps) f
    (subst (λ z. IsFaultAt z (Part n ∷ []) column us h.0 at steps) e h.1) in
    let refused = subst (λ z. IsRefused elm (Part n ∷ []) column z) f (subst (λ z. IsRefused z (Part n ∷ []) column us) e h.2) in
    let j = subst (λ z. FrontFound tokens z r) same found in
    let number = count_of (classed tokens) h.0 at k i.longest.place (count ∙ ap (λ z. length z - length at) f) in
    by r (j n column (classed tokens) h.0 at l i refused) i refused number
  where
    by : (r : Option Finding) → Finds tokens n column (classed tokens) r →
        IsFaultAt elm (Part n ∷ []) column (classed tokens) h.0 at steps →
        IsRefused elm (Part n ∷ []) column (classed tokens) → k ≡ length h.0 →
        Faulty tokens n column (classed tokens) (or_syntax r k)
    by (Some f) first i refused number = early first
    by None clean i refused number =
        subst (λ (z : ℕ). Faulty tokens n column (classed tokens) (z, Syntax)) (sym number) (syntax_at clean refused i.longest)

-- ---- the longest front that begins a text

pub record FrontReadSo (tokens : List Token) (n column : ℕ) (rest : List machine.Token) (steps : List Step)
    (r : Option Finding) : Type 0 where
  pub reading : IsFront elm (Part n ∷ []) column (classed tokens) rest steps
  pub finds : Finds tokens n column reading.front r

pub front_read : (tokens : List Token) (n column : ℕ) (g : List Production) (us rest : List machine.Token)
    (steps taken : List Step) (r : Option Finding) → g ≡ elm → us ≡ classed tokens → taken ≡ steps → n < nonterminals →
    IsFront g (Part n ∷ []) column us rest steps → TextFound tokens taken r → FrontReadSo tokens n column rest steps r
front_read tokens n column g us rest steps taken r e f k l h found =
    let i = subst (λ z. IsFront elm (Part n ∷ []) column z rest steps) f
    (subst (λ z. IsFront z (Part n ∷ []) column us rest steps) e h) in
    let j = subst (λ z. TextFound tokens z r) k found in
    record { reading = i; finds = j n column rest i l }

-- a fault of a front that is read
pub front_faulty : (tokens : List Token) (n column : ℕ) (rest : List machine.Token) (steps : List Step) (f : Finding) →
    FrontReadSo tokens n column rest steps (Some f) → FrontFaulty tokens n column f
front_faulty tokens n column rest steps f h =
    record { front = h.reading.front; rest = rest; longest = h.reading.longest; faulty = early h.finds }

-- a front that is none
pub front_fault : (tokens : List Token) (n column : ℕ) (g : List Production) (us at : List machine.Token)
    (steps taken : List Step) (r : Option Finding) (k : ℕ) → g ≡ elm → us ≡ classed tokens → taken ≡ steps →
    n < nonterminals → k ≡ length us - length at →
    (front : List machine.Token) × IsFaultAt g (Part n ∷ []) column us front at steps × IsRefused g (Part n ∷ []) column front →
    FrontFound tokens taken r → FrontFaulty tokens n column (or_syntax r k)
front_fault tokens n column g us at steps taken r k e f same l count h found =
    let i = subst (λ z. IsFaultAt elm (Part n ∷ []) column z h.0 at steps) f
    (subst (λ z. IsFaultAt z (Part n ∷ []) column us h.0 at steps) e h.1) in
    let refused = subst (λ z. IsRefused z (Part n ∷ []) column h.0) e h.2 in
    let j = subst (λ z. FrontFound tokens z r) same found in
    let number = count_of (classed tokens) h.0 at k i.longest.place (count ∙ ap (λ z. length z - length at) f) in
    record {
      front = h.0;
      rest = at;
      longest = i.longest;
      faulty = by r (j n column h.0 h.0 at l i refused) i refused number;
    }
  where
    by : (r : Option Finding) → Finds tokens n column h.0 r →
        IsFaultAt elm (Part n ∷ []) column (classed tokens) h.0 at steps →
        IsRefused elm (Part n ∷ []) column h.0 → k ≡ length h.0 →
        Faulty tokens n column h.0 (or_syntax r k)
    by (Some f) first i refused number = early first
    by None clean i refused number =
        subst (λ (z : ℕ). Faulty tokens n column h.0 (z, Syntax)) (sym number)
        (syntax_at clean refused (front_front n column (classed tokens) h.0 at i.longest))

-- ---- the tokens after a front

pub rest_fits : (tokens : List Token) (n column : ℕ) (rest : List machine.Token) (steps : List Step) →
    HasFrontSteps tokens n column rest steps → length rest ≤ length tokens
rest_fits tokens n column rest steps h =
    let e : length (classed tokens) ≡ length h.0.front + length rest =
    ap length h.0.longest.place ∙ length-append h.0.front rest in
    omega (arith, e, as_many tokens)

pub left_over : {A : Type 0} (all : List A) (k r : ℕ) → k ≡ r →
    take (length all - (length all - r)) (drop (length all - r) all) ≡ drop (length all - k) all
left_over all k r e = take_rest all (length all - r) ∙ ap (λ z. drop (length all - z) all) (sym e)

-- ---- errors

-- what holds of the fault that an error is
pub fault_mapped : (e : TextError) (P Q : Fault → Type 0) → ((f : Fault) → P f → Q f) → IfFault e P → IfFault e Q
fault_mapped error.NoMemory P Q f h = tt
fault_mapped (error.Fault e) P Q f h = f (fault_view e) h

pub err_mapped : {T : Type 0} (r : Result T TextError) (P Q : Fault → Type 0) → ((f : Fault) → P f → Q f) →
    IfErr r (λ e. IfFault e P) → IfErr r (λ e. IfFault e Q)
err_mapped (Ok v) P Q f h = h
err_mapped (Err e) P Q f h = fault_mapped e P Q f h

-- ---- chains

pub take_all : {A : Type 0} (n : ℕ) (xs : List A) → length xs ≤ n → take n xs ≡ xs
take_all n xs l =
    sym (append-nil (take n xs)) ∙ ap (λ z. take n xs ++ z) (sym (drop_of_length-le xs l)) ∙ take-append-drop n xs

pub begins_with : (ops : List Word) (d : Word) → 0 < length ops → BeginsWith ops (get_or ops 0 d)
begins_with [] d l = absurd (omega (arith, l))
begins_with (op ∷ ops) d l = (ops, refl)
