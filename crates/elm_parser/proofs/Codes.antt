-- The number of a code that a token decides determines the code.
use Rattle.std.proofs.Common.{◌≡◌, ℕ, List, [], ◌∷◌, ◌++◌, Bool, true, false, ◌&&◌, if◌then◌else◌, nat_eq, nat_le}
use Rattle.std.proofs.Common.{nat_lt, length, Option, Some, None, ◌⊎◌, inl, inr, refl, sym, ap, subst}
use Rattle.std.specs.Prelude.{Contains}
use Rattle.std.proofs.lemmas.List.Elements.{Contains-append_cases}
use Rattle.elm_base.specs.declared.fault.Code.{Code}
use Rattle.elm_base.specs.declared.fault.Code.TheVariants.{TooDeep, MixedOperators, TupleTooLarge, LoneAnnotation}
use Rattle.elm_lexer.specs.Tokens.{Token}
use Rattle.parse_machine.specs.declared.table.Token as machine
use Rattle.parse_machine.specs.Grammar.{Tree, leaf, word, node}
use Rattle.elm_grammar.specs.Classes as class
use Rattle.elm_parser.specs.Faults.{Decided, Level, fault_if, lone, is_one_of, openers, operators, greatest_depth}
use Rattle.elm_parser.specs.Faults.{most_operators, most_commas, clashes, at_token, same_name, annotates, first_of}
use Rattle.elm_parser.specs.Faults.{by_name, is_named, is_of, entries, ends, is_empty, after_annotation, at_production}
use Rattle.elm_parser.specs.Faults.{faults_in, faults_of, outermost, read, below, passed}
use Rattle.elm_parser.specs.Standing.{Finding, Stands, early, at_end, number_of}
use Rattle.elm_parser.proofs.Prefix.{none_in, only_in}

abbrev pub code_of : ℕ → Code
code_of n =
    if nat_eq n 8 then TooDeep else (if nat_eq n 35 then MixedOperators else (if nat_eq n 36 then TupleTooLarge else LoneAnnotation))

abbrev pub Coded : Code → Type 0
Coded c = code_of (number_of c) ≡ c

-- the code of each of them is so
abbrev Each : List Decided → Type 0
Each ds = (d : Decided) → Contains ds d → Coded d.code

none : Each []
none d h = absurd (none_in h)

one : (d : Decided) → Coded d.code → Each (d ∷ [])
one x e d h = subst (λ (z : Decided). Coded z.code) (only_in x d h) e

both : (xs ys : List Decided) → Each xs → Each ys → Each (xs ++ ys)
both xs ys f g d h = elim (Contains-append_cases xs ys d h) [ inl i ↦ f d i | inr i ↦ g d i ]

if_so : (b : Bool) (t : machine.Token) (c : Code) → Coded c → Each (fault_if b t c)
if_so true t c e = one (record { place = t; code = c; by = Some t }) e
if_so false t c e = none

alone : (a : machine.Token) (o : Option machine.Token) → Each (lone a o)
alone a o = one (record { place = a; code = LoneAnnotation; by = o }) refl

token : (tokens : List Token) (l : Level) (t : machine.Token) → Each (at_token tokens l t)
token tokens l t =
    let a = is_one_of openers t.class && nat_lt greatest_depth l.depth in
    let b = is_one_of operators t.class && nat_le most_operators (length l.chain) in
    let c = is_one_of operators t.class && clashes tokens l.chain t in
    let e = nat_eq t.class class.comma && nat_le most_commas l.commas in
    both ((fault_if a t TooDeep ++ fault_if b t TooDeep) ++ fault_if c t MixedOperators) (fault_if e t TupleTooLarge)
    (both (fault_if a t TooDeep ++ fault_if b t TooDeep) (fault_if c t MixedOperators)
    (both (fault_if a t TooDeep) (fault_if b t TooDeep) (if_so a t TooDeep refl) (if_so b t TooDeep refl))
    (if_so c t MixedOperators refl))
    (if_so e t TupleTooLarge refl)

named : (tokens : List Token) (a : machine.Token) (x : Tree) (next : Option machine.Token) → Each (by_name tokens a x next)
named tokens a leaf next = none
named tokens a (node p x y) next = none
named tokens a (word y leaf) next = none
named tokens a (word y (word t x)) next = none
named tokens a (word y (node q z w)) next = by (same_name tokens a y) (annotates q)
  where
    by : (b c : Bool) → Each (if b then (if c then lone a (first_of z (first_of w next)) else []) else lone a (Some y))
    by true true = alone a (first_of z (first_of w next))
    by true false = none
    by false c = alone a (Some y)

production : (tokens : List Token) (o : Option machine.Token) (p : ℕ) (x : Tree) (next : Option machine.Token) →
    Each (at_production tokens o p x next)
production tokens None p x next = none
production tokens (Some a) p x next = by (is_named p) (is_of entries p) (is_of ends p && is_empty p)
  where
    by : (b c e : Bool) →
        Each (if b then by_name tokens a x next
        else (if c then lone a (first_of x next) else (if e then lone a next else [])))
    by true c e = named tokens a x next
    by false true e = alone a (first_of x next)
    by false false true = alone a next
    by false false false = none

in_tree : (tokens : List Token) (l : Level) (next : Option machine.Token) (x : Tree) → Each (faults_in tokens l next x)
in_tree tokens l next leaf = none
in_tree tokens l next (word t x) = both (at_token tokens l t) (faults_in tokens (read l t) next x) (token tokens l t) (in_tree tokens (read l t) next x)
in_tree tokens l next (node p x y) =
    both (at_production tokens l.annotated p x (first_of y next))
    (faults_in tokens (below l p) (first_of y next) x ++ faults_in tokens (passed l p x) next y)
    (production tokens l.annotated p x (first_of y next))
    (both (faults_in tokens (below l p) (first_of y next) x) (faults_in tokens (passed l p x) next y)
    (in_tree tokens (below l p) (first_of y next) x) (in_tree tokens (passed l p x) next y))

of_text : (tokens : List Token) (x : Tree) → Each (faults_of tokens x)
unfolding faults_of
of_text tokens x = in_tree tokens (outermost 0) None x

pub stands_coded : (tokens : List Token) (n column : ℕ) (ts : List machine.Token) (f : Finding) →
    Stands tokens n column ts f → Coded f.1
stands_coded tokens n column ts _ (early {d = d} others e x h w) = of_text tokens x.tree d h
stands_coded tokens n column ts _ (at_end {x = x} {d = d} s h) = of_text tokens x d h
