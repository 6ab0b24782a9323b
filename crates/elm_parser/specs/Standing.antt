-- Where faults stand in the tokens of a text, and which one is reported.
use Rattle.std.specs.Prelude.{◌≡◌, ℕ, suc, ◌≤◌, ◌<◌, ◌⊎◌, List, [], ◌∷◌, ◌++◌, length, Option, Some, None, Contains}
use Rattle.elm_base.specs.declared.fault.Code.{Code}
use Rattle.elm_base.specs.declared.fault.Code.TheVariants.{TooDeep, MixedOperators, TupleTooLarge, LoneAnnotation}
use Rattle.elm_lexer.specs.Tokens.{Token}
use Rattle.parse_machine.specs.declared.table.Symbol.TheVariants.{Part}
use Rattle.parse_machine.specs.declared.table.Token as machine
use Rattle.parse_machine.specs.Grammar.{Tree, Spells}
use Rattle.elm_grammar.specs.Classes.{classed}
use Rattle.elm_grammar.specs.Table.{elm, nonterminals}
use Rattle.elm_parser.specs.Faults.{Decided, faults_of}

-- which token, and what is wrong with it
abbrev pub Finding : Type 0
Finding = ℕ × Code

abbrev pub finding : Decided → Finding
finding d = (d.place.index, d.code)

-- the tokens are numbered from n on
abbrev pub Numbered : ℕ → List machine.Token → Type 0
Numbered n [] = Unit {0}
Numbered n (t ∷ ts) = (t.index ≡ n) × Numbered (suc n) ts

-- a text that nonterminal n stands for under the column, which begins with the tokens of front
pub record Text (n column : ℕ) (front : List machine.Token) : Type 0 where
  pub more : List machine.Token
  pub numbered : Numbered (length front) more
  pub tree : Tree
  pub spells : Spells elm (Part n ∷ []) column tree (front ++ more)

abbrev pub Before : Option machine.Token → ℕ → Type 0
Before (Some t) k = t.index < k
Before None k = ⊥

-- the first k tokens decide the fault
abbrev pub Within : ℕ → Decided → Type 0
Within k d = Before d.by k

-- the fault stands in the tokens ts: those up to some place begin a text that has it, and decide it; or ts are a text
-- that has it. Which text goes on does not matter: `WhicheverText`
pub data Stands (tokens : List Token) (n column : ℕ) (ts : List machine.Token) : Finding → Type 0 where
  early : {front : List machine.Token} {d : Decided} (others : List machine.Token) → classed tokens ≡ front ++ others →
      (x : Text n column front) → Contains (faults_of tokens x.tree) d → Within (length front) d →
      Stands tokens n column ts (finding d)
  at_end : {x : Tree} {d : Decided} → Spells elm (Part n ∷ []) column x ts → Contains (faults_of tokens x) d →
      Stands tokens n column ts (finding d)

-- a fault that the first tokens decide is one of each text that begins with them
abbrev pub WhicheverText : Type 0
WhicheverText =
    (tokens : List Token) (n column : ℕ) (front : List machine.Token) (x y : Text n column front) (d : Decided) →
    n < nonterminals →
    Contains (faults_of tokens x.tree) d → Within (length front) d → Contains (faults_of tokens y.tree) d

-- ---- which fault is reported

abbrev pub number_of : Code → ℕ
number_of TooDeep = 8
number_of MixedOperators = 35
number_of TupleTooLarge = 36
number_of LoneAnnotation = 37
number_of _ = 3

-- at a lower place, or at the same with a code that is not higher
abbrev pub NotAfter : Finding → Finding → Type 0
NotAfter f g = (f.0 < g.0) ⊎ ((f.0 ≡ g.0) × (number_of f.1 ≤ number_of g.1))

-- the least fault that stands in the tokens
pub record IsFirst (tokens : List Token) (n column : ℕ) (ts : List machine.Token) (f : Finding) : Type 0 where
  pub stands : Stands tokens n column ts f
  pub least : (g : Finding) → Stands tokens n column ts g → NotAfter f g

-- no fault of these stands in the tokens
abbrev pub IsClean : List Token → ℕ → ℕ → List machine.Token → Type 0
IsClean tokens n column ts = (f : Finding) → Stands tokens n column ts f → ⊥

-- what was found is the first fault, or there is none
abbrev pub Finds : List Token → ℕ → ℕ → List machine.Token → Option Finding → Type 0
Finds tokens n column ts None = IsClean tokens n column ts
Finds tokens n column ts (Some f) = IsFirst tokens n column ts f
