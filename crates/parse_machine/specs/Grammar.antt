-- What a grammar spells. A grammar is a list of productions; a production is named by its place in the list.
use Rattle.std.specs.Prelude.{◌≡◌, ℕ, zero, suc, ◌/◌, ◌%◌, ◌^◌, ◌<◌, List, [], ◌∷◌, ◌++◌, Option, Some, None}
use Rattle.parse_machine.specs.declared.table.Symbol.{Symbol}
use Rattle.parse_machine.specs.declared.table.Symbol.TheVariants.{Word, Part, Line, Block}
use Rattle.parse_machine.specs.declared.table.Token.{Token}
use Rattle.parse_machine.specs.declared.table.Step.{Step}
use Rattle.parse_machine.specs.declared.table.Step.TheVariants.{Take, Read}
use Rattle.parse_machine.specs.declared.fault.Fault.{Fault}
use Rattle.parse_machine.specs.declared.fault.Fault.TheVariants as fault

-- a nonterminal, and what it may stand for
pub data Production : Type 0 where
  ◌⟶◌ : ℕ → List Symbol → Production

infix 20 ◌⟶◌
abbrev pub production : List Production → ℕ → Option Production
production [] n = None
production (p ∷ ps) zero = Some p
production (p ∷ ps) (suc n) = production ps n

-- production p of the grammar is n ⟶ r
abbrev pub Is : List Production → ℕ → ℕ → List Symbol → Type 0
Is g p n r = production g p ≡ Some (n ⟶ r)

-- class k is one of the set: its bit k is 1
abbrev pub Holds : ℕ → ℕ → Type 0
Holds set k = (k < 64) × ((set / 2 ^ k) % 2 ≡ 1)

-- where the next token must stand: right of the enclosing column, or in it, as the first token of a line
pub data Place : Type 0 where
  inside : Place
  leading : Place

abbrev pub Stands : Place → ℕ → Token → Type 0
Stands inside c t = c < t.column
Stands leading c t = t.column ≡ c

-- at this place under column c the symbol asks for nonterminal n, at that place under column b
pub data Calls : Place → ℕ → Symbol → ℕ → Place → ℕ → Type 0 where
  -- under the same column
  a_part : {m : Place} {c n : ℕ} → Calls m c (Part n) n m c
  -- with its first token in the enclosing column itself, and the others right of it
  a_line : {c n : ℕ} → Calls inside c (Line n) n leading c
  -- under some column right of the enclosing one
  a_block : {c n b : ℕ} → c < b → Calls inside c (Block n) n inside b

-- a derivation: the tokens that were read and the productions that were taken, each with what stands below it and what
-- stands after it
pub data Tree : Type 0 where
  leaf : Tree
  word : Token → Tree → Tree
  node : ℕ → Tree → Tree → Tree

-- the tokens of ts before rest are what the symbols ask for in turn, under the enclosing column c
pub data Derives (g : List Production) : Place → ℕ → List Symbol → Tree → List Token → List Token → Type 0 where
  nothing : {m : Place} {c : ℕ} {ts : List Token} → Derives g m c [] leaf ts ts
  a_word : {m : Place} {c k : ℕ} {t : Token} {ss : List Symbol} {x : Tree} {ts rest : List Token} →
      Holds k t.class → Stands m c t → Derives g inside c ss x ts rest →
      Derives g m c (Word k ∷ ss) (word t x) (t ∷ ts) rest
  a_node : {m l : Place} {c b n p : ℕ} {s : Symbol} {r ss : List Symbol} {x y : Tree} {ts us rest : List Token} →
      Calls m c s n l b → Is g p n r → Derives g l b r x ts us → Derives g inside c ss y us rest →
      Derives g m c (s ∷ ss) (node p x y) ts rest

-- a text of the kind that the symbols ss ask for under column c: all of its tokens have this derivation
abbrev pub Spells : List Production → List Symbol → ℕ → Tree → List Token → Type 0
Spells g ss c x ts = Derives g inside c ss x ts []

-- the productions and the tokens of a derivation: a production before what stands below it, and that before what stands
-- after it
abbrev pub steps_of : Tree → List Step
steps_of leaf = []
steps_of (word t x) = Read t ∷ steps_of x
steps_of (node p x y) = Take p ∷ steps_of x ++ steps_of y

-- the tokens that steps read
abbrev pub tokens_of : List Step → List Token
tokens_of [] = []
tokens_of (Read t ∷ steps) = t ∷ tokens_of steps
tokens_of (Take p ∷ steps) = tokens_of steps

-- the steps are those of the one derivation of the tokens
pub record IsReading (g : List Production) (ss : List Symbol) (c : ℕ) (ts : List Token)
    (steps : List Step) : Type 0 where
  pub tree : Tree
  pub spells : Spells g ss c tree ts
  pub listed : steps_of tree ≡ steps
  pub only : (other : Tree) → Spells g ss c other ts → other ≡ tree

-- the tokens have no derivation
abbrev pub IsRefused : List Production → List Symbol → ℕ → List Token → Type 0
IsRefused g ss c ts = (x : Tree) → Spells g ss c x ts → ⊥

-- a viable prefix: some text of the kind begins with these tokens
abbrev pub IsViable : List Production → List Symbol → ℕ → List Token → Type 0
IsViable g ss c front = (x : Tree) × (more : List Token) × Spells g ss c x (front ++ more)

-- front is the longest viable prefix of ts, and at is what stands after it
pub record IsLongest (g : List Production) (ss : List Symbol) (c : ℕ) (ts front at : List Token) : Type 0 where
  pub place : ts ≡ front ++ at
  pub viable : IsViable g ss c front
  pub no_further : (t : Token) (more : List Token) → at ≡ t ∷ more → IsViable g ss c (front ++ t ∷ []) → ⊥

-- the steps read front, and the derivation of each text that begins with front begins with them
pub record IsCommon (g : List Production) (ss : List Symbol) (c : ℕ) (front : List Token)
    (steps : List Step) : Type 0 where
  pub tokens : tokens_of steps ≡ front
  pub begins : (x : Tree) (more : List Token) → Spells g ss c x (front ++ more) →
      (rest : List Step) × (steps_of x ≡ steps ++ rest)

-- the place of the fault in ts is at, after the longest viable prefix; the steps are those that read this prefix
pub record IsFaultAt (g : List Production) (ss : List Symbol) (c : ℕ) (ts front at : List Token)
    (steps : List Step) : Type 0 where
  pub longest : IsLongest g ss c ts front at
  pub common : IsCommon g ss c front steps

-- the longest viable prefix of ts has this one derivation, and at is what stands after it
pub record IsFront (g : List Production) (ss : List Symbol) (c : ℕ) (ts at : List Token)
    (steps : List Step) : Type 0 where
  pub front : List Token
  pub longest : IsLongest g ss c ts front at
  pub reading : IsReading g ss c front steps

-- what a fault says where all of the tokens were to be read
abbrev pub IsFault : List Production → List Symbol → ℕ → List Token → Fault → Type 0
IsFault g ss c ts fault.Memory = Unit {0}
IsFault g ss c ts (fault.At at steps) =
    (front : List Token) × IsFaultAt g ss c ts front at.now steps.items × IsRefused g ss c ts

-- what a fault says where their longest viable prefix was to be read
abbrev pub IsFrontFault : List Production → List Symbol → ℕ → List Token → Fault → Type 0
IsFrontFault g ss c ts fault.Memory = Unit {0}
IsFrontFault g ss c ts (fault.At at steps) =
    (front : List Token) × IsFaultAt g ss c ts front at.now steps.items × IsRefused g ss c front

-- the fault has these tokens and these steps
abbrev pub HasFault : Fault → List Token → List Step → Type 0
HasFault fault.Memory ts steps = ⊥
HasFault (fault.At at taken) ts steps = (at.now ≡ ts) × (taken.items ≡ steps)
