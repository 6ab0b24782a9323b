-- When one token decides: what a table of choices must be for a grammar.
use Rattle.std.specs.Prelude.{◌≡◌, ℕ, ◌<◌, Bool, true, cond, nat_lt, nat_eq, List, [], ◌∷◌, Option, Some, None, ◌⊎◌}
use Rattle.parse_machine.specs.declared.table.Symbol.{Symbol}
use Rattle.parse_machine.specs.declared.table.Symbol.TheVariants.{Word, Part, Line, Block}
use Rattle.parse_machine.specs.declared.table.Token.{Token}
use Rattle.parse_machine.specs.Grammar.{Production, Is, Holds, Place, inside, leading, Stands}

-- how the next token looks from a column: of a class and where it may be read, of a class and in the column itself, or
-- neither
pub data Look : Type 0 where
  beyond : ℕ → Look
  level : ℕ → Look
  outside : Look

abbrev pub look : Place → ℕ → Token → Look
look inside c t = cond (nat_lt c t.column) (beyond t.class) (cond (nat_eq t.column c) (level t.class) outside)
look leading c t = cond (nat_eq t.column c) (beyond t.class) outside

pub record Plan : Type 0 where
  -- the production that begins so
  pub takes : ℕ → Look → Option ℕ
  -- the production with nothing in it
  pub empty : ℕ → Option ℕ
  -- what may come after it
  pub follows : ℕ → Look → Bool
  -- it begins with a token of its own column
  pub plain : ℕ → Bool
  -- falls from a nonterminal to the first one of each of its productions
  pub rank : ℕ → ℕ
  -- a production that ends
  pub short : ℕ → ℕ
  -- falls from a nonterminal to those of that production
  pub height : ℕ → ℕ

-- a token that looks so may begin the symbol
abbrev pub Opens : Plan → Symbol → Look → Type 0
Opens P (Word set) l = (k : ℕ) × (l ≡ beyond k) × Holds set k
Opens P (Part n) l = (p : ℕ) × (P.takes n l ≡ Some p)
Opens P (Line n) l = (k : ℕ) × (l ≡ level k) × (p : ℕ) × (P.takes n (beyond k) ≡ Some p)
Opens P (Block n) l = (k : ℕ) × (l ≡ beyond k) × (p : ℕ) × (P.takes n (level k) ≡ Some p)

-- the symbol takes at least one token
abbrev pub Full : Plan → Symbol → Type 0
Full P (Word k) = Unit {0}
Full P (Part n) = P.empty n ≡ None
Full P (Line n) = P.empty n ≡ None
Full P (Block n) = P.empty n ≡ None

abbrev pub Vanishes : Plan → Symbol → Type 0
Vanishes P (Part n) = (p : ℕ) × (P.empty n ≡ Some p)
Vanishes P _ = ⊥

abbrev pub Follows : Plan → ℕ → Look → Type 0
Follows P n outside = Unit {0}
Follows P n l = P.follows n l ≡ true

-- a token that looks so may come after these last symbols of a production of n
abbrev pub After : Plan → ℕ → List Symbol → Look → Type 0
After P n [] l = Follows P n l
After P n (s ∷ ss) l = Opens P s l ⊎ (Vanishes P s × After P n ss l)

-- a token that looks so may come after the symbol
abbrev pub Precedes : Plan → Symbol → Look → Type 0
Precedes P (Word k) l = Unit {0}
Precedes P (Part n) l = Follows P n l
Precedes P (Line n) l = Follows P n l
Precedes P (Block n) (beyond k) = Follows P n (beyond k) × Follows P n (level k)
Precedes P (Block n) l = Unit {0}

abbrev pub Lower : Plan → ℕ → Symbol → Type 0
Lower P h (Word k) = Unit {0}
Lower P h (Part n) = P.height n < h
Lower P h (Line n) = P.height n < h
Lower P h (Block n) = P.height n < h

abbrev pub Ranked : Plan → ℕ → Symbol → Type 0
Ranked P h (Word k) = Unit {0}
Ranked P h (Part n) = P.rank n < h
Ranked P h (Line n) = P.rank n < h
Ranked P h (Block n) = P.rank n < h

abbrev pub AllLower : Plan → ℕ → List Symbol → Type 0
AllLower P h [] = Unit {0}
AllLower P h (s ∷ ss) = Lower P h s × AllLower P h ss

-- some derivation of the nonterminal ends
abbrev pub Ends : List Production → Plan → ℕ → Type 0
Ends g P n = (r : List Symbol) × Is g (P.short n) n r × AllLower P (P.height n) r

abbrev pub Fits : List Production → Plan → Symbol → Type 0
Fits g P (Word set) = (k : ℕ) × Holds set k
Fits g P (Part n) = Ends g P n
Fits g P (Line n) = Ends g P n × (P.plain n ≡ true) × (P.empty n ≡ None)
Fits g P (Block n) = Ends g P n × (P.empty n ≡ None) × ((k : ℕ) → P.takes n (beyond k) ≡ None)

-- at this place the symbols begin as they must
abbrev pub Starts : Plan → Place → List Symbol → Type 0
Starts P inside ss = Unit {0}
Starts P leading (Word k ∷ ss) = Unit {0}
Starts P leading (Part n ∷ ss) = P.plain n ≡ true
Starts P leading _ = ⊥

abbrev pub Orderly : List Production → Plan → ℕ → List Symbol → Type 0
Orderly g P n [] = Unit {0}
Orderly g P n (s ∷ ss) = Fits g P s × ((l : Look) → After P n ss l → Precedes P s l) × Orderly g P n ss

-- one token decides
pub record IsPlanned (g : List Production) (P : Plan) : Type 0 where
  pub opening : (p n : ℕ) (s : Symbol) (ss : List Symbol) (l : Look) → Is g p n (s ∷ ss) → Opens P s l →
      P.takes n l ≡ Some p
  pub opened : (p n : ℕ) (s : Symbol) (ss : List Symbol) (l : Look) → Is g p n (s ∷ ss) → P.takes n l ≡ Some p →
      Opens P s l
  pub vanishing : (p n : ℕ) → Is g p n [] → P.empty n ≡ Some p
  pub firm : (p n : ℕ) (s : Symbol) (ss : List Symbol) → Is g p n (s ∷ ss) → Full P s
  pub taken : (n p : ℕ) (l : Look) → P.takes n l ≡ Some p → (s : Symbol) × (ss : List Symbol) × Is g p n (s ∷ ss)
  pub vanished : (n p : ℕ) → P.empty n ≡ Some p → Is g p n []
  pub nowhere : (n : ℕ) → P.takes n outside ≡ None
  pub apart : (n p : ℕ) (l : Look) → P.empty n ≡ Some p → Follows P n l → P.takes n l ≡ None
  pub plainly : (p n : ℕ) (r : List Symbol) → Is g p n r → P.plain n ≡ true → Starts P leading r
  pub orderly : (p n : ℕ) (r : List Symbol) → Is g p n r → Orderly g P n r
  pub falling : (p n : ℕ) (s : Symbol) (ss : List Symbol) → Is g p n (s ∷ ss) → Ranked P (P.rank n) s

-- what the machine does at a symbol that is no word: a production, and the place and the column of what it stands for
pub data Choice : Type 0 where
  choice : ℕ → Place → ℕ → Choice

abbrev pub chosen : Place → ℕ → Option ℕ → Option Choice
chosen m c (Some p) = Some (choice p m c)
chosen m c None = None

abbrev pub or_else : Option ℕ → Option ℕ → Option ℕ
or_else (Some p) o = Some p
or_else None o = o

abbrev pub select : Plan → Symbol → Place → ℕ → List Token → Option Choice
select P (Part n) m c [] = chosen m c (P.empty n)
select P (Part n) m c (t ∷ ts) = chosen m c (or_else (P.takes n (look m c t)) (P.empty n))
select P (Line n) inside c (t ∷ ts) = cond (nat_eq t.column c) (chosen leading c (P.takes n (beyond t.class))) None
select P (Block n) inside c (t ∷ ts) =
    cond (nat_lt c t.column) (chosen inside t.column (P.takes n (level t.class))) None
select P _ m c ts = None

abbrev pub IsNoWord : Symbol → Type 0
IsNoWord (Word k) = ⊥
IsNoWord _ = Unit {0}

-- the first token is t, of a class of the set, and stands where it must, and the others are rest
abbrev pub WordAt : Place → ℕ → ℕ → List Token → Token → List Token → Type 0
WordAt m c set ts t rest = (ts ≡ t ∷ rest) × Holds set t.class × Stands m c t
