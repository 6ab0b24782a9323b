-- Derivations as a stack machine goes through them.
use Rattle.std.proofs.Common.{◌≡◌, ℕ, suc, List, [], ◌∷◌, refl, ap, length, arith}
use Rattle.parse_machine.specs.declared.table.Symbol.{Symbol}
use Rattle.parse_machine.specs.declared.table.Symbol.TheVariants.{Word}
use Rattle.parse_machine.specs.declared.table.Token.{Token}
use Rattle.parse_machine.specs.Grammar.{Production, Is, Holds, Place, inside, leading, Stands, Calls, Tree, leaf, word}
use Rattle.parse_machine.specs.Grammar.{node, Derives, nothing, Spells, steps_of}
use Rattle.parse_machine.specs.Grammar as grammar

-- what is still to be read, under which column, and where its first token must stand
pub data Frame : Type 0 where
  frame : List Symbol → ℕ → Place → Frame

-- the tokens are what the frames ask for in turn; a tree for each
pub data Reads (g : List Production) : List Frame → List Tree → List Token → Type 0 where
  finished : Reads g [] [] []
  closed : {m : Place} {c : ℕ} {S : List Frame} {xs : List Tree} {ts : List Token} → Reads g S xs ts →
      Reads g (frame [] c m ∷ S) (leaf ∷ xs) ts
  a_word : {m : Place} {c k : ℕ} {t : Token} {ss : List Symbol} {S : List Frame} {x : Tree} {xs : List Tree}
      {ts : List Token} →
      Holds k t.class → Stands m c t → Reads g (frame ss c inside ∷ S) (x ∷ xs) ts →
      Reads g (frame (Word k ∷ ss) c m ∷ S) (word t x ∷ xs) (t ∷ ts)
  a_node : {m l : Place} {c b n p : ℕ} {s : Symbol} {r ss : List Symbol} {S : List Frame} {x y : Tree}
      {xs : List Tree} {ts : List Token} →
      Calls m c s n l b → Is g p n r → Reads g (frame r b l ∷ frame ss c inside ∷ S) (x ∷ y ∷ xs) ts →
      Reads g (frame (s ∷ ss) c m ∷ S) (node p x y ∷ xs) ts

pub onto : {g : List Production} {m : Place} {c : ℕ} {ss : List Symbol} {x : Tree} {ts rest : List Token}
    {S : List Frame} {xs : List Tree} →
    Derives g m c ss x ts rest → Reads g S xs rest → Reads g (frame ss c m ∷ S) (x ∷ xs) ts
onto nothing h = closed h
onto (grammar.a_word e s d) h = a_word e s (onto d h)
onto (grammar.a_node k i d f) h = a_node k i (onto d (onto f h))

-- a derivation for each frame
pub data Each (g : List Production) : List Frame → List Tree → List Token → Type 0 where
  none : Each g [] [] []
  one : {m : Place} {c : ℕ} {ss : List Symbol} {x : Tree} {S : List Frame} {xs : List Tree} {ts rest : List Token} →
      Derives g m c ss x ts rest → Each g S xs rest → Each g (frame ss c m ∷ S) (x ∷ xs) ts

below : {g : List Production} {m l : Place} {c b n p : ℕ} {s : Symbol} {r ss : List Symbol} {S : List Frame}
    {x y : Tree} {xs : List Tree} {ts : List Token} →
    Calls m c s n l b → Is g p n r → Each g (frame r b l ∷ frame ss c inside ∷ S) (x ∷ y ∷ xs) ts →
    Each g (frame (s ∷ ss) c m ∷ S) (node p x y ∷ xs) ts
below k i (one d (one e h)) = one (grammar.a_node k i d e) h

onward : {g : List Production} {m : Place} {c k : ℕ} {t : Token} {ss : List Symbol} {S : List Frame} {x : Tree}
    {xs : List Tree} {ts : List Token} →
    Holds k t.class → Stands m c t → Each g (frame ss c inside ∷ S) (x ∷ xs) ts →
    Each g (frame (Word k ∷ ss) c m ∷ S) (word t x ∷ xs) (t ∷ ts)
onward e s (one d h) = one (grammar.a_word e s d) h

pub split : {g : List Production} {S : List Frame} {xs : List Tree} {ts : List Token} → Reads g S xs ts → Each g S xs ts
split finished = none
split (closed h) = one nothing (split h)
split (a_word e s h) = onward e s (split h)
split (a_node k i h) = below k i (split h)

join : {g : List Production} {S : List Frame} {xs : List Tree} {ts : List Token} → Each g S xs ts → Reads g S xs ts
join none = finished
join (one d h) = onto d (join h)

-- what the top frame reads, and what the others read after it
pub record Apart (g : List Production) (ss : List Symbol) (c : ℕ) (m : Place) (S : List Frame) (xs : List Tree)
    (ts : List Token) : Type 0 where
  pub x : Tree
  pub others : List Tree
  pub rest : List Token
  pub trees : xs ≡ x ∷ others
  pub derives : Derives g m c ss x ts rest
  pub reads : Reads g S others rest

apart_of : {g : List Production} {ss : List Symbol} {c : ℕ} {m : Place} {S : List Frame} {xs : List Tree}
    {ts : List Token} → Each g (frame ss c m ∷ S) xs ts → Apart g ss c m S xs ts
apart_of (one {x = x} {xs = xs} {rest = rest} d h) = record {
  x = x;
  others = xs;
  rest = rest;
  trees = refl;
  derives =
      d;
  reads = join h;
}

pub apart : {g : List Production} {ss : List Symbol} {c : ℕ} {m : Place} {S : List Frame} {xs : List Tree}
    {ts : List Token} → Reads g (frame ss c m ∷ S) xs ts → Apart g ss c m S xs ts
apart d = apart_of (split d)

-- the stack of the whole text
abbrev pub start : List Symbol → ℕ → List Frame
start ss c = frame ss c inside ∷ []

pub reads_of : {g : List Production} {ss : List Symbol} {c : ℕ} {x : Tree} {ts : List Token} → Spells g ss c x ts →
    Reads g (start ss c) (x ∷ []) ts
reads_of d = onto d finished

at_end : {g : List Production} {ss : List Symbol} {c : ℕ} {x : Tree} {ts : List Token} →
    Each g (start ss c) (x ∷ []) ts → Spells g ss c x ts
at_end (one d none) = d

pub spelled : {g : List Production} {ss : List Symbol} {c : ℕ} {x : Tree} {ts : List Token} →
    Reads g (start ss c) (x ∷ []) ts → Spells g ss c x ts
spelled h = at_end (split h)

-- there is a tree for each frame
pub trees_of : (g : List Production) (S : List Frame) (xs : List Tree) (ts : List Token) → Reads g S xs ts →
    length xs ≡ length S
trees_of g S xs ts finished = refl
trees_of g S xs ts (closed d) = ap suc (trees_of g _ _ _ d)
trees_of g S xs ts (a_word e s d) = trees_of g _ _ _ d
trees_of g S xs ts (a_node k i d) = let e = trees_of g _ _ _ d in omega arith
