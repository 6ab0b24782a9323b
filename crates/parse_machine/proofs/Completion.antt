-- What is still to be read can be completed.
use Rattle.std.proofs.Common.{◌≡◌, ℕ, zero, suc, ◌≤◌, List, [], ◌∷◌, refl, ap, arith}
use Rattle.parse_machine.specs.declared.table.Symbol.{Symbol}
use Rattle.parse_machine.specs.declared.table.Symbol.TheVariants.{Word, Part, Line, Block}
use Rattle.parse_machine.specs.declared.table.Token.{Token}
use Rattle.parse_machine.specs.Grammar.{Production, Is, Holds, Place, inside, leading, Calls, a_part, a_line, a_block}
use Rattle.parse_machine.specs.Grammar.{Tree, leaf, word, node}
use Rattle.parse_machine.specs.Plan.{Plan, Fits, Starts, Orderly, IsPlanned, Lower, AllLower}
use Rattle.parse_machine.proofs.Stack.{Frame, frame, Reads, finished, closed, a_word, a_node, trees_of}
use Rattle.parse_machine.proofs.Opening.{Good, Sits}

-- some tokens are what the stack asks for
pub record Completed (g : List Production) (S : List Frame) : Type 0 where
  pub trees : List Tree
  pub tokens : List Token
  pub reads : Reads g S trees tokens

token_at : Place → ℕ → ℕ → Token
token_at inside c k = record { class = k; column = suc c; index = 0 }
token_at leading c k = record { class = k; column = c; index = 0 }

by_word : (g : List Production) (m : Place) (c set k : ℕ) → Holds set k → (ss : List Symbol) (S : List Frame) →
    Completed g (frame ss c inside ∷ S) → Completed g (frame (Word set ∷ ss) c m ∷ S)
unfolding token_at
by_word g inside c set k w ss S h = go h.trees h.tokens h.reads
  where
    go : (xs : List Tree) (ts : List Token) → Reads g (frame ss c inside ∷ S) xs ts →
        Completed g (frame (Word set ∷ ss) c inside ∷ S)
    go (x ∷ xs) ts d = record {
      trees = word (token_at inside c k) x ∷ xs;
      tokens = token_at inside c k ∷ ts;
      reads =
          a_word w (omega arith) d;
    }
    go [] ts d = absurd (let e = trees_of g (frame ss c inside ∷ S) [] ts d in omega arith)
by_word g leading c set k w ss S h = go h.trees h.tokens h.reads
  where
    go : (xs : List Tree) (ts : List Token) → Reads g (frame ss c inside ∷ S) xs ts →
        Completed g (frame (Word set ∷ ss) c leading ∷ S)
    go (x ∷ xs) ts d = record {
      trees = word (token_at leading c k) x ∷ xs;
      tokens =
          token_at leading c k ∷ ts;
      reads = a_word w refl d;
    }
    go [] ts d = absurd (let e = trees_of g (frame ss c inside ∷ S) [] ts d in omega arith)

by_node : (g : List Production) (m l : Place) (c b n p : ℕ) (s : Symbol) (r ss : List Symbol) (S : List Frame) →
    Calls m c s n l b → Is g p n r →
    Completed g (frame r b l ∷ frame ss c inside ∷ S) → Completed g (frame (s ∷ ss) c m ∷ S)
by_node g m l c b n p s r ss S k i h = go h.trees h.tokens h.reads
  where
    go : (xs : List Tree) (ts : List Token) → Reads g (frame r b l ∷ frame ss c inside ∷ S) xs ts →
        Completed g (frame (s ∷ ss) c m ∷ S)
    go (x ∷ y ∷ xs) ts d = record { trees = node p x y ∷ xs; tokens = ts; reads = a_node k i d }
    go (x ∷ []) ts d = absurd (let e = trees_of g (frame r b l ∷ frame ss c inside ∷ S) (x ∷ []) ts d in omega arith)
    go [] ts d = absurd (let e = trees_of g (frame r b l ∷ frame ss c inside ∷ S) [] ts d in omega arith)

-- one symbol, where what follows it is completed
abbrev pub Completes : List Production → Plan → Symbol → Type 0
Completes g P s =
    (m : Place) (c : ℕ) (ss : List Symbol) (S : List Frame) → Starts P m (s ∷ ss) →
    Completed g (frame ss c inside ∷ S) → Completed g (frame (s ∷ ss) c m ∷ S)

abbrev pub AllComplete : List Production → Plan → List Symbol → Type 0
AllComplete g P [] = Unit {0}
AllComplete g P (s ∷ ss) = Completes g P s × AllComplete g P ss

closing : (g : List Production) (c : ℕ) (m : Place) (S : List Frame) → Completed g S → Completed g (frame [] c m ∷ S)
closing g c m S h = record { trees = leaf ∷ h.trees; tokens = h.tokens; reads = closed h.reads }

all_symbols : (g : List Production) (P : Plan) (ss : List Symbol) (m : Place) (c : ℕ) (S : List Frame) →
    AllComplete g P ss → Starts P m ss → Completed g S → Completed g (frame ss c m ∷ S)
all_symbols g P [] m c S a h d = closing g c m S d
all_symbols g P (s ∷ ss) m c S a h d = a.0 m c ss S h (all_symbols g P ss inside c S a.1 tt d)

-- a nonterminal whose short production is completed
called : (g : List Production) (P : Plan) → IsPlanned g P → (s : Symbol) (n : ℕ) (r : List Symbol) →
    Is g (P.short n) n r → AllComplete g P r →
    (m l : Place) (c b : ℕ) (ss : List Symbol) (S : List Frame) → Calls m c s n l b → Starts P l r →
    Completed g (frame ss c inside ∷ S) → Completed g (frame (s ∷ ss) c m ∷ S)
called g P C s n r i a m l c b ss S k h d =
    by_node g m l c b n (P.short n) s r ss S k i (all_symbols g P r l b (frame ss c inside ∷ S) a h d)

abbrev pub Asks : Symbol → ℕ → Type 0
Asks (Word k) n = ⊥
Asks (Part m) n = m ≡ n
Asks (Line m) n = m ≡ n
Asks (Block m) n = m ≡ n

lower_asked : (P : Plan) (k : ℕ) (s : Symbol) (n : ℕ) → Lower P (suc k) s → Asks s n → P.height n ≤ k
lower_asked P k (Word j) n l a = absurd a
lower_asked P k (Part m) n l a = let e : P.height m ≡ P.height n = ap P.height a in omega arith
lower_asked P k (Line m) n l a = let e : P.height m ≡ P.height n = ap P.height a in omega arith
lower_asked P k (Block m) n l a = let e : P.height m ≡ P.height n = ap P.height a in omega arith

by_short : (g : List Production) (P : Plan) → IsPlanned g P → (s : Symbol) → Fits g P s →
    ((n : ℕ) (r : List Symbol) → Is g (P.short n) n r → AllLower P (P.height n) r → Asks s n → AllComplete g P r) →
    Completes g P s
by_short g P C (Word set) f h = λ m c ss S st d. by_word g m c set f.0 f.1 ss S d
by_short g P C (Part n) f h = go
  where
    all : AllComplete g P f.0
    all = h n f.0 f.1 f.2 refl

    go : Completes g P (Part n)
    go inside c ss S st d = called g P C (Part n) n f.0 f.1 all inside inside c c ss S a_part tt d
    go leading c ss S st d =
        called g P C (Part n) n f.0 f.1 all leading leading c c ss S a_part (C.plainly (P.short n) n f.0 f.1 st) d
by_short g P C (Line n) f h = go
  where
    all : AllComplete g P f.0.0
    all = h n f.0.0 f.0.1 f.0.2 refl

    go : Completes g P (Line n)
    go inside c ss S st d =
        called g P C (Line n) n f.0.0 f.0.1 all inside leading c c ss S a_line
        (C.plainly (P.short n) n f.0.0 f.0.1 f.1) d
    go leading c ss S st d = absurd st
by_short g P C (Block n) f h = go
  where
    all : AllComplete g P f.0.0
    all = h n f.0.0 f.0.1 f.0.2 refl

    go : Completes g P (Block n)
    go inside c ss S st d =
        called g P C (Block n) n f.0.0 f.0.1 all inside inside c (suc c) ss S (a_block (omega arith)) tt d
    go leading c ss S st d = absurd st

abbrev pub AllFit : List Production → Plan → List Symbol → Type 0
AllFit g P [] = Unit {0}
AllFit g P (s ∷ ss) = Fits g P s × AllFit g P ss

fit_all : (g : List Production) (P : Plan) (n : ℕ) (ss : List Symbol) → Orderly g P n ss → AllFit g P ss
fit_all g P n [] o = tt
fit_all g P n (s ∷ ss) o = (o.0, fit_all g P n ss o.2)

lower_all : (g : List Production) (P : Plan) (h k : ℕ) → h ≤ k →
    ((s : Symbol) → Fits g P s → Lower P k s → Completes g P s) → (ss : List Symbol) → AllFit g P ss →
    AllLower P h ss → AllComplete g P ss
lower_all g P h k le f [] a l = tt
lower_all g P h k le f (s ∷ ss) a l = (f s a.0 (raise s l.0), lower_all g P h k le f ss a.1 l.1)
  where
    raise : (s : Symbol) → Lower P h s → Lower P k s
    raise (Word j) x = tt
    raise (Part n) x = omega arith
    raise (Line n) x = omega arith
    raise (Block n) x = omega arith

-- by the height
completes_below : (g : List Production) (P : Plan) → IsPlanned g P → (k : ℕ) (s : Symbol) → Fits g P s → Lower P k s →
    Completes g P s
completes_below g P C zero (Word j) f l = by_short g P C (Word j) f (λ n r i a w. absurd w)
completes_below g P C zero (Part n) f l = absurd (omega arith)
completes_below g P C zero (Line n) f l = absurd (omega arith)
completes_below g P C zero (Block n) f l = absurd (omega arith)
completes_below g P C (suc k) s f l =
    by_short g P C s f
    (λ n r i a w. lower_all g P (P.height n) k (lower_asked P k s n l w) (completes_below g P C k) r
    (fit_all g P n r (C.orderly (P.short n) n r i)) a)

pub completes : (g : List Production) (P : Plan) → IsPlanned g P → (s : Symbol) → Fits g P s → Completes g P s
completes g P C (Word j) f = completes_below g P C 0 (Word j) f tt
completes g P C (Part n) f = completes_below g P C (suc (P.height n)) (Part n) f (omega arith)
completes g P C (Line n) f = completes_below g P C (suc (P.height n)) (Line n) f (omega arith)
completes g P C (Block n) f = completes_below g P C (suc (P.height n)) (Block n) f (omega arith)

complete_sitting : (g : List Production) (P : Plan) → IsPlanned g P → (c : ℕ) (S : List Frame) (ss : List Symbol) →
    Sits g P c S ss → AllComplete g P ss
complete_sitting g P C c S [] h = tt
complete_sitting g P C c S (s ∷ ss) h = (completes g P C s h.0, complete_sitting g P C c S ss h.2)

pub completed : (g : List Production) (P : Plan) → IsPlanned g P → (S : List Frame) → Good g P S → Completed g S
completed g P C [] h = record { trees = []; tokens = []; reads = finished }
completed g P C (frame ss c m ∷ S) h =
    all_symbols g P ss m c S (complete_sitting g P C c S ss h.1) h.0 (completed g P C S h.2)
