-- Where one token decides, it tells which production stands in a derivation.
use Rattle.std.proofs.Common.{◌≡◌, ℕ, ◌<◌, ◌≤◌, Bool, true, false, cond, nat_lt, nat_eq, List, [], ◌∷◌, Some, None, inl}
use Rattle.std.proofs.Common.{inr, refl, subst, arith}
use Rattle.std.proofs.lemmas.Bool.Decides.{nat_tests}
use Rattle.parse_machine.specs.declared.table.Symbol.{Symbol}
use Rattle.parse_machine.specs.declared.table.Symbol.TheVariants.{Part, Line, Block}
use Rattle.parse_machine.specs.declared.table.Token.{Token}
use Rattle.parse_machine.specs.Grammar.{Production, Is, Place, inside, leading, Stands, Calls, a_part, a_line, a_block}
use Rattle.parse_machine.specs.Grammar.{Tree}
use Rattle.parse_machine.specs.Plan.{Look, beyond, level, outside, look, Plan, Opens, Full, Vanishes, Follows, After}
use Rattle.parse_machine.specs.Plan.{Precedes, Fits, Starts, Orderly, IsPlanned}
use Rattle.parse_machine.proofs.Stack.{Frame, frame, Reads, closed, a_word, a_node}

pub lt_true : (a b : ℕ) → nat_lt a b ≡ true → a < b
lt_true a b e = grind (arith, nat_tests)

pub true_lt : (a b : ℕ) → a < b → nat_lt a b ≡ true
true_lt a b e = grind (arith, nat_tests)

not_lt : (a b : ℕ) → b ≤ a → nat_lt a b ≡ false
not_lt a b e = grind (arith, nat_tests)

pub eq_true : (a b : ℕ) → nat_eq a b ≡ true → a ≡ b
eq_true a b e = grind (arith, nat_tests)

pub true_eq : (a b : ℕ) → a ≡ b → nat_eq a b ≡ true
true_eq a b e = grind (arith, nat_tests)

pub not_eq : (a b : ℕ) → (a ≡ b → ⊥) → nat_eq a b ≡ false
not_eq a b e = grind (arith, nat_tests)

-- ---- how a token looks

pub is_inside : (c : ℕ) (t : Token) → c < t.column → look inside c t ≡ beyond t.class
is_inside c t h = rw (true_lt c t.column h)

pub is_level : (c : ℕ) (t : Token) → t.column ≡ c → look inside c t ≡ level t.class
is_level c t e = rw (not_lt c t.column (omega arith), true_eq t.column c e)

pub is_leading : (c : ℕ) (t : Token) → t.column ≡ c → look leading c t ≡ beyond t.class
is_leading c t e = rw (true_eq t.column c e)

pub is_outside : (c : ℕ) (t : Token) → t.column < c → look inside c t ≡ outside
is_outside c t h = rw (not_lt c t.column (omega arith), not_eq t.column c (λ e. omega arith))

pub stands : (m : Place) (c : ℕ) (t : Token) → Stands m c t → look m c t ≡ beyond t.class
stands inside c t h = is_inside c t h
stands leading c t h = is_leading c t h

-- the three ways in which a token looks, each with what it says
pub data Seen : Place → ℕ → Token → Look → Type 0 where
  seen_beyond : {m : Place} {c : ℕ} {t : Token} → Stands m c t → Seen m c t (beyond t.class)
  seen_level : {c : ℕ} {t : Token} → t.column ≡ c → Seen inside c t (level t.class)
  seen_outside : {m : Place} {c : ℕ} {t : Token} → Seen m c t outside

pub seen : (m : Place) (c : ℕ) (t : Token) → Seen m c t (look m c t)
seen inside c t = go (nat_lt c t.column) (nat_eq t.column c) refl refl
  where
    go : (a b : Bool) → nat_lt c t.column ≡ a → nat_eq t.column c ≡ b →
        Seen inside c t (cond a (beyond t.class) (cond b (level t.class) outside))
    go true b p q = seen_beyond (lt_true c t.column p)
    go false true p q = seen_level (eq_true t.column c q)
    go false false p q = seen_outside
seen leading c t = go (nat_eq t.column c) refl
  where
    go : (b : Bool) → nat_eq t.column c ≡ b → Seen leading c t (cond b (beyond t.class) outside)
    go true q = seen_beyond (eq_true t.column c q)
    go false q = seen_outside

-- ---- which production

-- a call whose nonterminal takes the token: the symbol opens with it
pub call_opens : (g : List Production) (P : Plan) → IsPlanned g P → {m l : Place} {c b n : ℕ} {s : Symbol} →
    (t : Token) (p : ℕ) →
    Calls m c s n l b → Fits g P s → P.takes n (look l b t) ≡ Some p → Opens P s (look m c t)
call_opens g P C t p a_part f e = (p, e)
call_opens g P C t p (a_line {c = c} {n = n}) f e = go (look leading c t) refl (seen leading c t)
  where
    go : (l : Look) → look leading c t ≡ l → Seen leading c t l → Opens P (Line n) (look inside c t)
    go (beyond k) q (seen_beyond h) =
        (t.class, is_level c t h, p, subst (λ x. P.takes n x ≡ Some p) (is_leading c t h) e)
    go outside q seen_outside = absurd (let w : P.takes n outside ≡ Some p =
        subst (λ x. P.takes n x ≡ Some p) q e in let v = C.nowhere n in cc)
    go (level k) q x = elim x [ ]
call_opens g P C t p (a_block {c = c} {n = n} {b = b} h) f e = go (look inside b t) refl (seen inside b t)
  where
    go : (l : Look) → look inside b t ≡ l → Seen inside b t l → Opens P (Block n) (look inside c t)
    go (beyond k) q (seen_beyond w) = absurd (let w : P.takes n (beyond t.class) ≡ Some p =
        subst (λ x. P.takes n x ≡ Some p) q e in let v = f.2 t.class in cc)
    go (level k) q (seen_level w) = (t.class, is_inside c t (omega arith), p, subst (λ x. P.takes n x ≡ Some p) q e)
    go outside q seen_outside = absurd (let w : P.takes n outside ≡ Some p =
        subst (λ x. P.takes n x ≡ Some p) q e in let v = C.nowhere n in cc)

pub call_full : (P : Plan) {m l : Place} {c b n : ℕ} {s : Symbol} → Calls m c s n l b → Full P s → P.empty n ≡ None
call_full P a_part f = f
call_full P a_line f = f
call_full P (a_block h) f = f

abbrev pub OpensAt : Plan → Symbol → Place → ℕ → List Token → Type 0
OpensAt P s m c [] = ⊥
OpensAt P s m c (t ∷ ts) = Opens P s (look m c t)

by_call : (g : List Production) (P : Plan) → IsPlanned g P → {m l : Place} {c b n : ℕ} {s : Symbol} →
    (s2 : Symbol) (r : List Symbol) (p : ℕ) (ts : List Token) →
    Calls m c s n l b → Fits g P s → Is g p n (s2 ∷ r) → OpensAt P s2 l b ts → OpensAt P s m c ts
by_call g P C s2 r p [] k f i o = o
by_call g P C {n = n} s2 r p (t ∷ ts) k f i o = call_opens g P C t p k f (C.opening p n s2 r _ i o)

not_empty : (g : List Production) (P : Plan) → IsPlanned g P → {m l : Place} {c b n : ℕ} {s : Symbol} → (p : ℕ) →
    Calls m c s n l b → Full P s → Is g p n [] → ⊥
not_empty g P C {n = n} p k f i = let a = C.vanishing p n i in let b = call_full P k f in cc

-- a full symbol begins with the next token
pub opens : (g : List Production) (P : Plan) → IsPlanned g P →
    {m : Place} {c : ℕ} {s : Symbol} {ss : List Symbol} {S : List Frame} {xs : List Tree} {ts : List Token} →
    Full P s → Fits g P s → Reads g (frame (s ∷ ss) c m ∷ S) xs ts → OpensAt P s m c ts
opens g P C f fits (a_word {m = m} {c = c} {t = t} e st h) = (t.class, stands m c t st, e)
opens g P C f fits (a_node {p = p} {r = []} k i h) = absurd (not_empty g P C p k f i)
opens g P C f fits (a_node {n = n} {p = p} {r = s2 ∷ r} {ts = ts} k i h) =
    by_call g P C s2 r p ts k fits i (opens g P C (C.firm p n s2 r i) (C.orderly p n (s2 ∷ r) i).0 h)

-- ---- what may come after

-- what the frames may begin with, after nonterminal n
abbrev pub NextFollows : List Production → Plan → ℕ → List Frame → ℕ → Type 0
NextFollows g P c S n =
    (xs : List Tree) (t : Token) (ts : List Token) → Reads g S xs (t ∷ ts) → Follows P n (look inside c t)

-- the symbols and what they are followed by are as they must be
abbrev pub Sits : List Production → Plan → ℕ → List Frame → List Symbol → Type 0
Sits g P c S [] = Unit {0}
Sits g P c S (s ∷ ss) =
    Fits g P s ×
    ((xs : List Tree) (t : Token) (ts : List Token) → Reads g (frame ss c inside ∷ S) xs (t ∷ ts) →
    Precedes P s (look inside c t)) × Sits g P c S ss

abbrev pub Good : List Production → Plan → List Frame → Type 0
Good g P [] = Unit {0}
Good g P (frame ss c m ∷ S) = Starts P m ss × Sits g P c S ss × Good g P S

full_if : (P : Plan) {m l : Place} {c b n : ℕ} {s : Symbol} → Calls m c s n l b → P.empty n ≡ None → Full P s
full_if P a_part e = e
full_if P a_line e = e
full_if P (a_block h) e = e

-- a call that can take nothing is a part
data IsPart : Symbol → ℕ → Type 0 where
  is_part : {n : ℕ} → IsPart (Part n) n

part_or : (g : List Production) (P : Plan) {m l : Place} {c b n : ℕ} {s : Symbol} → Calls m c s n l b → Fits g P s →
    (p : ℕ) → P.empty n ≡ Some p → IsPart s n
part_or g P a_part f p e = is_part
part_or g P a_line f p e = absurd (let w = f.2 in cc)
part_or g P (a_block h) f p e = absurd (let w = f.1 in cc)

vanishes : (P : Plan) {s : Symbol} {n : ℕ} → IsPart s n → (p : ℕ) → P.empty n ≡ Some p → Vanishes P s
vanishes P is_part p e = (p, e)

-- a token that comes after some last symbols of a production
pub after : (g : List Production) (P : Plan) → IsPlanned g P →
    (n : ℕ) (ss : List Symbol) (c : ℕ) (S : List Frame) (xs : List Tree) (t : Token) (ts : List Token) →
    Orderly g P n ss → NextFollows g P c S n → Reads g (frame ss c inside ∷ S) xs (t ∷ ts) →
    After P n ss (look inside c t)
after g P C n [] c S xs t ts o h (closed d) = h _ t ts d
after g P C n (s ∷ ss) c S xs t ts o h (a_word e st d) = inl (t.class, is_inside c t st, e)
after g P C n (s ∷ ss) c S xs t ts o h (a_node {n = k} {p = p} {r = s2 ∷ r} call i d) =
    inl (by_call g P C s2 r p (t ∷ ts) call o.0 i (opens g P C (C.firm p k s2 r i) (C.orderly p k (s2 ∷ r) i).0 d))
after g P C n (s ∷ ss) c S xs t ts o h (a_node {n = k} {p = p} {r = []} call i (closed d)) =
    let e = C.vanishing p k i in
    inr (vanishes P (part_or g P call o.0 p e) p e, after g P C n ss c S _ t ts o.2 h d)

-- what may come after a symbol may come after the nonterminal that it asks for
pub next_follows : (g : List Production) (P : Plan) {m l : Place} {c b n : ℕ} {s : Symbol} → (t : Token) →
    Calls m c s n l b → Precedes P s (look inside c t) → Follows P n (look inside b t)
next_follows g P {m = inside} t a_part h = h
next_follows g P {m = leading} t a_part h = h
next_follows g P t a_line h = h
next_follows g P t (a_block {c = c} {n = n} {b = b} w) h = go (look inside b t) (seen inside b t)
  where
    go : (l : Look) → Seen inside b t l → Follows P n l
    go (beyond k) (seen_beyond v) = (let q : Precedes P (Block n) (beyond t.class) =
        subst (λ x. Precedes P (Block n) x) (is_inside c t (omega arith)) h in q).0
    go (level k) (seen_level v) = (let q : Precedes P (Block n) (beyond t.class) =
        subst (λ x. Precedes P (Block n) x) (is_inside c t (omega arith)) h in q).1
    go outside seen_outside = tt

sits : (g : List Production) (P : Plan) → IsPlanned g P → (n : ℕ) (ss : List Symbol) (c : ℕ) (S : List Frame) →
    Orderly g P n ss → NextFollows g P c S n → Sits g P c S ss
sits g P C n [] c S o h = tt
sits g P C n (s ∷ ss) c S o h =
    (o.0, (λ xs t ts d. o.1 (look inside c t) (after g P C n ss c S xs t ts o.2 h d)), sits g P C n ss c S o.2 h)

starts : (g : List Production) (P : Plan) → IsPlanned g P → {m l : Place} {c b n : ℕ} {s : Symbol} →
    (p : ℕ) (r ss : List Symbol) →
    Calls m c s n l b → Fits g P s → Is g p n r → Starts P m (s ∷ ss) → Starts P l r
starts g P C {m = inside} p r ss a_part f i h = tt
starts g P C {m = leading} {n = n} p r ss a_part f i h = C.plainly p n r i h
starts g P C {n = n} p r ss a_line f i h = C.plainly p n r i f.1
starts g P C p r ss (a_block w) f i h = tt

-- the stack after a call
pub good_call : (g : List Production) (P : Plan) → IsPlanned g P → {m l : Place} {c b n : ℕ} {s : Symbol} →
    (p : ℕ) (r ss : List Symbol) (S : List Frame) →
    Calls m c s n l b → Is g p n r → Good g P (frame (s ∷ ss) c m ∷ S) → Good g P (frame r b l ∷ frame ss c inside ∷ S)
good_call g P C {c = c} {b = b} {n = n} p r ss S k i h = (
  starts g P C p r ss k h.1.0 i h.0,
  sits g P C n r b (frame ss c inside ∷ S) (C.orderly p n r i)
      (λ xs t ts d. next_follows g P t k (h.1.1 xs t ts d)),
  (tt, h.1.2, h.2),
)
