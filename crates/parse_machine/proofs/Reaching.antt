-- A token with which a symbol opens is read: some tokens that begin with it are what the stack asks for.
use Rattle.std.proofs.Common.{◌≡◌, ℕ, zero, suc, ◌≤◌, List, [], ◌∷◌, Some, refl, sym, ◌∙◌, ap, subst, arith}
use Rattle.parse_machine.specs.declared.table.Symbol.{Symbol}
use Rattle.parse_machine.specs.declared.table.Symbol.TheVariants.{Word, Part, Line, Block}
use Rattle.parse_machine.specs.declared.table.Token.{Token}
use Rattle.parse_machine.specs.Grammar.{Production, Is, Holds, Place, inside, leading, Stands, Calls, a_part, a_line}
use Rattle.parse_machine.specs.Grammar.{a_block, Tree, word, node}
use Rattle.parse_machine.specs.Plan.{Look, beyond, level, outside, look, Plan, Opens, Ranked, IsPlanned}
use Rattle.parse_machine.proofs.Stack.{Frame, frame, Reads, a_word, a_node, trees_of}
use Rattle.parse_machine.proofs.Opening.{Good, good_call, Seen, seen_beyond, seen_level, seen_outside, seen, is_level}
use Rattle.parse_machine.proofs.Opening.{is_leading}
use Rattle.parse_machine.proofs.Completion.{Completed, completed}

-- the stack asks for some tokens that begin with t
pub record Begun (g : List Production) (S : List Frame) (t : Token) : Type 0 where
  pub trees : List Tree
  pub more : List Token
  pub reads : Reads g S trees (t ∷ more)

by_word : (g : List Production) (m : Place) (c set : ℕ) (ss : List Symbol) (S : List Frame) (t : Token) →
    Holds set t.class → Stands m c t → Completed g (frame ss c inside ∷ S) → Begun g (frame (Word set ∷ ss) c m ∷ S) t
by_word g m c set ss S t h st d = go d.trees d.tokens d.reads
  where
    go : (xs : List Tree) (ts : List Token) → Reads g (frame ss c inside ∷ S) xs ts →
        Begun g (frame (Word set ∷ ss) c m ∷ S) t
    go (x ∷ xs) ts r = record { trees = word t x ∷ xs; more = ts; reads = a_word h st r }
    go [] ts r = absurd (let e = trees_of g (frame ss c inside ∷ S) [] ts r in omega arith)

by_node : (g : List Production) (m l : Place) (c b n p : ℕ) (s : Symbol) (r ss : List Symbol) (S : List Frame)
    (t : Token) → Calls m c s n l b → Is g p n r →
    Begun g (frame r b l ∷ frame ss c inside ∷ S) t → Begun g (frame (s ∷ ss) c m ∷ S) t
by_node g m l c b n p s r ss S t k i d = go d.trees d.more d.reads
  where
    go : (xs : List Tree) (ts : List Token) → Reads g (frame r b l ∷ frame ss c inside ∷ S) xs (t ∷ ts) →
        Begun g (frame (s ∷ ss) c m ∷ S) t
    go (x ∷ y ∷ xs) ts h = record { trees = node p x y ∷ xs; more = ts; reads = a_node k i h }
    go (x ∷ []) ts h = absurd (let e =
        trees_of g (frame r b l ∷ frame ss c inside ∷ S) (x ∷ []) (t ∷ ts) h in omega arith)
    go [] ts h = absurd (let e = trees_of g (frame r b l ∷ frame ss c inside ∷ S) [] (t ∷ ts) h in omega arith)

-- one symbol that opens with the token
abbrev pub Reaches : List Production → Plan → Symbol → Type 0
Reaches g P s =
    (m : Place) (c : ℕ) (ss : List Symbol) (S : List Frame) (t : Token) → Good g P (frame (s ∷ ss) c m ∷ S) →
    Opens P s (look m c t) → Begun g (frame (s ∷ ss) c m ∷ S) t

seen_word : (P : Plan) (m : Place) (c : ℕ) (t : Token) (set : ℕ) (l : Look) → Seen m c t l → Opens P (Word set) l →
    Holds set t.class × Stands m c t
seen_word P m c t set (beyond k) (seen_beyond st) o =
    let e : beyond t.class ≡ beyond o.0 = o.1 in
    let same : o.0 ≡ t.class = cc in
    (subst (λ z. Holds set z) same o.2, st)
seen_word P m c t set (level k) x o = absurd (let e : level k ≡ beyond o.0 = o.1 in cc)
seen_word P m c t set outside x o = absurd (let e : outside ≡ beyond o.0 = o.1 in cc)

word_reaches : (g : List Production) (P : Plan) → IsPlanned g P → (set : ℕ) → Reaches g P (Word set)
word_reaches g P C set m c ss S t h o =
    let w = seen_word P m c t set (look m c t) (seen m c t) o in
    by_word g m c set ss S t w.0 w.1 (completed g P C (frame ss c inside ∷ S) (tt, h.1.2, h.2))

-- a call whose nonterminal takes the token
call_reaches : (g : List Production) (P : Plan) → IsPlanned g P → (k : ℕ) →
    ((s : Symbol) → Ranked P k s → Reaches g P s) → {m l : Place} {c b n : ℕ} {s : Symbol} →
    (p : ℕ) (ss : List Symbol) (S : List Frame) (t : Token) →
    Calls m c s n l b → P.rank n ≤ k → Good g P (frame (s ∷ ss) c m ∷ S) → P.takes n (look l b t) ≡ Some p →
    Begun g (frame (s ∷ ss) c m ∷ S) t
call_reaches g P C k f {m = m} {l = l} {c = c} {b = b} {n = n} {s = s} p ss S t call low h e =
    let x = C.taken n p (look l b t) e in
    let o = C.opened p n x.0 x.1 (look l b t) x.2 e in
    by_node g m l c b n p s (x.0 ∷ x.1) ss S t call x.2
    (f x.0 (raise x.0 (C.falling p n x.0 x.1 x.2)) l b x.1 (frame ss c inside ∷ S) t
    (good_call g P C p (x.0 ∷ x.1) ss S call x.2 h) o)
  where
    raise : (s2 : Symbol) → Ranked P (P.rank n) s2 → Ranked P k s2
    raise (Word j) r = tt
    raise (Part j) r = omega arith
    raise (Line j) r = omega arith
    raise (Block j) r = omega arith

by_rank : (g : List Production) (P : Plan) → IsPlanned g P → (k : ℕ) → ((s : Symbol) → Ranked P k s → Reaches g P s) →
    (s : Symbol) → Ranked P (suc k) s → Reaches g P s
by_rank g P C k f (Word set) r m c ss S t h o = word_reaches g P C set m c ss S t h o
by_rank g P C k f (Part n) r m c ss S t h o =
    let low : P.rank n ≤ k = omega arith in
    call_reaches g P C k f o.0 ss S t a_part low h o.1
by_rank g P C k f (Line n) r leading c ss S t h o = absurd h.0
by_rank g P C k f (Line n) r inside c ss S t h o = go (look inside c t) (seen inside c t) o
  where
    go : (l : Look) → Seen inside c t l → Opens P (Line n) l → Begun g (frame (Line n ∷ ss) c inside ∷ S) t
    go (beyond j) x q = absurd (let e : beyond j ≡ level q.0 = q.1 in cc)
    go outside x q = absurd (let e : outside ≡ level q.0 = q.1 in cc)
    go (level j) (seen_level st) q =
        (let e : level t.class ≡ level q.0 = q.1 in
        let same : q.0 ≡ t.class = cc in
        let there : P.takes n (beyond t.class) ≡ Some q.2 = subst (λ z. P.takes n (beyond z) ≡ Some q.2) same q.3 in
        let low : P.rank n ≤ k = omega arith in
        call_reaches g P C k f q.2 ss S t a_line low h (ap (P.takes n) (is_leading c t st) ∙ there))
by_rank g P C k f (Block n) r leading c ss S t h o = absurd h.0
by_rank g P C k f (Block n) r inside c ss S t h o = go (look inside c t) (seen inside c t) o
  where
    go : (l : Look) → Seen inside c t l → Opens P (Block n) l → Begun g (frame (Block n ∷ ss) c inside ∷ S) t
    go (level j) x q = absurd (let e : level j ≡ beyond q.0 = q.1 in cc)
    go outside x q = absurd (let e : outside ≡ beyond q.0 = q.1 in cc)
    go (beyond j) (seen_beyond st) q =
        (let e : beyond t.class ≡ beyond q.0 = q.1 in
        let same : q.0 ≡ t.class = cc in
        let there : P.takes n (level t.class) ≡ Some q.2 = subst (λ z. P.takes n (level z) ≡ Some q.2) same q.3 in
        let low : P.rank n ≤ k = omega arith in
        call_reaches g P C k f q.2 ss S t (a_block st) low h (ap (P.takes n) (is_level t.column t refl) ∙ there))

reaches_below : (g : List Production) (P : Plan) → IsPlanned g P → (k : ℕ) (s : Symbol) → Ranked P k s → Reaches g P s
reaches_below g P C zero (Word set) r = word_reaches g P C set
reaches_below g P C zero (Part n) r = absurd (omega arith)
reaches_below g P C zero (Line n) r = absurd (omega arith)
reaches_below g P C zero (Block n) r = absurd (omega arith)
reaches_below g P C (suc k) s r = by_rank g P C k (reaches_below g P C k) s r

pub reaches : (g : List Production) (P : Plan) → IsPlanned g P → (s : Symbol) → Reaches g P s
reaches g P C (Word set) = reaches_below g P C 0 (Word set) tt
reaches g P C (Part n) = reaches_below g P C (suc (P.rank n)) (Part n) (omega arith)
reaches g P C (Line n) = reaches_below g P C (suc (P.rank n)) (Line n) (omega arith)
reaches g P C (Block n) = reaches_below g P C (suc (P.rank n)) (Block n) (omega arith)
