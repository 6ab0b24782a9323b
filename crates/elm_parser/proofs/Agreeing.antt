-- Two derivations of texts that begin with the same tokens begin with the same steps: where one token decides, each
-- production is chosen by the next token.
use Rattle.std.proofs.Common.{◌≡◌, ℕ, List, [], ◌∷◌, ◌++◌, Some, refl, sym, ◌∙◌, ap, subst, append_assoc, append-nil}
use Rattle.parse_machine.specs.declared.table.Symbol.{Symbol}
use Rattle.parse_machine.specs.declared.table.Symbol.TheVariants.{Word, Part, Line, Block}
use Rattle.parse_machine.specs.declared.table.Step.{Step}
use Rattle.parse_machine.specs.declared.table.Step.TheVariants.{Take, Read}
use Rattle.parse_machine.specs.declared.table.Token.{Token}
use Rattle.parse_machine.specs.Grammar.{Production, Is, Place, inside, leading, Calls, Tree, leaf, word, node, Spells}
use Rattle.parse_machine.specs.Grammar.{steps_of, tokens_of}
use Rattle.parse_machine.specs.Plan.{Plan, IsPlanned, choice, select}
use Rattle.parse_machine.proofs.Stack.{Frame, frame, Reads, finished, closed, a_word, a_node, start, reads_of}
use Rattle.parse_machine.proofs.Opening.{Good, good_call}
use Rattle.parse_machine.proofs.Selection.{selects, same_production}
use Rattle.parse_machine.proofs.Keeping.{steps_all}

pub record Together (xs ys : List Step) (front : List Token) : Type 0 where
  pub known : List Step
  pub more : List Step
  pub others : List Step
  pub first : xs ≡ known ++ more
  pub second : ys ≡ known ++ others
  pub reads : tokens_of known ≡ front

with_read : (t : Token) (xs ys : List Step) (front : List Token) → Together xs ys front →
    Together (Read t ∷ xs) (Read t ∷ ys) (t ∷ front)
with_read t xs ys front k = record {
  known = Read t ∷ k.known;
  more = k.more;
  others = k.others;
  first = ap (λ z. Read t ∷ z) k.first;
  second = ap (λ z. Read t ∷ z) k.second;
  reads = ap (λ z. t ∷ z) k.reads;
}

with_take : (p : ℕ) (xs ys : List Step) (front : List Token) → Together xs ys front →
    Together (Take p ∷ xs) (Take p ∷ ys) front
with_take p xs ys front k = record {
  known = Take p ∷ k.known;
  more = k.more;
  others = k.others;
  first = ap (λ z. Take p ∷ z) k.first;
  second = ap (λ z. Take p ∷ z) k.second;
  reads = k.reads;
}

nothing_read : (xs ys : List Step) → Together xs ys []
nothing_read xs ys = record { known = []; more = xs; others = ys; first = refl; second = refl; reads = refl }

-- the first token alone decides
same_select : (P : Plan) (s : Symbol) (m : Place) (c : ℕ) (t : Token) (ts us : List Token) →
    select P s m c (t ∷ us) ≡ select P s m c (t ∷ ts)
same_select P (Word k) m c t ts us = refl
same_select P (Part n) m c t ts us = refl
same_select P (Line n) inside c t ts us = refl
same_select P (Line n) leading c t ts us = refl
same_select P (Block n) inside c t ts us = refl
same_select P (Block n) leading c t ts us = refl

pub same_choice : (p q : ℕ) (l k : Place) (b c : ℕ) → Some (choice p l b) ≡ Some (choice q k c) →
    (p ≡ q) × (l ≡ k) × (b ≡ c)
same_choice p q l k b c e = (cc, cc, cc)

-- the second derivation at a symbol that is no word
pub record Second (g : List Production) (m : Place) (c : ℕ) (s : Symbol) (ss : List Symbol) (S : List Frame)
    (ys : List Tree) (us : List Token) : Type 0 where
  pub asked : ℕ
  pub taken : ℕ
  pub place : Place
  pub column : ℕ
  pub right : List Symbol
  pub x : Tree
  pub y : Tree
  pub others : List Tree
  pub calls : Calls m c s asked place column
  pub is : Is g taken asked right
  pub reads : Reads g (frame right column place ∷ frame ss c inside ∷ S) (x ∷ y ∷ others) us
  pub trees : ys ≡ node taken x y ∷ others

pub second : (g : List Production) {m l : Place} {c b n : ℕ} {s : Symbol} {ss : List Symbol} {S : List Frame} (ys : List Tree)
    {us : List Token} → Calls m c s n l b → Reads g (frame (s ∷ ss) c m ∷ S) ys us → Second g m c s ss S ys us
second g _ k (a_node {l = l} {b = b} {n = n} {p = p} {r = r} {x = x} {y = y} {xs = xs} j i d) =
    record { asked = n; taken = p; place = l; column = b; right = r; x = x; y = y; others = xs; calls = j; is = i; reads = d; trees = refl }
second g _ k (a_word e st d) = elim k [ ]

-- the same at a word
pub record SecondWord (g : List Production) (m : Place) (c k : ℕ) (ss : List Symbol) (S : List Frame) (ys : List Tree)
    (us : List Token) : Type 0 where
  pub token : Token
  pub rest : List Token
  pub x : Tree
  pub others : List Tree
  pub reads : Reads g (frame ss c inside ∷ S) (x ∷ others) rest
  pub trees : ys ≡ word token x ∷ others
  pub tokens : us ≡ token ∷ rest

pub second_word : (g : List Production) {m : Place} {c k : ℕ} {ss : List Symbol} {S : List Frame} (ys : List Tree)
    {us : List Token} → Reads g (frame (Word k ∷ ss) c m ∷ S) ys us → SecondWord g m c k ss S ys us
second_word g _ (a_word {t = t} {x = x} {xs = xs} {ts = ts} e st d) =
    record { token = t; rest = ts; x = x; others = xs; reads = d; trees = refl; tokens = refl }
second_word g _ (a_node k i d) = elim k [ ]

pub record SecondClosed (g : List Production) (S : List Frame) (ys : List Tree) (us : List Token) : Type 0 where
  pub others : List Tree
  pub reads : Reads g S others us
  pub trees : ys ≡ leaf ∷ others

pub second_closed : (g : List Production) {m : Place} {c : ℕ} {S : List Frame} (ys : List Tree) {us : List Token} →
    Reads g (frame [] c m ∷ S) ys us → SecondClosed g S ys us
second_closed g _ (closed {xs = xs} d) = record { others = xs; reads = d; trees = refl }

agree : (g : List Production) (P : Plan) → IsPlanned g P → (t : Token) (front a b : List Token) {S : List Frame}
    {xs : List Tree} (ys : List Tree) {ts us : List Token} → Reads g S xs ts → Reads g S ys us → Good g P S →
    ts ≡ t ∷ (front ++ a) → us ≡ t ∷ (front ++ b) → Together (steps_all xs) (steps_all ys) (t ∷ front)
agree g P C t front a b ys finished e h p q = absurd cc
agree g P C t front a b ys (closed {xs = xs} d) e h p q =
    let k = second_closed g ys e in
    let w = agree g P C t front a b k.others d k.reads h.2 p q in
    subst (λ z. Together (steps_all (leaf ∷ xs)) (steps_all z) (t ∷ front)) (sym k.trees) w
agree g P C t [] a b ys (a_word {t = u} {x = x} {xs = xs} {ts = ts} e st d) f h p q =
    let k = second_word g ys f in
    let same : u ≡ t = cc in
    let other : k.token ≡ t = let v : k.token ∷ k.rest ≡ t ∷ b = sym k.tokens ∙ q in cc in
    subst (λ z. Together (Read z ∷ (steps_of x ++ steps_all xs)) (steps_all ys) (t ∷ [])) (sym same)
    (subst (λ z. Together (Read t ∷ (steps_of x ++ steps_all xs)) (steps_all z) (t ∷ [])) (sym k.trees)
    (subst (λ z. Together (Read t ∷ (steps_of x ++ steps_all xs)) (Read z ∷ (steps_of k.x ++ steps_all k.others)) (t ∷ []))
    (sym other) (with_read t (steps_of x ++ steps_all xs) (steps_of k.x ++ steps_all k.others) []
    (nothing_read (steps_of x ++ steps_all xs) (steps_of k.x ++ steps_all k.others)))))
agree g P C t (v ∷ front) a b ys (a_word {t = u} {x = x} {xs = xs} {ts = ts} e st d) f h p q =
    let k = second_word g ys f in
    let same : u ≡ t = cc in
    let other : k.token ≡ t = let w : k.token ∷ k.rest ≡ t ∷ v ∷ (front ++ b) = sym k.tokens ∙ q in cc in
    let first_rest : ts ≡ v ∷ (front ++ a) = cc in
    let second_rest : k.rest ≡ v ∷ (front ++ b) = let w : k.token ∷ k.rest ≡ t ∷ v ∷ (front ++ b) = sym k.tokens ∙ q in cc in
    let w = agree g P C v front a b (k.x ∷ k.others) d k.reads (tt, h.1.2, h.2) first_rest second_rest in
    subst (λ z. Together (Read z ∷ (steps_of x ++ steps_all xs)) (steps_all ys) (t ∷ v ∷ front)) (sym same)
    (subst (λ z. Together (Read t ∷ (steps_of x ++ steps_all xs)) (steps_all z) (t ∷ v ∷ front)) (sym k.trees)
    (subst (λ z. Together (Read t ∷ (steps_of x ++ steps_all xs)) (Read z ∷ (steps_of k.x ++ steps_all k.others)) (t ∷ v ∷ front))
    (sym other) (with_read t (steps_of x ++ steps_all xs) (steps_of k.x ++ steps_all k.others) (v ∷ front) w)))
agree g P C t front a b ys {ts = ts} {us = us} (a_node {m = m} {l = l} {c = c} {b = col} {n = n} {p = pr} {s = s} {r = r} {ss = ss} {S = S} {x = x} {y = y} {xs = xs} k i d) f h p q =
    let o = second g ys k f in
    let one : select P s m c ts ≡ Some (choice pr l col) = selects g P C pr r ss S x y xs ts h k i d in
    let two : select P s m c us ≡ Some (choice o.taken o.place o.column) =
    selects g P C o.taken o.right ss S o.x o.y o.others us h o.calls o.is o.reads in
    let looks : select P s m c us ≡ select P s m c ts =
    ap (select P s m c) q ∙ same_select P s m c t (front ++ a) (front ++ b) ∙ ap (select P s m c) (sym p) in
    let w = same_choice pr o.taken l o.place col o.column (sym one ∙ sym looks ∙ two) in
    let j : Is g pr o.asked o.right = subst (λ z. Is g z o.asked o.right) (sym w.0) o.is in
    let e = same_production g pr o.asked n o.right r j i in
    let reads : Reads g (frame r col l ∷ frame ss c inside ∷ S) (o.x ∷ o.y ∷ o.others) us =
    subst (λ z. Reads g (frame r col z ∷ frame ss c inside ∷ S) (o.x ∷ o.y ∷ o.others) us) (sym w.1)
    (subst (λ z. Reads g (frame r z o.place ∷ frame ss c inside ∷ S) (o.x ∷ o.y ∷ o.others) us) (sym w.2)
    (subst (λ z. Reads g (frame z o.column o.place ∷ frame ss c inside ∷ S) (o.x ∷ o.y ∷ o.others) us) e.1 o.reads)) in
    let u = agree g P C t front a b (o.x ∷ o.y ∷ o.others) d reads (good_call g P C pr r ss S k i h) p q in
    subst (λ z. Together (Take pr ∷ ((steps_of x ++ steps_of y) ++ steps_all xs)) (steps_all z) (t ∷ front)) (sym o.trees)
    (subst (λ z. Together (Take pr ∷ ((steps_of x ++ steps_of y) ++ steps_all xs))
    (Take z ∷ ((steps_of o.x ++ steps_of o.y) ++ steps_all o.others)) (t ∷ front)) w.0
    (with_take pr ((steps_of x ++ steps_of y) ++ steps_all xs) ((steps_of o.x ++ steps_of o.y) ++ steps_all o.others)
    (t ∷ front)
    (subst (λ z. Together z ((steps_of o.x ++ steps_of o.y) ++ steps_all o.others) (t ∷ front))
    (sym (append_assoc (steps_of x) (steps_of y) (steps_all xs)))
    (subst (λ z. Together (steps_of x ++ (steps_of y ++ steps_all xs)) z (t ∷ front))
    (sym (append_assoc (steps_of o.x) (steps_of o.y) (steps_all o.others))) u))))

-- both texts begin with front
pub together : (g : List Production) (P : Plan) → IsPlanned g P → (ss : List Symbol) (c : ℕ) → Good g P (start ss c) →
    (front a b : List Token) (x y : Tree) → Spells g ss c x (front ++ a) → Spells g ss c y (front ++ b) →
    Together (steps_of x) (steps_of y) front
together g P C ss c h [] a b x y d e = nothing_read (steps_of x) (steps_of y)
together g P C ss c h (t ∷ front) a b x y d e =
    subst (λ z. Together z (steps_of y) (t ∷ front)) (append-nil (steps_of x))
    (subst (λ z. Together (steps_of x ++ []) z (t ∷ front)) (append-nil (steps_of y))
    (agree g P C t front a b (y ∷ []) (reads_of d) (reads_of e) h refl refl))
