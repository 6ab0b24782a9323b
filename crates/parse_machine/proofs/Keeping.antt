-- What the machine keeps: the stack reads what the tokens that are left must be.
use Rattle.std.proofs.Common.{◌≡◌, ℕ, List, [], ◌∷◌, ◌++◌, Some, None, refl, sym, ◌∙◌, ap, subst, arith, append_assoc}
use Rattle.std.proofs.Common.{append-nil}
use Rattle.parse_machine.specs.declared.table.Symbol.{Symbol}
use Rattle.parse_machine.specs.declared.table.Symbol.TheVariants.{Word, Part, Line, Block}
use Rattle.parse_machine.specs.declared.table.Token.{Token}
use Rattle.parse_machine.specs.declared.table.Step.{Step}
use Rattle.parse_machine.specs.declared.table.Step.TheVariants.{Take, Read}
use Rattle.parse_machine.specs.Grammar.{Spells, Production, Is, Holds, Place, inside, leading, Stands, Calls, Tree}
use Rattle.parse_machine.specs.Grammar.{leaf, word, node, IsViable, IsLongest, IsReading, steps_of}
use Rattle.parse_machine.specs.Plan.{Plan, IsPlanned, choice, select, IsNoWord}
use Rattle.parse_machine.proofs.Stack.{Frame, frame, Reads, finished, closed, a_word, a_node, trees_of, onto, apart}
use Rattle.parse_machine.proofs.Stack.{start, reads_of, spelled}
use Rattle.parse_machine.proofs.Opening.{Good, Sits, good_call}
use Rattle.parse_machine.proofs.Selection.{Selected, selects, same_production}
use Rattle.parse_machine.proofs.Completion.{completed}

abbrev pub steps_all : List Tree → List Step
steps_all [] = []
steps_all (x ∷ xs) = steps_of x ++ steps_all xs

-- both begin with one token, or both are empty
abbrev pub Like : List Token → List Token → Type 0
Like [] us = us ≡ []
Like (t ∷ ts) us = (more : List Token) × (us ≡ t ∷ more)

pub like_self : (at : List Token) → Like at at
like_self [] = refl
like_self (t ∷ ts) = (ts, refl)

-- of what the stack K asks for, front is read; S is to read what begins as at does; out are the steps so far
pub record Keeps (g : List Production) (P : Plan) (K : List Frame) (front at : List Token) (S : List Frame)
    (out : List Step) : Type 0 where
  pub grow : List Tree → Tree
  pub good : Good g P S
  pub sound : (xs : List Tree) (us : List Token) → Reads g S xs us → Reads g K (grow xs ∷ []) (front ++ us)
  pub listed : (xs : List Tree) (us : List Token) → Reads g S xs us → steps_of (grow xs) ≡ out ++ steps_all xs
  pub exact : (x : Tree) (us : List Token) → Like at us → Reads g K (x ∷ []) (front ++ us) →
      (xs : List Tree) × Reads g S xs us × (x ≡ grow xs)

-- ---- each step

first_of_all : List Tree → Tree
first_of_all [] = leaf
first_of_all (x ∷ xs) = x

single : (g : List Production) (ss : List Symbol) (c : ℕ) (xs : List Tree) (us : List Token) →
    Reads g (start ss c) xs us → Reads g (start ss c)
    (first_of_all xs ∷ []) us × (steps_of (first_of_all xs) ≡ steps_all xs)
unfolding first_of_all
single g ss c [] us d = absurd (let e = trees_of g (start ss c) [] us d in omega arith)
single g ss c (x ∷ []) us d = (d, sym (append-nil (steps_of x)))
single g ss c (x ∷ y ∷ xs) us d = absurd (let e = trees_of g (start ss c) (x ∷ y ∷ xs) us d in omega arith)

pub keeps_start : (g : List Production) (P : Plan) (ss : List Symbol) (c : ℕ) → Good g P (start ss c) →
    (ts : List Token) → Keeps g P (start ss c) [] ts (start ss c) []
unfolding first_of_all
keeps_start g P ss c h ts = record {
  grow = first_of_all;
  good = h;
  sound = λ xs us d. (single g ss c xs us d).0;
  listed = λ xs us d. (single g ss c xs us d).1;
  exact = λ x us l d. (x ∷ [], d, refl);
}

closed_is : (g : List Production) {m : Place} {c : ℕ} {S : List Frame} (xs : List Tree) {us : List Token} →
    Reads g (frame [] c m ∷ S) xs us → (ys : List Tree) × Reads g S ys us × (xs ≡ leaf ∷ ys)
closed_is g _ (closed {xs = ys} d) = (ys, d, refl)

pub keeps_closed : (g : List Production) (P : Plan) (K : List Frame) (front at : List Token) (c : ℕ) (m : Place)
    (S : List Frame) (out : List Step) → Keeps g P K front at (frame [] c m ∷ S) out → Keeps g P K front at S out
keeps_closed g P K front at c m S out k = record {
  grow = λ xs. k.grow (leaf ∷ xs);
  good = k.good.2;
  sound = λ xs us d. k.sound (leaf ∷ xs) us (closed d);
  listed = λ xs us d. k.listed (leaf ∷ xs) us (closed d);
  exact = λ x us l d.
      let e = k.exact x us l d in
      let f = closed_is g e.0 e.1 in
      (f.0, f.1, e.2 ∙ ap k.grow f.2);
}

-- the trees of the frames, with a leaf after the first
with_leaf : List Tree → List Tree
with_leaf [] = []
with_leaf (x ∷ xs) = x ∷ leaf ∷ xs

leaf_on : (g : List Production) (r : List Symbol) (b c : ℕ) (l m : Place) (S : List Frame) (xs : List Tree)
    (us : List Token) → Reads g (frame r b l ∷ S) xs us →
    Reads g (frame r b l ∷ frame [] c m ∷ S) (with_leaf xs) us × (steps_all (with_leaf xs) ≡ steps_all xs)
unfolding with_leaf
leaf_on g r b c l m S [] us d = absurd (let e = trees_of g (frame r b l ∷ S) [] us d in omega arith)
leaf_on g r b c l m S (x ∷ xs) us d =
    let a = apart d in
    let same : x ∷ xs ≡ a.x ∷ a.others = a.trees in
    let one : a.x ≡ x = cc in
    let two : a.others ≡ xs = cc in (
      subst (λ z. Reads g (frame r b l ∷ frame [] c m ∷ S) (z ∷ leaf ∷ xs) us) one
          (subst (λ z. Reads g (frame r b l ∷ frame [] c m ∷ S) (a.x ∷ leaf ∷ z) us) two
          (onto a.derives (closed a.reads))),
      refl,
    )

leaf_off : (g : List Production) (r : List Symbol) (b c : ℕ) (l m : Place) (S : List Frame) (xs : List Tree)
    (us : List Token) → Reads g (frame r b l ∷ frame [] c m ∷ S) xs us →
    (ys : List Tree) × Reads g (frame r b l ∷ S) ys us × (xs ≡ with_leaf ys)
unfolding with_leaf
leaf_off g r b c l m S xs us d =
    let a = apart d in
    let f = closed_is g a.others a.reads in
    (a.x ∷ f.0, onto a.derives f.1, a.trees ∙ ap (λ z. a.x ∷ z) f.2)

sits_tail : (g : List Production) (P : Plan) (b c : ℕ) (m : Place) (S : List Frame) (r : List Symbol) →
    Sits g P b (frame [] c m ∷ S) r → Sits g P b S r
sits_tail g P b c m S [] h = tt
sits_tail g P b c m S (s ∷ r) h = (
  h.0,
  (λ xs t ts d. h.1 (with_leaf xs) t ts
      (leaf_on g r b c inside m S xs (t ∷ ts) d).0),
  sits_tail g P b c m S r h.2,
)

-- a frame in which nothing is left to be read may go, also from below the first
pub keeps_tail : (g : List Production) (P : Plan) (K : List Frame) (front at : List Token) (r : List Symbol) (b c : ℕ)
    (l m : Place) (S : List Frame) (out : List Step) →
    Keeps g P K front at (frame r b l ∷ frame [] c m ∷ S) out → Keeps g P K front at (frame r b l ∷ S) out
keeps_tail g P K front at r b c l m S out k = record {
  grow = λ xs. k.grow (with_leaf xs);
  good = (k.good.0, sits_tail g P b c m S r k.good.1, k.good.2.2);
  sound = λ xs us d. k.sound (with_leaf xs) us (leaf_on g r b c l m S xs us d).0;
  listed = λ xs us d. let w = leaf_on g r b c l m S xs us d in k.listed (with_leaf xs) us w.0 ∙ ap (λ z. out ++ z) w.1;
  exact = λ x us like d.
      let e = k.exact x us like d in
      let f = leaf_off g r b c l m S e.0 us e.1 in
      (f.0, f.1, e.2 ∙ ap k.grow f.2);
}

-- the trees of the frames, with something done to the first
with_first : (Tree → Tree) → List Tree → List Tree
with_first f [] = []
with_first f (x ∷ xs) = f x ∷ xs

word_is : (g : List Production) {m : Place} {c k : ℕ} {ss : List Symbol} {S : List Frame} (t : Token) (xs : List Tree)
    {us : List Token} →
    Reads g (frame (Word k ∷ ss) c m ∷ S) xs (t ∷ us) →
    (ys : List Tree) × Reads g (frame ss c inside ∷ S) ys us × (xs ≡ with_first (word t) ys)
unfolding with_first
word_is g t _ (a_word {x = x} {xs = xs} e s d) = (x ∷ xs, d, refl)
word_is g t _ (a_node k i d) = elim k [ ]

word_on : (g : List Production) (m : Place) (c k : ℕ) (ss : List Symbol) (S : List Frame) (t : Token) (xs : List Tree)
    (us : List Token) → Holds k t.class → Stands m c t →
    Reads g (frame ss c inside ∷ S) xs us →
    Reads g (frame (Word k ∷ ss) c m ∷ S) (with_first (word t) xs)
    (t ∷ us) × (steps_all (with_first (word t) xs) ≡ Read t ∷ steps_all xs)
unfolding with_first
word_on g m c k ss S t (x ∷ xs) us e s d = (a_word e s d, refl)
word_on g m c k ss S t [] us e s d = absurd (let n = trees_of g (frame ss c inside ∷ S) [] us d in omega arith)

pub keeps_word : (g : List Production) (P : Plan) (K : List Frame) (front ts : List Token) (t : Token) (c k : ℕ)
    (m : Place) (ss : List Symbol) (S : List Frame) (out : List Step) → Holds k t.class → Stands m c t →
    Keeps g P K front (t ∷ ts) (frame (Word k ∷ ss) c m ∷ S) out → (at : List Token) →
    Keeps g P K (front ++ t ∷ []) at (frame ss c inside ∷ S) (out ++ Read t ∷ [])
keeps_word g P K front ts t c k m ss S out e s h at = record {
  grow = λ xs. h.grow (with_first (word t) xs);
  good = (tt, h.good.1.2, h.good.2);
  sound = λ xs us d. subst (λ vs. Reads g K (h.grow (with_first (word t) xs) ∷ []) vs)
      (sym (append_assoc front (t ∷ []) us))
      (h.sound (with_first (word t) xs) (t ∷ us) (word_on g m c k ss S t xs us e s d).0);
  listed = λ xs us d. let w =
      word_on g m c k ss S t xs us e s d in h.listed (with_first (word t) xs) (t ∷ us) w.0 ∙ ap
      (λ z. out ++ z) w.1 ∙ sym (append_assoc out (Read t ∷ []) (steps_all xs));
  exact = λ x us l d.
      let v = h.exact x (t ∷ us) (us, refl) (subst (λ vs. Reads g K (x ∷ []) vs) (append_assoc front (t ∷ []) us) d) in
      let f = word_is g t v.0 v.1 in
      (f.0, f.1, v.2 ∙ ap h.grow f.2);
}

-- the trees of the frames, with the first two put below one
with_two : ℕ → List Tree → List Tree
with_two p (x ∷ y ∷ xs) = node p x y ∷ xs
with_two p xs = xs

call_on : (g : List Production) (m l : Place) (c b n p : ℕ) (s : Symbol) (r ss : List Symbol) (S : List Frame)
    (xs : List Tree) (us : List Token) → Calls m c s n l b → Is g p n r →
    Reads g (frame r b l ∷ frame ss c inside ∷ S) xs us →
    Reads g (frame (s ∷ ss) c m ∷ S) (with_two p xs) us × (steps_all (with_two p xs) ≡ Take p ∷ steps_all xs)
unfolding with_two
call_on g m l c b n p s r ss S (x ∷ y ∷ xs) us k i d =
    (a_node k i d, ap (λ z. Take p ∷ z) (append_assoc (steps_of x) (steps_of y) (steps_all xs)))
call_on g m l c b n p s r ss S (x ∷ []) us k i d = absurd (let e =
    trees_of g (frame r b l ∷ frame ss c inside ∷ S) (x ∷ []) us d in omega arith)
call_on g m l c b n p s r ss S [] us k i d = absurd (let e =
    trees_of g (frame r b l ∷ frame ss c inside ∷ S) [] us d in omega arith)

-- what a derivation does at a symbol that is no word
record Called (g : List Production) (m : Place) (c : ℕ) (s : Symbol) (ss : List Symbol) (S : List Frame)
    (xs : List Tree) (us : List Token) : Type 0 where
  asked : ℕ
  taken : ℕ
  place : Place
  column : ℕ
  right : List Symbol
  x : Tree
  y : Tree
  others : List Tree
  calls : Calls m c s asked place column
  is : Is g taken asked right
  reads : Reads g (frame right column place ∷ frame ss c inside ∷ S) (x ∷ y ∷ others) us
  trees : xs ≡ node taken x y ∷ others

call_is : (g : List Production) {m : Place} {c : ℕ} (s : Symbol) {ss : List Symbol} {S : List Frame} (xs : List Tree)
    {us : List Token} → IsNoWord s → Reads g (frame (s ∷ ss) c m ∷ S) xs us → Called g m c s ss S xs us
call_is g s _ w (a_node {l = l} {b = b} {n = n} {p = p} {r = r} {x = x} {y = y} {xs = xs} k i d) =
    record {
      asked = n;
      taken = p;
      place = l;
      column = b;
      right = r;
      x = x;
      y = y;
      others = xs;
      calls = k;
      is =
          i;
      reads = d;
      trees = refl;
    }
call_is g s _ w (a_word e st d) = absurd w

-- the first token alone decides
select_like : (P : Plan) (s : Symbol) (m : Place) (c : ℕ) (at us : List Token) → Like at us →
    select P s m c us ≡ select P s m c at
select_like P s m c [] us l = ap (select P s m c) l
select_like P s m c (t ∷ ts) us l = ap (select P s m c) l.1 ∙ heads s m
  where
    heads : (s : Symbol) (m : Place) → select P s m c (t ∷ l.0) ≡ select P s m c (t ∷ ts)
    heads (Word k) m = refl
    heads (Part n) m = refl
    heads (Line n) inside = refl
    heads (Line n) leading = refl
    heads (Block n) inside = refl
    heads (Block n) leading = refl

same_choice : (p q : ℕ) (l k : Place) (b c : ℕ) → Some (choice p l b) ≡ Some (choice q k c) →
    (p ≡ q) × (l ≡ k) × (b ≡ c)
same_choice p q l k b c e = (cc, cc, cc)

called_so : (g : List Production) (P : Plan) → IsPlanned g P →
    (at us : List Token) (m : Place) (c : ℕ) (s : Symbol) (ss : List Symbol) (S : List Frame) (xs : List Tree) →
    Good g P (frame (s ∷ ss) c m ∷ S) → Like at us → (k : Called g m c s ss S xs us) →
    select P s m c at ≡ Some (choice k.taken k.place k.column)
called_so g P C at us m c s ss S xs h l k =
    sym (select_like P s m c at us l) ∙ selects g P C k.taken k.right ss S k.x k.y k.others us h k.calls k.is k.reads

-- all that stands there is what was selected
call_only : (g : List Production) (P : Plan) → IsPlanned g P →
    (at us : List Token) (m l : Place) (c b n p : ℕ) (s : Symbol) (r ss : List Symbol) (S : List Frame)
    (xs : List Tree) → IsNoWord s →
    Good g P (frame (s ∷ ss) c m ∷ S) → Like at us → select P s m c at ≡ Some (choice p l b) → Is g p n r →
    Reads g (frame (s ∷ ss) c m ∷ S) xs us →
    (ys : List Tree) × Reads g (frame r b l ∷ frame ss c inside ∷ S) ys us × (xs ≡ with_two p ys)
unfolding with_two
call_only g P C at us m l c b n p s r ss S xs w h like e i d =
    let k = call_is g s xs w d in
    let q = same_choice p k.taken l k.place b k.column (sym e ∙ called_so g P C at us m c s ss S xs h like k) in
    let j : Is g p k.asked k.right = subst (λ z. Is g z k.asked k.right) (sym q.0) k.is in
    let same = same_production g p k.asked n k.right r j i in (
      k.x ∷ k.y ∷ k.others,
      subst (λ z. Reads g (frame r b z ∷ frame ss c inside ∷ S) (k.x ∷ k.y ∷ k.others) us) (sym q.1)
          (subst (λ z. Reads g (frame r z k.place ∷ frame ss c inside ∷ S) (k.x ∷ k.y ∷ k.others) us) (sym q.2)
          (subst (λ z. Reads g (frame z k.column k.place ∷ frame ss c inside ∷ S)
          (k.x ∷ k.y ∷ k.others) us) same.1 k.reads)),
      k.trees ∙ ap (λ z. node z k.x k.y ∷ k.others) (sym q.0),
    )

pub keeps_call : (g : List Production) (P : Plan) → IsPlanned g P →
    (K : List Frame) (front at : List Token) (m l : Place) (c b p : ℕ) (s : Symbol) (ss : List Symbol)
    (S : List Frame) (out : List Step) → IsNoWord s →
    (e : select P s m c at ≡ Some (choice p l b)) → (i : Selected g s m c p l b) →
    Keeps g P K front at (frame (s ∷ ss) c m ∷ S) out →
    Keeps g P K front at (frame i.right b l ∷ frame ss c inside ∷ S) (out ++ Take p ∷ [])
keeps_call g P C K front at m l c b p s ss S out w e i h = record {
  grow = λ xs. h.grow (with_two p xs);
  good = good_call g P C p i.right ss S i.calls i.is h.good;
  sound = λ xs us d. h.sound (with_two p xs) us (call_on g m l c b i.asked p s i.right ss S xs us i.calls i.is d).0;
  listed = λ xs us d.
      let v = call_on g m l c b i.asked p s i.right ss S xs us i.calls i.is d in
      h.listed (with_two p xs) us v.0 ∙ ap (λ z. out ++ z) v.1 ∙ sym (append_assoc out (Take p ∷ []) (steps_all xs));
  exact = λ x us like d.
      let v = h.exact x us like d in
      let f = call_only g P C at us m l c b i.asked p s i.right ss S v.0 w h.good like e i.is v.1 in
      (f.0, f.1, v.2 ∙ ap h.grow f.2);
}

-- ---- the end

-- nothing that begins as at does is what S asks for
abbrev pub Refuses : List Production → List Frame → List Token → Type 0
Refuses g S at = (xs : List Tree) (us : List Token) → Like at us → Reads g S xs us → ⊥

pub refuses_call : (g : List Production) (P : Plan) → IsPlanned g P →
    (at : List Token) (m : Place) (c : ℕ) (s : Symbol) (ss : List Symbol) (S : List Frame) → IsNoWord s →
    Good g P (frame (s ∷ ss) c m ∷ S) → select P s m c at ≡ None → Refuses g (frame (s ∷ ss) c m ∷ S) at
refuses_call g P C at m c s ss S w h e = λ xs us like d.
    let k = call_is g s xs w d in
    let q : None ≡ Some (choice k.taken k.place k.column) = sym e ∙ called_so g P C at us m c s ss S xs h like k in
    cc

-- the token that a word reads
record Head (m : Place) (c k : ℕ) (us : List Token) : Type 0 where
  token : Token
  more : List Token
  is : us ≡ token ∷ more
  holds : Holds k token.class
  stands : Stands m c token

head_of : (g : List Production) {m : Place} {c k : ℕ} {ss : List Symbol} {S : List Frame} {xs : List Tree}
    {us : List Token} → Reads g (frame (Word k ∷ ss) c m ∷ S) xs us → Head m c k us
head_of g (a_word {t = t} {ts = ts} e s d) = record { token = t; more = ts; is = refl; holds = e; stands = s }
head_of g (a_node k i d) = elim k [ ]

pub refuses_word : (g : List Production) (m : Place) (c k : ℕ) (ss : List Symbol) (S : List Frame) (at : List Token) →
    ((t : Token) (ts : List Token) → at ≡ t ∷ ts → Holds k t.class → Stands m c t → ⊥) →
    Refuses g (frame (Word k ∷ ss) c m ∷ S) at
refuses_word g m c k ss S [] h = λ xs us like d. let u = head_of g d in let q : [] ≡ u.token ∷ u.more =
    sym like ∙ u.is in cc
refuses_word g m c k ss S (t ∷ ts) h = λ xs us like d.
    let u = head_of g d in
    let q : t ∷ like.0 ≡ u.token ∷ u.more = sym like.1 ∙ u.is in
    let same : u.token ≡ t = cc in
    h t ts refl (subst (λ z. Holds k z.class) same u.holds) (subst (λ z. Stands m c z) same u.stands)

pub refuses_more : (g : List Production) (t : Token) (ts : List Token) → Refuses g [] (t ∷ ts)
refuses_more g t ts = λ xs us like d. there xs d like.1
  where
    there : (xs : List Tree) {us more : List Token} → Reads g [] xs us → us ≡ t ∷ more → ⊥
    there xs finished q = cc

-- all that begins with front and the first token of at is refused
abbrev pub RefusesMore : List Production → List Frame → List Token → Type 0
RefusesMore g S at = (t : Token) (more : List Token) → at ≡ t ∷ more → Refuses g S at

pub viable_by : (g : List Production) (P : Plan) (ss : List Symbol) (c : ℕ) (front at : List Token) (S : List Frame)
    (out : List Step) → Keeps g P (start ss c) front at S out →
    (xs : List Tree) (us : List Token) → Reads g S xs us → IsViable g ss c front
viable_by g P ss c front at S out k xs us d = (k.grow xs, us, spelled (k.sound xs us d))

pub longest_at : (g : List Production) (P : Plan) → IsPlanned g P →
    (ss : List Symbol) (c : ℕ) (ts front at : List Token) (S : List Frame) (out : List Step) → ts ≡ front ++ at →
    Keeps g P (start ss c) front at S out →
    RefusesMore g S at → IsLongest g ss c ts front at
longest_at g P C ss c ts front at S out place k r = record {
  place = place;
  viable =
      (let d = completed g P C S k.good in
      viable_by g P ss c front at S out k d.trees d.tokens d.reads);
  no_further = λ t more q b.
      let us = t ∷ b.1 in
      let like : Like at us = subst (λ z. Like z us) (sym q) (b.1, refl) in
      let d : Reads g (start ss c) (b.0 ∷ []) (front ++ us) =
      subst (λ z. Reads g (start ss c) (b.0 ∷ []) z) (append_assoc front (t ∷ []) b.1) (reads_of b.2) in
      let e = k.exact b.0 us like d in
      r t more q e.0 us like e.1;
}

nothing_left : (g : List Production) (xs : List Tree) {ts : List Token} → Reads g [] xs ts → xs ≡ []
nothing_left g _ finished = refl

-- front is spelled where nothing is left to be read
pub read_whole : (g : List Production) (P : Plan) (ss : List Symbol) (c : ℕ) (front : List Token) (out : List Step) →
    Keeps g P (start ss c) front [] [] out → IsReading g ss c front out
read_whole g P ss c front out k = record {
  tree = k.grow [];
  spells = spelled (subst (λ z. Reads g (start ss c) (k.grow [] ∷ []) z) (append-nil front) (k.sound [] [] finished));
  listed = k.listed [] [] finished ∙ append-nil out;
  only = λ other s.
      let e = k.exact other [] refl
      (subst (λ z. Reads g (start ss c) (other ∷ []) z) (sym (append-nil front)) (reads_of s)) in
      e.2 ∙ ap k.grow (nothing_left g e.0 e.1);
}

-- front is not spelled where the stack asks for more
pub read_none : (g : List Production) (P : Plan) (ss : List Symbol) (c : ℕ) (front : List Token) (S : List Frame)
    (out : List Step) → Keeps g P (start ss c) front [] S out → Refuses g S [] →
    (x : Tree) → Spells g ss c x front → ⊥
read_none g P ss c front S out k r x s =
    let e = k.exact x [] refl (subst (λ z. Reads g (start ss c) (x ∷ []) z) (sym (append-nil front)) (reads_of s)) in
    r e.0 [] refl e.1

-- what the machine has written is how each derivation begins that goes on with the next token
pub steps_so_far : (g : List Production) (P : Plan) (ss : List Symbol) (c : ℕ) (front at : List Token)
    (S : List Frame) (out : List Step) → Keeps g P (start ss c) front at S out →
    (x : Tree) (us : List Token) → Like at us → Spells g ss c x (front ++ us) →
    (rest : List Step) × (steps_of x ≡ out ++ rest)
steps_so_far g P ss c front at S out k x us like s =
    let e = k.exact x us like (reads_of s) in
    (steps_all e.0, ap steps_of e.2 ∙ k.listed e.0 us e.1)
