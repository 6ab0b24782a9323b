-- What the search finds is a derivation, and what it computes is the value of one.
use Rattle.std.proofs.Common.{◌≡◌, ℕ, zero, suc, ◌+◌, ◌/◌, ◌%◌, ◌^◌, ◌<◌, Bool, true, false, ◌&&◌, nat_lt, nat_eq, List}
use Rattle.std.proofs.Common.{[], ◌∷◌, Option, Some, None, refl, sym, ap, subst, ◌∙◌, arith}
use Rattle.std.proofs.lemmas.Bool.{eqb-true, ltb-true}
use Rattle.elm_lexer.specs.Tokens.{Token}
use Rattle.elm_tree.specs.Words.{token_at}
use Rattle.parse_machine.specs.declared.table.Symbol.{Symbol}
use Rattle.parse_machine.specs.declared.table.Symbol.TheVariants.{Word, Part, Line, Block}
use Rattle.parse_machine.specs.declared.table.Token as machine
use Rattle.parse_machine.specs.Grammar.{Production, ◌⟶◌, production, Is, Holds, Place, inside, leading, Stands, Tree}
use Rattle.parse_machine.specs.Grammar.{leaf, node, Derives, nothing, a_word, a_node, a_part, a_line, a_block}
use Rattle.parse_machine.specs.Grammar as grammar
use Rattle.elm_grammar.specs.declared.action.Item.{Item}
use Rattle.elm_grammar.specs.declared.action.Item.TheVariants as item
use Rattle.elm_grammar.specs.Classes.{classed}
use Rattle.elm_grammar.specs.Table.{elm}
use Rattle.elm_grammar.specs.Values.{Kind, One, Many, Thing, thing_of, takes, gives}
use Rattle.elm_grammar.specs.Meaning.{Things, none, ◌⸴◌, action_at, made, Means, Spells}
use Rattle.elm_grammar.specs.Meaning as meaning
use Rattle.elm_grammar.specs.Search.{stands, holds, Numbered, with_option, options_from, options, Found, Task, Derive}
use Rattle.elm_grammar.specs.Search.{Matched, Among, Tried, put_word, put_node, seek, cast, cast_thing, paired}
use Rattle.elm_grammar.specs.Search.{cast_made, values, only, whole, derived, value_of, read}

both_true : (a b : Bool) → (a && b) ≡ true → (a ≡ true) × (b ≡ true)
both_true true b e = (refl, e)
both_true false b e = absurd cc

stands_so : (m : Place) (c : ℕ) (t : machine.Token) → stands m c t ≡ true → Stands m c t
stands_so inside c t e = ltb-true c t.column e
stands_so leading c t e = eqb-true t.column c e

holds_so : (set k : ℕ) → holds set k ≡ true → Holds set k
holds_so set k e =
    let f = both_true (nat_lt k 64) (nat_eq ((set / 2 ^ k) % 2) 1) e in
    (ltb-true k 64 f.0, eqb-true ((set / 2 ^ k) % 2) 1 f.1)

-- ---- the productions of a nonterminal

abbrev AllOf : List Production → ℕ → List Numbered → Type 0
AllOf g k [] = Unit {0}
AllOf g k (o ∷ os) = Is g o.0 k o.1 × AllOf g k os

with_all : (g : List Production) (k n p : ℕ) (r : List Symbol) (os : List Numbered) (b : Bool) → (b ≡ true → n ≡ k) →
    Is g p n r → AllOf g k os → AllOf g k (with_option b (p, r) os)
with_all g k n p r os true f i all = (subst (λ z. Is g p z r) (f refl) i, all)
with_all g k n p r os false f i all = all

-- production j of what is left of the grammar after p productions
abbrev Left : List Production → ℕ → List Production → Type 0
Left g p rest = (j n : ℕ) (r : List Symbol) → production rest j ≡ Some (n ⟶ r) → Is g (j + p) n r

next_left : (g : List Production) (p : ℕ) (x : Production) (rest : List Production) → Left g p (x ∷ rest) →
    Left g (suc p) rest
next_left g p x rest h j n r e =
    let same : suc j + p ≡ j + suc p = omega arith in
    subst (λ z. Is g z n r) same (h (suc j) n r e)

options_all : (g : List Production) (k p : ℕ) (rest : List Production) → Left g p rest →
    AllOf g k (options_from k p rest)
options_all g k p [] h = tt
options_all g k p ((n ⟶ r) ∷ rest) h =
    let same : 0 + p ≡ p = omega arith in
    with_all g k n p r (options_from k (suc p) rest) (nat_eq n k) (λ e. eqb-true n k e)
    (subst (λ z. Is g z n r) same (h 0 n r refl)) (options_all g k (suc p) rest (next_left g p (n ⟶ r) rest h))

all_left : (g : List Production) → Left g 0 g
all_left g j n r e = let same : j ≡ j + 0 = omega arith in subst (λ z. Is g z n r) same e

some_options : (g : List Production) (b : Bool) (k : ℕ) → AllOf g k (options g b k)
some_options g true k = options_all g k 0 g (all_left g)
some_options g false k = tt

-- ---- what each task finds

-- a token that fits, and what the symbols after it derive
record Fitted (g : List Production) (b : Bool) (c : ℕ) (t : machine.Token) (ss : List Symbol)
    (ts : List machine.Token) (q : Found) : Type 0 where
  fits : b ≡ true
  after : Tree
  outer : Derives g inside c ss after ts q.1
  is : q.0 ≡ grammar.word t after

-- a production of a nonterminal, and what the symbols after it derive
record Chosen (g : List Production) (k : ℕ) (m : Place) (b c : ℕ) (ss : List Symbol) (ts : List machine.Token)
    (q : Found) : Type 0 where
  number : ℕ
  right : List Symbol
  below : Tree
  after : Tree
  between : List machine.Token
  named : Is g number k right
  inner : Derives g m b right below ts between
  outer : Derives g inside c ss after between q.1
  is : q.0 ≡ node number below after

abbrev Good : List Production → Task → Found → Type 0
Good g (Derive m c ss ts) q = Derives g m c ss q.0 ts q.1
Good g (Matched b c t ss ts) q = Fitted g b c t ss ts q
Good g (Among os m b c ss ts) q = (k : ℕ) → AllOf g k os → Chosen g k m b c ss ts q
Good g (Tried o p os m b c ss ts) q =
    (k : ℕ) (r : List Symbol) → Is g p k r → ((z : Found) → o ≡ Some z → Derives g m b r z.0 ts z.1) → AllOf g k os →
    Chosen g k m b c ss ts q

-- what was found, with a word or a node before it
record Before (o : Option Found) (join : Tree → Tree) (q : Found) : Type 0 where
  found : Found
  was : o ≡ Some found
  tree : q.0 ≡ join found.0
  rest : q.1 ≡ found.1

word_before : (t : machine.Token) (o : Option Found) (q : Found) → put_word t o ≡ Some q →
    Before o (λ x. grammar.word t x) q
word_before t None q e = absurd cc
word_before t (Some z) q e =
    let f : (grammar.word t z.0, z.1) ≡ q = cc in
    record { found = z; was = refl; tree = sym (ap (λ y. y.0) f); rest = sym (ap (λ y. y.1) f) }

node_before : (p : ℕ) (x : Tree) (o : Option Found) (q : Found) → put_node p x o ≡ Some q → Before o (λ y. node p x y) q
node_before p x None q e = absurd cc
node_before p x (Some z) q e =
    let f : (node p x z.0, z.1) ≡ q = cc in
    record { found = z; was = refl; tree = sym (ap (λ y. y.0) f); rest = sym (ap (λ y. y.1) f) }

taken : {g : List Production} {m l : Place} {c b k : ℕ} {s : Symbol} {ss : List Symbol} {ts : List machine.Token} {q : Found} →
    grammar.Calls m c s k l b → Chosen g k l b c ss ts q → Derives g m c (s ∷ ss) q.0 ts q.1
taken {g = g} {m = m} {c = c} {s = s} {ss = ss} {ts = ts} {q = q} calls x =
    subst (λ z. Derives g m c (s ∷ ss) z ts q.1) (sym x.is) (a_node calls x.named x.inner x.outer)

-- no production, nothing found
nowhere : (g : List Production) (n b c : ℕ) (ss : List Symbol) (ts : List machine.Token) (q : Found) →
    seek g n (Among [] inside b c ss ts) ≡ Some q → ⊥
nowhere g zero b c ss ts q e = absurd cc
nowhere g (suc n) b c ss ts q e = absurd cc

found : (g : List Production) (n : ℕ) (task : Task) (q : Found) → seek g n task ≡ Some q → Good g task q
found g zero task q e = absurd cc
found g (suc n) (Derive m c [] ts) q e =
    let f : (leaf, ts) ≡ q = cc in
    subst (λ z. Derives g m c [] z.0 ts z.1) f nothing
found g (suc n) (Derive m c (Word set ∷ ss) []) q e = absurd cc
found g (suc n) (Derive m c (Word set ∷ ss) (t ∷ ts)) q e =
    let x = found g n (Matched (stands m c t && holds set t.class) c t ss ts) q e in
    let f = both_true (stands m c t) (holds set t.class) x.fits in
    subst (λ z. Derives g m c (Word set ∷ ss) z (t ∷ ts) q.1) (sym x.is)
    (a_word (holds_so set t.class f.1) (stands_so m c t f.0) x.outer)
found g (suc n) (Derive m c (Part k ∷ ss) ts) q e =
    taken a_part (found g n (Among (options g true k) m c c ss ts) q e k (some_options g true k))
found g (suc n) (Derive inside c (Line k ∷ ss) ts) q e =
    taken a_line (found g n (Among (options g true k) leading c c ss ts) q e k (some_options g true k))
found g (suc n) (Derive leading c (Line k ∷ ss) ts) q e = absurd cc
found g (suc n) (Derive inside c (Block k ∷ ss) []) q e = absurd cc
found g (suc n) (Derive inside c (Block k ∷ ss) (t ∷ ts)) q e =
    by (nat_lt c t.column) refl e (λ h. found g n (Among (options g true k) inside t.column c ss (t ∷ ts)) q h)
  where
    by : (b : Bool) → nat_lt c t.column ≡ b → seek g n (Among (options g b k) inside t.column c ss (t ∷ ts)) ≡ Some q →
        (seek g n (Among (options g true k) inside t.column c ss (t ∷ ts)) ≡ Some q →
        Good g (Among (options g true k) inside t.column c ss (t ∷ ts)) q) →
        Derives g inside c (Block k ∷ ss) q.0 (t ∷ ts) q.1
    by true f h more = taken (a_block (ltb-true c t.column f)) (more h k (some_options g true k))
    by false f h more = absurd (nowhere g n t.column c ss (t ∷ ts) q h)
found g (suc n) (Derive leading c (Block k ∷ ss) ts) q e = absurd cc
found g (suc n) (Matched false c t ss ts) q e = absurd cc
found g (suc n) (Matched true c t ss ts) q e =
    let x = word_before t (seek g n (Derive inside c ss ts)) q e in
    record {
      fits = refl;
      after = x.found.0;
      outer = subst (λ z. Derives g inside c ss x.found.0 ts z) (sym x.rest)
          (found g n (Derive inside c ss ts) x.found x.was);
      is = x.tree;
    }
found g (suc n) (Among [] m b c ss ts) q e = absurd cc
found g (suc n) (Among (o ∷ os) m b c ss ts) q e = λ k all.
    found g n (Tried (seek g n (Derive m b o.1 ts)) o.0 os m b c ss ts) q e k o.1 all.0
    (λ z f. found g n (Derive m b o.1 ts) z f) all.1
found g (suc n) (Tried None p os m b c ss ts) q e = λ k r i h all. found g n (Among os m b c ss ts) q e k all
found g (suc n) (Tried (Some y) p os m b c ss ts) q e = λ k r i h all.
    let x = node_before p y.0 (seek g n (Derive inside c ss y.1)) q e in
    record {
      number = p;
      right = r;
      below = y.0;
      after = x.found.0;
      between = y.1;
      named = i;
      inner = h y refl;
      outer = subst (λ z. Derives g inside c ss x.found.0 y.1 z) (sym x.rest)
          (found g n (Derive inside c ss y.1) x.found x.was);
      is = x.tree;
    }

-- ---- values

cast_same : (F : Item → Type 0) (i j : Item) (x : F i) (y : F j) → cast F i j x ≡ Some y →
    (P : (l : Item) → F l → Type 0) → P i x → P j y
cast_same F item.Word item.Word x y e P u = let f : x ≡ y = cc in subst (P item.Word) f u
cast_same F item.Module item.Module x y e P u = let f : x ≡ y = cc in subst (P item.Module) f u
cast_same F item.Header item.Header x y e P u = let f : x ≡ y = cc in subst (P item.Header) f u
cast_same F item.Exposing item.Exposing x y e P u = let f : x ≡ y = cc in subst (P item.Exposing) f u
cast_same F item.Exposed item.Exposed x y e P u = let f : x ≡ y = cc in subst (P item.Exposed) f u
cast_same F item.Import item.Import x y e P u = let f : x ≡ y = cc in subst (P item.Import) f u
cast_same F item.Declaration item.Declaration x y e P u = let f : x ≡ y = cc in subst (P item.Declaration) f u
cast_same F item.Rest item.Rest x y e P u = let f : x ≡ y = cc in subst (P item.Rest) f u
cast_same F item.Constructor item.Constructor x y e P u = let f : x ≡ y = cc in subst (P item.Constructor) f u
cast_same F item.TypeTree item.TypeTree x y e P u = let f : x ≡ y = cc in subst (P item.TypeTree) f u
cast_same F item.FieldType item.FieldType x y e P u = let f : x ≡ y = cc in subst (P item.FieldType) f u
cast_same F item.Pattern item.Pattern x y e P u = let f : x ≡ y = cc in subst (P item.Pattern) f u
cast_same F item.Expr item.Expr x y e P u = let f : x ≡ y = cc in subst (P item.Expr) f u
cast_same F item.Part item.Part x y e P u = let f : x ≡ y = cc in subst (P item.Part) f u
cast_same F item.Chain item.Chain x y e P u = let f : x ≡ y = cc in subst (P item.Chain) f u
cast_same F item.AfterMinus item.AfterMinus x y e P u = let f : x ≡ y = cc in subst (P item.AfterMinus) f u
cast_same F item.Record item.Record x y e P u = let f : x ≡ y = cc in subst (P item.Record) f u
cast_same F item.Branch item.Branch x y e P u = let f : x ≡ y = cc in subst (P item.Branch) f u
cast_same F item.Definition item.Definition x y e P u = let f : x ≡ y = cc in subst (P item.Definition) f u
cast_same F _ _ x y e P u = absurd cc

cast_thing_same : (j k : Kind) (x : Thing j) (y : Thing k) → cast_thing j k x ≡ Some y →
    (P : (l : Kind) → Thing l → Type 0) → P j x → P k y
cast_thing_same (One i) (One j) x y e P u = cast_same thing_of i j x y e (λ l z. P (One l) z) u
cast_thing_same (Many i) (Many j) x y e P u = cast_same (λ l. List (thing_of l)) i j x y e (λ l z. P (Many l) z) u
cast_thing_same _ _ x y e P u = absurd cc

record Pair (k : Kind) (ks : List Kind) (a : Option (Thing k)) (b : Option (Things ks))
    (vs : Things (k ∷ ks)) : Type 0 where
  first : Thing k
  others : Things ks
  one : a ≡ Some first
  two : b ≡ Some others
  is : ◌⸴◌ {k = k} first others ≡ vs

unpaired : (k : Kind) (ks : List Kind) (a : Option (Thing k)) (b : Option (Things ks)) (vs : Things (k ∷ ks)) →
    paired k ks a b ≡ Some vs → Pair k ks a b vs
unpaired k ks (Some v) (Some us) vs e =
    let f : ◌⸴◌ {k = k} v us ≡ vs = cc in
    record { first = v; others = us; one = refl; two = refl; is = f }
unpaired k ks None b vs e = absurd cc
unpaired k ks (Some v) None vs e = absurd cc

valued : (tokens : List Token) (ks : List Kind) (x : Tree) (vs : Things ks) → values tokens ks x ≡ Some vs →
    Means tokens x ks vs
valued tokens [] leaf none e = meaning.nothing
valued tokens [] (grammar.word t x) vs e = absurd cc
valued tokens [] (node p x y) vs e = absurd cc
valued tokens (k ∷ ks) leaf vs e = absurd cc
valued tokens (k ∷ ks) (grammar.word t x) vs e =
    let u = unpaired k ks (cast_thing (One item.Word) k (token_at tokens t.index)) (values tokens ks x) vs e in
    let m = valued tokens ks x u.others u.two in
    subst (Means tokens (grammar.word t x) (k ∷ ks)) u.is
    (cast_thing_same (One item.Word) k (token_at tokens t.index) u.first u.one
    (λ l z. Means tokens (grammar.word t x) (l ∷ ks) (◌⸴◌ {k = l} z u.others)) (meaning.a_word m))
valued tokens (k ∷ ks) (node p x y) vs e =
    by (values tokens (takes (action_at p)) x) refl e (λ us f. valued tokens (takes (action_at p)) x us f)
    (λ us f. valued tokens ks y us f)
  where
    by : (o : Option (Things (takes (action_at p)))) → values tokens (takes (action_at p)) x ≡ o →
        paired k ks (cast_made k p o) (values tokens ks y) ≡ Some vs →
        ((us : Things (takes (action_at p))) → values tokens (takes (action_at p)) x ≡ Some us →
        Means tokens x (takes (action_at p)) us) →
        ((us : Things ks) → values tokens ks y ≡ Some us → Means tokens y ks us) →
        Means tokens (node p x y) (k ∷ ks) vs
    by None f g below after = absurd cc
    by (Some us) f g below after =
        let u = unpaired k ks (cast_made k p (Some us)) (values tokens ks y) vs g in
        subst (Means tokens (node p x y) (k ∷ ks)) u.is
        (cast_thing_same (gives (action_at p)) k (made (action_at p) us) u.first u.one
        (λ l z. Means tokens (node p x y) (l ∷ ks) (◌⸴◌ {k = l} z u.others))
        (meaning.a_node (below us f) (after u.others u.two)))

-- ---- each value is the only one

cast_own : (F : Item → Type 0) (i : Item) (x : F i) → cast F i i x ≡ Some x
cast_own F item.Word x = refl
cast_own F item.Module x = refl
cast_own F item.Header x = refl
cast_own F item.Exposing x = refl
cast_own F item.Exposed x = refl
cast_own F item.Import x = refl
cast_own F item.Declaration x = refl
cast_own F item.Rest x = refl
cast_own F item.Constructor x = refl
cast_own F item.TypeTree x = refl
cast_own F item.FieldType x = refl
cast_own F item.Pattern x = refl
cast_own F item.Expr x = refl
cast_own F item.Part x = refl
cast_own F item.Chain x = refl
cast_own F item.AfterMinus x = refl
cast_own F item.Record x = refl
cast_own F item.Branch x = refl
cast_own F item.Definition x = refl

cast_thing_own : (k : Kind) (x : Thing k) → cast_thing k k x ≡ Some x
cast_thing_own (One i) x = cast_own thing_of i x
cast_thing_own (Many i) xs = cast_own (λ l. List (thing_of l)) i xs

pairs : (k : Kind) (ks : List Kind) (v : Thing k) (vs : Things ks) {a : Option (Thing k)} {b : Option (Things ks)} →
    a ≡ Some v → b ≡ Some vs → paired k ks a b ≡ Some (◌⸴◌ {k = k} v vs)
pairs k ks v vs e f = rw (e, f) refl

pub means_valued : {tokens : List Token} {x : Tree} {ks : List Kind} {vs : Things ks} → Means tokens x ks vs →
    values tokens ks x ≡ Some vs
means_valued meaning.nothing = refl
means_valued {tokens = tokens} (meaning.a_word {t = t} {ks = ks} {vs = vs} m) =
    pairs (One item.Word) ks (token_at tokens t.index) vs
    (cast_thing_own (One item.Word) (token_at tokens t.index)) (means_valued m)
means_valued (meaning.a_node {p = p} {ks = ks} {us = us} {vs = vs} m n) =
    pairs (gives (action_at p)) ks (made (action_at p) us) vs
    (ap (cast_made (gives (action_at p)) p) (means_valued m)
    ∙ cast_thing_own (gives (action_at p)) (made (action_at p) us)) (means_valued n)

-- a derivation stands for one value alone
pub one_value : (tokens : List Token) (x : Tree) (k : Kind) (v w : Thing k) →
    Means tokens x (k ∷ []) (◌⸴◌ {k = k} v none) → Means tokens x (k ∷ []) (◌⸴◌ {k = k} w none) → v ≡ w
one_value tokens x k v w m n =
    let e : only k (Some (◌⸴◌ {k = k} v none)) ≡ only k (Some (◌⸴◌ {k = k} w none)) =
    ap (only k) (sym (means_valued m) ∙ means_valued n) in
    let f : Some v ≡ Some w = e in
    cc

-- ---- texts

only_so : (k : Kind) (o : Option (Things (k ∷ []))) (v : Thing k) → only k o ≡ Some v → o ≡ Some (◌⸴◌ {k = k} v none)
only_so k None v e = absurd cc
only_so k (Some (w ⸴ none)) v e = let f : w ≡ v = cc in ap (λ z. Some (◌⸴◌ {k = k} z none)) f

whole_so : (o : Option Found) (x : Tree) → whole o ≡ Some x → o ≡ Some (x, [])
whole_so None x e = absurd cc
whole_so (Some (y, [])) x e = let f : y ≡ x = cc in ap (λ z. Some (z, [])) f
whole_so (Some (y, (t ∷ ts))) x e = absurd cc

-- what is computed is what the tokens spell
pub read_so : (n column : ℕ) (k : Kind) (tokens : List Token) (v : Thing k) → read n column k tokens ≡ Some v →
    Spells tokens n column k v (classed tokens)
read_so n column k tokens v e = by (derived n column tokens) refl e
  where
    by : (o : Option Tree) → derived n column tokens ≡ o → value_of tokens k o ≡ Some v →
        Spells tokens n column k v (classed tokens)
    by None f g = absurd cc
    by (Some x) f g =
        let w = whole_so (seek elm 4000 (Derive inside column (Part n ∷ []) (classed tokens))) x f in
        record {
          derivation = x;
          derived = found elm 4000 (Derive inside column (Part n ∷ []) (classed tokens)) (x, []) w;
          means = valued tokens (k ∷ []) x (◌⸴◌ {k = k} v none) (only_so k (values tokens (k ∷ []) x) v g);
        }
