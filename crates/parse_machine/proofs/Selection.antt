-- What the machine selects is what stands in each derivation.
use Rattle.std.proofs.Common.{◌≡◌, ℕ, ◌<◌, Bool, true, false, cond, nat_lt, nat_eq, List, [], ◌∷◌, Option, Some, None}
use Rattle.std.proofs.Common.{◌⊎◌, inl, inr, refl, sym, ◌∙◌, ap, subst, arith}
use Rattle.parse_machine.specs.declared.table.Symbol.{Symbol}
use Rattle.parse_machine.specs.declared.table.Symbol.TheVariants.{Word, Part, Line, Block}
use Rattle.parse_machine.specs.declared.table.Token.{Token}
use Rattle.parse_machine.specs.Grammar.{Production, ◌⟶◌, Is, Place, inside, leading, Calls, a_part, a_line, a_block}
use Rattle.parse_machine.specs.Grammar.{Tree}
use Rattle.parse_machine.specs.Plan.{Look, beyond, level, outside, look, Plan, Opens, Fits, IsPlanned, choice, chosen}
use Rattle.parse_machine.specs.Plan.{or_else, select}
use Rattle.parse_machine.proofs.Stack.{Frame, frame, Reads, closed}
use Rattle.parse_machine.proofs.Opening.{OpensAt, opens, Good, Seen, seen_beyond, seen_level, seen_outside, seen}
use Rattle.parse_machine.proofs.Opening.{is_inside, is_level, lt_true, true_lt, true_eq, eq_true}

pub same_production : (g : List Production) (p n k : ℕ) (r q : List Symbol) → Is g p n r → Is g p k q →
    (n ≡ k) × (r ≡ q)
same_production g p n k r q i j =
    let e : Some (n ⟶ r) ≡ Some (k ⟶ q) = sym i ∙ j in
    (cc, cc)

-- ---- what is selected stands there

-- what the selection means: a call, and a production of what it asks for
pub record Selected (g : List Production) (s : Symbol) (m : Place) (c p : ℕ) (l : Place) (b : ℕ) : Type 0 where
  pub asked : ℕ
  pub right : List Symbol
  pub calls : Calls m c s asked l b
  pub is : Is g p asked right

chosen_is : (m l : Place) (c b p : ℕ) (o : Option ℕ) → chosen m c o ≡ Some (choice p l b) →
    (o ≡ Some p) × (m ≡ l) × (c ≡ b)
chosen_is m l c b p (Some q) e = (cc, cc, cc)
chosen_is m l c b p None e = absurd cc

production_of : (g : List Production) (P : Plan) → IsPlanned g P → (n p : ℕ) (l : Look) →
    (or_else (P.takes n l) (P.empty n)) ≡ Some p → (r : List Symbol) × Is g p n r
production_of g P C n p l e = go (P.takes n l) refl
  where
    go : (o : Option ℕ) → P.takes n l ≡ o → (r : List Symbol) × Is g p n r
    go (Some q) w = (let k : P.takes n l ≡ Some p = w ∙ (sym (ap (λ x. or_else x (P.empty n)) w) ∙ e) in let x =
        C.taken n p l k in (x.0 ∷ x.1, x.2))
    go None w = ([], C.vanished n p (sym (ap (λ x. or_else x (P.empty n)) w) ∙ e))

part_selected : (g : List Production) (P : Plan) → IsPlanned g P →
    (n : ℕ) (m : Place) (c p : ℕ) (l : Place) (b : ℕ) (k : Look) →
    chosen m c (or_else (P.takes n k) (P.empty n)) ≡ Some (choice p l b) → Selected g (Part n) m c p l b
part_selected g P C n m c p l b k e =
    let w = chosen_is m l c b p _ e in
    let x = production_of g P C n p k w.0 in
    record {
      asked = n;
      right = x.0;
      calls =
          subst (λ z. Calls m c (Part n) n z b) w.1 (subst (λ z. Calls m c (Part n) n m z) w.2 a_part);
      is = x.1;
    }

-- an empty text selects what the first token selects, or the symbol opens with that token
pub selects_how : (P : Plan) (s : Symbol) (m : Place) (c : ℕ) (at : List Token) (p : ℕ) (l : Place) (b : ℕ) →
    select P s m c at ≡ Some (choice p l b) →
    (select P s m c [] ≡ Some (choice p l b)) ⊎
    ((t : Token) × (ts : List Token) × (at ≡ t ∷ ts) × Opens P s (look m c t))
selects_how P (Part n) m c [] p l b e = inl e
selects_how P (Part n) m c (t ∷ ts) p l b e = go (P.takes n (look m c t)) refl
  where
    go : (o : Option ℕ) → P.takes n (look m c t) ≡ o →
        (select P (Part n) m c [] ≡ Some (choice p l b)) ⊎
        ((u : Token) × (us : List Token) × (t ∷ ts ≡ u ∷ us) × Opens P (Part n) (look m c u))
    go (Some q) w = inr (t, ts, refl, (q, w))
    go None w = inl (sym (ap (λ x. chosen m c (or_else x (P.empty n))) w) ∙ e)
selects_how P (Line n) inside c (t ∷ ts) p l b e = go (nat_eq t.column c) refl e
  where
    go : (x : Bool) → nat_eq t.column c ≡ x →
        cond x (chosen leading c (P.takes n (beyond t.class))) None ≡ Some (choice p l b) →
        (select P (Line n) inside c [] ≡ Some (choice p l b)) ⊎
        ((u : Token) × (us : List Token) × (t ∷ ts ≡ u ∷ us) × Opens P (Line n) (look inside c u))
    go false y q = absurd cc
    go true y q =
        inr (t, ts, refl, (t.class, is_level c t (eq_true t.column c y), p, (chosen_is leading l c b p _ q).0))
selects_how P (Block n) inside c (t ∷ ts) p l b e = go (nat_lt c t.column) refl e
  where
    go : (x : Bool) → nat_lt c t.column ≡ x →
        cond x (chosen inside t.column (P.takes n (level t.class))) None ≡ Some (choice p l b) →
        (select P (Block n) inside c [] ≡ Some (choice p l b)) ⊎
        ((u : Token) × (us : List Token) × (t ∷ ts ≡ u ∷ us) × Opens P (Block n) (look inside c u))
    go false y q = absurd cc
    go true y q =
        inr (t, ts, refl, (t.class, is_inside c t (lt_true c t.column y), p, (chosen_is inside l t.column b p _ q).0))
selects_how P (Word k) m c ts p l b e = absurd cc
selects_how P (Line n) leading c ts p l b e = absurd cc
selects_how P (Block n) leading c ts p l b e = absurd cc
selects_how P (Line n) inside c [] p l b e = absurd cc
selects_how P (Block n) inside c [] p l b e = absurd cc

-- where the first token selects nothing, an empty text does not either
pub selects_none : (P : Plan) (s : Symbol) (m : Place) (c : ℕ) (at : List Token) → select P s m c at ≡ None →
    select P s m c [] ≡ None
selects_none P (Part n) m c [] e = e
selects_none P (Part n) m c (t ∷ ts) e = go (P.takes n (look m c t)) refl
  where
    go : (o : Option ℕ) → P.takes n (look m c t) ≡ o → select P (Part n) m c [] ≡ None
    go (Some q) w = absurd (let v : Some (choice q m c) ≡ None =
        sym (ap (λ x. chosen m c (or_else x (P.empty n))) w) ∙ e in cc)
    go None w = sym (ap (λ x. chosen m c (or_else x (P.empty n))) w) ∙ e
selects_none P (Word k) m c at e = refl
selects_none P (Line n) inside c at e = refl
selects_none P (Line n) leading c at e = refl
selects_none P (Block n) inside c at e = refl
selects_none P (Block n) leading c at e = refl

pub selected : (g : List Production) (P : Plan) → IsPlanned g P →
    (s : Symbol) (m : Place) (c : ℕ) (ts : List Token) (p : ℕ) (l : Place) (b : ℕ) →
    select P s m c ts ≡ Some (choice p l b) → Selected g s m c p l b
selected g P C (Part n) m c [] p l b e =
    part_selected g P C n m c p l b outside (ap (λ x. chosen m c (or_else x (P.empty n))) (C.nowhere n) ∙ e)
selected g P C (Part n) m c (t ∷ ts) p l b e = part_selected g P C n m c p l b (look m c t) e
selected g P C (Line n) inside c (t ∷ ts) p l b e = go (nat_eq t.column c) e
  where
    go : (x : Bool) → cond x (chosen leading c (P.takes n (beyond t.class))) None ≡ Some (choice p l b) →
        Selected g (Line n) inside c p l b
    go false q = absurd cc
    go true q =
        (let w = chosen_is leading l c b p _ q in
        let x = C.taken n p (beyond t.class) w.0 in
        record {
          asked = n;
          right = x.0 ∷ x.1;
          calls =
              subst (λ z. Calls inside c (Line n) n z b) w.1
              (subst (λ z. Calls inside c (Line n) n leading z) w.2 a_line);
          is = x.2;
        })
selected g P C (Block n) inside c (t ∷ ts) p l b e = go (nat_lt c t.column) refl e
  where
    go : (x : Bool) → nat_lt c t.column ≡ x →
        cond x (chosen inside t.column (P.takes n (level t.class))) None ≡ Some (choice p l b) →
        Selected g (Block n) inside c p l b
    go false y q = absurd cc
    go true y q =
        (let w = chosen_is inside l t.column b p _ q in
        let x = C.taken n p (level t.class) w.0 in
        record {
          asked = n;
          right = x.0 ∷ x.1;
          calls =
              subst (λ z. Calls inside c (Block n) n z b) w.1
              (subst (λ z. Calls inside c (Block n) n inside z) w.2 (a_block (lt_true c t.column y)));
          is = x.2;
        })
selected g P C (Word k) m c ts p l b e = absurd cc
selected g P C (Line n) leading c ts p l b e = absurd cc
selected g P C (Block n) leading c ts p l b e = absurd cc
selected g P C (Line n) inside c [] p l b e = absurd cc
selected g P C (Block n) inside c [] p l b e = absurd cc

-- ---- what stands there is selected

-- a part under which nothing is read
empty_part : (g : List Production) (P : Plan) → IsPlanned g P →
    (m : Place) (c n p : ℕ) (ss : List Symbol) (S : List Frame) (xs : List Tree) (ts : List Token) →
    Good g P (frame (Part n ∷ ss) c m ∷ S) → Is g p n [] → Reads g (frame ss c inside ∷ S) xs ts →
    select P (Part n) m c ts ≡ Some (choice p m c)
empty_part g P C inside c n p ss S xs [] h i d = ap (chosen inside c) (C.vanishing p n i)
empty_part g P C inside c n p ss S xs (t ∷ ts) h i d =
    let e = C.vanishing p n i in
    let a = C.apart n p (look inside c t) e (h.1.1 xs t ts d) in
    ap (λ x. chosen inside c (or_else x (P.empty n))) a ∙ ap (chosen inside c) e
empty_part g P C leading c n p ss S xs ts h i d = absurd (C.plainly p n [] i h.0)

full_part : (g : List Production) (P : Plan) (m : Place) (c n p : ℕ) (ts : List Token) → IsPlanned g P →
    (s : Symbol) (r : List Symbol) → Is g p n (s ∷ r) → OpensAt P s m c ts →
    select P (Part n) m c ts ≡ Some (choice p m c)
full_part g P m c n p [] C s r i o = absurd o
full_part g P m c n p (t ∷ ts) C s r i o =
    ap (λ x. chosen m c (or_else x (P.empty n))) (C.opening p n s r (look m c t) i o)

full_line : (g : List Production) (P : Plan) (c n p : ℕ) (ts : List Token) → IsPlanned g P →
    (s : Symbol) (r : List Symbol) → Is g p n (s ∷ r) → OpensAt P s leading c ts →
    select P (Line n) inside c ts ≡ Some (choice p leading c)
full_line g P c n p [] C s r i o = absurd o
full_line g P c n p (t ∷ ts) C s r i o =
    go (look leading c t) (seen leading c t) (C.opening p n s r (look leading c t) i o)
  where
    go : (l : Look) → Seen leading c t l → P.takes n l ≡ Some p →
        select P (Line n) inside c (t ∷ ts) ≡ Some (choice p leading c)
    go (beyond k) (seen_beyond w) q = rw (true_eq t.column c w, q) refl
    go (level k) x q = elim x [ ]
    go outside seen_outside q = absurd (let v = C.nowhere n in cc)

full_block : (g : List Production) (P : Plan) (c b n p : ℕ) (ts : List Token) → IsPlanned g P → c < b →
    Fits g P (Block n) → (s : Symbol) (r : List Symbol) → Is g p n (s ∷ r) → OpensAt P s inside b ts →
    select P (Block n) inside c ts ≡ Some (choice p inside b)
full_block g P c b n p [] C h f s r i o = absurd o
full_block g P c b n p (t ∷ ts) C h f s r i o =
    go (look inside b t) (seen inside b t) (C.opening p n s r (look inside b t) i o)
  where
    go : (l : Look) → Seen inside b t l → P.takes n l ≡ Some p →
        select P (Block n) inside c (t ∷ ts) ≡ Some (choice p inside b)
    go (beyond k) (seen_beyond w) q = absurd (let v = f.2 t.class in cc)
    go (level k) (seen_level w) q = rw (true_lt c t.column (omega arith), q) (ap (λ x. Some (choice p inside x)) w)
    go outside seen_outside q = absurd (let v = C.nowhere n in cc)

pub selects : (g : List Production) (P : Plan) → IsPlanned g P → {m l : Place} {c b n : ℕ} {s : Symbol} →
    (p : ℕ) (r ss : List Symbol) (S : List Frame) (x y : Tree) (xs : List Tree) (ts : List Token) →
    Good g P (frame (s ∷ ss) c m ∷ S) → Calls m c s n l b → Is g p n r →
    Reads g (frame r b l ∷ frame ss c inside ∷ S) (x ∷ y ∷ xs) ts → select P s m c ts ≡ Some (choice p l b)
selects g P C {m = m} {c = c} {n = n} p [] ss S x y xs ts h a_part i (closed d) =
    empty_part g P C m c n p ss S _ ts h i d
selects g P C {n = n} p [] ss S x y xs ts h a_line i d = absurd (let e = C.vanishing p n i in let f = h.1.0.2 in cc)
selects g P C {n = n} p [] ss S x y xs ts h (a_block w) i d = absurd (let e = C.vanishing p n i in let f =
    h.1.0.1 in cc)
selects g P C {m = m} {c = c} {n = n} p (s2 ∷ r) ss S x y xs ts h a_part i d =
    full_part g P m c n p ts C s2 r i (opens g P C (C.firm p n s2 r i) (C.orderly p n (s2 ∷ r) i).0 d)
selects g P C {c = c} {n = n} p (s2 ∷ r) ss S x y xs ts h a_line i d =
    full_line g P c n p ts C s2 r i (opens g P C (C.firm p n s2 r i) (C.orderly p n (s2 ∷ r) i).0 d)
selects g P C {c = c} {b = b} {n = n} p (s2 ∷ r) ss S x y xs ts h (a_block w) i d =
    full_block g P c b n p ts C w h.1.0 s2 r i (opens g P C (C.firm p n s2 r i) (C.orderly p n (s2 ∷ r) i).0 d)
