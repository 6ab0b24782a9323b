-- Steps that write the slots of what is asked to be the same.
use Rattle.std.proofs.Common.{◌≡◌, ◌≢◌, ℕ, suc, ◌<◌, List, [], ◌∷◌, ◌++◌, length, set, map, true, false, inl, Option, Some, None, refl, sym, ap, ◌∙◌, subst, arith, All, Contains}
use Rattle.std.proofs.lemmas.List.{length-set}
use Rattle.std.proofs.lemmas.List.Elements.{All-head, All-tail, All-cons, All-nil, All-append, Contains-push}
use Rattle.elm_type.specs.Types.{ElmTypes, Made, Record, MoreType, Closed, Over, NoField, types_of, variable, Rigid}
use Rattle.elm_type.specs.Classes.{Ground}
use Rattle.elm_type.specs.Rows.{extend, insert_all, field_type}
use Rattle.elm_type.specs.declared.head.Head.{Head}
use Rattle.elm_type.specs.Ground.{lacks_all, is_ground}
use Rattle.type_store.specs.Store.{FieldSlot, Cell, Open, Bound, Built, Row, Constant, Slot, Store, slot_at, field_names}
use Rattle.type_store.specs.Solutions.{Values, Says, Meets, constant_of, Fit, Same, MeetsAsk, Becomes, Clash, row_value, rest_value}
use Rattle.type_store.specs.Steps.{kind_asks, put, sames, Leads, Here, Through}
use Rattle.type_store.specs.Ends.{Turns}
use Rattle.type_store.proofs.RowsMeet.{first_or, found_first, found_all}
use Rattle.type_store.proofs.Turns.{chained, stays, becomes, exchanged, met_at, kind_to_asks, kind_from_asks, any_fits, one_ask, all_left, all_right, slot_same, slot_other, no_constants_set, constants_same, constants_left, constant_at, SameConstants}

pub put_meets : (σ : Values) (c : Cell) (d : ℕ) (t : Ground) → Says σ t c → is_ground t ≡ true → Meets σ (put c d) t
put_meets σ c d t s g = record { cell = s; kind = any_fits t; ground = g }

pub says_at : (σ : Values) (s : Store) (v : ℕ) (c : Cell) → (slot_at s v).cell ≡ c → Fit σ s → Says σ (σ.types v) c
says_at σ s v c e f = subst (λ (x : Cell). Says σ (σ.types v) x) e (f.each v).cell

-- the same facts in other words
pub retold : {P Q R : Values → Type 0} (s t : Store) → Turns s P t Q → ((σ : Values) → Fit σ t → R σ → Q σ) → ((σ : Values) → Fit σ t → Q σ → R σ) → Turns s P t R
retold s t u a b = chained s t t u (stays t a b)

pub retold_before : {P Q R : Values → Type 0} (s t : Store) → ((σ : Values) → Fit σ s → Q σ → P σ) → ((σ : Values) → Fit σ s → P σ → Q σ) → Turns s Q t R → Turns s P t R
retold_before s t a b u = chained s s t (stays s a b) u

-- ---- chains of variables that are bound

pub leads_same : (σ : Values) (s : Store) (v w : ℕ) → Fit σ s → Leads s v w → σ.types v ≡ σ.types w
leads_same σ s v w f (Here x) = refl
leads_same σ s v w f (Through x u y e l) = says_at σ s x (Bound u) e f ∙ leads_same σ s u y f l

-- what is asked of variables is asked of those that they lead to
pub same_roots : (s : Store) (v w a b : ℕ) → Leads s v a → Leads s w b → Becomes s (Same v w ∷ []) s (Same a b ∷ [])
same_roots s v w a b l m = becomes s s (Same v w ∷ []) (Same a b ∷ []) (stays s
    (λ σ f h. one_ask σ (Same v w) (leads_same σ s v a f l ∙ (All-head (MeetsAsk σ) (Same a b) [] h ∙ sym (leads_same σ s w b f m))))
    (λ σ f h. one_ask σ (Same a b) (sym (leads_same σ s v a f l) ∙ (All-head (MeetsAsk σ) (Same v w) [] h ∙ leads_same σ s w b f m))))

pub same_turned : (s : Store) (a b : ℕ) → Becomes s (Same a b ∷ []) s (Same b a ∷ [])
same_turned s a b = becomes s s (Same a b ∷ []) (Same b a ∷ []) (stays s
    (λ σ f h. one_ask σ (Same a b) (sym (All-head (MeetsAsk σ) (Same b a) [] h)))
    (λ σ f h. one_ask σ (Same b a) (sym (All-head (MeetsAsk σ) (Same a b) [] h))))

-- a variable is itself
pub same_itself : (s : Store) (a : ℕ) → Becomes s (Same a a ∷ []) s []
same_itself s a = becomes s s (Same a a ∷ []) [] (stays s (λ σ f h. one_ask σ (Same a a) refl) (λ σ f h. All-nil (MeetsAsk σ)))

-- ---- of two variables one is bound to the other

same_swap : (a b : ℕ) → a ≢ b → b ≢ a
same_swap a b n e = n (sym e)

pub bound : {R : Values → Type 0} (s : Store) (a b d : ℕ) → b < length s → SameConstants s (set s b (put (Bound a) d))
    → Turns s (λ σ. (σ.types a ≡ σ.types b) × R σ) (set s b (put (Bound a) d))
    (λ σ. Says σ (σ.types b) (slot_at s b).cell × (All (MeetsAsk σ) (kind_asks b (slot_at s b).kind) × R σ))
bound s a b d l c = exchanged s b (put (Bound a) d) l c
    (λ σ f q. (
      record { cell = q.0; kind = kind_from_asks σ b (slot_at s b).kind q.1.0; ground = (f.each b).ground },
      (sym (met_at σ s b (put (Bound a) d) l f).cell, q.1.1),
    ))
    (λ σ f p. (
      put_meets σ (Bound a) d (σ.types b) (sym p.0) (f.each b).ground,
      ((f.each b).cell, (kind_to_asks σ b (slot_at s b).kind (f.each b).kind, p.1)),
    ))

-- where the new store says what the cell said
pub bound_alone : (s : Store) (a b d : ℕ) → b < length s → SameConstants s (set s b (put (Bound a) d))
    → ((σ : Values) → Fit σ (set s b (put (Bound a) d)) → σ.types b ≡ σ.types a → Says σ (σ.types b) (slot_at s b).cell)
    → Becomes s (Same a b ∷ []) (set s b (put (Bound a) d)) (kind_asks b (slot_at s b).kind)
bound_alone s a b d l c said =
    let new = set s b (put (Bound a) d) in
    becomes s new (Same a b ∷ []) (kind_asks b (slot_at s b).kind)
    (retold_before {Q = λ σ. (σ.types a ≡ σ.types b) × Unit {0}} s new
    (λ σ f q. one_ask σ (Same a b) q.0)
    (λ σ f h. (All-head (MeetsAsk σ) (Same a b) [] h, tt))
    (retold {Q = λ σ. Says σ (σ.types b) (slot_at s b).cell × (All (MeetsAsk σ) (kind_asks b (slot_at s b).kind) × Unit {0})} s new (bound s a b d l c)
    (λ σ f h. (said σ f (met_at σ s b (put (Bound a) d) l f).cell, (h, tt)))
    (λ σ f q. q.1.0)))

-- the second is open: it is bound to the first
pub second_open : (s : Store) (a b d : ℕ) → b < length s → (slot_at s b).cell ≡ Open → Becomes s (Same a b ∷ []) (set s b (put (Bound a) d)) (kind_asks b (slot_at s b).kind)
second_open s a b d l e = bound_alone s a b d l (no_constants_set s b (put (Bound a) d) (ap constant_of e) refl) (λ σ f q. subst (λ (x : Cell). Says σ (σ.types b) x) (sym e) tt)

-- both are the same constant
pub same_constant : (s : Store) (a b d : ℕ) (r : Rigid) → a ≢ b → b < length s → (slot_at s a).cell ≡ Constant r → (slot_at s b).cell ≡ Constant r
    → Becomes s (Same a b ∷ []) (set s b (put (Bound a) d)) (kind_asks b (slot_at s b).kind)
same_constant s a b d r n l e g = bound_alone s a b d l
    (constants_left s b a (put (Bound a) d) n refl (ap constant_of g ∙ sym (ap constant_of e)))
    (λ σ f q. subst (λ (x : Cell). Says σ (σ.types b) x) (sym g)
    (q ∙ says_at σ (set s b (put (Bound a) d)) a (Constant r) (ap (λ (x : Slot). x.cell) (slot_other s b a (put (Bound a) d) n) ∙ e) f))

-- two constants are never the same
pub other_constant : (s : Store) (a b : ℕ) (r t : Rigid) → r ≢ t → (slot_at s a).cell ≡ Constant r → (slot_at s b).cell ≡ Constant t → Clash s (Same a b ∷ [])
other_constant s a b r t n e g = record {
  never = λ σ f h. (
      let p : σ.types a ≡ variable (σ.constants r) = says_at σ s a (Constant r) e f in
      let q : σ.types b ≡ variable (σ.constants t) = says_at σ s b (Constant t) g f in
      let o : σ.types a ≡ σ.types b = All-head (MeetsAsk σ) (Same a b) [] h in
      let k : σ.constants r ≡ σ.constants t = cc in
      n (f.renames.apart r t
      (constant_at s a r (subst (λ xs. Contains xs r) (sym (ap constant_of e)) (Contains-push [] r)))
      (constant_at s b t (subst (λ xs. Contains xs t) (sym (ap constant_of g)) (Contains-push [] t))) k));
}

-- ---- the first is open: it takes what is known of the second, which is bound to it

pub filled : {R : Values → Type 0} (s : Store) (a b d : ℕ) → a < length s → (slot_at s a).cell ≡ Open
    → Turns s (λ σ. (σ.types a ≡ σ.types b) × R σ) (set s a (put (slot_at s b).cell d))
    (λ σ. (Says σ (σ.types a) (slot_at s b).cell) × ((σ.types a ≡ σ.types b) × (All (MeetsAsk σ) (kind_asks a (slot_at s a).kind) × R σ)))
filled s a b d l e = exchanged s a (put (slot_at s b).cell d) l (constants_same s a b (put (slot_at s b).cell d) l refl (inl (ap constant_of e)))
    (λ σ f q. (
      record { cell = subst (λ (x : Cell). Says σ (σ.types a) x) (sym e) tt; kind = kind_from_asks σ a (slot_at s a).kind q.1.1.0; ground = (f.each a).ground },
      (q.1.0, q.1.1.1),
    ))
    (λ σ f p. (
    let said : Says σ (σ.types a) (slot_at s b).cell = subst (λ t. Says σ t (slot_at s b).cell) (sym p.0) (f.each b).cell in
    (put_meets σ (slot_at s b).cell d (σ.types a) said (f.each a).ground, (said, (p.0, (kind_to_asks σ a (slot_at s a).kind (f.each a).kind, p.1))))))

pub first_open : (s : Store) (a b d e : ℕ) → a ≢ b → a < length s → b < length s → (slot_at s a).cell ≡ Open
    → Becomes s (Same a b ∷ []) (set (set s a (put (slot_at s b).cell d)) b (put (Bound a) e)) (kind_asks a (slot_at s a).kind ++ kind_asks b (slot_at s b).kind)
first_open s a b d e n la lb o =
    let mid = set s a (put (slot_at s b).cell d) in
    let new = set mid b (put (Bound a) e) in
    let lm : b < length mid = omega (arith, length-set s a (put (slot_at s b).cell d)) in
    let at_b : slot_at mid b ≡ slot_at s b = slot_other s a b (put (slot_at s b).cell d) (same_swap a b n) in
    let at_a : slot_at mid a ≡ put (slot_at s b).cell d = slot_same s a (put (slot_at s b).cell d) la in
    let mid_cells : constant_of (slot_at mid b).cell ≡ constant_of (slot_at mid a).cell = ap (λ (x : Slot). constant_of x.cell) at_b ∙ sym (ap (λ (x : Slot). constant_of x.cell) at_a) in
    let new_a : slot_at new a ≡ put (slot_at s b).cell d = slot_other mid b a (put (Bound a) e) n ∙ at_a in
    becomes s new (Same a b ∷ []) (kind_asks a (slot_at s a).kind ++ kind_asks b (slot_at s b).kind)
    (retold_before {Q = λ σ. (σ.types a ≡ σ.types b) × Unit {0}} s new
    (λ σ f q. one_ask σ (Same a b) q.0)
    (λ σ f h. (All-head (MeetsAsk σ) (Same a b) [] h, tt))
    (chained s mid new (retold {R = λ σ. (σ.types a ≡ σ.types b) × All (MeetsAsk σ) (kind_asks a (slot_at s a).kind)} s mid (filled {R = λ σ. Unit {0}} s a b d la o)
    (λ σ f h. (subst (λ (x : Slot). Says σ (σ.types a) x.cell) at_a (f.each a).cell, (h.0, (h.1, tt))))
    (λ σ f q. (q.1.0, q.1.1.0)))
    (retold {Q = λ σ. Says σ (σ.types b) (slot_at mid b).cell × (All (MeetsAsk σ) (kind_asks b (slot_at mid b).kind) × All (MeetsAsk σ) (kind_asks a (slot_at s a).kind))} mid new
    (bound mid a b e lm (constants_left mid b a (put (Bound a) e) n refl mid_cells))
    (λ σ f h. (
    let q : σ.types b ≡ σ.types a = (met_at σ mid b (put (Bound a) e) lm f).cell in
    let said : Says σ (σ.types a) (slot_at s b).cell = subst (λ (x : Slot). Says σ (σ.types a) x.cell) new_a (f.each a).cell in (
      subst (λ (x : Slot). Says σ (σ.types b) x.cell) (sym at_b) (subst (λ t. Says σ t (slot_at s b).cell) (sym q) said),
      (
        subst (λ (x : Slot). All (MeetsAsk σ) (kind_asks b x.kind)) (sym at_b) (all_right (MeetsAsk σ) (kind_asks a (slot_at s a).kind) (kind_asks b (slot_at s b).kind) h),
        all_left (MeetsAsk σ) (kind_asks a (slot_at s a).kind) (kind_asks b (slot_at s b).kind) h,
      ),
    )))
    (λ σ f q. All-append (MeetsAsk σ) (kind_asks a (slot_at s a).kind) (kind_asks b (slot_at s b).kind) q.1.1
    (subst (λ (x : Slot). All (MeetsAsk σ) (kind_asks b x.kind)) at_b q.1.0)))))

-- ---- both are built

sames_from : (σ : Values) (ks ws : List ℕ) → types_of (map σ.types ks) ≡ types_of (map σ.types ws) → All (MeetsAsk σ) (sames ks ws)
sames_from σ [] ws e = All-nil (MeetsAsk σ)
sames_from σ (k ∷ ks) [] e = All-nil (MeetsAsk σ)
sames_from σ (k ∷ ks) (w ∷ ws) e =
    let a : σ.types k ≡ σ.types w = cc in
    let b : types_of (map σ.types ks) ≡ types_of (map σ.types ws) = cc in
    All-cons (MeetsAsk σ) (Same k w) (sames ks ws) a (sames_from σ ks ws b)

sames_types : (σ : Values) (ks ws : List ℕ) → length ks ≡ length ws → All (MeetsAsk σ) (sames ks ws) → types_of (map σ.types ks) ≡ types_of (map σ.types ws)
sames_types σ [] [] l h = refl
sames_types σ [] (w ∷ ws) l h = absurd (omega (arith, l))
sames_types σ (k ∷ ks) [] l h = absurd (omega (arith, l))
sames_types σ (k ∷ ks) (w ∷ ws) l h =
    ap (λ t. MoreType t (types_of (map σ.types ks))) (All-head (MeetsAsk σ) (Same k w) (sames ks ws) h) ∙
    ap (MoreType (σ.types w)) (sames_types σ ks ws (omega (arith, l)) (All-tail (MeetsAsk σ) (Same k w) (sames ks ws) h))

same_lengths : (σ : Values) (ks ws : List ℕ) → types_of (map σ.types ks) ≡ types_of (map σ.types ws) → length ks ≡ length ws
same_lengths σ [] [] e = refl
same_lengths σ [] (w ∷ ws) e = absurd cc
same_lengths σ (k ∷ ks) [] e = absurd cc
same_lengths σ (k ∷ ks) (w ∷ ws) e = let b : types_of (map σ.types ks) ≡ types_of (map σ.types ws) = cc in ap suc (same_lengths σ ks ws b)

pub both_built : (s : Store) (a b d : ℕ) (h : Head) (ks ws : List ℕ) → a ≢ b → b < length s → length ks ≡ length ws → (slot_at s a).cell ≡ Built h ks → (slot_at s b).cell ≡ Built h ws
    → Becomes s (Same a b ∷ []) (set s b (put (Bound a) d)) (sames ks ws ++ kind_asks b (slot_at s b).kind)
both_built s a b d h ks ws n l same e g =
    let new = set s b (put (Bound a) d) in
    let kinds = kind_asks b (slot_at s b).kind in
    let new_a : (slot_at new a).cell ≡ Built h ks = ap (λ (x : Slot). x.cell) (slot_other s b a (put (Bound a) d) n) ∙ e in
    becomes s new (Same a b ∷ []) (sames ks ws ++ kinds)
    (retold_before {Q = λ σ. (σ.types a ≡ σ.types b) × Unit {0}} s new
    (λ σ f q. one_ask σ (Same a b) q.0)
    (λ σ f p. (All-head (MeetsAsk σ) (Same a b) [] p, tt))
    (retold {Q = λ σ. Says σ (σ.types b) (slot_at s b).cell × (All (MeetsAsk σ) (kind_asks b (slot_at s b).kind) × Unit {0})} s new
    (bound s a b d l (no_constants_set s b (put (Bound a) d) (ap constant_of g) refl))
    (λ σ f p. (
    let q : σ.types b ≡ σ.types a = (met_at σ s b (put (Bound a) d) l f).cell in
    let t : σ.types a ≡ Made h (types_of (map σ.types ks)) = says_at σ new a (Built h ks) new_a f in
    let u = sames_types σ ks ws same (all_left (MeetsAsk σ) (sames ks ws) kinds p) in
    (subst (λ (x : Cell). Says σ (σ.types b) x) (sym g) (q ∙ (t ∙ ap (Made h) u)), (all_right (MeetsAsk σ) (sames ks ws) kinds p, tt))))
    (λ σ f p. (
    let q : σ.types b ≡ σ.types a = (met_at σ s b (put (Bound a) d) l f).cell in
    let t : σ.types a ≡ Made h (types_of (map σ.types ks)) = says_at σ new a (Built h ks) new_a f in
    let u : σ.types b ≡ Made h (types_of (map σ.types ws)) = subst (λ (x : Cell). Says σ (σ.types b) x) g p.0 in
    let v : types_of (map σ.types ks) ≡ types_of (map σ.types ws) = cc in
    All-append (MeetsAsk σ) (sames ks ws) kinds (sames_from σ ks ws v) p.1.0))))

pub other_head : (s : Store) (a b : ℕ) (h j : Head) (ks ws : List ℕ) → h ≢ j → (slot_at s a).cell ≡ Built h ks → (slot_at s b).cell ≡ Built j ws → Clash s (Same a b ∷ [])
other_head s a b h j ks ws n e g = record {
  never = λ σ f p. (
      let t : σ.types a ≡ Made h (types_of (map σ.types ks)) = says_at σ s a (Built h ks) e f in
      let u : σ.types b ≡ Made j (types_of (map σ.types ws)) = says_at σ s b (Built j ws) g f in
      let o : σ.types a ≡ σ.types b = All-head (MeetsAsk σ) (Same a b) [] p in
      let k : h ≡ j = cc in n k);
}

pub other_count : (s : Store) (a b : ℕ) (h j : Head) (ks ws : List ℕ) → length ks ≢ length ws → (slot_at s a).cell ≡ Built h ks → (slot_at s b).cell ≡ Built j ws → Clash s (Same a b ∷ [])
other_count s a b h j ks ws n e g = record {
  never = λ σ f p. (
      let t : σ.types a ≡ Made h (types_of (map σ.types ks)) = says_at σ s a (Built h ks) e f in
      let u : σ.types b ≡ Made j (types_of (map σ.types ws)) = says_at σ s b (Built j ws) g f in
      let o : σ.types a ≡ σ.types b = All-head (MeetsAsk σ) (Same a b) [] p in
      let k : types_of (map σ.types ks) ≡ types_of (map σ.types ws) = cc in n (same_lengths σ ks ws k));
}

-- ---- what is of different forms

-- a row that is no variable in other words
abbrev pub HasFields : List FieldSlot → Option ℕ → Type 0
HasFields [] None = Unit {0}
HasFields [] (Some w) = ⊥
HasFields (f ∷ fs) end = Unit {0}

not_made : (σ : Values) (fs : List FieldSlot) (end : Option ℕ) (h : Head) (ts : ElmTypes Rigid) → HasFields fs end → Says σ (Made h ts) (Row fs end) → ⊥
not_made σ [] None h ts k p = let e : Made h ts ≡ Record NoField Closed = p.0 in cc
not_made σ [] (Some w) h ts k p = k
not_made σ (f ∷ fs) end h ts k p = go (rest_value σ.types end) refl p
  where
    go : (t : Ground) → rest_value σ.types end ≡ t → (Made h ts ≡ extend (row_value σ.types (f ∷ fs)) t) × (lacks_all (field_names (f ∷ fs)) t ≡ true) → ⊥
    go (Made j us) e q = (let w : false ≡ true = q.1 in cc)
    go (Record gs x) e q = (let w : Made h ts ≡ Record (insert_all (row_value σ.types (f ∷ fs)) gs) x = q.0 in cc)

not_constant : (σ : Values) (fs : List FieldSlot) (end : Option ℕ) (r : Rigid) → HasFields fs end → Says σ (variable r) (Row fs end) → ⊥
not_constant σ [] None r k p = let e : Record NoField (Over r) ≡ Record NoField Closed = p.0 in cc
not_constant σ [] (Some w) r k p = k
not_constant σ (f ∷ fs) end r k p = go (rest_value σ.types end) p
  where
    go : (t : Ground) → (variable r ≡ extend (row_value σ.types (f ∷ fs)) t) × (lacks_all (field_names (f ∷ fs)) t ≡ true) → ⊥
    go (Made j us) q = (let w : false ≡ true = q.1 in cc)
    go (Record gs x) q = (
        let w : Record NoField (Over r) ≡ Record (insert_all (row_value σ.types (f ∷ fs)) gs) x = q.0 in
        let v : NoField ≡ insert_all (row_value σ.types (f ∷ fs)) gs = cc in
        let found = found_all f.0 (row_value σ.types (f ∷ fs)) gs ∙ ap (λ o. first_or o (field_type f.0 gs)) (found_first f.0 (σ.types f.1) (row_value σ.types fs)) in
        let none : None ≡ Some (σ.types f.1) = ap (field_type f.0) v ∙ found in cc)

pub built_row : (s : Store) (a b : ℕ) (h : Head) (ks : List ℕ) (fs : List FieldSlot) (end : Option ℕ) → HasFields fs end → (slot_at s a).cell ≡ Built h ks → (slot_at s b).cell ≡ Row fs end → Clash s (Same a b ∷ [])
built_row s a b h ks fs end k e g = record {
  never = λ σ f p. (
      let t : σ.types a ≡ Made h (types_of (map σ.types ks)) = says_at σ s a (Built h ks) e f in
      let o : σ.types a ≡ σ.types b = All-head (MeetsAsk σ) (Same a b) [] p in
      not_made σ fs end h (types_of (map σ.types ks)) k (subst (λ x. Says σ x (Row fs end)) (sym o ∙ t) (says_at σ s b (Row fs end) g f)));
}

pub constant_row : (s : Store) (a b : ℕ) (r : Rigid) (fs : List FieldSlot) (end : Option ℕ) → HasFields fs end → (slot_at s a).cell ≡ Constant r → (slot_at s b).cell ≡ Row fs end → Clash s (Same a b ∷ [])
constant_row s a b r fs end k e g = record {
  never = λ σ f p. (
      let t : σ.types a ≡ variable (σ.constants r) = says_at σ s a (Constant r) e f in
      let o : σ.types a ≡ σ.types b = All-head (MeetsAsk σ) (Same a b) [] p in
      not_constant σ fs end (σ.constants r) k (subst (λ x. Says σ x (Row fs end)) (sym o ∙ t) (says_at σ s b (Row fs end) g f)));
}

pub built_constant : (s : Store) (a b : ℕ) (h : Head) (ks : List ℕ) (r : Rigid) → (slot_at s a).cell ≡ Built h ks → (slot_at s b).cell ≡ Constant r → Clash s (Same a b ∷ [])
built_constant s a b h ks r e g = record {
  never = λ σ f p. (
      let t : σ.types a ≡ Made h (types_of (map σ.types ks)) = says_at σ s a (Built h ks) e f in
      let u : σ.types b ≡ Record NoField (Over (σ.constants r)) = says_at σ s b (Constant r) g f in
      let o : σ.types a ≡ σ.types b = All-head (MeetsAsk σ) (Same a b) [] p in cc);
}

-- what clashes one way clashes the other way
pub clash_turned : (s : Store) (a b : ℕ) → Clash s (Same a b ∷ []) → Clash s (Same b a ∷ [])
clash_turned s a b c = record { never = λ σ f p. c.never σ f (one_ask σ (Same a b) (sym (All-head (MeetsAsk σ) (Same b a) [] p))) }
