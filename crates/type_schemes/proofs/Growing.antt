-- A variable that is made, and of which more is asked.
use Rattle.std.proofs.Common.{◌≡◌, ℕ, zero, suc, List, [], ◌∷◌, ◌++◌, length, take, true, refl, sym, ◌∙◌, subst, arith}
use Rattle.std.proofs.lemmas.List.Elements.{All-nil, All-cons, All-head}
use Rattle.elm_type.specs.Types.{Name}
use Rattle.elm_type.specs.Classes.{Ground, meets}
use Rattle.elm_type.specs.declared.class.Class.{Class}
use Rattle.elm_type.specs.Ground.{is_ground, lacks, lacks_all}
use Rattle.type_store.specs.Store.{Open, Store}
use Rattle.type_store.specs.Steps.{put}
use Rattle.type_store.specs.Solutions.{Values, Fit, Ask, InClass, Lacks, MeetsAsk, Added, Clash}
use Rattle.type_store.specs.Shape.{IsStore}
use Rattle.type_store.specs.Laws.{EachStoreCanFit}
use Rattle.type_store.specs.Reaching.{GoesOn}
use Rattle.type_store.proofs.RowsMeet.{and_left, and_right, and_both}
use Rattle.type_store.proofs.Lacking.{lacks_both}
use Rattle.type_walks.specs.Links.{Live, Later}
use Rattle.type_walks.specs.Walks.{Determined}
use Rattle.type_walks.proofs.Making.{makes_open}
use Rattle.type_walks.proofs.Reaching.{took}
use Rattle.type_schemes.specs.Copies.{Grows, Partly, CanHave}

pub later_on : (s t u : Store) → Later s t → Later t u → Later s u
later_on s t u a b = record {
  grows = omega (arith, a.grows, b.grows);
  depth = λ v l. let x = a.depth v l in let y = b.depth v (omega (arith, l, a.grows)) in omega (arith, x, y);
  constants = λ r h. a.constants r (b.constants r h);
}

pub live_on : (e : ℕ) (s t : Store) (v : ℕ) → Later s t → Live e s v → Live e t v
live_on e s t v a l = record { inside = omega (arith, a.grows, l.inside); depth = let x = a.depth v l.inside in omega (arith, x, l.depth) }

-- what rests on what was in use goes on to
pub determined_on : (e : ℕ) (s t u : Store) → ((σ : Values) → Fit σ u → Fit σ t) → ((w : ℕ) → Live e t w → Determined e s t w)
    → (w : ℕ) → Determined e t u w → Determined e s u w
determined_on e s t u back d w h = record {
  same = λ σ τ f g agree. h.same σ τ f g (λ x l. (d x l).same σ τ (back σ f) (back τ g) agree);
}

module _ (d : ℕ) (s s' s'' : Store) (v : ℕ) (P : Values → Ground → Type 0) (asked : Ask) (Q : Ground → Type 0)
    (is : (σ : Values) → Q (σ.types v) → MeetsAsk σ asked) (si : (σ : Values) → MeetsAsk σ asked → Q (σ.types v)) (g : Grows d s v s' P) where
  -- more was asked of the variable
  pub grows_more : Added s' asked s'' → GoesOn s' s'' → Grows d s v s'' (λ σ t. P σ t × Q t)
  grows_more added goes =
      let t = took s' s'' asked added goes in
      let back = λ (σ : Values) (f : Fit σ s''). t.added.back σ f (All-nil (MeetsAsk σ)) in
      record {
        later = later_on s s' s'' g.later t.later;
        live = live_on d s' s'' v t.later g.live;
        determined = λ e w l h. determined_on e s s' s'' (λ σ f. (back σ f).0) (λ x k. g.determined e x l k) w (t.determined e w h);
        back = λ σ f. (
            let b = back σ f in
            let r = g.back σ b.0 in
            (r.0, (r.1, si σ (All-head (MeetsAsk σ) asked [] b.1))));
        on = λ σ t1 f h. (
            let r = g.on σ t1 f h.0 in
            let q = added.on r.0 r.1 (All-cons (MeetsAsk r.0) asked [] (is r.0 (subst Q (sym r.3) h.1)) (All-nil (MeetsAsk r.0))) in (
              q.values,
              q.fit,
              record {
                types = λ w l. r.2.types w l ∙ q.agree.types w (omega (arith, l, g.later.grows));
                constants = λ x. r.2.constants x ∙ q.agree.constants x;
              },
              sym (q.agree.types v g.live.inside) ∙ r.3,
            ));
      }

  -- and it can be, where a type is left
  pub no_clash : CanHave s (λ σ t. P σ t × Q t) → Clash s' (asked ∷ []) → ⊥
  no_clash can clash =
      let r = g.on can.values can.type can.fit can.has.0 in
      clash.never r.0 r.1 (All-cons (MeetsAsk r.0) asked [] (is r.0 (subst Q (sym r.3) can.has.1)) (All-nil (MeetsAsk r.0)))

-- the same, said in other words
pub grows_as : (d : ℕ) (s : Store) (v : ℕ) (s' : Store) (P Q : Values → Ground → Type 0) → ((σ : Values) (t : Ground) → P σ t → Q σ t)
    → ((σ : Values) (t : Ground) → Q σ t → P σ t) → Grows d s v s' P → Grows d s v s' Q
grows_as d s v s' P Q f h g = record {
  later = g.later;
  live = g.live;
  determined = g.determined;
  back = λ σ k. ((g.back σ k).0, f σ (σ.types v) (g.back σ k).1);
  on = λ σ t k q. g.on σ t k (h σ t q);
}

-- ---- a variable of a kind

pub opened : (d : ℕ) (s : Store) → IsStore s → Grows d s (length s) (s ++ put Open d ∷ []) (λ σ t. is_ground t ≡ true)
opened d s whole =
    let m = makes_open s d whole in record {
      later = m.later;
      live = m.live;
      determined = m.determined;
      back = λ σ f. ((m.back σ f).0, (f.each (length s)).ground);
      on = λ σ t f h. m.on σ t f tt h;
    }

pub opened_as : (d : ℕ) (s : Store) (v : ℕ) (s' : Store) → IsStore s → s' ≡ s ++ put Open d ∷ [] → v ≡ length s → Grows d s v s' (λ σ t. is_ground t ≡ true)
opened_as d s v s' whole e n =
    subst (λ w. Grows d s w s' (λ σ t. is_ground t ≡ true)) (sym n) (subst (λ u. Grows d s (length s) u (λ σ t. is_ground t ≡ true)) (sym e) (opened d s whole))

module _ (d : ℕ) (s s' : Store) (v : ℕ) (c : Class) where
  in_class_asks : (s'' : Store) → Grows d s v s' (λ σ t. is_ground t ≡ true) → Added s' (InClass v c) s'' → GoesOn s' s'' → Grows d s v s'' (Partly c [])
  in_class_asks s'' g added goes =
      grows_as d s v s'' (λ σ t. (is_ground t ≡ true) × (meets c t ≡ true)) (Partly c []) (λ σ t h. (h.0, h.1, refl)) (λ σ t h. (h.0, h.1))
      (grows_more d s s' s'' v (λ σ t. is_ground t ≡ true) (InClass v c) (λ t. meets c t ≡ true) (λ σ h. h) (λ σ h. h) g added goes)

  pub in_class_more : (s'' : Store) → Grows d s v s' (λ σ t. is_ground t ≡ true) → Added s' (InClass v c) s'' → GoesOn s' s'' → Grows d s v s'' (Partly c [])
  in_class_more = in_class_asks

  pub in_class_fits : Grows d s v s' (λ σ t. is_ground t ≡ true) → CanHave s (Partly c []) → Clash s' (InClass v c ∷ []) → ⊥
  in_class_fits g can =
      no_clash d s s' s' v (λ σ t. is_ground t ≡ true) (InClass v c) (λ t. meets c t ≡ true) (λ σ h. h) (λ σ h. h) g
      (record { values = can.values; type = can.type; fit = can.fit; has = (can.has.0, can.has.1) })

  module _ (xs : List Name) (x : Name) (g : Grows d s v s' (Partly c xs)) where
    lack_end : (t : Ground) → lacks_all (xs ++ x ∷ []) t ≡ true → (lacks_all xs t ≡ true) × (lacks x t ≡ true)
    lack_end t h = go xs h
      where
        go : (ys : List Name) → lacks_all (ys ++ x ∷ []) t ≡ true → (lacks_all ys t ≡ true) × (lacks x t ≡ true)
        go [] k = (refl, and_left (lacks x t) true k)
        go (y ∷ ys) k = let r = go ys (and_right (lacks y t) (lacks_all (ys ++ x ∷ []) t) k) in
            (and_both (lacks y t) (lacks_all ys t) (and_left (lacks y t) (lacks_all (ys ++ x ∷ []) t) k) r.0, r.1)

    pub lacks_more : (s'' : Store) → Added s' (Lacks v x) s'' → GoesOn s' s'' → Grows d s v s'' (Partly c (xs ++ x ∷ []))
    lacks_more s'' added goes =
        grows_as d s v s'' (λ σ t. Partly c xs σ t × (lacks x t ≡ true)) (Partly c (xs ++ x ∷ []))
        (λ σ t h. (h.0.0, h.0.1, lacks_both xs (x ∷ []) t h.0.2 (and_both (lacks x t) true h.1 refl)))
        (λ σ t h. let r = lack_end t h.2 in ((h.0, h.1, r.0), r.1))
        (grows_more d s s' s'' v (Partly c xs) (Lacks v x) (λ t. lacks x t ≡ true) (λ σ h. h) (λ σ h. h) g added goes)

    pub lacks_fits : CanHave s (Partly c (xs ++ x ∷ [])) → Clash s' (Lacks v x ∷ []) → ⊥
    lacks_fits can =
        no_clash d s s' s' v (Partly c xs) (Lacks v x) (λ t. lacks x t ≡ true) (λ σ h. h) (λ σ h. h) g
        (record {
          values = can.values;
          type = can.type;
          fit = can.fit;
          has = (let r = lack_end can.type can.has.2 in ((can.has.0, can.has.1, r.0), r.1));
        })

-- a type that lacks all lacks the first ones
pub fewer_lacks : (n : ℕ) (xs : List Name) (t : Ground) → lacks_all xs t ≡ true → lacks_all (take n xs) t ≡ true
fewer_lacks zero xs t h = refl
fewer_lacks (suc n) [] t h = refl
fewer_lacks (suc n) (x ∷ xs) t h =
    and_both (lacks x t) (lacks_all (take n xs) t) (and_left (lacks x t) (lacks_all xs t) h) (fewer_lacks n xs t (and_right (lacks x t) (lacks_all xs t) h))

pub can_fewer : (s : Store) (c : Class) (n : ℕ) (xs : List Name) → CanHave s (Partly c xs) → CanHave s (Partly c (take n xs))
can_fewer s c n xs can = record {
  values = can.values;
  type = can.type;
  fit = can.fit;
  has = (can.has.0, can.has.1, fewer_lacks n xs can.type can.has.2);
}

-- ---- a store has a solution

pub some_fit : EachStoreCanFit → (s : Store) → IsStore s → (σ : Values) × Fit σ s
some_fit each s whole =
    let r = (each s whole).some (λ r. r) (record { class = λ r. refl; lacks = λ r. refl; apart = λ r q a b e. e }) in (r.0, r.1)
