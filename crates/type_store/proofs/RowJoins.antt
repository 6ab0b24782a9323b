-- Two rows become the same: the whole step.
use Rattle.std.proofs.Common.{◌≡◌, ℕ, ◌<◌, ◌≤◌, List, [], ◌∷◌, ◌++◌, length, set, ◌⊎◌, inl, inr, Option, Some, None, refl, sym, ap, ◌∙◌, subst, arith, All}
use Rattle.std.proofs.lemmas.List.{length-set, append_assoc}
use Rattle.std.proofs.lemmas.Bool.{cases_lt}
use Rattle.std.proofs.lemmas.List.Elements.{All-head, All-tail, All-cons, All-nil, All-append, All-weaker}
use Rattle.type_store.specs.Store.{FieldSlot, Cell, Open, Bound, Row, Slot, Store, slot_at, field_slots, end_slots}
use Rattle.type_store.specs.Solutions.{Ask, Same, InClass, Lacks, MeetsAsk, Clash}
use Rattle.type_store.specs.Shape.{parts_of}
use Rattle.type_store.specs.Steps.{AskInside, IsGraph, IsEnd, Stepped, kind_asks, sames, put, Interleaves, Neither, First, Second, Gathers, Ends, Follows, Takes, GathersAll, GathersTwice, Split}
use Rattle.type_store.specs.Ends.{Turns, Rests, Ended, NoEnds, IsRest}
use Rattle.type_store.proofs.Turns.{chained, becomes, all_left, all_right, slot_past}
use Rattle.type_store.proofs.OneSlot.{retold, retold_before}
use Rattle.type_store.proofs.Graphs.{kinds_inside}
use Rattle.type_store.specs.Spreading.{EachSpread}
use Rattle.type_store.proofs.Joins.{low_not, graph_bound}
use Rattle.type_store.proofs.Keeping.{each_more, each_less, each_bound, depths_set, depths_chained}
use Rattle.type_store.proofs.Resting.{constants_set, constants_chained, rests_after}
use Rattle.type_store.proofs.RowEnds.{rows_bound, rows_clash, twice_clash, twice_clash_first}

-- ---- what the fields name is there

slots_both : (P : ℕ → Type 0) (fs gs ms : List FieldSlot) → Interleaves fs gs ms → All P (field_slots fs) → All P (field_slots gs) → All P (field_slots ms)
slots_both P fs gs ms Neither a b = All-nil P
slots_both P fs gs ms (First f us vs ws i) a b = All-cons P f.1 (field_slots ws) (All-head P f.1 (field_slots us) a) (slots_both P us vs ws i (All-tail P f.1 (field_slots us) a) b)
slots_both P fs gs ms (Second g us vs ws i) a b = All-cons P g.1 (field_slots ws) (All-head P g.1 (field_slots vs) b) (slots_both P us vs ws i a (All-tail P g.1 (field_slots vs) b))

slots_first : (P : ℕ → Type 0) (fs gs ms : List FieldSlot) → Interleaves fs gs ms → All P (field_slots ms) → All P (field_slots fs)
slots_first P fs gs ms Neither a = All-nil P
slots_first P fs gs ms (First f us vs ws i) a = All-cons P f.1 (field_slots us) (All-head P f.1 (field_slots ws) a) (slots_first P us vs ws i (All-tail P f.1 (field_slots ws) a))
slots_first P fs gs ms (Second g us vs ws i) a = slots_first P us vs ws i (All-tail P g.1 (field_slots ws) a)

slots_second : (P : ℕ → Type 0) (fs gs ms : List FieldSlot) → Interleaves fs gs ms → All P (field_slots ms) → All P (field_slots gs)
slots_second P fs gs ms Neither a = All-nil P
slots_second P fs gs ms (First f us vs ws i) a = slots_second P us vs ws i (All-tail P f.1 (field_slots ws) a)
slots_second P fs gs ms (Second g us vs ws i) a = All-cons P g.1 (field_slots vs) (All-head P g.1 (field_slots ws) a) (slots_second P us vs ws i (All-tail P g.1 (field_slots ws) a))

-- what a row names is there, also of a number past the end
pub row_there : (s : Store) (v : ℕ) (fs : List FieldSlot) (end : Option ℕ) → IsGraph s → (slot_at s v).cell ≡ Row fs end → All (λ w. w < length s) (field_slots fs ++ end_slots end)
row_there s v fs end g e = go (cases_lt v (length s))
  where
    go : (v < length s) ⊎ (length s ≤ v) → All (λ w. w < length s) (field_slots fs ++ end_slots end)
    go (inl l) = subst (λ (c : Cell). All (λ w. w < length s) (parts_of c)) e (g.inside v l)
    go (inr h) = absurd (let w : Open ≡ Row fs end = ap (λ (x : Slot). x.cell) (sym (slot_past s v h)) ∙ e in cc)

gathered_there : (s : Store) (fs all : List FieldSlot) (end last : Option ℕ) → IsGraph s → Gathers s fs end all last → All (λ w. w < length s) (field_slots fs) → All (λ w. w < length s) (field_slots all)
gathered_there s fs all end last g (Ends us x) a = a
gathered_there s fs all end last g (Follows us v w as_ x e h) a = gathered_there s us as_ (Some w) x g h a
gathered_there s fs all end last g (Takes us v gs x ms as_ y e m h) a =
    gathered_there s ms as_ x y g h (slots_both (λ w. w < length s) us gs ms m.fields a (all_left (λ w. w < length s) (field_slots gs) (end_slots x) (row_there s v gs x g e)))

end_there : (s : Store) (end : Option ℕ) → IsEnd s end → All (λ w. w < length s) (end_slots end)
end_there s None i = All-nil (λ w. w < length s)
end_there s (Some u) i = All-cons (λ w. w < length s) u [] i.0 (All-nil (λ w. w < length s))

pub left_rest : (s : Store) (fa A B ca cb L R : List FieldSlot) (ea e : Option ℕ) → IsGraph s → All (λ w. w < length s) (field_slots fa) → GathersAll s fa ea A e → Split A B ca cb L R → IsRest s L e
left_rest s fa A B ca cb L R ea e g a h p = record {
  rises = p.left_rises;
  inside = All-append (λ w. w < length s) (field_slots L) (end_slots e)
      (slots_second (λ w. w < length s) ca L A p.first.fields (gathered_there s fa A ea e g h.gathers a)) (end_there s e h.ends);
}

pub right_rest : (s : Store) (fb A B ca cb L R : List FieldSlot) (eb e : Option ℕ) → IsGraph s → All (λ w. w < length s) (field_slots fb) → GathersAll s fb eb B e → Split A B ca cb L R → IsRest s R e
right_rest s fb A B ca cb L R eb e g a h p = record {
  rises = p.right_rises;
  inside = All-append (λ w. w < length s) (field_slots R) (end_slots e)
      (slots_second (λ w. w < length s) cb R B p.second.fields (gathered_there s fb B eb e g h.gathers a)) (end_there s e h.ends);
}

ask_more : (m n : ℕ) (a : Ask) → m ≤ n → AskInside m a → AskInside n a
ask_more m n (Same v w) l i = (omega (arith, i.0, l), omega (arith, i.1, l))
ask_more m n (InClass v c) l i = omega (arith, i, l)
ask_more m n (Lacks v x) l i = omega (arith, i, l)

pub asks_more : (m n : ℕ) (as_ : List Ask) → m ≤ n → All (AskInside m) as_ → All (AskInside n) as_
asks_more m n as_ l a = All-weaker (AskInside m) (AskInside n) (λ x i. ask_more m n x l i) as_ a

sames_there : (n : ℕ) (ks ws : List ℕ) → All (λ w. w < n) ks → All (λ w. w < n) ws → All (AskInside n) (sames ks ws)
sames_there n [] ws a b = All-nil (AskInside n)
sames_there n (k ∷ ks) [] a b = All-nil (AskInside n)
sames_there n (k ∷ ks) (w ∷ ws) a b =
    All-cons (AskInside n) (Same k w) (sames ks ws) (All-head (λ w. w < n) k ks a, All-head (λ w. w < n) w ws b)
    (sames_there n ks ws (All-tail (λ w. w < n) k ks a) (All-tail (λ w. w < n) w ws b))

-- ---- the step

module _ (s : Store) (a b : ℕ) (low : a < b) (l : b < length s) (g : IsGraph s) (fa fb A B ca cb L R : List FieldSlot) (ea eb e f : Option ℕ)
    (ra : (slot_at s a).cell ≡ Row fa ea) (rb : (slot_at s b).cell ≡ Row fb eb)
    (ga : GathersAll (set s b (put (Bound a) (slot_at s b).depth)) fa ea A e) (gb : GathersAll (set s b (put (Bound a) (slot_at s b).depth)) fb eb B f) (h : Split A B ca cb L R) where
  abbrev d : ℕ
  d = (slot_at s b).depth

  abbrev t : Store
  t = set s b (put (Bound a) d)

  abbrev kinds : List Ask
  kinds = kind_asks b (slot_at s b).kind

  abbrev common : List Ask
  common = sames (field_slots ca) (field_slots cb)

  graph_t : IsGraph t
  graph_t = graph_bound s a b d low l g

  met : Turns s (λ σ. All (MeetsAsk σ) (Same a b ∷ [])) t (λ σ. Rests σ ca cb L R e f × All (MeetsAsk σ) kinds)
  met = rows_bound s a b d fa fb A B ca cb L R ea eb e f (low_not a b low) l ra rb ga.gathers gb.gathers h

  same_length : length t ≡ length s
  same_length = length-set s b (put (Bound a) d)

  fields_t : (v : ℕ) (fs : List FieldSlot) (end : Option ℕ) → (slot_at s v).cell ≡ Row fs end → All (λ w. w < length t) (field_slots fs)
  fields_t v fs end r = All-weaker (λ w. w < length s) (λ w. w < length t) (λ w i. omega (arith, i, same_length)) (field_slots fs)
      (all_left (λ w. w < length s) (field_slots fs) (end_slots end) (row_there s v fs end g r))

  common_there : All (AskInside (length t)) common
  common_there = sames_there (length t) (field_slots ca) (field_slots cb)
      (slots_first (λ w. w < length t) ca L A h.first.fields (gathered_there t fa A ea e graph_t ga.gathers (fields_t a fa ea ra)))
      (slots_first (λ w. w < length t) cb R B h.second.fields (gathered_there t fb B eb f graph_t gb.gathers (fields_t b fb eb rb)))

  kinds_there : All (AskInside (length t)) kinds
  kinds_there = kinds_inside (length t) b (slot_at s b).kind (omega (arith, l, same_length))

  beside_there : All (AskInside (length t)) (common ++ kinds)
  beside_there = All-append (AskInside (length t)) common kinds common_there kinds_there

  pub rows_stepped : (new : Store) (before one two after : List Ask) → one ≡ before ++ kinds → two ≡ one ++ common → Ended t two L R e f new after
      → Stepped s before (Same a b ∷ []) new after
  rows_stepped new before one two after p q x =
      let more : length t ≤ length new = (x.turns (common ++ kinds) beside_there).grows in
      record {
        left = kinds ++ (common ++ x.left);
        work = x.work ∙ (ap (λ as_. as_ ++ x.left) (q ∙ ap (λ as_. as_ ++ common) p) ∙
            (append_assoc (before ++ kinds) common x.left ∙ append_assoc before kinds (common ++ x.left)));
        inside = All-append (AskInside (length new)) kinds (common ++ x.left) (asks_more (length t) (length new) kinds more kinds_there)
            (All-append (AskInside (length new)) common x.left (asks_more (length t) (length new) common more common_there) x.inside);
        becomes = becomes s new (Same a b ∷ []) (kinds ++ (common ++ x.left)) (chained s t new met
            (retold_before {Q = λ σ. Rests σ [] [] L R e f × All (MeetsAsk σ) (common ++ kinds)} t new
            (λ σ k m. (
              record { both = all_left (MeetsAsk σ) common kinds m.1; rests = m.0.rests; left = m.0.left; right = m.0.right },
              all_right (MeetsAsk σ) common kinds m.1,
            ))
            (λ σ k m. (
              record { both = All-nil (MeetsAsk σ); rests = m.0.rests; left = m.0.left; right = m.0.right },
              All-append (MeetsAsk σ) common kinds m.0.both m.1,
            ))
            (retold {Q = λ σ. All (MeetsAsk σ) (x.left ++ (common ++ kinds))} t new (x.turns (common ++ kinds) beside_there)
            (λ σ k m. (
            let r = all_right (MeetsAsk σ) kinds (common ++ x.left) m in
            All-append (MeetsAsk σ) x.left (common ++ kinds) (all_right (MeetsAsk σ) common x.left r)
            (All-append (MeetsAsk σ) common kinds (all_left (MeetsAsk σ) common x.left r) (all_left (MeetsAsk σ) kinds (common ++ x.left) m))))
            (λ σ k m. (
            let r = all_right (MeetsAsk σ) x.left (common ++ kinds) m in
            All-append (MeetsAsk σ) kinds (common ++ x.left) (all_right (MeetsAsk σ) common kinds r)
            (All-append (MeetsAsk σ) common x.left (all_left (MeetsAsk σ) common kinds r) (all_left (MeetsAsk σ) x.left (common ++ kinds) m)))))));
        graph = x.graph;
        spread = λ k.
            let bound : EachSpread t one = subst (EachSpread t) (sym p) (each_bound s before b a d l (each_less s before a b k)) in
            x.spread (subst (EachSpread t) (sym q) (each_more t one common bound));
        depths = depths_chained s t new (omega (arith, same_length)) (depths_set s b (put (Bound a) d) l refl) x.depths;
        constants = constants_chained s t new (constants_set s b (put (Bound a) d) l (λ r z. absurd (cc))) x.constants;
        rests = λ i. rests_after s t new x.left (kinds ++ (common ++ x.left)) i same_length (depths_set s b (put (Bound a) d) l refl)
            (λ σ m. all_right (MeetsAsk σ) common x.left (all_right (MeetsAsk σ) kinds (common ++ x.left) m)) (x.rests i);
      }

  pub rows_never : NoEnds t L R e f → Clash s (Same a b ∷ [])
  rows_never n = rows_clash s t (Same a b ∷ []) met
      (λ σ k m. n.never σ k (record { both = All-nil (MeetsAsk σ); rests = m.0.rests; left = m.0.left; right = m.0.right }))

-- a name that is there twice
pub second_twice : (s : Store) (a b d : ℕ) (fb : List FieldSlot) (eb : Option ℕ) → a < b → b < length s → (slot_at s b).cell ≡ Row fb eb → GathersTwice (set s b (put (Bound a) d)) fb eb → Clash s (Same a b ∷ [])
second_twice s a b d fb eb low l rb t =
    twice_clash s a b d fb t.all t.fields eb t.then_end t.last t.name (low_not a b low) l rb t.gathers t.cell t.first t.second

pub first_twice : (s : Store) (a b d : ℕ) (fa fb : List FieldSlot) (ea eb : Option ℕ) → a < b → b < length s → (slot_at s a).cell ≡ Row fa ea → (slot_at s b).cell ≡ Row fb eb
    → GathersTwice (set s b (put (Bound a) d)) fa ea → Clash s (Same a b ∷ [])
first_twice s a b d fa fb ea eb low l ra rb t =
    twice_clash_first s a b d fa t.all t.fields ea t.then_end eb fb t.last t.name (low_not a b low) l ra rb t.gathers t.cell t.first t.second

-- ---- as the program does it

pub did_rows : (s t new : Store) (a b : ℕ) (fa fb A B ca cb L R : List FieldSlot) (ea eb e f : Option ℕ) (before one two after : List Ask) → a < b → b < length s → IsGraph s
    → (slot_at s a).cell ≡ Row fa ea → (slot_at s b).cell ≡ Row fb eb → t ≡ set s b (put (Bound a) (slot_at s b).depth) → GathersAll t fa ea A e → GathersAll t fb eb B f → Split A B ca cb L R
    → one ≡ before ++ kind_asks b (slot_at s b).kind → two ≡ one ++ sames (field_slots ca) (field_slots cb) → Ended t two L R e f new after → Stepped s before (Same a b ∷ []) new after
did_rows s t new a b fa fb A B ca cb L R ea eb e f before one two after low l g ra rb q ga gb h p r x =
    rows_stepped s a b low l g fa fb A B ca cb L R ea eb e f ra rb (subst (λ u. GathersAll u fa ea A e) q ga) (subst (λ u. GathersAll u fb eb B f) q gb) h new before one two after p r
    (subst (λ u. Ended u two L R e f new after) q x)
