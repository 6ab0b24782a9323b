-- Two rows that are asked to be the same: what their ends become.
use Rattle.std.proofs.Common.{◌≡◌, ◌≢◌, ℕ, ◌<◌, List, [], ◌∷◌, ◌++◌, length, set, map, true, false, ◌⊎◌, inl, inr, Option, Some, None, refl, sym, ap, ◌∙◌, subst, arith, All}
use Rattle.std.specs.Prelude.{◌||◌, not}
use Rattle.std.proofs.lemmas.List.{length-set, length_push}
use Rattle.std.proofs.lemmas.List.Elements.{All-head, All-tail, All-cons, All-append}
use Rattle.elm_type.specs.Types.{types_of, Name, Made, Record, Closed, Over, NoField, Rigid}
use Rattle.elm_type.specs.Classes.{Ground}
use Rattle.elm_type.specs.declared.head.Head.{Head}
use Rattle.elm_type.specs.Rows.{extend, has_field}
use Rattle.elm_type.specs.Ground.{contains, lacks, lacks_all, end_lacks}
use Rattle.type_store.specs.Store.{FieldSlot, Cell, Built, Open, Bound, Row, Constant, Slot, Store, slot_at, field_names, field_slots}
use Rattle.type_store.specs.Solutions.{Values, Says, constant_of, Fit, Ask, Same, MeetsAsk, Becomes, Clash, row_value, rest_value}
use Rattle.type_store.specs.Shape.{Ascending, NoneIn}
use Rattle.type_store.specs.Steps.{AskInside, kind_asks, put, sames, Split, Gathers, NamedThere}
use Rattle.type_store.specs.Ends.{Turns, Rests}
use Rattle.type_store.proofs.Names.{equal_itself}
use Rattle.type_store.proofs.Rows.{extend_none}
use Rattle.type_store.proofs.RowsMeet.{Rest, rows_meet, rows_part, fields_in, not_yes, and_left}
use Rattle.type_store.proofs.RowFields.{has_row, rise_row, fields_from_names, names_from_fields, apart_rows, none_turned, all_more, cannot}
use Rattle.type_store.proofs.Turns.{becomes, chained, stays, exchanged, met_at, kind_to_asks, kind_from_asks, all_left, all_right, asks_same, slot_other, slot_before, no_constants_set, one_ask}
use Rattle.type_store.proofs.OneSlot.{put_meets, says_at, retold, retold_before, bound}
use Rattle.type_store.proofs.RowSteps.{field_twice, gathered, ungathered, split_on, split_back}
use Rattle.type_store.proofs.NewSlot.{row_same, pushed, Chosen}

-- ---- one is bound to the other, and the rests are to be the same

-- a is bound to b, and both rows are read in the new store
pub rows_bound : (s : Store) (a b d : ℕ) (fa fb A B ca cb L R : List FieldSlot) (ea eb e g : Option ℕ)
    → a ≢ b → b < length s → (slot_at s a).cell ≡ Row fa ea → (slot_at s b).cell ≡ Row fb eb
    → Gathers (set s b (put (Bound a) d)) fa ea A e → Gathers (set s b (put (Bound a) d)) fb eb B g → Split A B ca cb L R
    → Turns s (λ σ. All (MeetsAsk σ) (Same a b ∷ [])) (set s b (put (Bound a) d)) (λ σ. Rests σ ca cb L R e g × All (MeetsAsk σ) (kind_asks b (slot_at s b).kind))
rows_bound s a b d fa fb A B ca cb L R ea eb e g n l ra rb ga gb h =
    let new = set s b (put (Bound a) d) in
    let new_a : (slot_at new a).cell ≡ Row fa ea = ap (λ (x : Slot). x.cell) (slot_other s b a (put (Bound a) d) n) ∙ ra in
    retold_before {Q = λ σ. (σ.types a ≡ σ.types b) × Unit {0}} s new
    (λ σ f q. one_ask σ (Same a b) q.0)
    (λ σ f p. (All-head (MeetsAsk σ) (Same a b) [] p, tt))
    (retold {Q = λ σ. Says σ (σ.types b) (slot_at s b).cell × (All (MeetsAsk σ) (kind_asks b (slot_at s b).kind) × Unit {0})} s new
    (bound s a b d l (no_constants_set s b (put (Bound a) d) (ap constant_of rb) refl))
    (λ σ f p. (
    let q : σ.types b ≡ σ.types a = (met_at σ s b (put (Bound a) d) l f).cell in
    let first : Says σ (σ.types a) (Row A e) = gathered σ new (σ.types a) fa A ea e f ga (says_at σ new a (Row fa ea) new_a f) in
    let second : Says σ (σ.types b) (Row B g) = split_back σ new f A B ca cb L R e g h (σ.types b) (subst (λ t. Says σ t (Row A e)) (sym q) first) p.0 in
    (subst (λ (x : Cell). Says σ (σ.types b) x) (sym rb) (ungathered σ new (σ.types b) fb B eb g f gb second), (p.1, tt))))
    (λ σ f p. (
    let q : σ.types b ≡ σ.types a = (met_at σ s b (put (Bound a) d) l f).cell in
    let first : Says σ (σ.types a) (Row A e) = gathered σ new (σ.types a) fa A ea e f ga (says_at σ new a (Row fa ea) new_a f) in
    let second : Says σ (σ.types b) (Row B g) = gathered σ new (σ.types b) fb B eb g f gb (subst (λ (x : Cell). Says σ (σ.types b) x) rb p.0) in
    (split_on σ new f A B ca cb L R e g h (σ.types b) (subst (λ t. Says σ t (Row A e)) (sym q) first) second, p.1.0))))

-- ---- an open variable takes a cell

pub takes : {R : Values → Type 0} (s : Store) (x d : ℕ) (c : Cell) → x < length s → (slot_at s x).cell ≡ Open → constant_of c ≡ []
    → Turns s (λ σ. Says σ (σ.types x) c × R σ) (set s x (put c d)) (λ σ. All (MeetsAsk σ) (kind_asks x (slot_at s x).kind) × R σ)
takes s x d c l o n = exchanged s x (put c d) l (no_constants_set s x (put c d) (ap constant_of o) n)
    (λ σ f q. (
      record { cell = subst (λ (y : Cell). Says σ (σ.types x) y) (sym o) tt; kind = kind_from_asks σ x (slot_at s x).kind q.0; ground = (f.each x).ground },
      ((met_at σ s x (put c d) l f).cell, q.1),
    ))
    (λ σ f p. (
      put_meets σ c d (σ.types x) p.0 (f.each x).ground,
      (kind_to_asks σ x (slot_at s x).kind (f.each x).kind, p.1),
    ))

-- ---- the ends

module _ (t : Store) (ca cb : List FieldSlot) (rest : List Ask) where
  abbrev pub common : List Ask
  common = sames (field_slots ca) (field_slots cb) ++ rest

  abbrev pub Left : List FieldSlot → List FieldSlot → Option ℕ → Option ℕ → Values → Type 0
  Left L R e g σ = Rests σ ca cb L R e g × All (MeetsAsk σ) rest

  common_from : (σ : Values) (L R : List FieldSlot) (e g : Option ℕ) → Left L R e g σ → All (MeetsAsk σ) common
  common_from σ L R e g p = All-append (MeetsAsk σ) (sames (field_slots ca) (field_slots cb)) rest p.0.both p.1

  both_from : (σ : Values) → All (MeetsAsk σ) common → All (MeetsAsk σ) (sames (field_slots ca) (field_slots cb))
  both_from σ q = all_left (MeetsAsk σ) (sames (field_slots ca) (field_slots cb)) rest q

  rest_from : (σ : Values) → All (MeetsAsk σ) common → All (MeetsAsk σ) rest
  rest_from σ q = all_right (MeetsAsk σ) (sames (field_slots ca) (field_slots cb)) rest q

  -- nothing is left of two closed rows
  pub both_closed : Turns t (Left [] [] None None) t (λ σ. All (MeetsAsk σ) common)
  both_closed = stays t
      (λ σ f q. (record { both = both_from σ q; rests = refl; left = refl; right = refl }, rest_from σ q))
      (λ σ f p. common_from σ [] [] None None p)

  -- the variables alone are left
  pub both_variables : (x y : ℕ) → Turns t (Left [] [] (Some x) (Some y)) t (λ σ. All (MeetsAsk σ) (Same x y ∷ common))
  both_variables x y = stays t
      (λ σ f q. (
      let e : σ.types x ≡ σ.types y = All-head (MeetsAsk σ) (Same x y) common q in
      let r = All-tail (MeetsAsk σ) (Same x y) common q in
      (record { both = both_from σ r; rests = ap (extend NoField) e; left = refl; right = refl }, rest_from σ r)))
      (λ σ f p. All-cons (MeetsAsk σ) (Same x y) common (sym (extend_none (σ.types x)) ∙ (p.0.rests ∙ extend_none (σ.types y))) (common_from σ [] [] (Some x) (Some y) p))

  -- the second has no other fields and an open end: this is what the first has beside the common ones
  pub second_takes : (L : List FieldSlot) (e : Option ℕ) (y d : ℕ) → y < length t → (slot_at t y).cell ≡ Open
      → Turns t (Left L [] e (Some y)) (set t y (put (Row L e) d)) (λ σ. All (MeetsAsk σ) (kind_asks y (slot_at t y).kind ++ common))
  second_takes L e y d l o =
      let new = set t y (put (Row L e) d) in
      retold_before {Q = λ σ. Says σ (σ.types y) (Row L e) × All (MeetsAsk σ) common} t new
      (λ σ f q. (record { both = both_from σ q.1; rests = sym q.0.0 ∙ sym (extend_none (σ.types y)); left = q.0.1; right = refl }, rest_from σ q.1))
      (λ σ f p. ((sym (extend_none (σ.types y)) ∙ sym p.0.rests, p.0.left), common_from σ L [] e (Some y) p))
      (retold {Q = λ σ. All (MeetsAsk σ) (kind_asks y (slot_at t y).kind) × All (MeetsAsk σ) common} t new (takes t y d (Row L e) l o refl)
      (λ σ f q. (all_left (MeetsAsk σ) (kind_asks y (slot_at t y).kind) common q, all_right (MeetsAsk σ) (kind_asks y (slot_at t y).kind) common q))
      (λ σ f q. All-append (MeetsAsk σ) (kind_asks y (slot_at t y).kind) common q.0 q.1))

  pub first_takes : (R : List FieldSlot) (g : Option ℕ) (x d : ℕ) → x < length t → (slot_at t x).cell ≡ Open
      → Turns t (Left [] R (Some x) g) (set t x (put (Row R g) d)) (λ σ. All (MeetsAsk σ) (kind_asks x (slot_at t x).kind ++ common))
  first_takes R g x d l o =
      let new = set t x (put (Row R g) d) in
      retold_before {Q = λ σ. Says σ (σ.types x) (Row R g) × All (MeetsAsk σ) common} t new
      (λ σ f q. (record { both = both_from σ q.1; rests = extend_none (σ.types x) ∙ q.0.0; left = refl; right = q.0.1 }, rest_from σ q.1))
      (λ σ f p. ((sym (extend_none (σ.types x)) ∙ p.0.rests, p.0.right), common_from σ [] R (Some x) g p))
      (retold {Q = λ σ. All (MeetsAsk σ) (kind_asks x (slot_at t x).kind) × All (MeetsAsk σ) common} t new (takes t x d (Row R g) l o refl)
      (λ σ f q. (all_left (MeetsAsk σ) (kind_asks x (slot_at t x).kind) common q, all_right (MeetsAsk σ) (kind_asks x (slot_at t x).kind) common q))
      (λ σ f q. All-append (MeetsAsk σ) (kind_asks x (slot_at t x).kind) common q.0 q.1))

  -- both have other fields and an open end: what is left of both is a new variable
  module _ (L R : List FieldSlot) (x y d dx dy : ℕ) (there : NamedThere t) (differ : x ≢ y) (x_there : x < length t) (y_there : y < length t)
      (x_open : (slot_at t x).cell ≡ Open) (y_open : (slot_at t y).cell ≡ Open) (apart : NoneIn (field_names L) (field_names R)) (left_rises : Ascending (field_names L)) (right_rises : Ascending (field_names R))
      (left_there : All (λ w. w < length t) (field_slots L)) (right_there : All (λ w. w < length t) (field_slots R)) (common_there : All (AskInside (length t)) common) where
    abbrev NewRest : Values → Type 0
    NewRest σ = Says σ (σ.types x) (Row R (Some (length t))) × (Says σ (σ.types y) (Row L (Some (length t))) × All (MeetsAsk σ) common)

    made_back : (σ : Values) → Fit σ (t ++ put Open d ∷ []) → NewRest σ → Left L R (Some x) (Some y) σ
    made_back σ f q =
        let z = σ.types (length t) in (
          record {
            both = both_from σ q.1.1;
            rests = ap (extend (row_value σ.types L)) q.0.0 ∙ (rows_part (row_value σ.types L) (row_value σ.types R) z (apart_rows σ.types L R apart) ∙ sym (ap (extend (row_value σ.types R)) q.1.0.0));
            left = ap (lacks_all (field_names L)) q.0.0 ∙ all_more σ.types (field_names L) R z apart q.1.0.1;
            right = ap (lacks_all (field_names R)) q.1.0.0 ∙ all_more σ.types (field_names R) L z (none_turned (field_names L) (field_names R) apart) q.0.1;
          },
          rest_from σ q.1.1,
        )

    made_on : (σ : Values) → Fit σ t → Left L R (Some x) (Some y) σ → Chosen σ t NewRest
    made_on σ f p =
        let m : Rest (row_value σ.types L) (row_value σ.types R) (σ.types x) (σ.types y) =
        rows_meet (row_value σ.types L) (row_value σ.types R) (σ.types x) (σ.types y) (rise_row σ.types L left_rises) (rise_row σ.types R right_rises) (apart_rows σ.types L R apart)
        (f.each x).ground (f.each y).ground (fields_from_names σ.types L (σ.types x) p.0.left) (fields_from_names σ.types R (σ.types y) p.0.right) p.0.rests in
        record {
          value = m.rest;
          ground = m.ground;
          meet = λ τ e g. (
            (
              sym (g.types x x_there) ∙ (m.left ∙ (ap (λ k. extend k m.rest) (row_same (length t) σ τ R g right_there) ∙ ap (extend (row_value τ.types R)) (sym e))),
              ap (lacks_all (field_names R)) e ∙ names_from_fields σ.types R m.rest m.lacks_right,
            ),
            (
              (
                sym (g.types y y_there) ∙ (m.right ∙ (ap (λ k. extend k m.rest) (row_same (length t) σ τ L g left_there) ∙ ap (extend (row_value τ.types L)) (sym e))),
                ap (lacks_all (field_names L)) e ∙ names_from_fields σ.types L m.rest m.lacks_left,
              ),
              asks_same (length t) σ τ common g common_there (common_from σ L R (Some x) (Some y) p),
            ),
          );
        }

    abbrev with_new : Store
    with_new = t ++ put Open d ∷ []

    abbrev with_first : Store
    with_first = set with_new x (put (Row R (Some (length t))) dx)

    abbrev pub with_both : Store
    with_both = set with_first y (put (Row L (Some (length t))) dy)

    pub both_take : Turns t (Left L R (Some x) (Some y)) with_both (λ σ. All (MeetsAsk σ) (kind_asks x (slot_at t x).kind ++ (kind_asks y (slot_at t y).kind ++ common)))
    both_take =
        let kx = kind_asks x (slot_at t x).kind in
        let ky = kind_asks y (slot_at t y).kind in
        let at_x : slot_at with_new x ≡ slot_at t x = slot_before t (put Open d) x x_there in
        let at_y : slot_at with_first y ≡ slot_at t y = slot_other with_new x y (put (Row R (Some (length t))) dx) (λ e. differ (sym e)) ∙ slot_before t (put Open d) y y_there in
        let lx : x < length with_new = omega (arith, length_push t (put Open d)) in
        let ly : y < length with_first = omega (arith, length_push t (put Open d), length-set with_new x (put (Row R (Some (length t))) dx)) in
        chained t with_new with_both (pushed {Q = NewRest} t d there made_back made_on)
        (chained with_new with_first with_both (takes {R = λ σ. Says σ (σ.types y) (Row L (Some (length t))) × All (MeetsAsk σ) common} with_new x dx (Row R (Some (length t))) lx (ap (λ (z : Slot). z.cell) at_x ∙ x_open) refl)
        (retold_before {Q = λ σ. Says σ (σ.types y) (Row L (Some (length t))) × (All (MeetsAsk σ) kx × All (MeetsAsk σ) common)} with_first with_both
        (λ σ f q. (subst (λ (z : Slot). All (MeetsAsk σ) (kind_asks x z.kind)) (sym at_x) q.1.0, (q.0, q.1.1)))
        (λ σ f p. (p.1.0, (subst (λ (z : Slot). All (MeetsAsk σ) (kind_asks x z.kind)) at_x p.0, p.1.1)))
        (retold {Q = λ σ. All (MeetsAsk σ) (kind_asks y (slot_at with_first y).kind) × (All (MeetsAsk σ) kx × All (MeetsAsk σ) common)} with_first with_both
        (takes with_first y dy (Row L (Some (length t))) ly (ap (λ (z : Slot). z.cell) at_y ∙ y_open) refl)
        (λ σ f q. (
        let r = all_right (MeetsAsk σ) kx (ky ++ common) q in (
          subst (λ (z : Slot). All (MeetsAsk σ) (kind_asks y z.kind)) (sym at_y) (all_left (MeetsAsk σ) ky common r),
          (all_left (MeetsAsk σ) kx (ky ++ common) q, all_right (MeetsAsk σ) ky common r),
        )))
        (λ σ f q. All-append (MeetsAsk σ) kx (ky ++ common) q.1.0
        (All-append (MeetsAsk σ) ky common (subst (λ (z : Slot). All (MeetsAsk σ) (kind_asks y z.kind)) at_y q.0) q.1.1)))))

-- ---- ends that do not fit

-- no field is in what is at this end
abbrev pub Bare : Store → Option ℕ → Type 0
Bare s None = Unit {0}
Bare s (Some w) = ((r : Rigid) × ((slot_at s w).cell ≡ Constant r)) ⊎ ((h : Head) × (ws : List ℕ) × ((slot_at s w).cell ≡ Built h ws))

bare_has : (σ : Values) (s : Store) (end : Option ℕ) (x : Name) → Fit σ s → Bare s end → has_field x (fields_in (rest_value σ.types end)) ≡ false
bare_has σ s None x f b = refl
bare_has σ s (Some w) x f (inl b) = ap (λ t. has_field x (fields_in t)) (says_at σ s w (Constant b.0) b.1 f)
bare_has σ s (Some w) x f (inr b) = ap (λ t. has_field x (fields_in t)) (says_at σ s w (Built b.0 b.1) b.2 f)

lacks_has : (x : Name) (t : Ground) → lacks x t ≡ true → has_field x (fields_in t) ≡ false
lacks_has x (Made h ts) e = refl
lacks_has x (Record fs end) e = not_yes (has_field x fs) (and_left (not (has_field x fs)) (end_lacks x end) e)

module _ (σ : Values) (s : Store) (f : Fit σ s) (ca cb : List FieldSlot) where
  -- a field that the first alone has, where the second has a bare end
  pub first_more : (h : FieldSlot) (hs R : List FieldSlot) (e g : Option ℕ) → NoneIn (field_names (h ∷ hs)) (field_names R) → Bare s g → Rests σ ca cb (h ∷ hs) R e g → ⊥
  first_more h hs R e g apart b p =
      cannot h.0 (row_value σ.types (h ∷ hs)) (row_value σ.types R) (rest_value σ.types e) (rest_value σ.types g)
      (ap (λ c. c || has_field h.0 (row_value σ.types hs)) (equal_itself h.0))
      (has_row σ.types h.0 R ∙ All-head (λ y. contains y (field_names R) ≡ false) h.0 (field_names hs) apart)
      (and_left (lacks h.0 (rest_value σ.types e)) (lacks_all (field_names hs) (rest_value σ.types e)) p.left)
      (bare_has σ s g h.0 f b)
      p.rests

  pub second_more : (h : FieldSlot) (L hs : List FieldSlot) (e g : Option ℕ) → NoneIn (field_names L) (field_names (h ∷ hs)) → Bare s e → Rests σ ca cb L (h ∷ hs) e g → ⊥
  second_more h L hs e g apart b p =
      cannot h.0 (row_value σ.types (h ∷ hs)) (row_value σ.types L) (rest_value σ.types g) (rest_value σ.types e)
      (ap (λ c. c || has_field h.0 (row_value σ.types hs)) (equal_itself h.0))
      (has_row σ.types h.0 L ∙ All-head (λ y. contains y (field_names L) ≡ false) h.0 (field_names hs) (none_turned (field_names L) (field_names (h ∷ hs)) apart))
      (and_left (lacks h.0 (rest_value σ.types g)) (lacks_all (field_names hs) (rest_value σ.types g)) p.right)
      (bare_has σ s e h.0 f b)
      (sym p.rests)

  -- a field that the first alone has, over the same variable
  pub first_more_over : (h : FieldSlot) (hs R : List FieldSlot) (e : Option ℕ) → NoneIn (field_names (h ∷ hs)) (field_names R) → Rests σ ca cb (h ∷ hs) R e e → ⊥
  first_more_over h hs R e apart p =
      let l = and_left (lacks h.0 (rest_value σ.types e)) (lacks_all (field_names hs) (rest_value σ.types e)) p.left in
      cannot h.0 (row_value σ.types (h ∷ hs)) (row_value σ.types R) (rest_value σ.types e) (rest_value σ.types e)
      (ap (λ c. c || has_field h.0 (row_value σ.types hs)) (equal_itself h.0))
      (has_row σ.types h.0 R ∙ All-head (λ y. contains y (field_names R) ≡ false) h.0 (field_names hs) apart)
      l (lacks_has h.0 (rest_value σ.types e) l) p.rests

  pub second_more_over : (h : FieldSlot) (L hs : List FieldSlot) (e : Option ℕ) → NoneIn (field_names L) (field_names (h ∷ hs)) → Rests σ ca cb L (h ∷ hs) e e → ⊥
  second_more_over h L hs e apart p =
      let l = and_left (lacks h.0 (rest_value σ.types e)) (lacks_all (field_names hs) (rest_value σ.types e)) p.right in
      cannot h.0 (row_value σ.types (h ∷ hs)) (row_value σ.types L) (rest_value σ.types e) (rest_value σ.types e)
      (ap (λ c. c || has_field h.0 (row_value σ.types hs)) (equal_itself h.0))
      (has_row σ.types h.0 L ∙ All-head (λ y. contains y (field_names L) ≡ false) h.0 (field_names hs) (none_turned (field_names L) (field_names (h ∷ hs)) apart))
      l (lacks_has h.0 (rest_value σ.types e) l) (sym p.rests)

  -- the one is closed, and the other ends in a constant
  pub closed_constant : (y : ℕ) (r : Rigid) → (slot_at s y).cell ≡ Constant r → Rests σ ca cb [] [] None (Some y) → ⊥
  closed_constant y r c p =
      let q : σ.types y ≡ Record NoField (Over (σ.constants r)) = says_at σ s y (Constant r) c f in
      let o : Record NoField Closed ≡ Record NoField (Over (σ.constants r)) = p.rests ∙ ap (extend NoField) q in
      cc

  pub constant_closed : (x : ℕ) (r : Rigid) → (slot_at s x).cell ≡ Constant r → Rests σ ca cb [] [] (Some x) None → ⊥
  constant_closed x r c p =
      let q : σ.types x ≡ Record NoField (Over (σ.constants r)) = says_at σ s x (Constant r) c f in
      let o : Record NoField Closed ≡ Record NoField (Over (σ.constants r)) = sym p.rests ∙ ap (extend NoField) q in
      cc

  -- the one is closed, and the other ends in what is no record
  pub closed_built : (y : ℕ) (h : Head) (ws : List ℕ) → (slot_at s y).cell ≡ Built h ws → Rests σ ca cb [] [] None (Some y) → ⊥
  closed_built y h ws c p =
      let q : σ.types y ≡ Made h (types_of (map σ.types ws)) = says_at σ s y (Built h ws) c f in
      let o : Record NoField Closed ≡ Made h (types_of (map σ.types ws)) = p.rests ∙ ap (extend NoField) q in
      cc

  pub built_closed : (x : ℕ) (h : Head) (ws : List ℕ) → (slot_at s x).cell ≡ Built h ws → Rests σ ca cb [] [] (Some x) None → ⊥
  built_closed x h ws c p =
      let q : σ.types x ≡ Made h (types_of (map σ.types ws)) = says_at σ s x (Built h ws) c f in
      let o : Record NoField Closed ≡ Made h (types_of (map σ.types ws)) = sym p.rests ∙ ap (extend NoField) q in
      cc

-- two rows that are asked to be the same: one is bound to the other, and the ends become what they may be
pub rows_become : (s t new : Store) (a b : ℕ) (ca cb L R : List FieldSlot) (e g : Option ℕ) (rest left : List Ask)
    → Turns s (λ σ. All (MeetsAsk σ) (Same a b ∷ [])) t (λ σ. Rests σ ca cb L R e g × All (MeetsAsk σ) rest)
    → Turns t (Left t ca cb rest L R e g) new (λ σ. All (MeetsAsk σ) left)
    → Becomes s (Same a b ∷ []) new left
rows_become s t new a b ca cb L R e g rest left u v = becomes s new (Same a b ∷ []) left (chained s t new u v)

-- what is left of two rows has no solution: nor had what was asked
pub rows_clash : {Q : Values → Type 0} (s t : Store) (asked : List Ask) → Turns s (λ σ. All (MeetsAsk σ) asked) t Q → ((σ : Values) → Fit σ t → Q σ → ⊥) → Clash s asked
rows_clash s t asked u c = record { never = λ σ f m. (let g = u.on σ f m in c g.values g.fit g.meet) }

-- a row over one with a field of the same name: what was asked has no solution
pub twice_clash : (s : Store) (a b d : ℕ) (fb as_ gs : List FieldSlot) (eb end : Option ℕ) (v : ℕ) (x : Name) → a ≢ b → b < length s → (slot_at s b).cell ≡ Row fb eb
    → Gathers (set s b (put (Bound a) d)) fb eb as_ (Some v) → (slot_at (set s b (put (Bound a) d)) v).cell ≡ Row gs end → contains x (field_names as_) ≡ true → contains x (field_names gs) ≡ true
    → Clash s (Same a b ∷ [])
twice_clash s a b d fb as_ gs eb end v x n l rb g e p q =
    let new = set s b (put (Bound a) d) in
    rows_clash s new (Same a b ∷ [])
    (retold_before {Q = λ σ. (σ.types a ≡ σ.types b) × Unit {0}} s new
    (λ σ f u. one_ask σ (Same a b) u.0)
    (λ σ f u. (All-head (MeetsAsk σ) (Same a b) [] u, tt))
    (bound s a b d l (no_constants_set s b (put (Bound a) d) (ap constant_of rb) refl)))
    (λ σ f u. field_twice σ new (σ.types b) as_ gs v end x f e p q
    (gathered σ new (σ.types b) fb as_ eb (Some v) f g (subst (λ (z : Cell). Says σ (σ.types b) z) rb u.0)))

pub twice_clash_first : (s : Store) (a b d : ℕ) (fa as_ gs : List FieldSlot) (ea end eb : Option ℕ) (fb : List FieldSlot) (v : ℕ) (x : Name) → a ≢ b → b < length s → (slot_at s a).cell ≡ Row fa ea → (slot_at s b).cell ≡ Row fb eb
    → Gathers (set s b (put (Bound a) d)) fa ea as_ (Some v) → (slot_at (set s b (put (Bound a) d)) v).cell ≡ Row gs end → contains x (field_names as_) ≡ true → contains x (field_names gs) ≡ true
    → Clash s (Same a b ∷ [])
twice_clash_first s a b d fa as_ gs ea end eb fb v x n l ra rb g e p q =
    let new = set s b (put (Bound a) d) in
    let new_a : (slot_at new a).cell ≡ Row fa ea = ap (λ (z : Slot). z.cell) (slot_other s b a (put (Bound a) d) n) ∙ ra in
    rows_clash s new (Same a b ∷ [])
    (retold_before {Q = λ σ. (σ.types a ≡ σ.types b) × Unit {0}} s new
    (λ σ f u. one_ask σ (Same a b) u.0)
    (λ σ f u. (All-head (MeetsAsk σ) (Same a b) [] u, tt))
    (bound s a b d l (no_constants_set s b (put (Bound a) d) (ap constant_of rb) refl)))
    (λ σ f u. field_twice σ new (σ.types a) as_ gs v end x f e p q
    (gathered σ new (σ.types a) fa as_ ea (Some v) f g (says_at σ new a (Row fa ea) new_a f)))
