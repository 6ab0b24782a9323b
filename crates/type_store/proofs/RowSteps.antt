-- Two rows that are asked to be the same.
use Rattle.std.proofs.Common.{◌≡◌, ℕ, List, true, false, Option, Some, None, refl, sym, ap, ◌∙◌, subst}
use Rattle.elm_type.specs.Types.{Name}
use Rattle.elm_type.specs.Classes.{Ground}
use Rattle.elm_type.specs.Rows.{extend, has_field}
use Rattle.elm_type.specs.Ground.{contains, lacks, lacks_all, is_ground}
use Rattle.type_store.specs.Store.{FieldSlot, Bound, Row, Store, slot_at, field_names}
use Rattle.type_store.specs.Solutions.{Values, Says, Fit, row_value, rest_value}
use Rattle.type_store.specs.Shape.{Ascending}
use Rattle.type_store.specs.Steps.{Merged, Split, Gathers, Ends, Follows, Takes}
use Rattle.type_store.specs.Ends.{Rests}
use Rattle.type_store.proofs.RowFields.{has_row, rise_row, fields_from_names, extend_interleaved, lacks_interleaved, lacks_first, lacks_second, lacks_none, all_less, all_more, lacks_of, extend_apart, rise_ground, rise_extended, sames_of_rows, rows_of_sames}
use Rattle.type_store.proofs.OneSlot.{says_at}

-- ---- a row with the fields of those that it leads to

pub rest_ground : (σ : Values) (s : Store) (end : Option ℕ) → Fit σ s → is_ground (rest_value σ.types end) ≡ true
rest_ground σ s None f = refl
rest_ground σ s (Some w) f = (f.each w).ground

taken : (σ : Values) (s : Store) (t : Ground) (fs gs ms : List FieldSlot) (v : ℕ) (end : Option ℕ) → Fit σ s → (slot_at s v).cell ≡ Row gs end → Merged fs gs ms → Says σ t (Row fs (Some v)) → Says σ t (Row ms end)
taken σ s t fs gs ms v end f e m p =
    let r : Says σ (σ.types v) (Row gs end) = says_at σ s v (Row gs end) e f in
    let l : lacks_all (field_names fs) (extend (row_value σ.types gs) (rest_value σ.types end)) ≡ true = subst (λ u. lacks_all (field_names fs) u ≡ true) r.0 p.1 in (
      p.0 ∙ (ap (extend (row_value σ.types fs)) r.0 ∙ sym (extend_interleaved σ.types fs gs ms (rest_value σ.types end) m.fields m.apart)),
      lacks_interleaved fs gs ms (rest_value σ.types end) m.fields (all_less (field_names fs) (row_value σ.types gs) (rest_value σ.types end) l) r.1,
    )

untaken : (σ : Values) (s : Store) (t : Ground) (fs gs ms : List FieldSlot) (v : ℕ) (end : Option ℕ) → Fit σ s → (slot_at s v).cell ≡ Row gs end → Merged fs gs ms → Says σ t (Row ms end) → Says σ t (Row fs (Some v))
untaken σ s t fs gs ms v end f e m p =
    let r : Says σ (σ.types v) (Row gs end) = says_at σ s v (Row gs end) e f in
    let l = lacks_first fs gs ms (rest_value σ.types end) m.fields p.1 in
    let k : lacks_all (field_names fs) (extend (row_value σ.types gs) (rest_value σ.types end)) ≡ true = all_more σ.types (field_names fs) gs (rest_value σ.types end) m.apart l in (
      p.0 ∙ (extend_interleaved σ.types fs gs ms (rest_value σ.types end) m.fields m.apart ∙ sym (ap (extend (row_value σ.types fs)) r.0)),
      subst (λ u. lacks_all (field_names fs) u ≡ true) (sym r.0) k,
    )

pub gathered : (σ : Values) (s : Store) (t : Ground) (fs all : List FieldSlot) (end last : Option ℕ) → Fit σ s → Gathers s fs end all last → Says σ t (Row fs end) → Says σ t (Row all last)
gathered σ s t fs all end last f (Ends gs x) p = p
gathered σ s t fs all end last f (Follows gs v w as_ x e g) p =
    let b : σ.types v ≡ σ.types w = says_at σ s v (Bound w) e f in
    gathered σ s t gs as_ (Some w) x f g (p.0 ∙ ap (extend (row_value σ.types gs)) b, subst (λ u. lacks_all (field_names gs) u ≡ true) b p.1)
gathered σ s t fs all end last f (Takes us v gs x ms as_ y e m g) p = gathered σ s t ms as_ x y f g (taken σ s t us gs ms v x f e m p)

pub ungathered : (σ : Values) (s : Store) (t : Ground) (fs all : List FieldSlot) (end last : Option ℕ) → Fit σ s → Gathers s fs end all last → Says σ t (Row all last) → Says σ t (Row fs end)
ungathered σ s t fs all end last f (Ends gs x) p = p
ungathered σ s t fs all end last f (Follows gs v w as_ x e g) p =
    let b : σ.types v ≡ σ.types w = says_at σ s v (Bound w) e f in
    let q = ungathered σ s t gs as_ (Some w) x f g p in
    (q.0 ∙ sym (ap (extend (row_value σ.types gs)) b), subst (λ u. lacks_all (field_names gs) u ≡ true) (sym b) q.1)
ungathered σ s t fs all end last f (Takes us v gs x ms as_ y e m g) p = untaken σ s t us gs ms v x f e m (ungathered σ s t ms as_ x y f g p)

-- a row over one with a field of the same name has no value
pub field_twice : (σ : Values) (s : Store) (t : Ground) (fs gs : List FieldSlot) (v : ℕ) (end : Option ℕ) (x : Name) → Fit σ s → (slot_at s v).cell ≡ Row gs end
    → contains x (field_names fs) ≡ true → contains x (field_names gs) ≡ true → Says σ t (Row fs (Some v)) → ⊥
field_twice σ s t fs gs v end x f e a b p =
    let r : Says σ (σ.types v) (Row gs end) = says_at σ s v (Row gs end) e f in
    let l : lacks x (extend (row_value σ.types gs) (rest_value σ.types end)) ≡ true = ap (lacks x) (sym r.0) ∙ lacks_of x (field_names fs) (σ.types v) a p.1 in
    let n : has_field x (row_value σ.types gs) ≡ false = lacks_none x (row_value σ.types gs) (rest_value σ.types end) l in
    let y : has_field x (row_value σ.types gs) ≡ true = has_row σ.types x gs ∙ b in
    cc

-- ---- two rows, split

module _ (σ : Values) (s : Store) (f : Fit σ s) (A B ca cb L R : List FieldSlot) (e g : Option ℕ) (h : Split A B ca cb L R) where
  pub split_on : (t : Ground) → Says σ t (Row A e) → Says σ t (Row B g) → Rests σ ca cb L R e g
  split_on t p q =
      let x = rest_value σ.types e in
      let y = rest_value σ.types g in
      let lca : lacks_all (field_names ca) x ≡ true = lacks_first ca L A x h.first.fields p.1 in
      let ll : lacks_all (field_names L) x ≡ true = lacks_second ca L A x h.first.fields p.1 in
      let lcb : lacks_all (field_names cb) y ≡ true = lacks_first cb R B y h.second.fields q.1 in
      let lr : lacks_all (field_names R) y ≡ true = lacks_second cb R B y h.second.fields q.1 in
      let xl = extend (row_value σ.types L) x in
      let yr = extend (row_value σ.types R) y in
      let same : extend (row_value σ.types ca) xl ≡ extend (row_value σ.types cb) yr =
      sym (extend_interleaved σ.types ca L A x h.first.fields h.first.apart) ∙ (sym p.0 ∙ (q.0 ∙ extend_interleaved σ.types cb R B y h.second.fields h.second.apart)) in
      let r = extend_apart (row_value σ.types ca) (row_value σ.types cb) xl yr
      (λ j. has_row σ.types j ca ∙ (ap (contains j) h.names ∙ sym (has_row σ.types j cb)))
      (rise_row σ.types ca h.both_rise)
      (rise_row σ.types cb (subst Ascending h.names h.both_rise))
      (fields_from_names σ.types ca xl (all_more σ.types (field_names ca) L x h.first.apart lca))
      (fields_from_names σ.types cb yr (all_more σ.types (field_names cb) R y h.second.apart lcb))
      (rise_extended (row_value σ.types L) x (rise_row σ.types L h.left_rises) (rise_ground x (rest_ground σ s e f)) (fields_from_names σ.types L x ll))
      (rise_extended (row_value σ.types R) y (rise_row σ.types R h.right_rises) (rise_ground y (rest_ground σ s g f)) (fields_from_names σ.types R y lr))
      same in
      record { both = sames_of_rows σ ca cb r.0; rests = r.1; left = ll; right = lr }

  pub split_back : (t : Ground) → Says σ t (Row A e) → Rests σ ca cb L R e g → Says σ t (Row B g)
  split_back t p r =
      let x = rest_value σ.types e in
      let y = rest_value σ.types g in
      let lca : lacks_all (field_names ca) x ≡ true = lacks_first ca L A x h.first.fields p.1 in
      let more : lacks_all (field_names ca) (extend (row_value σ.types L) x) ≡ true = all_more σ.types (field_names ca) L x h.first.apart lca in
      let other : lacks_all (field_names cb) (extend (row_value σ.types R) y) ≡ true =
      sym (ap (λ ns. lacks_all ns (extend (row_value σ.types R) y)) h.names) ∙ (sym (ap (lacks_all (field_names ca)) r.rests) ∙ more) in (
        p.0 ∙ (extend_interleaved σ.types ca L A x h.first.fields h.first.apart ∙ (ap (extend (row_value σ.types ca)) r.rests ∙
            (ap (λ k. extend k (extend (row_value σ.types R) y)) (rows_of_sames σ ca cb h.names r.both) ∙ sym (extend_interleaved σ.types cb R B y h.second.fields h.second.apart)))),
        lacks_interleaved cb R B y h.second.fields (all_less (field_names cb) (row_value σ.types R) y other) r.right,
      )
