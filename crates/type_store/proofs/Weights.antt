-- A type that is a part of another is smaller: so no variable of a store with a solution leads to itself.
use Rattle.std.proofs.Common.{◌≡◌, ℕ, suc, ◌+◌, ◌<◌, ◌≤◌, List, [], ◌∷◌, ◌++◌, map, Bool, true, false, Some, None, refl, sym, ap, ◌∙◌, arith}
use Rattle.std.specs.List.{All, Contains}
use Rattle.std.proofs.lemmas.List.Elements.{All-cons, All-nil, All-weaker, All-append, All-contains}
use Rattle.elm_type.specs.Types.{Name, Rigid, ElmTypes, Fields, End, Closed, Made, Record, NoType, MoreType, NoField, MoreField, types_of}
use Rattle.elm_type.specs.Classes.{Ground}
use Rattle.elm_type.specs.Rows.{name_lt, insert_field, insert_all, extend}
use Rattle.elm_type.specs.Ground.{lacks_all}
use Rattle.type_store.specs.Store.{FieldSlot, Cell, Open, Bound, Built, Row, Constant, Store, slot_at, field_slots, field_names}
use Rattle.type_store.specs.Shape.{parts_of, IsCell}
use Rattle.type_store.specs.Solutions.{Values, row_value, Says, Fit}
use Rattle.type_store.specs.Cycles.{parts_at, Leads, to_part, further}
use Rattle.type_store.proofs.Rows.{insert_after, insert_before}
use Rattle.type_store.proofs.Classes.{no}

abbrev mutual
  pub weight : Ground → ℕ
  weight (Made h ts) = suc (weight_all ts)
  weight (Record fs end) = suc (weight_fields fs)

  pub weight_all : ElmTypes Rigid → ℕ
  weight_all NoType = 0
  weight_all (MoreType t ts) = weight t + weight_all ts

  pub weight_fields : Fields Rigid → ℕ
  weight_fields NoField = 0
  weight_fields (MoreField k t fs) = suc (weight t + weight_fields fs)

weight_inserted : (k : Name) (t : Ground) (fs : Fields Rigid) → weight_fields (insert_field k t fs) ≡ suc (weight t + weight_fields fs)
weight_inserted k t NoField = refl
weight_inserted k t (MoreField m v fs) = go (weight_inserted k t fs) (name_lt m k) refl
  where
    go : weight_fields (insert_field k t fs) ≡ suc (weight t + weight_fields fs) → (b : Bool) → name_lt m k ≡ b
        → weight_fields (insert_field k t (MoreField m v fs)) ≡ suc (weight t + suc (weight v + weight_fields fs))
    go again true e = ap weight_fields (insert_after k m t v fs e) ∙ omega (arith, again)
    go again false e = ap weight_fields (insert_before k m t v fs e)

weight_inserted_all : (fs gs : Fields Rigid) → weight_fields (insert_all fs gs) ≡ weight_fields fs + weight_fields gs
weight_inserted_all NoField gs = omega arith
weight_inserted_all (MoreField k t fs) gs =
    weight_inserted k t (insert_all fs gs) ∙ omega (arith, weight_inserted_all fs gs)

module _ (f : ℕ → Ground) where
  parts_weigh : (ws : List ℕ) → All (λ w. weight (f w) ≤ weight_all (types_of (map f ws))) ws
  parts_weigh [] = All-nil (λ w. weight (f w) ≤ 0)
  parts_weigh (w ∷ ws) =
      All-cons (λ u. weight (f u) ≤ weight (f w) + weight_all (types_of (map f ws))) w ws (omega arith)
      (All-weaker (λ u. weight (f u) ≤ weight_all (types_of (map f ws))) (λ u. weight (f u) ≤ weight (f w) + weight_all (types_of (map f ws)))
      (λ u l. omega (arith, l)) ws (parts_weigh ws))

  fields_weigh : (fs : List FieldSlot) → All (λ w. weight (f w) ≤ weight_fields (row_value f fs)) (field_slots fs)
  fields_weigh [] = All-nil (λ w. weight (f w) ≤ 0)
  fields_weigh (x ∷ fs) =
      All-cons (λ u. weight (f u) ≤ suc (weight (f x.1) + weight_fields (row_value f fs))) x.1 (field_slots fs) (omega arith)
      (All-weaker (λ u. weight (f u) ≤ weight_fields (row_value f fs)) (λ u. weight (f u) ≤ suc (weight (f x.1) + weight_fields (row_value f fs)))
      (λ u l. omega (arith, l)) (field_slots fs) (fields_weigh fs))

-- a smaller type, or the same size and a lower number
pub data Under (σ : Values) (w v : ℕ) : Type 0 where
  smaller : weight (σ.types w) < weight (σ.types v) → Under σ w v
  lower : weight (σ.types w) ≡ weight (σ.types v) → w < v → Under σ w v

under_again : (σ : Values) (w u v : ℕ) → Under σ w u → Under σ u v → Under σ w v
under_again σ w u v (smaller a) (smaller b) = smaller (omega (arith, a, b))
under_again σ w u v (smaller a) (lower b l) = smaller (omega (arith, a, b))
under_again σ w u v (lower a k) (smaller b) = smaller (omega (arith, a, b))
under_again σ w u v (lower a k) (lower b l) = lower (a ∙ b) (omega (arith, k, l))

not_under_itself : (σ : Values) (v : ℕ) → Under σ v v → ⊥
not_under_itself σ v (smaller a) = omega (arith, a)
not_under_itself σ v (lower a l) = omega (arith, l)

row_under : (σ : Values) (v : ℕ) (fs : List FieldSlot) (end : List ℕ) (gs : Fields Rigid) (e : End Rigid)
    → σ.types v ≡ extend (row_value σ.types fs) (Record gs e)
    → All (λ w. weight (σ.types w) < suc (weight_fields (row_value σ.types fs) + weight_fields gs)) end
    → All (λ w. Under σ w v) (field_slots fs ++ end)
row_under σ v fs end gs e is h =
    let size : weight (σ.types v) ≡ suc (weight_fields (row_value σ.types fs) + weight_fields gs) =
    ap weight is ∙ ap suc (weight_inserted_all (row_value σ.types fs) gs) in
    All-append (λ w. Under σ w v) (field_slots fs) end
    (All-weaker (λ w. weight (σ.types w) ≤ weight_fields (row_value σ.types fs)) (λ w. Under σ w v) (λ w l. smaller (omega (arith, l, size))) (field_slots fs)
    (fields_weigh σ.types fs))
    (All-weaker (λ w. weight (σ.types w) < suc (weight_fields (row_value σ.types fs) + weight_fields gs)) (λ w. Under σ w v)
    (λ w l. smaller (omega (arith, l, size))) end h)

end_under : (σ : Values) (v : ℕ) (x : FieldSlot) (fs : List FieldSlot) (w : ℕ) (t : Ground) → σ.types w ≡ t
    → σ.types v ≡ extend (row_value σ.types (x ∷ fs)) t → lacks_all (field_names (x ∷ fs)) t ≡ true
    → All (λ u. Under σ u v) (field_slots (x ∷ fs) ++ w ∷ [])
end_under σ v x fs w (Made h ts) e is off = no off
end_under σ v x fs w (Record gs end) e is off =
    row_under σ v (x ∷ fs) (w ∷ []) gs end is
    (All-cons (λ u. weight (σ.types u) < suc (weight_fields (row_value σ.types (x ∷ fs)) + weight_fields gs)) w []
    (let size : weight (σ.types w) ≡ suc (weight_fields gs) = ap weight e in omega (arith, size))
    (All-nil (λ u. weight (σ.types u) < suc (weight_fields (row_value σ.types (x ∷ fs)) + weight_fields gs))))

cell_under : (σ : Values) (v : ℕ) (c : Cell) → IsCell v c → Says σ (σ.types v) c → All (λ w. Under σ w v) (parts_of c)
cell_under σ v Open cell says = All-nil (λ w. Under σ w v)
cell_under σ v (Bound w) cell says =
    All-cons (λ u. Under σ u v) w [] (lower (ap weight (sym says)) cell) (All-nil (λ u. Under σ u v))
cell_under σ v (Built h ws) cell says =
    let size : weight (σ.types v) ≡ suc (weight_all (types_of (map σ.types ws))) = ap weight says in
    All-weaker (λ w. weight (σ.types w) ≤ weight_all (types_of (map σ.types ws))) (λ w. Under σ w v) (λ w l. smaller (omega (arith, l, size))) ws
    (parts_weigh σ.types ws)
cell_under σ v (Row fs None) cell says =
    row_under σ v fs [] NoField Closed says.0 (All-nil (λ w. weight (σ.types w) < suc (weight_fields (row_value σ.types fs) + 0)))
cell_under σ v (Row [] (Some w)) cell says = absurd cell
cell_under σ v (Row (x ∷ fs) (Some w)) cell says = end_under σ v x fs w (σ.types w) refl says.0 says.1
cell_under σ v (Constant r) cell says = All-nil (λ w. Under σ w v)

module _ (s : Store) (cells : (v : ℕ) → IsCell v (slot_at s v).cell) (σ : Values) (fit : Fit σ s) where
  part_under : (v w : ℕ) → Contains (parts_at s v) w → Under σ w v
  part_under v w c =
      All-contains (λ u. Under σ u v) (parts_at s v) w (cell_under σ v (slot_at s v).cell (cells v) (fit.each v).cell) c

  leads_under : (v w : ℕ) → Leads s v w → Under σ w v
  leads_under v w (to_part a b c) = part_under a b c
  leads_under v w (further a u b l c) = under_again σ b u a (part_under u b c) (leads_under a u l)

  pub no_ring : (v : ℕ) → Leads s v v → ⊥
  no_ring v l = not_under_itself σ v (leads_under v v l)
