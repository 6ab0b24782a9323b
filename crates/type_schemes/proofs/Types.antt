-- The types of variables that stand in order.
use Rattle.std.proofs.Common.{◌≡◌, ℕ, zero, suc, ◌+◌, ◌<◌, List, [], ◌∷◌, ◌++◌, length, map, take, drop, get_or, reverse, Bool, true, false, cond, nat_eq, Option, Some, None, inl, inr, ⊎_elim, refl, sym, ap, ◌∙◌, subst, arith}
use Rattle.std.specs.Prelude.{◌⊎◌}
use Rattle.std.specs.List.{AllByRecursion}
use Rattle.std.proofs.lemmas.Bool.{eqb-true, eq-eqb}
use Rattle.std.proofs.lemmas.List.{take-append-drop, take_more, reverse-append}
use Rattle.elm_type.specs.Types.{Name, Fields, NoField, MoreField, Closed, Over, Made, Record, types_of, Leaf, size}
use Rattle.elm_type.specs.Rows.{extend, insert_field, insert_all, name_lt}
use Rattle.elm_type.specs.declared.head.Head.{Head}
use Rattle.elm_type.specs.Ground.{contains}
use Rattle.type_store.specs.Store.{FieldSlot, Cell, Open, Bound, Built, Row, Constant, Slot, Store, slot_at, field_slots, field_names, end_slots}
use Rattle.type_store.specs.Shape.{IsStore, IsCell, Spread, parts_of}
use Rattle.type_store.specs.Steps.{is_bound}
use Rattle.type_store.proofs.Lacking.{at_contained, contained}
use Rattle.type_store.proofs.Parts.{slot_past}
use Rattle.std.proofs.lemmas.Bool.{cases_lt}
use Rattle.type_schemes.specs.Ends.{follow, end_in, end_of}
use Rattle.type_schemes.specs.Order.{number_in, IsListed, IsReady, PartsFirst}
use Rattle.type_schemes.specs.Reading.{Graph, read_row, read_end, read_cell, read_in}
use Rattle.type_schemes.specs.Bases.{base, type_in}

-- ---- what is listed

pub listed_more : (u : ℕ) (older : List ℕ) (v : ℕ) → IsListed older v → IsListed (u ∷ older) v
listed_more u older v h = go (nat_eq u v)
  where
    go : (b : Bool) → (i : ℕ) × (cond b (Some (length older)) (number_in older v) ≡ Some i)
    go true = (length older, refl)
    go false = h

pub listed_last : (u : ℕ) (older : List ℕ) → IsListed (u ∷ older) u
listed_last u older = (length older, ap (λ b. cond b (Some (length older)) (number_in older u)) (eq-eqb u u refl))

pub listed_cases : (u : ℕ) (older : List ℕ) (v : ℕ) → IsListed (u ∷ older) v → (u ≡ v) ⊎ IsListed older v
listed_cases u older v h = go (nat_eq u v) refl h.1
  where
    go : (b : Bool) → nat_eq u v ≡ b → cond b (Some (length older)) (number_in older v) ≡ Some h.0 → (u ≡ v) ⊎ IsListed older v
    go true e i = inl (eqb-true u v e)
    go false e i = inr (h.0, i)

pub listed_append : (xs ys : List ℕ) (v : ℕ) → IsListed ys v → IsListed (xs ++ ys) v
listed_append [] ys v h = h
listed_append (x ∷ xs) ys v h = listed_more x (xs ++ ys) v (listed_append xs ys v h)

other : (u : ℕ) (older : List ℕ) (v : ℕ) → number_in older u ≡ None → IsListed older v → nat_eq u v ≡ false
other u older v n h = go (nat_eq u v) refl
  where
    go : (b : Bool) → nat_eq u v ≡ b → b ≡ false
    go true e = absurd (let x = sym n ∙ (ap (number_in older) (eqb-true u v e) ∙ h.1) in cc)
    go false e = refl

first_after : (floor : ℕ) (s : Store) (xs ys : List ℕ) → PartsFirst floor s (xs ++ ys) → PartsFirst floor s ys
first_after floor s [] ys h = h
first_after floor s (x ∷ xs) ys h = first_after floor s xs ys h.1

split : (n : ℕ) (vs : List ℕ) → reverse vs ≡ reverse (drop n vs) ++ reverse (take n vs)
split n vs = ap reverse (sym (take-append-drop n vs)) ∙ reverse-append (take n vs) (drop n vs)

pub first_taken : (floor : ℕ) (s : Store) (vs : List ℕ) (n : ℕ) → PartsFirst floor s (reverse vs) → PartsFirst floor s (reverse (take n vs))
first_taken floor s vs n h = first_after floor s (reverse (drop n vs)) (reverse (take n vs)) (subst (PartsFirst floor s) (split n vs) h)

pub listed_taken : (vs : List ℕ) (n v : ℕ) → IsListed (reverse (take n vs)) v → IsListed (reverse vs) v
listed_taken vs n v h = subst (λ xs. IsListed xs v) (sym (split n vs)) (listed_append (reverse (drop n vs)) (reverse (take n vs)) v h)

pub taken_more : (vs : List ℕ) (n d : ℕ) → n < length vs → reverse (take (n + 1) vs) ≡ get_or vs n d ∷ reverse (take n vs)
taken_more vs n d l = ap reverse (take_more vs n d l) ∙ reverse-append (take n vs) (get_or vs n d ∷ [])

-- ---- cells whose parts have the same types

module _ (f g : ℕ → Graph) where
  same_parts : (ws : List ℕ) → AllByRecursion (λ w. f w ≡ g w) ws → map f ws ≡ map g ws
  same_parts [] h = refl
  same_parts (w ∷ ws) h = ap (λ t. t ∷ map f ws) h.0 ∙ ap (λ ts. g w ∷ ts) (same_parts ws h.1)

  same_row : (fs : List FieldSlot) (ws : List ℕ) → AllByRecursion (λ w. f w ≡ g w) (field_slots fs ++ ws) → read_row f fs ≡ read_row g fs
  same_row [] ws h = refl
  same_row (x ∷ fs) ws h = ap (λ t. MoreField x.0 t (read_row f fs)) h.0 ∙ ap (MoreField x.0 (g x.1)) (same_row fs ws h.1)

  same_end : (fs : List FieldSlot) (e : Option ℕ) → AllByRecursion (λ w. f w ≡ g w) (field_slots fs ++ end_slots e) → read_end f e ≡ read_end g e
  same_end [] None h = refl
  same_end [] (Some w) h = h.0
  same_end (x ∷ fs) e h = same_end fs e h.1

  pub same_cell : (v : ℕ) (c : Cell) → AllByRecursion (λ w. f w ≡ g w) (parts_of c) → read_cell f v c ≡ read_cell g v c
  same_cell v Open h = refl
  same_cell v (Bound w) h = h.0
  same_cell v (Built b ws) h = ap (λ ts. Made b (types_of ts)) (same_parts ws h)
  same_cell v (Row fs end) h =
      ap (λ xs. extend xs (read_end f end)) (same_row fs (end_slots end) h) ∙ ap (extend (read_row g fs)) (same_end fs end h)
  same_cell v (Constant r) h = refl

-- ---- the type of what is listed

all_map : {X : Type 0} (P Q : X → Type 0) → ((x : X) → P x → Q x) → (xs : List X) → AllByRecursion P xs → AllByRecursion Q xs
all_map P Q f [] h = tt
all_map P Q f (x ∷ xs) h = (f x h.0, all_map P Q f xs h.1)

module _ (s : Store) where
  read_kept : (u : ℕ) (older : List ℕ) (v : ℕ) → number_in older u ≡ None → IsListed older v → read_in s (u ∷ older) v ≡ read_in s older v
  unfolding read_in
  read_kept u older v n h =
      ap (λ b. cond b (read_cell (λ w. read_in s older (end_of s w)) u (slot_at s u).cell) (read_in s older v)) (other u older v n h)

  read_last : (u : ℕ) (older : List ℕ) → read_in s (u ∷ older) u ≡ read_cell (λ w. read_in s older (end_of s w)) u (slot_at s u).cell
  unfolding read_in
  read_last u older =
      ap (λ b. cond b (read_cell (λ w. read_in s older (end_of s w)) u (slot_at s u).cell) (read_in s older u)) (eq-eqb u u refl)

  pub parts_listed : (older : List ℕ) (v : ℕ) → PartsFirst 0 s older → IsListed older v → AllByRecursion (λ w. IsListed older (end_of s w)) (parts_of (slot_at s v).cell)
  parts_listed [] v first h = absurd (let e = h.1 in cc)
  parts_listed (u ∷ older) v first h =
      ⊎_elim
      (λ e. subst (λ x. AllByRecursion (λ w. IsListed (u ∷ older) (end_of s w)) (parts_of (slot_at s x).cell)) e
      (all_map (IsReady 0 s older) (λ w. IsListed (u ∷ older) (end_of s w)) (λ w r. listed_more u older (end_of s w) (r (omega arith))) (parts_of (slot_at s u).cell) first.0.parts))
      (λ k. all_map (λ w. IsListed older (end_of s w)) (λ w. IsListed (u ∷ older) (end_of s w)) (λ w r. listed_more u older (end_of s w) r) (parts_of (slot_at s v).cell)
      (parts_listed older v first.1 k))
      (listed_cases u older v h)

  cell_kept : (u : ℕ) (older : List ℕ) (v : ℕ) → number_in older u ≡ None → AllByRecursion (λ w. IsListed older (end_of s w)) (parts_of (slot_at s v).cell)
      → read_cell (type_in s older) v (slot_at s v).cell ≡ read_cell (type_in s (u ∷ older)) v (slot_at s v).cell
  cell_kept u older v n h =
      same_cell (type_in s older) (type_in s (u ∷ older)) v (slot_at s v).cell
      (all_map (λ w. IsListed older (end_of s w)) (λ w. type_in s older w ≡ type_in s (u ∷ older) w) (λ w k. sym (read_kept u older (end_of s w) n k)) (parts_of (slot_at s v).cell) h)

  -- the type of a variable is made of the types of its parts
  pub read_is : (older : List ℕ) (v : ℕ) → PartsFirst 0 s older → IsListed older v → read_in s older v ≡ read_cell (type_in s older) v (slot_at s v).cell
  read_is [] v first h = absurd (let e = h.1 in cc)
  read_is (u ∷ older) v first h =
      ⊎_elim
      (λ e. subst (λ x. read_in s (u ∷ older) x ≡ read_cell (type_in s (u ∷ older)) x (slot_at s x).cell) e
      (read_last u older
      ∙ cell_kept u older u first.0.new
      (all_map (IsReady 0 s older) (λ w. IsListed older (end_of s w)) (λ w r. r (omega arith)) (parts_of (slot_at s u).cell) first.0.parts)))
      (λ k. read_kept u older v first.0.new k ∙ (read_is older v first.1 k ∙ cell_kept u older v first.0.new (parts_listed older v first.1 k)))
      (listed_cases u older v h)

-- ---- what a row ends in is a record

abbrev pub AreRecord : Graph → Type 0
AreRecord (Made h ts) = ⊥
AreRecord (Record fs end) = Unit {0}

extended : (fs : Fields (Leaf ℕ)) (t : Graph) → AreRecord t → AreRecord (extend fs t)
extended fs (Made h ts) r = r
extended fs (Record gs end) r = tt

module _ (s : Store) (whole : IsStore s) where
  follow_contains : (x : Name) (f : ℕ → ℕ) (v : ℕ) → ((w : ℕ) → contains x (slot_at s w).kind.lacks ≡ true → contains x (slot_at s (f w)).kind.lacks ≡ true)
      → (slot : Slot) → slot ≡ slot_at s v → (c : Cell) → Spread s slot.kind c → contains x slot.kind.lacks ≡ true → contains x (slot_at s (follow f v c)).kind.lacks ≡ true
  follow_contains x f v g slot e Open sp h = subst (λ (y : Slot). contains x y.kind.lacks ≡ true) e h
  follow_contains x f v g slot e (Bound w) sp h = g w (at_contained (λ y. contains y (slot_at s w).kind.lacks ≡ true) x slot.kind.lacks h sp.1)
  follow_contains x f v g slot e (Built b ws) sp h = subst (λ (y : Slot). contains x y.kind.lacks ≡ true) e h
  follow_contains x f v g slot e (Row fs end) sp h = subst (λ (y : Slot). contains x y.kind.lacks ≡ true) e h
  follow_contains x f v g slot e (Constant r) sp h = subst (λ (y : Slot). contains x y.kind.lacks ≡ true) e h

  spread_at : (v : ℕ) → Spread s (slot_at s v).kind (slot_at s v).cell
  spread_at v =
      ⊎_elim (λ l. (whole.each v l).spread) (λ h. subst (λ (x : Slot). Spread s x.kind x.cell) (sym (slot_past s v h)) tt) (cases_lt v (length s))

  end_contains : (x : Name) (n v : ℕ) → contains x (slot_at s v).kind.lacks ≡ true → contains x (slot_at s (end_in n s v)).kind.lacks ≡ true
  unfolding end_in
  end_contains x zero v h = h
  end_contains x (suc n) v h =
      follow_contains x (end_in n s) v (end_contains x n) (slot_at s v) refl (slot_at s v).cell (spread_at v) h

  no_built : (x : Name) (v : ℕ) (b : Head) (ws : List ℕ) → contains x (slot_at s v).kind.lacks ≡ true → (slot_at s v).cell ≡ Built b ws → ⊥
  no_built x v b ws h e =
      let sp : Spread s (slot_at s v).kind (Built b ws) = subst (Spread s (slot_at s v).kind) e (spread_at v) in
      let y : contains x [] ≡ true = ap (contains x) (sym sp.0) ∙ h in
      absurd (cc)

  row_end_contains : (v : ℕ) (f : FieldSlot) (fs : List FieldSlot) (w : ℕ) → (slot_at s v).cell ≡ Row (f ∷ fs) (Some w) → contains f.0 (slot_at s (end_of s w)).kind.lacks ≡ true
  unfolding end_of
  row_end_contains v f fs w e =
      let sp : Spread s (slot_at s v).kind (Row (f ∷ fs) (Some w)) = subst (Spread s (slot_at s v).kind) e (spread_at v) in
      end_contains f.0 (suc w) w
      (at_contained (λ y. contains y (slot_at s w).kind.lacks ≡ true) f.0 ((slot_at s v).kind.lacks ++ field_names (f ∷ fs))
      (contained (slot_at s v).kind.lacks f.0 (field_names fs)) sp.2)

  pub last_in : (P : ℕ → Type 0) (xs : List ℕ) (w : ℕ) → AllByRecursion P (xs ++ w ∷ []) → P w
  last_in P [] w h = h.0
  last_in P (x ∷ xs) w h = last_in P xs w h.1

  pub no_fields : (v : ℕ) (w : ℕ) → v < length s → (slot_at s v).cell ≡ Row [] (Some w) → ⊥
  no_fields v w l e = subst (IsCell v) e (whole.each v l).cell

  cell_record : (older : List ℕ) (u : ℕ) (x : Name) → u < length s → contains x (slot_at s u).kind.lacks ≡ true → (c : Cell) → (slot_at s u).cell ≡ c → is_bound c ≡ false
      → AllByRecursion (IsReady 0 s older) (parts_of c)
      → ((w : ℕ) (y : Name) → IsListed older (end_of s w) → contains y (slot_at s (end_of s w)).kind.lacks ≡ true → AreRecord (read_in s older (end_of s w)))
      → AreRecord (read_cell (λ w. read_in s older (end_of s w)) u c)
  cell_record older u x l k Open e b r again = tt
  cell_record older u x l k (Bound w) e b r again = absurd (cc)
  cell_record older u x l k (Built c ws) e b r again = absurd (no_built x u c ws k e)
  cell_record older u x l k (Row fs None) e b r again = extended (read_row (λ w. read_in s older (end_of s w)) fs) (Record NoField Closed) tt
  cell_record older u x l k (Row [] (Some w)) e b r again = absurd (no_fields u w l e)
  cell_record older u x l k (Row (f ∷ fs) (Some w)) e b r again =
      extended (read_row (λ y. read_in s older (end_of s y)) (f ∷ fs)) (read_in s older (end_of s w))
      (again w f.0 (last_in (IsReady 0 s older) (field_slots (f ∷ fs)) w r (omega arith)) (row_end_contains u f fs w e))
  cell_record older u x l k (Constant q) e b r again = tt

  -- a variable that lacks a field
  lacking_record : (older : List ℕ) (v : ℕ) (x : Name) → PartsFirst 0 s older → IsListed older v → contains x (slot_at s v).kind.lacks ≡ true
      → AreRecord (read_in s older v)
  lacking_record [] v x first h k = absurd (let e = h.1 in cc)
  lacking_record (u ∷ older) v x first h k =
      ⊎_elim
      (λ e. subst (λ y. AreRecord (read_in s (u ∷ older) y)) e
      (subst AreRecord (sym (read_last s u older))
      (cell_record older u x first.0.inside (subst (λ y. contains x (slot_at s y).kind.lacks ≡ true) (sym e) k) (slot_at s u).cell refl first.0.end first.0.parts
      (λ w y i c. lacking_record older (end_of s w) y first.1 i c))))
      (λ i. subst AreRecord (sym (read_kept s u older v first.0.new i)) (lacking_record older v x first.1 i k))
      (listed_cases u older v h)

  -- what a row with fields ends in
  pub end_record : (older : List ℕ) (v : ℕ) (f : FieldSlot) (fs : List FieldSlot) (w : ℕ) → PartsFirst 0 s older → IsListed older (end_of s w)
      → (slot_at s v).cell ≡ Row (f ∷ fs) (Some w) → AreRecord (type_in s older w)
  end_record older v f fs w first h e = lacking_record older (end_of s w) f.0 first h (row_end_contains v f fs w e)

  pub row_end_record : (older : List ℕ) (v : ℕ) → v < length s → (fs : List FieldSlot) (w : ℕ) → PartsFirst 0 s older → IsListed older (end_of s w)
      → (slot_at s v).cell ≡ Row fs (Some w) → AreRecord (type_in s older w)
  row_end_record older v l [] w first h e = absurd (no_fields v w l e)
  row_end_record older v l (f ∷ fs) w first h e = end_record older v f fs w first h e

  -- ---- a type is as large as its base, unless it is a variable

  over_size : (k : Name) (t : Graph) (gs : Fields (Leaf ℕ)) (x : Leaf ℕ) → size (Record (insert_field k t gs) (Over x)) ≡ base (Record (insert_field k t gs) (Over x))
  over_size k t NoField x = refl
  over_size k t (MoreField j u gs) x = go (name_lt j k)
    where
      go : (b : Bool) → size (Record (cond b (MoreField j u (insert_field k t gs)) (MoreField k t (MoreField j u gs))) (Over x))
          ≡ base (Record (cond b (MoreField j u (insert_field k t gs)) (MoreField k t (MoreField j u gs))) (Over x))
      go true = refl
      go false = refl

  extended_size : (k : Name) (t : Graph) (fs : Fields (Leaf ℕ)) (r : Graph) → AreRecord r → size (extend (MoreField k t fs) r) ≡ base (extend (MoreField k t fs) r)
  extended_size k t fs (Made h ts) r = absurd r
  extended_size k t fs (Record gs Closed) r = refl
  extended_size k t fs (Record gs (Over x)) r = over_size k t (insert_all fs gs) x

  abbrev pub SizedAs : Cell → Graph → Type 0
  SizedAs Open t = size t ≡ 1
  SizedAs (Bound w) t = Unit {0}
  SizedAs (Built h ws) t = size t ≡ base t
  SizedAs (Row fs end) t = size t ≡ base t
  SizedAs (Constant r) t = size t ≡ 1

  cell_sized : (older : List ℕ) (v : ℕ) → v < length s → PartsFirst 0 s older → (c : Cell) → (slot_at s v).cell ≡ c
      → AllByRecursion (λ w. IsListed older (end_of s w)) (parts_of c) → SizedAs c (read_cell (type_in s older) v c)
  cell_sized older v l first Open e p = refl
  cell_sized older v l first (Bound w) e p = tt
  cell_sized older v l first (Built h ws) e p = refl
  cell_sized older v l first (Row fs None) e p = refl
  cell_sized older v l first (Row [] (Some w)) e p = absurd (no_fields v w l e)
  cell_sized older v l first (Row (f ∷ fs) (Some w)) e p =
      extended_size f.0 (type_in s older f.1) (read_row (type_in s older) fs) (type_in s older w)
      (end_record older v f fs w first (last_in (λ y. IsListed older (end_of s y)) (field_slots (f ∷ fs)) w p) e)
  cell_sized older v l first (Constant r) e p = refl

  pub sized : (older : List ℕ) (v : ℕ) → v < length s → PartsFirst 0 s older → IsListed older v → SizedAs (slot_at s v).cell (read_in s older v)
  sized older v l first h =
      subst (SizedAs (slot_at s v).cell) (sym (read_is s older v first h))
      (cell_sized older v l first (slot_at s v).cell refl (parts_listed s older v first h))

  pub sized_end : (older : List ℕ) (v at : ℕ) → end_of s v ≡ at → at < length s → PartsFirst 0 s older → IsListed older (end_of s v) → (c : Cell) → (slot_at s at).cell ≡ c
      → SizedAs c (type_in s older v)
  sized_end older v at e l first h c k =
      subst (λ u. SizedAs c (read_in s older u)) (sym e)
      (subst (λ x. SizedAs x (read_in s older at)) k (sized older at l first (subst (IsListed older) e h)))
