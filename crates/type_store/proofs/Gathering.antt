-- The fields of a row, with those of the rows that it leads to.
use Rattle.std.proofs.Common.{◌≡◌, ℕ, ◌+◌, ◌<◌, ◌≤◌, List, [], ◌∷◌, length, get_or, map, Bool, true, false, eqb, ◌⊎◌, inl, inr, Option, Some, None, refl, sym, ap, ◌∙◌, subst, arith, All}
use Rattle.std.specs.Prelude.{◌||◌}
use Rattle.std.specs.Str.{bytes_eq}
use Rattle.std.specs.List.{IsDistinct, list_any}
use Rattle.std.specs.List.{AllByRecursion}
use Rattle.std.proofs.lemmas.Bool.{eqb-true}
use Rattle.std.proofs.lemmas.Map.Keys.{IsDistinct-cons, IsDistinct-from_apart}
use Rattle.std.proofs.lemmas.Map.Steps.{length-le_from_distinct_below}
use Rattle.std.proofs.lemmas.List.Elements.{All-head, All-tail}
use Rattle.elm_type.specs.Types.{Name}
use Rattle.elm_type.specs.Ground.{contains}
use Rattle.type_store.specs.Store.{FieldSlot, Cell, Row, Slot, Store, slot_at, field_names, field_slots, end_slots}
use Rattle.type_store.specs.Shape.{Ascending, NoneIn, IsCell, parts_of}
use Rattle.type_store.specs.Steps.{Interleaves, Neither, First, Second, Merged, Gathers, Ends, Follows, Takes, Leads, Here, Through, IsGraph, RowEnds, NamedTwice, RowTaken, GathersTwice, GathersAll, is_row}
use Rattle.type_store.specs.declared.slot.Slot as stored
use Rattle.type_store.specs.declared.slot.Cell as plain_cell
use Rattle.type_store.specs.declared.slot.Cell.TheVariants as forms
use Rattle.elm_type.specs.declared.head.Head.{Head}
use Rattle.elm_type.specs.declared.rigid.Rigid.{Rigid}
use Rattle.std.proofs.Common.{Vec, Global}
use Rattle.type_store.specs.declared.slot.FieldSlot as stored_field
use Rattle.type_store.specs.declared.gather.Next.{Next}
use Rattle.type_store.specs.View.{cell_view, field_view, store_view, NextIs}
use Rattle.type_store.proofs.Turns.{all_right}
use Rattle.type_store.proofs.Undoing.{view_or, length_view}
use Rattle.type_store.proofs.Names.{equal_itself, same_name}
use Rattle.type_store.proofs.RowsMeet.{or_right, not_had}

pub leads_gathers : (s : Store) (v u : ℕ) (fs all : List FieldSlot) (last : Option ℕ) → Leads s v u → Gathers s fs (Some u) all last → Gathers s fs (Some v) all last
leads_gathers s v u fs all last (Here x) g = g
leads_gathers s v u fs all last (Through x y z e l) g = Follows fs x y all last e (leads_gathers s y z fs all last l g)

-- what is gathered from here on is gathered from the start
pub record Onward (s : Store) (fs : List FieldSlot) (end : Option ℕ) (all : List FieldSlot) (at : ℕ) : Type 0 where
  pub rest : (final : List FieldSlot) (last : Option ℕ) → Gathers s all (Some at) final last → Gathers s fs end final last

pub onward_start : (s : Store) (fs : List FieldSlot) (at : ℕ) → Onward s fs (Some at) fs at
onward_start s fs at = record { rest = λ final last g. g }

pub onward_more : (s : Store) (fs all more : List FieldSlot) (end : Option ℕ) (at to : ℕ) → Onward s fs end all at → RowTaken s all at more (Some to) → Onward s fs end more to
onward_more s fs all more end at to o t = record {
  rest = λ final last g. o.rest final last (leads_gathers s at t.at all final last t.leads (Takes all t.at t.fields (Some to) more final last t.cell t.merged g));
}

pub ends_gathered : (s : Store) (fs all : List FieldSlot) (end : Option ℕ) (at u : ℕ) → Onward s fs end all at → Ascending (field_names all) → RowEnds s at u → GathersAll s fs end all (Some u)
ends_gathered s fs all end at u o r t = record {
  gathers = o.rest all (Some u) (leads_gathers s at u all all (Some u) t.leads (Ends all (Some u)));
  rises = r;
  ends = (t.inside, t.free, t.no_row);
}

pub closed_gathered : (s : Store) (fs all more : List FieldSlot) (end : Option ℕ) (at : ℕ) → Onward s fs end all at → RowTaken s all at more None → GathersAll s fs end more None
closed_gathered s fs all more end at o t = record {
  gathers = o.rest more None (leads_gathers s at t.at all more None t.leads (Takes all t.at t.fields None more more None t.cell t.merged (Ends more None)));
  rises = t.rises;
  ends = tt;
}

pub twice_gathered : (s : Store) (fs all : List FieldSlot) (end : Option ℕ) (at : ℕ) → Onward s fs end all at → NamedTwice s all at → GathersTwice s fs end
twice_gathered s fs all end at o t = record {
  all = all;
  last = t.at;
  gathers = o.rest all (Some t.at) (leads_gathers s at t.at all all (Some t.at) t.leads (Ends all (Some t.at)));
  fields = t.fields;
  then_end = t.end;
  cell = t.cell;
  name = t.name;
  first = t.first;
  second = t.second;
}

-- ---- no row is read twice

in_first : (x : Name) (fs gs ms : List FieldSlot) → Interleaves fs gs ms → contains x (field_names fs) ≡ true → contains x (field_names ms) ≡ true
in_first x fs gs ms Neither h = h
in_first x fs gs ms (First f us vs ws i) h = go (bytes_eq x f.0) h (in_first x us vs ws i)
  where
    go : (b : Bool) → (b || contains x (field_names us)) ≡ true → (contains x (field_names us) ≡ true → contains x (field_names ws) ≡ true) → (b || contains x (field_names ws)) ≡ true
    go true h again = refl
    go false h again = again h
in_first x fs gs ms (Second g us vs ws i) h = or_right (bytes_eq x g.0) (contains x (field_names ws)) (in_first x us vs ws i h)

in_second : (x : Name) (fs gs ms : List FieldSlot) → Interleaves fs gs ms → contains x (field_names gs) ≡ true → contains x (field_names ms) ≡ true
in_second x fs gs ms Neither h = h
in_second x fs gs ms (First f us vs ws i) h = or_right (bytes_eq x f.0) (contains x (field_names ws)) (in_second x us vs ws i h)
in_second x fs gs ms (Second g us vs ws i) h = go (bytes_eq x g.0) h (in_second x us vs ws i)
  where
    go : (b : Bool) → (b || contains x (field_names vs)) ≡ true → (contains x (field_names vs) ≡ true → contains x (field_names ws) ≡ true) → (b || contains x (field_names ws)) ≡ true
    go true h again = refl
    go false h again = again h

in_none : (x : Name) (xs ys : List Name) → contains x xs ≡ true → NoneIn xs ys → contains x ys ≡ false
in_none x [] ys h n = absurd (let w : false ≡ true = h in cc)
in_none x (z ∷ xs) ys h n = go (bytes_eq x z) refl (in_none x xs ys)
  where
    go : (b : Bool) → bytes_eq x z ≡ b → (contains x xs ≡ true → NoneIn xs ys → contains x ys ≡ false) → contains x ys ≡ false
    go true e again = ap (λ y. contains y ys) (same_name x z e) ∙ All-head (λ y. contains y ys ≡ false) z xs n
    go false e again = again (sym (ap (λ b. b || contains x xs) e) ∙ h) (All-tail (λ y. contains y ys ≡ false) z xs n)

-- a row whose first field is among those that were read
pub record ReadAt (s : Store) (all : List FieldSlot) (v : ℕ) : Type 0 where
  pub inside : v < length s
  pub first : FieldSlot
  pub fields : List FieldSlot
  pub end : Option ℕ
  pub cell : (slot_at s v).cell ≡ Row (first ∷ fields) end
  pub known : contains first.0 (field_names all) ≡ true

-- so many rows were read, each once
pub record Read (s : Store) (all : List FieldSlot) (count : ℕ) : Type 0 where
  pub rows : List ℕ
  pub many : length rows ≡ count
  pub distinct : IsDistinct eqb rows
  pub each : (q : ℕ) → list_any (eqb q) rows ≡ true → ReadAt s all q

pub read_none : (s : Store) (all : List FieldSlot) → Read s all 0
read_none s all = record { rows = []; many = refl; distinct = IsDistinct-from_apart eqb [] (λ i j d l h. absurd (omega arith)); each = λ q h. absurd (let w : false ≡ true = h in cc) }

-- not one that was read
new_row : (s : Store) (all gs : List FieldSlot) (u : ℕ) (end : Option ℕ) → (slot_at s u).cell ≡ Row gs end → NoneIn (field_names all) (field_names gs) → ReadAt s all u → ⊥
new_row s all gs u end e n r =
    let q : Row gs end ≡ Row (r.first ∷ r.fields) r.end = sym e ∙ r.cell in
    let w : gs ≡ r.first ∷ r.fields = cc in
    let a : contains r.first.0 (field_names gs) ≡ false = in_none r.first.0 (field_names all) (field_names gs) r.known n in
    let b : contains r.first.0 (field_names gs) ≡ true = ap (λ X. contains r.first.0 (field_names X)) w ∙ ap (λ c. c || contains r.first.0 (field_names r.fields)) (equal_itself r.first.0) in
    cc

all_apart : (u : ℕ) (rows : List ℕ) → list_any (eqb u) rows ≡ false → AllByRecursion (λ y. eqb u y ≡ false) rows
all_apart u [] h = tt
all_apart u (y ∷ rows) h = let k = not_had (eqb u y) (list_any (eqb u) rows) h in (k.0, all_apart u rows k.1)

pub read_more : (s : Store) (all more : List FieldSlot) (at to count : ℕ) → IsGraph s → Read s all count → RowTaken s all at more (Some to) → Read s more (count + 1)
read_more s all more at to count g r t = record {
  rows = t.at ∷ r.rows;
  many = omega (arith, r.many);
  distinct = IsDistinct-cons eqb t.at r.rows (all_apart t.at r.rows (fresh (list_any (eqb t.at) r.rows) refl)) r.distinct;
  each = λ q h. at_row q (eqb q t.at) refl h;
}
  where
    fresh : (b : Bool) → list_any (eqb t.at) r.rows ≡ b → list_any (eqb t.at) r.rows ≡ false
    fresh true e = absurd (new_row s all t.fields t.at (Some to) t.cell t.merged.apart (r.each t.at e))
    fresh false e = e

    taken : (fs : List FieldSlot) → t.fields ≡ fs → IsCell t.at (Row fs (Some to)) → ReadAt s more t.at
    taken [] e c = absurd c
    taken (f ∷ fs) e c = record {
      inside = t.there;
      first = f;
      fields = fs;
      end = Some to;
      cell = t.cell ∙ ap (λ X. Row X (Some to)) e;
      known = in_second f.0 all t.fields more t.merged.fields (ap (λ X. contains f.0 (field_names X)) e ∙ ap (λ b. b || contains f.0 (field_names fs)) (equal_itself f.0));
    }

    kept : (q : ℕ) → ReadAt s all q → ReadAt s more q
    kept q a = record { inside = a.inside; first = a.first; fields = a.fields; end = a.end; cell = a.cell; known = in_first a.first.0 all t.fields more t.merged.fields a.known }

    at_row : (q : ℕ) (b : Bool) → eqb q t.at ≡ b → (eqb q t.at || list_any (eqb q) r.rows) ≡ true → ReadAt s more q
    at_row q true e h = subst (ReadAt s more) (sym (eqb-true q t.at e)) (taken t.fields refl (subst (IsCell t.at) t.cell (g.cells t.at t.there)))
    at_row q false e h = kept q (r.each q (sym (ap (λ b. b || list_any (eqb q) r.rows) e) ∙ h))

-- there are not so many rows
pub too_many : (s : Store) (all : List FieldSlot) (count : ℕ) → length s < count → Read s all count → ⊥
too_many s all count l r =
    let h : length r.rows ≤ length s = length-le_from_distinct_below r.rows (length s) r.distinct (λ q e. (r.each q e).inside) in
    omega (arith, r.many, h)

-- ---- as the program reads them

pub row_at : (slots : List stored.Slot) (at : ℕ) (d : stored.Slot) (c : plain_cell.Cell) → at < length slots → (get_or slots at d).cell ≡ c → (slot_at (store_view slots) at).cell ≡ cell_view c
row_at slots at d c l e = ap (λ (x : Slot). x.cell) (view_or slots at d l) ∙ ap cell_view e

pub inside_view : (slots : List stored.Slot) (v : ℕ) → v < length slots → v < length (store_view slots)
inside_view slots v l = omega (arith, length_view slots, l)

pub ends_view : (slots : List stored.Slot) (v : ℕ) → v < length (store_view slots) → v < length slots
ends_view slots v l = omega (arith, length_view slots, l)

-- what the row at a variable is, taken in
pub row_taken : (s : Store) (all more : List FieldSlot) (v at : ℕ) (fields : List FieldSlot) (end : Option ℕ) → IsGraph s → Leads s v at → at < length s → (slot_at s at).cell ≡ Row fields end → Merged all fields more × Ascending (field_names more)
    → RowTaken s all v more end
row_taken s all more v at fields end g l i e m = record {
  at = at;
  fields = fields;
  leads = l;
  there = i;
  cell = e;
  merged = m.0;
  rises = m.1;
  inside = all_right (λ w. w < length s) (field_slots fields) (end_slots end) (subst (λ (c : Cell). All (λ w. w < length s) (parts_of c)) e (g.inside at i));
}

pub row_rises : (v : ℕ) (fields : List FieldSlot) (end : Option ℕ) → IsCell v (Row fields end) → Ascending (field_names fields)
row_rises v [] None c = tt
row_rises v [] (Some w) c = tt
row_rises v (f ∷ fs) end c = c

-- the cell is of one of the forms that are no row
pub no_row_at : (slots : List stored.Slot) (at : ℕ) (d : stored.Slot) → at < length slots
    → ((get_or slots at d).cell ≡ forms.Open) ⊎ (((x : ℕ) × ((get_or slots at d).cell ≡ forms.Bound x)) ⊎ (((x : Head) × (x' : Vec ℕ Global) × ((get_or slots at d).cell ≡ forms.Built x x')) ⊎ ((x : Rigid) × ((get_or slots at d).cell ≡ forms.Constant x))))
    → is_row (slot_at (store_view slots) at).cell ≡ false
no_row_at slots at d l h = elim h [
  | inl e ↦ ap is_row (row_at slots at d forms.Open l e)
  | inr r ↦ elim r [
    | inl p ↦ ap is_row (row_at slots at d (forms.Bound p.0) l p.1)
    | inr t ↦ elim t [
      | inl p ↦ ap is_row (row_at slots at d (forms.Built p.0 p.1) l p.2)
      | inr p ↦ ap is_row (row_at slots at d (forms.Constant p.0) l p.1)
    ]
  ]
]

pub next_as : (s : Store) (xs ys : List stored_field.FieldSlot) (v : ℕ) (n m : Next) → xs ≡ ys → n ≡ m → NextIs s (map field_view xs) v n → NextIs s (map field_view ys) v m
next_as s xs ys v n m e f h = subst (λ zs. NextIs s (map field_view zs) v m) e (subst (λ k. NextIs s (map field_view xs) v k) f h)

pub closed_start : (s : Store) (fs all : List FieldSlot) (end : Option ℕ) → all ≡ fs → end ≡ None → Ascending (field_names fs) → GathersAll s fs end all None
closed_start s fs all end e f a =
    subst (λ x. GathersAll s fs x all None) (sym f) (subst (λ xs. GathersAll s fs None xs None) (sym e) (record { gathers = Ends fs None; rises = a; ends = tt }))

pub open_start : (s : Store) (fs all : List FieldSlot) (end : Option ℕ) (to : ℕ) → all ≡ fs → end ≡ Some to → Onward s fs end all to
open_start s fs all end to e f = subst (λ x. Onward s fs x all to) (sym f) (subst (λ xs. Onward s fs (Some to) xs to) (sym e) (onward_start s fs to))

pub start_inside : (n : ℕ) (end : Option ℕ) (to : ℕ) → end ≡ Some to → All (λ w. w < n) (end_slots end) → to < n
start_inside n end to e a = All-head (λ w. w < n) to [] (subst (λ x. All (λ w. w < n) (end_slots x)) e a)

pub more_inside : (slots : List stored.Slot) (all more : List FieldSlot) (at to : ℕ) → RowTaken (store_view slots) all at more (Some to) → to < length slots
more_inside slots all more at to t = ends_view slots to (All-head (λ w. w < length (store_view slots)) to [] t.inside)
