-- The rows that a row leads to, and their fields in one, put together in any order.
use Rattle.std.proofs.Common.{◌≡◌, ℕ, ◌<◌, List, [], ◌∷◌, ◌++◌, length, get_or, take, drop, map, Bool, true, false, ◌⊎◌}
use Rattle.std.proofs.Common.{inl, inr, Option, Some, None, refl, sym, ap, ◌∙◌, subst, arith, All, Vec, Global}
use Rattle.std.specs.Prelude.{◌||◌}
use Rattle.std.specs.Str.{bytes_eq}
use Rattle.std.proofs.lemmas.List.{append_assoc, append-nil, take-append-drop}
use Rattle.std.proofs.lemmas.List.Elements.{All-head, All-tail, All-cons, All-nil, All-weaker, All-append}
use Rattle.elm_type.specs.Types.{Name}
use Rattle.elm_type.specs.Ground.{contains}
use Rattle.type_store.specs.Store.{FieldSlot, Cell, Bound, Row, Slot, Store, slot_at, field_names, field_slots}
use Rattle.type_store.specs.Store.{end_slots}
use Rattle.type_store.specs.Shape.{Ascending, NoneIn, IsCell, parts_of}
use Rattle.type_store.specs.Steps.{Interleaves, Neither, First, Second, Merged, Merges, Gathers, Ends, Follows, Takes}
use Rattle.type_store.specs.Steps.{Leads, Here, Through, IsGraph, IsEnd, RowEnds, GathersAll, is_row}
use Rattle.type_store.specs.Linked.{Links, Stops, Passes, Reads, Joins, Without, Also, IsRowAt, RowNext, FieldsAt}
use Rattle.type_store.specs.Linked.{LinksAll, LinkedIs, JoinedIs}
use Rattle.type_store.specs.declared.linked.Linked.{Linked}
use Rattle.type_store.proofs.Lacking.{not_or}
use Rattle.type_store.specs.declared.slot.Slot as stored
use Rattle.type_store.specs.declared.slot.FieldSlot as stored_field
use Rattle.type_store.specs.declared.slot.Cell as stored_cell
use Rattle.type_store.specs.declared.slot.Cell.TheVariants as forms
use Rattle.type_store.specs.View.{cell_view, field_view, fields_in, store_view}
use Rattle.type_store.proofs.Turns.{all_right}
use Rattle.type_store.proofs.Gathering.{row_at, row_rises, inside_view, ends_view}

-- ---- names of fields that are put together

either_false : (a b : Bool) → a ≡ false → b ≡ false → (a || b) ≡ false
either_false true b p q = p
either_false false b p q = q

out_of_first : (x : Name) (fs gs ms : List FieldSlot) → Interleaves fs gs ms → contains x (field_names ms) ≡ false
    → contains x (field_names fs) ≡ false
out_of_first x fs gs ms Neither h = h
out_of_first x fs gs ms (First f us vs ws i) h =
    let p = not_or (bytes_eq x f.0) (contains x (field_names ws)) h in
    either_false (bytes_eq x f.0) (contains x (field_names us)) p.0 (out_of_first x us vs ws i p.1)
out_of_first x fs gs ms (Second g us vs ws i) h =
    out_of_first x us vs ws i (not_or (bytes_eq x g.0) (contains x (field_names ws)) h).1

out_of_second : (x : Name) (fs gs ms : List FieldSlot) → Interleaves fs gs ms → contains x (field_names ms) ≡ false
    → contains x (field_names gs) ≡ false
out_of_second x fs gs ms Neither h = h
out_of_second x fs gs ms (First f us vs ws i) h =
    out_of_second x us vs ws i (not_or (bytes_eq x f.0) (contains x (field_names ws)) h).1
out_of_second x fs gs ms (Second g us vs ws i) h =
    let p = not_or (bytes_eq x g.0) (contains x (field_names ws)) h in
    either_false (bytes_eq x g.0) (contains x (field_names vs)) p.0 (out_of_second x us vs ws i p.1)

out_of_both : (x : Name) (fs gs ms : List FieldSlot) → Interleaves fs gs ms → contains x (field_names fs) ≡ false
    → contains x (field_names gs) ≡ false → contains x (field_names ms) ≡ false
out_of_both x fs gs ms Neither a b = a
out_of_both x fs gs ms (First f us vs ws i) a b =
    let p = not_or (bytes_eq x f.0) (contains x (field_names us)) a in
    either_false (bytes_eq x f.0) (contains x (field_names ws)) p.0 (out_of_both x us vs ws i p.1 b)
out_of_both x fs gs ms (Second g us vs ws i) a b =
    let p = not_or (bytes_eq x g.0) (contains x (field_names vs)) b in
    either_false (bytes_eq x g.0) (contains x (field_names ws)) p.0 (out_of_both x us vs ws i a p.1)

names_both : (P : Name → Type 0) (fs gs ms : List FieldSlot) → Interleaves fs gs ms → All P (field_names fs)
    → All P (field_names gs) → All P (field_names ms)
names_both P fs gs ms Neither a b = All-nil P
names_both P fs gs ms (First f us vs ws i) a b =
    All-cons P f.0 (field_names ws) (All-head P f.0 (field_names us) a)
    (names_both P us vs ws i (All-tail P f.0 (field_names us) a) b)
names_both P fs gs ms (Second g us vs ws i) a b =
    All-cons P g.0 (field_names ws) (All-head P g.0 (field_names vs) b)
    (names_both P us vs ws i a (All-tail P g.0 (field_names vs) b))

names_first : (P : Name → Type 0) (fs gs ms : List FieldSlot) → Interleaves fs gs ms → All P (field_names ms)
    → All P (field_names fs)
names_first P fs gs ms Neither a = All-nil P
names_first P fs gs ms (First f us vs ws i) a =
    All-cons P f.0 (field_names us) (All-head P f.0 (field_names ws) a)
    (names_first P us vs ws i (All-tail P f.0 (field_names ws) a))
names_first P fs gs ms (Second g us vs ws i) a = names_first P us vs ws i (All-tail P g.0 (field_names ws) a)

names_second : (P : Name → Type 0) (fs gs ms : List FieldSlot) → Interleaves fs gs ms → All P (field_names ms)
    → All P (field_names gs)
names_second P fs gs ms Neither a = All-nil P
names_second P fs gs ms (First f us vs ws i) a = names_second P us vs ws i (All-tail P f.0 (field_names ws) a)
names_second P fs gs ms (Second g us vs ws i) a =
    All-cons P g.0 (field_names vs) (All-head P g.0 (field_names ws) a)
    (names_second P us vs ws i (All-tail P g.0 (field_names ws) a))

none_in_both : (xs : List Name) (fs gs ms : List FieldSlot) → Interleaves fs gs ms → NoneIn xs (field_names fs)
    → NoneIn xs (field_names gs) → NoneIn xs (field_names ms)
none_in_both [] fs gs ms i a b = All-nil (λ x. contains x (field_names ms) ≡ false)
none_in_both (x ∷ xs) fs gs ms i a b =
    All-cons (λ y. contains y (field_names ms) ≡ false) x xs
    (out_of_both x fs gs ms i (All-head (λ y. contains y (field_names fs) ≡ false) x xs a)
    (All-head (λ y. contains y (field_names gs) ≡ false) x xs b))
    (none_in_both xs fs gs ms i (All-tail (λ y. contains y (field_names fs) ≡ false) x xs a)
    (All-tail (λ y. contains y (field_names gs) ≡ false) x xs b))

-- ---- three rows, of which two are put together first

empty_parts : (gs hs ks : List FieldSlot) → Interleaves gs hs ks → ks ≡ [] → (gs ≡ []) × (hs ≡ [])
empty_parts gs hs ks Neither e = (refl, refl)
empty_parts gs hs ks (First f us vs ws i) e = absurd (let w : f ∷ ws ≡ [] = e in cc)
empty_parts gs hs ks (Second g us vs ws i) e = absurd (let w : g ∷ ws ≡ [] = e in cc)

pub record Regrouped (fs gs hs all : List FieldSlot) : Type 0 where
  pub both : List FieldSlot
  pub first : Interleaves fs gs both
  pub second : Interleaves both hs all

to_left : (fs gs hs ms all : List FieldSlot) → Interleaves gs hs ms → Interleaves fs ms all → Regrouped fs gs hs all
to_left fs gs hs ms all i Neither =
    let p = empty_parts gs hs [] i refl in
    record {
      both = [];
      first = subst (λ xs. Interleaves [] xs []) (sym p.0) Neither;
      second = subst
          (λ xs. Interleaves [] xs []) (sym p.1) Neither;
    }
to_left fs gs hs ms all i (First f us vs ws j) =
    let r = to_left us gs hs vs ws i j in
    record { both = f ∷ r.both; first = First f us gs r.both r.first; second = First f r.both hs ws r.second }
to_left fs gs hs ms all i (Second m us vs ws j) = go gs hs (m ∷ vs) i refl (λ as_ bs k. to_left us as_ bs vs ws k j)
  where
    go : (gs hs ks : List FieldSlot) → Interleaves gs hs ks → ks ≡ m ∷ vs
        → ((as_ bs : List FieldSlot) → Interleaves as_ bs vs → Regrouped us as_ bs ws) → Regrouped us gs hs (m ∷ ws)
    go gs hs ks Neither e again = absurd (let w : [] ≡ m ∷ vs = e in cc)
    go gs hs ks (First f as_ bs cs k) e again =
        let w : f ∷ cs ≡ m ∷ vs = e in
        let p : f ≡ m = cc in
        let q : cs ≡ vs = cc in
        let r = again as_ bs (subst (Interleaves as_ bs) q k) in
        record {
          both = f ∷ r.both;
          first = Second f us as_ r.both r.first;
          second = subst
              (λ x. Interleaves (f ∷ r.both) bs (x ∷ ws)) p (First f r.both bs ws r.second);
        }
    go gs hs ks (Second g as_ bs cs k) e again =
        let w : g ∷ cs ≡ m ∷ vs = e in
        let p : g ≡ m = cc in
        let q : cs ≡ vs = cc in
        let r = again as_ bs (subst (Interleaves as_ bs) q k) in
        record {
          both = r.both;
          first = r.first;
          second = subst (λ x. Interleaves r.both (g ∷ bs) (x ∷ ws)) p
              (Second g r.both bs ws r.second);
        }

pub record Turned (fs gs hs all : List FieldSlot) : Type 0 where
  pub both : List FieldSlot
  pub first : Interleaves gs hs both
  pub second : Interleaves fs both all

to_right : (fs gs hs ms all : List FieldSlot) → Interleaves fs gs ms → Interleaves ms hs all → Turned fs gs hs all
to_right fs gs hs ms all i Neither =
    let p = empty_parts fs gs [] i refl in
    record {
      both = [];
      first = subst (λ xs. Interleaves xs [] []) (sym p.1) Neither;
      second = subst
          (λ xs. Interleaves xs [] []) (sym p.0) Neither;
    }
to_right fs gs hs ms all i (First m us vs ws j) = go fs gs (m ∷ us) i refl (λ as_ bs k. to_right as_ bs vs us ws k j)
  where
    go : (fs gs ks : List FieldSlot) → Interleaves fs gs ks → ks ≡ m ∷ us
        → ((as_ bs : List FieldSlot) → Interleaves as_ bs us → Turned as_ bs vs ws) → Turned fs gs vs (m ∷ ws)
    go fs gs ks Neither e again = absurd (let w : [] ≡ m ∷ us = e in cc)
    go fs gs ks (First f as_ bs cs k) e again =
        let w : f ∷ cs ≡ m ∷ us = e in
        let p : f ≡ m = cc in
        let q : cs ≡ us = cc in
        let r = again as_ bs (subst (Interleaves as_ bs) q k) in
        record {
          both = r.both;
          first = r.first;
          second = subst (λ x. Interleaves (f ∷ as_) r.both (x ∷ ws)) p
              (First f as_ r.both ws r.second);
        }
    go fs gs ks (Second g as_ bs cs k) e again =
        let w : g ∷ cs ≡ m ∷ us = e in
        let p : g ≡ m = cc in
        let q : cs ≡ us = cc in
        let r = again as_ bs (subst (Interleaves as_ bs) q k) in
        record {
          both = g ∷ r.both;
          first = First g bs vs r.both r.first;
          second = subst
              (λ x. Interleaves as_ (g ∷ r.both) (x ∷ ws)) p (Second g as_ r.both ws r.second);
        }
to_right fs gs hs ms all i (Second h us vs ws j) =
    let r = to_right fs gs vs us ws i j in
    record { both = h ∷ r.both; first = Second h gs vs r.both r.first; second = Second h fs r.both ws r.second }

pub record MergedLeft (fs gs hs all : List FieldSlot) : Type 0 where
  pub both : List FieldSlot
  pub first : Merged fs gs both
  pub second : Merged both hs all

pub merged_left : (fs gs hs ms all : List FieldSlot) → Merged gs hs ms → Merged fs ms all → MergedLeft fs gs hs all
merged_left fs gs hs ms all i j =
    let r = to_left fs gs hs ms all i.fields j.fields in
    record {
      both = r.both;
      first = record {
        fields = r.first;
        apart = All-weaker (λ x. contains x (field_names ms) ≡ false) (λ x. contains x (field_names gs) ≡ false)
            (λ x h. out_of_first x gs hs ms i.fields h) (field_names fs) j.apart;
      };
      second = record {
        fields = r.second;
        apart = names_both (λ x. contains x (field_names hs) ≡ false) fs gs r.both r.first
            (All-weaker (λ x. contains x (field_names ms) ≡ false) (λ x. contains x (field_names hs) ≡ false)
            (λ x h. out_of_second x gs hs ms i.fields h) (field_names fs) j.apart)
            i.apart;
      };
    }

pub record MergedRight (fs gs hs all : List FieldSlot) : Type 0 where
  pub both : List FieldSlot
  pub first : Merged gs hs both
  pub second : Merged fs both all

pub merged_right : (fs gs hs ms all : List FieldSlot) → Merged fs gs ms → Merged ms hs all → MergedRight fs gs hs all
merged_right fs gs hs ms all i j =
    let r = to_right fs gs hs ms all i.fields j.fields in
    record {
      both = r.both;
      first = record {
        fields = r.first;
        apart = names_second (λ x. contains x (field_names hs) ≡ false) fs gs ms
            i.fields j.apart;
      };
      second = record {
        fields = r.second;
        apart = none_in_both (field_names fs) gs hs r.both r.first i.apart
            (names_first (λ x. contains x (field_names hs) ≡ false) fs gs ms i.fields j.apart);
      };
    }

-- ---- rows that are put together

right_alone : (fs gs all : List FieldSlot) → Interleaves fs gs all → fs ≡ [] → gs ≡ all
right_alone fs gs all Neither e = refl
right_alone fs gs all (First f us vs ws i) e = absurd (let w : f ∷ us ≡ [] = e in cc)
right_alone fs gs all (Second g us vs ws i) e = ap (λ xs. g ∷ xs) (right_alone us vs ws i e)

left_alone : (fs gs all : List FieldSlot) → Interleaves fs gs all → gs ≡ [] → fs ≡ all
left_alone fs gs all Neither e = refl
left_alone fs gs all (First f us vs ws i) e = ap (λ xs. f ∷ xs) (left_alone us vs ws i e)
left_alone fs gs all (Second g us vs ws i) e = absurd (let w : g ∷ vs ≡ [] = e in cc)

itself : (fs : List FieldSlot) → Interleaves fs [] fs
itself [] = Neither
itself (f ∷ fs) = First f fs [] fs (itself fs)

none_in_none : (xs : List Name) → NoneIn xs []
none_in_none [] = All-nil (λ x. contains x [] ≡ false)
none_in_none (x ∷ xs) = All-cons (λ y. contains y [] ≡ false) x xs refl (none_in_none xs)

module _ (s : Store) where
  pub joined_one : (v : ℕ) (fs : List FieldSlot) → FieldsAt s v fs → Joins s (v ∷ []) fs
  joined_one v fs h =
      Also v fs h.end [] [] fs h.cell Without (record { fields = itself fs; apart = none_in_none (field_names fs) })

  pub joined_both : (vs ws : List ℕ) (a b all : List FieldSlot) → Joins s vs a → Joins s ws b → Merged a b all
      → Joins s (vs ++ ws) all
  joined_both vs ws a b all Without k m = subst (Joins s ws) (right_alone [] b all m.fields refl) k
  joined_both vs ws a b all (Also v fs end rows rest more e j n) k m =
      let r = merged_right fs rest b more all n m in
      Also v fs end (rows ++ ws) r.both all e (joined_both rows ws rest b r.both j k r.first) r.second

  -- the fields of no rows, and of one row and others
  no_rows : (rows : List ℕ) (all : List FieldSlot) → Joins s rows all → rows ≡ [] → all ≡ []
  no_rows rows all Without e = refl
  no_rows rows all (Also v fs end more rest as_ c j n) e = absurd (let w : v ∷ more ≡ [] = e in cc)

  pub record FirstRow (v : ℕ) (gs : List FieldSlot) (rows : List ℕ) (all : List FieldSlot) : Type 0 where
    pub rest : List FieldSlot
    pub joins : Joins s rows rest
    pub merged : Merged gs rest all

  first_row : (ks : List ℕ) (all : List FieldSlot) (v : ℕ) (gs : List FieldSlot) (end : Option ℕ) (rows : List ℕ)
      → Joins s ks all → ks ≡ v ∷ rows → (slot_at s v).cell ≡ Row gs end → FirstRow v gs rows all
  first_row ks all v gs end rows Without e c = absurd (let w : [] ≡ v ∷ rows = e in cc)
  first_row ks all v gs end rows (Also u fs last more rest as_ d j n) e c =
      let w : u ∷ more ≡ v ∷ rows = e in
      let p : u ≡ v = cc in
      let q : more ≡ rows = cc in
      let x : Row fs last ≡ Row gs end = sym d ∙ (ap (λ y. (slot_at s y).cell) p ∙ c) in
      let y : fs ≡ gs = cc in
      record { rest = rest; joins = subst (λ zs. Joins s zs rest) q j; merged = subst (λ zs. Merged zs rest as_) y n }

  pub links_gather : (end last : Option ℕ) (rows : List ℕ) (fs rest all : List FieldSlot) → Links s end rows last
      → Joins s rows rest → Merged fs rest all → Gathers s fs end all last
  links_gather end last rows fs rest all (Stops x) j m =
      subst (λ xs. Gathers s fs x xs x) (left_alone fs rest all m.fields (no_rows [] rest j refl)) (Ends fs x)
  links_gather end last rows fs rest all (Passes v w more x c l) j m =
      Follows fs v w all x c (links_gather (Some w) x more fs rest all l j m)
  links_gather end last rows fs rest all (Reads v gs x more y c l) j m =
      let r = first_row (v ∷ more) rest v gs x more j refl c in
      let k = merged_left fs gs r.rest rest all r.merged m in
      Takes fs v gs x k.both all y c k.first (links_gather x y more k.both r.rest all l r.joins k.second)

  -- ---- the rows in turn

  pub leads_links : (v u : ℕ) (rows : List ℕ) (last : Option ℕ) → Leads s v u → Links s (Some u) rows last
      → Links s (Some v) rows last
  leads_links v u rows last (Here x) l = l
  leads_links v u rows last (Through x y z e k) l = Passes x y rows last e (leads_links y z rows last k l)

  -- what follows from here on follows from the start
  pub record Following (end : Option ℕ) (rows : List ℕ) (at : Option ℕ) : Type 0 where
    pub rest : (more : List ℕ) (last : Option ℕ) → Links s at more last → Links s end (rows ++ more) last

  pub following_start : (end : Option ℕ) → Following end [] end
  following_start end = record { rest = λ more last l. l }

  pub following_more : (end : Option ℕ) (rows : List ℕ) (v at : ℕ) (then : Option ℕ) → Following end rows (Some v)
      → RowNext s v at then → Following end (rows ++ at ∷ []) then
  following_more end rows v at then f r = record {
    rest = λ more last l. subst (λ xs. Links s end xs last) (sym (append_assoc rows (at ∷ []) more))
        (f.rest (at ∷ more) last (leads_links v at (at ∷ more) last r.leads
        (Reads at r.fields then more last r.cell l)));
  }

-- ---- as the program reads them

pub row_next : (slots : List stored.Slot) (v at : ℕ) (d : stored.Slot) (fields : Vec stored_field.FieldSlot Global)
    (end : Option ℕ) → IsGraph (store_view slots) → Leads (store_view slots) v at → at < length slots
    → (get_or slots at d).cell ≡ forms.Row fields end → RowNext (store_view slots) v at end
row_next slots v at d fields end g k l e =
    let s = store_view slots in
    let fs = map field_view fields.items in
    let there : at < length s = inside_view slots at l in
    let is : (slot_at s at).cell ≡ Row fs end = row_at slots at d (forms.Row fields end) l e in
    record {
      fields = fs;
      leads = k;
      there = there;
      cell = is;
      inside = all_right (λ w. w < length s) (field_slots fs) (end_slots end)
          (subst (λ (c : Cell). All (λ w. w < length s) (parts_of c)) is (g.inside at there));
    }

pub row_here : (s : Store) (v at : ℕ) (end : Option ℕ) → RowNext s v at end → IsRowAt s at
row_here s v at end r = (r.there, ap is_row r.cell)

-- the end of a row is there
pub next_there : (slots : List stored.Slot) (v at : ℕ) (end : Option ℕ) → RowNext (store_view slots) v at end
    → All (λ w. w < length slots) (end_slots end)
next_there slots v at end r =
    All-weaker (λ w. w < length (store_view slots)) (λ w. w < length slots) (λ w l. ends_view slots w l) (end_slots end)
    r.inside

pub end_inside : (n w : ℕ) (end : Option ℕ) → end ≡ Some w → All (λ v. v < n) (end_slots end) → w < n
end_inside n w end e a = All-head (λ v. v < n) w [] (subst (λ x. All (λ v. v < n) (end_slots x)) e a)

-- nothing follows a closed end, and a variable that is no row
pub closed_links : (s : Store) (end at : Option ℕ) (rows : List ℕ) → Following s end rows at → at ≡ None
    → All (IsRowAt s) rows → LinksAll s end rows None
closed_links s end at rows f e a = record {
  links = subst (λ xs. Links s end xs None) (append-nil rows)
      ((subst (Following s end rows) e f).rest [] None (Stops None));
  ends = tt;
  each = a;
}

pub open_links : (s : Store) (end at : Option ℕ) (rows : List ℕ) (v u : ℕ) → Following s end rows at → at ≡ Some v
    → RowEnds s v u → All (IsRowAt s) rows → LinksAll s end rows (Some u)
open_links s end at rows v u f e r a = record {
  links = subst (λ xs. Links s end xs (Some u)) (append-nil rows)
      ((subst (Following s end rows) e f).rest [] (Some u) (leads_links s v u [] (Some u) r.leads (Stops (Some u))));
  ends = (r.inside, r.free, r.no_row);
  each = a;
}

pub more_links : (s : Store) (end at then : Option ℕ) (rows after : List ℕ) (v u : ℕ) → Following s end rows at
    → at ≡ Some v → RowNext s v u then → after ≡ rows ++ u ∷ [] → Following s end after then
more_links s end at then rows after v u f e r q =
    subst (λ xs. Following s end xs then) (sym q)
    (following_more s end rows v u then (subst (Following s end rows) e f) r)

-- the fields of a row as they stand there
pub fields_here : (slots : List stored.Slot) (v : ℕ) (d : stored.Slot) (fields : Vec stored_field.FieldSlot Global)
    (end : Option ℕ) (fs : List FieldSlot) → IsGraph (store_view slots) → IsRowAt (store_view slots) v
    → (get_or slots v d).cell ≡ forms.Row fields end → fs ≡ map field_view fields.items → FieldsAt (store_view slots) v
    fs
fields_here slots v d fields end fs g r e q =
    let s = store_view slots in
    let is : (slot_at s v).cell ≡ Row (map field_view fields.items) end = row_at slots v d (forms.Row fields end)
    (ends_view slots v r.0) e in
    let is_fs : (slot_at s v).cell ≡ Row fs end = is ∙ ap (λ xs. Row xs end) (sym q) in
    record { end = end; cell = is_fs; rises = row_rises v fs end (subst (IsCell v) is_fs (g.cells v r.0)) }

-- both halves are put together
pub halves_joined : (s : Store) (vs ws rows : List ℕ) (a b all : List FieldSlot) → Joins s vs a → Joins s ws b
    → Merged a b all → vs ++ ws ≡ rows → Joins s rows all
halves_joined s vs ws rows a b all j k m e = subst (λ xs. Joins s xs all) e (joined_both s vs ws a b all j k m)

-- what is put together is gathered
pub gathered_halves : (s : Store) (end last : Option ℕ) (rows : List ℕ) (fs rest all : List FieldSlot)
    → LinksAll s end rows last → Joins s rows rest → Merged fs rest all → Ascending (field_names all) → GathersAll s fs
    end all last
gathered_halves s end last rows fs rest all l j m a =
    record { gathers = links_gather s end last rows fs rest all l.links j m; rises = a; ends = l.ends }

pub no_rows_joined : (s : Store) (rows : List ℕ) → length rows ≡ 0 → Joins s rows [] × Ascending []
no_rows_joined s [] e = (Without, tt)
no_rows_joined s (v ∷ rows) e = absurd (omega (arith, e))

pub one_row_joined : (s : Store) (rows : List ℕ) (d : ℕ) (fs : List FieldSlot) → length rows ≡ 1
    → FieldsAt s (get_or rows 0 d) fs → Joins s rows fs × Ascending (field_names fs)
one_row_joined s [] d fs e h = absurd (omega (arith, e))
one_row_joined s (v ∷ []) d fs e h = (joined_one s v fs h, h.rises)
one_row_joined s (v ∷ w ∷ rows) d fs e h = absurd (omega (arith, e))

pub two_halves : (s : Store) (vs ws rows : List ℕ) (n : ℕ) (a b all : List FieldSlot) → vs ≡ take n rows
    → ws ≡ drop n rows → Joins s vs a → Joins s ws b → Merged a b all → Joins s rows all
two_halves s vs ws rows n a b all e f j k m =
    halves_joined s vs ws rows a b all j k m
    (ap (λ xs. xs ++ ws) e ∙ (ap (λ xs. take n rows ++ xs) f ∙ take-append-drop n rows))

joined_as : (s : Store) (vs ws rows : List ℕ) (n : ℕ) (a b : List FieldSlot) (o : Option (List FieldSlot))
    → vs ≡ take n rows → ws ≡ drop n rows → Joins s vs a → Joins s ws b → Merges a b o → JoinedIs s rows o
joined_as s vs ws rows n a b None e f j k m = tt
joined_as s vs ws rows n a b (Some all) e f j k m = (two_halves s vs ws rows n a b all e f j k m.0, m.1)

joined_some : (s : Store) (rows : List ℕ) (o : Option (Vec stored_field.FieldSlot Global))
    (v : Vec stored_field.FieldSlot Global) → JoinedIs s rows (fields_in o) → o ≡ Some v → Joins s rows
    (map field_view v.items)
joined_some s rows o v h e = (subst (λ p. JoinedIs s rows (fields_in p)) e h).0

pub joined_halves : (s : Store) (vs ws rows : List ℕ) (n : ℕ) (o p q : Option (Vec stored_field.FieldSlot Global))
    (a b : Vec stored_field.FieldSlot Global) (xs ys : List stored_field.FieldSlot)
    → vs ≡ take n rows → ws ≡ drop n rows → JoinedIs s vs (fields_in o) → o ≡ Some a → JoinedIs s ws (fields_in p) → p ≡
    Some b → xs ≡ a.items → ys ≡ b.items
    → Merges (map field_view xs) (map field_view ys) (fields_in q) → JoinedIs s rows (fields_in q)
joined_halves s vs ws rows n o p q a b xs ys e f j oe k pe x y m =
    joined_as s vs ws rows n (map field_view a.items) (map field_view b.items) (fields_in q) e f
    (joined_some s vs o a j oe) (joined_some s ws p b k pe)
    (subst (λ zs. Merges (map field_view a.items) (map field_view zs) (fields_in q)) y
    (subst (λ zs. Merges (map field_view zs) (map field_view ys) (fields_in q)) x m))

pub halves_gathered : (s : Store) (end : Option ℕ) (l : Linked) (rows : List ℕ) (q : Option Linked)
    (o p : Option (Vec stored_field.FieldSlot Global)) (fs : List FieldSlot)
    (more all : Vec stored_field.FieldSlot Global) (xs : List stored_field.FieldSlot)
    → LinkedIs s end q → q ≡ Some l → rows ≡ l.rows.items → JoinedIs s rows (fields_in o) → o ≡ Some more → xs ≡
    more.items → Merges fs (map field_view xs) (fields_in p) → p ≡ Some all
    → GathersAll s fs end (map field_view all.items) l.end
halves_gathered s end l rows q o p fs more all xs h qe r j oe x m pe =
    let k : Merged fs (map field_view more.items) (map field_view all.items) × Ascending
    (field_names (map field_view all.items)) =
    subst (λ z. Merges fs (map field_view more.items) (fields_in z)) pe
    (subst (λ zs. Merges fs (map field_view zs) (fields_in p)) x m) in
    gathered_halves s end l.end l.rows.items fs (map field_view more.items) (map field_view all.items)
    (subst (LinkedIs s end) qe h)
    (subst (λ zs. Joins s zs (map field_view more.items)) r (joined_some s rows o more j oe)) k.0 k.1
