-- To make a variable for a record is a walk.
use Rattle.std.proofs.Common.{◌≡◌, ℕ, List, [], ◌∷◌, Bool, true, false, cond, Option, Some, None, length, refl, sym, ap, ◌∙◌, subst}
use Rattle.std.specs.List.{AllZip}
use Rattle.std.specs.Prelude.{All}
use Rattle.std.proofs.lemmas.List.Elements.{All-nil, All-cons}
use Rattle.elm_type.specs.Types.{Name, ElmType, Fields, NoField, MoreField, Made, Record, int_type}
use Rattle.elm_type.specs.Rows.{name_lt, extend, at_end, insert_field, insert_all, substitute, substitute_fields}
use Rattle.elm_type.specs.Ground.{is_ground, value, leaf_value}
use Rattle.type_items.specs.Items.{Wanted}
use Rattle.type_store.specs.Store.{FieldSlot, Store, Row, field_names, field_slots}
use Rattle.type_store.specs.Shape.{Ascending, IsCell}
use Rattle.type_store.specs.Solutions.{Values, Fit, row_value, rest_value}
use Rattle.type_store.proofs.Rows.{extend_twice}
use Rattle.type_store.proofs.RowValues.{lacks_row, rise_row, ground_row}
use Rattle.type_store.proofs.Lacking.{ground_extended}
use Rattle.type_walks.specs.Links.{Types, Links, Linked, AreLive, Has}
use Rattle.type_walks.specs.TypeStepsLaws.{typed_fields, rest_type, RestHas, EndLacks, BuildsRow}
use Rattle.type_walks.specs.Regions.{none}
use Rattle.type_walks.specs.Walks.{Around, Walk}
use Rattle.type_walks.proofs.Steps.{Makes}
use Rattle.type_walks.proofs.Making.{makes_on}
use Rattle.type_walks.proofs.Linking.{all_live_later, agree_itself, agree_below, linked_agree}

-- ---- types in the place of the variables of a record with more fields

module _ {X Y : Type 0} (f : X → ElmType Y) where
  put_inserted : (k : Name) (t : ElmType X) (fs : Fields X)
      → substitute_fields f (insert_field k t fs) ≡ insert_field k (substitute f t) (substitute_fields f fs)
  put_inserted k t NoField = refl
  put_inserted k t (MoreField m v fs) = go (put_inserted k t fs) (name_lt m k)
    where
      go : substitute_fields f (insert_field k t fs) ≡ insert_field k (substitute f t) (substitute_fields f fs) → (b : Bool)
          → substitute_fields f (cond b (MoreField m v (insert_field k t fs)) (MoreField k t (MoreField m v fs)))
          ≡ cond b (MoreField m (substitute f v) (insert_field k (substitute f t) (substitute_fields f fs)))
          (MoreField k (substitute f t) (MoreField m (substitute f v) (substitute_fields f fs)))
      go again true = ap (MoreField m (substitute f v)) again
      go again false = refl

  put_all : (fs gs : Fields X) → substitute_fields f (insert_all fs gs) ≡ insert_all (substitute_fields f fs) (substitute_fields f gs)
  put_all NoField gs = refl
  put_all (MoreField k t fs) gs = put_inserted k t (insert_all fs gs) ∙ ap (insert_field k (substitute f t)) (put_all fs gs)

  pub put_extended : (fs : Fields X) (t : ElmType X) → substitute f (extend fs t) ≡ extend (substitute_fields f fs) (substitute f t)
  put_extended fs (Made h ts) = refl
  put_extended fs (Record gs end) =
      ap (λ hs. extend hs (at_end f end)) (put_all fs gs)
      ∙ extend_twice (substitute_fields f fs) (substitute_fields f gs) (at_end f end)

-- ---- a row

module _ (links : Links) (σ : Values) (all : Types) (linked : Linked links σ all) where
  fields_have : (fs : List FieldSlot) (ts : List Wanted) → AllZip (λ (f : FieldSlot) (t : Wanted). Has links f.1 t) fs ts
      → row_value σ.types fs ≡ substitute_fields (leaf_value all) (typed_fields fs ts)
  fields_have [] [] h = refl
  fields_have [] (t ∷ ts) h = absurd h
  fields_have (f ∷ fs) [] h = absurd h
  fields_have (f ∷ fs) (t ∷ ts) h =
      ap (λ u. MoreField f.0 u (row_value σ.types fs)) (h.0.same σ all linked)
      ∙ ap (MoreField f.0 (value all t)) (fields_have fs ts h.1)

  rest_has : (end : Option ℕ) (rest : Option Wanted) → RestHas links end rest → rest_value σ.types end ≡ value all (rest_type rest)
  rest_has None None h = refl
  rest_has None (Some t) h = absurd h
  rest_has (Some w) None h = absurd h
  rest_has (Some w) (Some t) h = h.same σ all linked

  row_has : (fs : List FieldSlot) (end : Option ℕ) (ts : List Wanted) (rest : Option Wanted) → AllZip (λ (f : FieldSlot) (t : Wanted). Has links f.1 t) fs ts
      → RestHas links end rest → extend (row_value σ.types fs) (rest_value σ.types end) ≡ value all (extend (typed_fields fs ts) (rest_type rest))
  row_has fs end ts rest h k =
      ap (λ gs. extend gs (rest_value σ.types end)) (fields_have fs ts h)
      ∙ (ap (extend (substitute_fields (leaf_value all) (typed_fields fs ts))) (rest_has end rest k)
      ∙ sym (put_extended (leaf_value all) (typed_fields fs ts) (rest_type rest)))

each_ground : (s : Store) (σ : Values) → Fit σ s → (ws : List ℕ) → All (λ w. is_ground (σ.types w) ≡ true) ws
each_ground s σ f [] = All-nil (λ w. is_ground (σ.types w) ≡ true)
each_ground s σ f (w ∷ ws) = All-cons (λ w. is_ground (σ.types w) ≡ true) w ws (f.each w).ground (each_ground s σ f ws)

rest_ground : (s : Store) (σ : Values) → Fit σ s → (end : Option ℕ) → is_ground (rest_value σ.types end) ≡ true
rest_ground s σ f None = refl
rest_ground s σ f (Some w) = (f.each w).ground

row_built : (a : Around) (s s' : Store) (links : Links) (v : ℕ) (fs : List FieldSlot) (end : Option ℕ) (ts : List Wanted) (rest : Option Wanted)
    → AreLive a.depth s links → AllZip (λ (f : FieldSlot) (t : Wanted). Has links f.1 t) fs ts → RestHas links end rest
    → Ascending (field_names fs) → EndLacks s fs end → Makes a.depth s v s' (Row fs end)
    → Walk a none [] s links s' ((v, extend (typed_fields fs ts) (rest_type rest)) ∷ links)
row_built a s s' links v fs end ts rest live has last up apart makes = record {
  later = makes.later;
  live = λ l. (makes.live, all_live_later a.depth s s' links makes.later l);
  determined = makes.determined;
  back = λ σ f. record { values = σ; fit = (makes.back σ f).0; agree = agree_itself a.depth s σ };
  sound = λ σ f away. record {
    types = λ r. int_type;
    ground = λ r. refl;
    linked = λ all c l. ((makes.back σ f).1.0 ∙ row_has links σ all l fs end ts rest has last, l);
    solves = λ all c l. tt;
    kept = λ all c l k. tt;
  };
  complete = λ σ types f g away linked sol. (
      let t = extend (row_value σ.types fs) (rest_value σ.types end) in
      let ground = ground_extended (row_value σ.types fs) (rest_value σ.types end) (rise_row σ.types fs up)
      (ground_row σ.types fs (each_ground s σ f (field_slots fs))) (lacks_row σ.types fs (rest_value σ.types end) (apart.each σ f)) (rest_ground s σ f end) in
      let r = makes.on σ t f (refl, apart.each σ f) ground in
      let same = agree_below a.depth s σ r.0 r.2 in
      record {
        values = r.0;
        fit = r.1;
        agree = same;
        linked = (r.3 ∙ row_has links σ types linked fs end ts rest has last, linked_agree a.depth s links σ r.0 types live same linked);
      });
}

up_row : (fs : List FieldSlot) (end : Option ℕ) → IsCell 0 (Row fs end) → Ascending (field_names fs)
up_row [] None c = tt
up_row [] (Some w) c = absurd c
up_row (x ∷ fs) end c = c

pub builds_row : BuildsRow
builds_row a s s' links v fs end ts rest shape live inside cell has last apart number becomes goes =
    subst (λ n. Walk a none [] s links s' ((n, extend (typed_fields fs ts) (rest_type rest)) ∷ links)) (sym number)
    (row_built a s s' links (length s) fs end ts rest live has last (up_row fs end cell) apart
    (makes_on s s' a.depth (Row fs end) shape inside refl becomes goes))
