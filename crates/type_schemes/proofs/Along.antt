-- The way along a row.
use Rattle.std.proofs.Common.{◌≡◌, ℕ, suc, ◌+◌, ◌<◌, List, [], ◌∷◌, ◌++◌, length, Bool, true, false, cond, Some, None}
use Rattle.std.proofs.Common.{refl, sym, ap, ◌∙◌, subst, arith, append_assoc, append-nil}
use Rattle.std.specs.List.{AllByRecursion}
use Rattle.elm_type.specs.Types.{Rigid, Fields, End, Made, Record, NoField, MoreField, count_fields, Leaf, Name}
use Rattle.elm_type.specs.Rows.{name_lt, insert_field, insert_all, extend}
use Rattle.elm_type.specs.declared.node.Leaf.TheVariants as leaf
use Rattle.type_store.specs.Store.{FieldSlot, Cell, Open, Bound, Built, Row, Constant, Store, slot_at, field_slots}
use Rattle.type_store.specs.Shape.{IsStore, parts_of}
use Rattle.type_store.specs.Steps.{is_bound}
use Rattle.type_schemes.specs.Ends.{end_of}
use Rattle.type_schemes.specs.Order.{IsListed, PartsFirst}
use Rattle.type_schemes.specs.Reading.{Graph, read_row, read_cell, read_in}
use Rattle.type_schemes.specs.Bases.{type_in}
use Rattle.type_schemes.proofs.Types.{AreRecord, read_is, last_in, no_fields, row_end_record}
use Rattle.type_schemes.specs.declared.rows.Onward.TheVariants.{Next, Ends}
use Rattle.type_schemes.specs.Rows.{CanRead, is_row, IsRecord, width, in_order, Adds, Steps, IsRow}
use Rattle.type_schemes.proofs.Listed.{listed_inside, listed_free, parts_known, known_first}
use Rattle.type_schemes.proofs.Sorting.{all_in_order, order_read}

-- ---- how many fields there are

count_either : (b : Bool) (fs gs : Fields (Leaf ℕ)) (n : ℕ) → count_fields fs ≡ n → count_fields gs ≡ n
    → count_fields (cond b fs gs) ≡ n
count_either true fs gs n d e = d
count_either false fs gs n d e = e

count_inserted : (k : Name) (t : Graph) (fs : Fields (Leaf ℕ))
    → count_fields (insert_field k t fs) ≡ suc (count_fields fs)
count_inserted k t NoField = refl
count_inserted k t (MoreField j u fs) =
    count_either (name_lt j k) (MoreField j u (insert_field k t fs)) (MoreField k t (MoreField j u fs)) _
    (ap suc (count_inserted k t fs)) refl

count_all : (fs gs : Fields (Leaf ℕ)) → count_fields (insert_all fs gs) ≡ count_fields fs + count_fields gs
count_all NoField gs = omega arith
count_all (MoreField k t fs) gs =
    let a = count_inserted k t (insert_all fs gs) in let b = count_all fs gs in omega (arith, a, b)

wider : (k : Name) (u : Graph) (fs : Fields (Leaf ℕ)) (t : Graph) → IsRecord t
    → width t < width (extend (MoreField k u fs) t)
wider k u fs (Made h ts) r = absurd r
wider k u fs (Record gs end) r = let a = count_all (MoreField k u fs) gs in omega (arith, a)

-- ---- fields one after the other

extend_append : (f : ℕ → Graph) (fs gs : List FieldSlot) (t : Graph)
    → extend (read_row f (fs ++ gs)) t ≡ extend (read_row f fs) (extend (read_row f gs) t)
extend_append f fs gs (Made h ts) = refl
extend_append f fs gs (Record hs end) = ap (λ xs. Record xs end) (go fs)
  where
    go : (fs : List FieldSlot) → insert_all (read_row f (fs ++ gs)) hs ≡ insert_all (read_row f fs)
        (insert_all (read_row f gs) hs)
    go [] = refl
    go (x ∷ fs) = ap (insert_field x.0 (f x.1)) (go fs)

is_record : (t : Graph) → AreRecord t → IsRecord t
is_record (Made h ts) r = absurd r
is_record (Record fs end) r = tt

module _ (s : Store) (older : List ℕ) where
  known_append : (fs gs : List FieldSlot) → AllByRecursion (CanRead s older) (field_slots fs)
      → AllByRecursion (CanRead s older) (field_slots gs)
      → AllByRecursion (CanRead s older) (field_slots (fs ++ gs))
  known_append [] gs h k = k
  known_append (x ∷ fs) gs h k = (h.0, known_append fs gs h.1 k)

  -- at the start
  pub adds_none : (v : ℕ) → Adds s older v (read_in s older v) [] []
  adds_none v =
      record {
        more = [];
        fields = refl;
        known = tt;
        is = sym
            (Rattle.type_store.proofs.Rows.extend_none (read_in s older v));
      }

  -- one step more
  pub adds_on : (v u : ℕ) (rest : Graph) (start old new : List FieldSlot) → Adds s older v (read_in s older u) start old
      → Adds s older u rest old new
      → Adds s older v rest start new
  adds_on v u rest start old new a b = record {
    more = a.more ++ b.more;
    fields = b.fields ∙ (ap (λ fs. fs ++ b.more) a.fields ∙ append_assoc start a.more b.more);
    known = known_append a.more b.more a.known b.known;
    is =
        a.is
        ∙ (ap (extend (read_row (type_in s older) a.more)) b.is
        ∙ sym (extend_append (type_in s older) a.more b.more rest));
  }

  -- at the end
  pub row_done : (v : ℕ) (end : End (Leaf ℕ)) (fs sorted : List FieldSlot) → Adds s older v (Record NoField end) [] fs
      → sorted ≡ in_order fs
      → IsRow s older v sorted end
  row_done v end fs sorted a e =
      subst (λ gs. IsRow s older v gs end) (sym (e ∙ ap in_order a.fields))
      (record {
        known = all_in_order (CanRead s older) a.more a.known;
        is = a.is ∙ ap (λ gs. Record gs end) (order_read (type_in s older) a.more);
      })

  module _ (whole : IsStore s) (first : PartsFirst 0 s older) (v : ℕ) (listed : IsListed older v) where
    read_as : (c : Cell) → (slot_at s v).cell ≡ c → read_in s older v ≡ read_cell (type_in s older) v c
    read_as c e = read_is s older v first listed ∙ ap (read_cell (type_in s older) v) e

    known_as : (c : Cell) → (slot_at s v).cell ≡ c → AllByRecursion (CanRead s older) (parts_of c)
    known_as c e =
        subst (λ k. AllByRecursion (CanRead s older) (parts_of k)) e (parts_known s whole older v first listed)

    pub open_ends : (fs : List FieldSlot) → (slot_at s v).cell ≡ Open
        → Steps s older v (Ends (Some (leaf.Free v))) fs fs
    open_ends fs e = record { more = []; fields = sym (append-nil fs); known = tt; is = read_as Open e }

    pub constant_ends : (r : Rigid) (fs : List FieldSlot) → (slot_at s v).cell ≡ Constant r
        → Steps s older v (Ends (Some (leaf.Fixed r))) fs fs
    constant_ends r fs e = record { more = []; fields = sym (append-nil fs); known = tt; is = read_as (Constant r) e }

    pub row_ends : (fs old new : List FieldSlot) → (slot_at s v).cell ≡ Row fs None → new ≡ old ++ fs
        → Steps s older v (Ends None) old new
    row_ends fs old new e k = record {
      more = fs;
      fields = k;
      known = known_first s older (field_slots fs) [] (known_as (Row fs None) e);
      is = read_as (Row fs None) e;
    }

    pub row_next : (fs old new : List FieldSlot) (w u : ℕ) → (slot_at s v).cell ≡ Row fs (Some w) → end_of s w ≡ u
        → new ≡ old ++ fs
        → Steps s older v (Next u) old new
    row_next fs old new w u e k n =
        subst (λ x. Steps s older v (Next x) old new) k (
          record {
            more = fs;
            fields = n;
            known = known_first s older (field_slots fs) (w ∷ []) (known_as (Row fs (Some w)) e);
            is = read_as (Row fs (Some w)) e;
          },
          last,
          rest,
          subst (λ (t : Graph). width (type_in s older w) < width t) (sym (read_as (Row fs (Some w)) e)) (go fs e),
        )
      where
        last : IsListed older (end_of s w)
        last = (last_in s whole (CanRead s older) (field_slots fs) w (known_as (Row fs (Some w)) e)).listed

        rest : IsRecord (type_in s older w)
        rest = is_record (type_in s older w) (row_end_record s whole older v (listed_inside s older v first listed) fs w
            first last e)

        go : (gs : List FieldSlot) → (slot_at s v).cell ≡ Row gs (Some w)
            → width (type_in s older w) < width (extend (read_row (type_in s older) gs) (type_in s older w))
        go [] e = absurd (no_fields s whole v w (listed_inside s older v first listed) e)
        go (g ∷ gs) e = wider g.0 (type_in s older g.1) (read_row (type_in s older) gs) (type_in s older w) rest

    -- what a row ends in is there
    pub rest_inside : (fs : List FieldSlot) (w : ℕ) → (slot_at s v).cell ≡ Row fs (Some w) → w < length s
    rest_inside fs w e = (last_in s whole (CanRead s older) (field_slots fs) w (known_as (Row fs (Some w)) e)).inside

    pub never_bound : (w : ℕ) → (slot_at s v).cell ≡ Bound w → ⊥
    never_bound w e = let x : true ≡ false = sym (ap is_bound e) ∙ listed_free s older v first listed in absurd (cc)

    pub never_built : (h : Rattle.elm_type.specs.declared.head.Head.Head) (ws : List ℕ) → IsRecord (read_in s older v)
        → (slot_at s v).cell ≡ Built h ws → ⊥
    never_built h ws r e = subst IsRecord (read_as (Built h ws) e) r

    -- a row is a record
    pub row_record : is_row (slot_at s v).cell ≡ true → IsRecord (read_in s older v)
    row_record h = go (slot_at s v).cell refl h
      where
        go : (c : Cell) → (slot_at s v).cell ≡ c → is_row c ≡ true → IsRecord (read_in s older v)
        go Open e k = absurd (cc)
        go (Bound w) e k = absurd (cc)
        go (Built b ws) e k = absurd (cc)
        go (Constant r) e k = absurd (cc)
        go (Row fs None) e k = subst IsRecord (sym (read_as (Row fs None) e)) tt
        go (Row fs (Some w)) e k =
            subst IsRecord (sym (read_as (Row fs (Some w)) e))
            (over (type_in s older w)
            (is_record (type_in s older w)
            (row_end_record s whole older v (listed_inside s older v first listed) fs w first
            (last_in s whole (CanRead s older) (field_slots fs) w (known_as (Row fs (Some w)) e)).listed e)))
          where
            over : (t : Graph) → IsRecord t → IsRecord (extend (read_row (type_in s older) fs) t)
            over (Made h ts) r = absurd r
            over (Record gs end) r = tt
