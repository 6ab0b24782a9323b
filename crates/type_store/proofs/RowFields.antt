-- The fields of a row: their names, two rows in one, and a row split in two.
use Rattle.std.proofs.Common.{◌≡◌, ℕ, List, [], ◌∷◌, Bool, true, false, Option, Some, None, ◌⊎◌, inl, inr, refl, sym, ap, ◌∙◌, All}
use Rattle.std.specs.Prelude.{not, ◌&&◌, ◌||◌}
use Rattle.std.proofs.lemmas.List.Elements.{All-head, All-tail, All-cons, All-nil}
use Rattle.std.specs.Str.{bytes_eq}
use Rattle.elm_type.specs.Types.{Name, End, Fields, Made, Record, NoField, MoreField, Rigid}
use Rattle.elm_type.specs.Classes.{Ground}
use Rattle.elm_type.specs.Rows.{name_lt, insert_field, insert_all, extend, field_type, has_field, is_under, rise}
use Rattle.elm_type.specs.Ground.{contains, lacks, lacks_all, end_lacks, end_lacks_each, is_ground, fields_ground}
use Rattle.type_store.specs.Store.{FieldSlot, field_names, field_slots}
use Rattle.type_store.specs.Solutions.{Values, Same, MeetsAsk, row_value}
use Rattle.type_store.specs.Shape.{Ascending, NoneIn}
use Rattle.type_store.specs.Steps.{Interleaves, Neither, First, Second, sames}
use Rattle.type_store.proofs.Names.{equal_itself, same_name, not_equal_swap}
use Rattle.type_store.proofs.Rows.{extend_none}
use Rattle.type_store.proofs.RowsMeet.{LacksFields, Apart, and_left, and_right, and_both, first_or, found_all, same_fields, no_field_type, not_had, not_yes, insert_past, lacked, yes_or_no, fields_in, end_in, rise_all}

-- ---- names

pub has_row : (types : ℕ → Ground) (j : Name) (fs : List FieldSlot) → has_field j (row_value types fs) ≡ contains j (field_names fs)
has_row types j [] = refl
has_row types j (f ∷ fs) = ap (λ b. bytes_eq j f.0 || b) (has_row types j fs)

under_row : (types : ℕ → Ground) (k : Name) (fs : List FieldSlot) → All (λ y. name_lt k y ≡ true) (field_names fs) → is_under k (row_value types fs) ≡ true
under_row types k [] a = refl
under_row types k (f ∷ fs) a = All-head (λ y. name_lt k y ≡ true) f.0 (field_names fs) a

pub rise_row : (types : ℕ → Ground) (fs : List FieldSlot) → Ascending (field_names fs) → rise (row_value types fs) ≡ true
rise_row types [] a = refl
rise_row types (f ∷ fs) a = and_both (is_under f.0 (row_value types fs)) (rise (row_value types fs)) (under_row types f.0 fs a.0) (rise_row types fs a.1)

pub fields_from_names : (types : ℕ → Ground) (fs : List FieldSlot) (t : Ground) → lacks_all (field_names fs) t ≡ true → LacksFields (row_value types fs) t
fields_from_names types [] t e = tt
fields_from_names types (f ∷ fs) t e =
    (and_left (lacks f.0 t) (lacks_all (field_names fs) t) e, fields_from_names types fs t (and_right (lacks f.0 t) (lacks_all (field_names fs) t) e))

pub names_from_fields : (types : ℕ → Ground) (fs : List FieldSlot) (t : Ground) → LacksFields (row_value types fs) t → lacks_all (field_names fs) t ≡ true
names_from_fields types [] t h = refl
names_from_fields types (f ∷ fs) t h = and_both (lacks f.0 t) (lacks_all (field_names fs) t) h.0 (names_from_fields types fs t h.1)

pub apart_rows : (types : ℕ → Ground) (fs gs : List FieldSlot) → NoneIn (field_names fs) (field_names gs) → Apart (row_value types fs) (row_value types gs)
apart_rows types [] gs a = tt
apart_rows types (f ∷ fs) gs a = (
  has_row types f.0 gs ∙ All-head (λ x. contains x (field_names gs) ≡ false) f.0 (field_names fs) a,
  apart_rows types fs gs (All-tail (λ x. contains x (field_names gs) ≡ false) f.0 (field_names fs) a),
)

-- a name of the second list is not in the first
pub none_first : (xs : List Name) (y : Name) (ys : List Name) → NoneIn xs (y ∷ ys) → contains y xs ≡ false
none_first [] y ys a = refl
none_first (x ∷ xs) y ys a =
    let h = not_had (bytes_eq x y) (contains x ys) (All-head (λ z. contains z (y ∷ ys) ≡ false) x xs a) in
    ap (λ b. b || contains y xs) (not_equal_swap x y h.0) ∙ none_first xs y ys (All-tail (λ z. contains z (y ∷ ys) ≡ false) x xs a)

pub none_rest : (xs : List Name) (y : Name) (ys : List Name) → NoneIn xs (y ∷ ys) → NoneIn xs ys
none_rest [] y ys a = All-nil (λ z. contains z ys ≡ false)
none_rest (x ∷ xs) y ys a =
    let h = not_had (bytes_eq x y) (contains x ys) (All-head (λ z. contains z (y ∷ ys) ≡ false) x xs a) in
    All-cons (λ z. contains z ys ≡ false) x xs h.1 (none_rest xs y ys (All-tail (λ z. contains z (y ∷ ys) ≡ false) x xs a))

pub none_turned : (xs ys : List Name) → NoneIn xs ys → NoneIn ys xs
none_turned xs [] a = All-nil (λ z. contains z xs ≡ false)
none_turned xs (y ∷ ys) a = All-cons (λ z. contains z xs ≡ false) y ys (none_first xs y ys a) (none_turned xs ys (none_rest xs y ys a))

-- ---- two rows in one

module _ (types : ℕ → Ground) where
  interleaved : (fs gs ms : List FieldSlot) (hs : Fields Rigid) → Interleaves fs gs ms → NoneIn (field_names fs) (field_names gs)
      → insert_all (row_value types ms) hs ≡ insert_all (row_value types fs) (insert_all (row_value types gs) hs)
  interleaved fs gs ms hs Neither a = refl
  interleaved fs gs ms hs (First f us vs ws i) a =
      ap (insert_field f.0 (types f.1)) (interleaved us vs ws hs i (All-tail (λ x. contains x (field_names vs) ≡ false) f.0 (field_names us) a))
  interleaved fs gs ms hs (Second g us vs ws i) a =
      ap (insert_field g.0 (types g.1)) (interleaved us vs ws hs i (none_rest (field_names us) g.0 (field_names vs) a)) ∙
      insert_past g.0 (types g.1) (row_value types us) (insert_all (row_value types vs) hs) (has_row types g.0 us ∙ none_first (field_names us) g.0 (field_names vs) a)

  pub extend_interleaved : (fs gs ms : List FieldSlot) (t : Ground) → Interleaves fs gs ms → NoneIn (field_names fs) (field_names gs)
      → extend (row_value types ms) t ≡ extend (row_value types fs) (extend (row_value types gs) t)
  extend_interleaved fs gs ms (Made h ts) i a = refl
  extend_interleaved fs gs ms (Record hs e) i a = ap (λ x. Record x e) (interleaved fs gs ms hs i a)

pub lacks_interleaved : (fs gs ms : List FieldSlot) (t : Ground) → Interleaves fs gs ms → lacks_all (field_names fs) t ≡ true → lacks_all (field_names gs) t ≡ true → lacks_all (field_names ms) t ≡ true
lacks_interleaved fs gs ms t Neither a b = refl
lacks_interleaved fs gs ms t (First f us vs ws i) a b =
    and_both (lacks f.0 t) (lacks_all (field_names ws) t) (and_left (lacks f.0 t) (lacks_all (field_names us) t) a) (lacks_interleaved us vs ws t i (and_right (lacks f.0 t) (lacks_all (field_names us) t) a) b)
lacks_interleaved fs gs ms t (Second g us vs ws i) a b =
    and_both (lacks g.0 t) (lacks_all (field_names ws) t) (and_left (lacks g.0 t) (lacks_all (field_names vs) t) b) (lacks_interleaved us vs ws t i a (and_right (lacks g.0 t) (lacks_all (field_names vs) t) b))

pub lacks_first : (fs gs ms : List FieldSlot) (t : Ground) → Interleaves fs gs ms → lacks_all (field_names ms) t ≡ true → lacks_all (field_names fs) t ≡ true
lacks_first fs gs ms t Neither a = refl
lacks_first fs gs ms t (First f us vs ws i) a =
    and_both (lacks f.0 t) (lacks_all (field_names us) t) (and_left (lacks f.0 t) (lacks_all (field_names ws) t) a) (lacks_first us vs ws t i (and_right (lacks f.0 t) (lacks_all (field_names ws) t) a))
lacks_first fs gs ms t (Second g us vs ws i) a = lacks_first us vs ws t i (and_right (lacks g.0 t) (lacks_all (field_names ws) t) a)

pub lacks_second : (fs gs ms : List FieldSlot) (t : Ground) → Interleaves fs gs ms → lacks_all (field_names ms) t ≡ true → lacks_all (field_names gs) t ≡ true
lacks_second fs gs ms t Neither a = refl
lacks_second fs gs ms t (First f us vs ws i) a = lacks_second us vs ws t i (and_right (lacks f.0 t) (lacks_all (field_names ws) t) a)
lacks_second fs gs ms t (Second g us vs ws i) a =
    and_both (lacks g.0 t) (lacks_all (field_names vs) t) (and_left (lacks g.0 t) (lacks_all (field_names ws) t) a) (lacks_second us vs ws t i (and_right (lacks g.0 t) (lacks_all (field_names ws) t) a))

-- ---- what a record with more fields lacks

none_both : {A : Type 0} (o p : Option A) → first_or o p ≡ None → (o ≡ None) × (p ≡ None)
none_both None p e = (refl, e)
none_both (Some a) p e = absurd (cc)

pub not_in_all : (x : Name) (fs gs : Fields Rigid) → has_field x (insert_all fs gs) ≡ false → (has_field x fs ≡ false) × (has_field x gs ≡ false)
not_in_all x fs gs e =
    let n = none_both (field_type x fs) (field_type x gs) (sym (found_all x fs gs) ∙ (no_field_type x (insert_all fs gs)).0 e) in
    ((no_field_type x fs).1 n.0, (no_field_type x gs).1 n.1)

pub in_neither : (x : Name) (fs gs : Fields Rigid) → has_field x fs ≡ false → has_field x gs ≡ false → has_field x (insert_all fs gs) ≡ false
in_neither x fs gs a b =
    (no_field_type x (insert_all fs gs)).1 (found_all x fs gs ∙ (ap (λ o. first_or o (field_type x gs)) ((no_field_type x fs).0 a) ∙ (no_field_type x gs).0 b))

-- a record with more fields lacks no more
pub lacks_less : (x : Name) (fs : Fields Rigid) (t : Ground) → lacks x (extend fs t) ≡ true → lacks x t ≡ true
lacks_less x fs (Made h ts) e = e
lacks_less x fs (Record gs end) e =
    let n = not_in_all x fs gs (not_yes (has_field x (insert_all fs gs)) (and_left (not (has_field x (insert_all fs gs))) (end_lacks x end) e)) in
    and_both (not (has_field x gs)) (end_lacks x end) (ap not n.1) (and_right (not (has_field x (insert_all fs gs))) (end_lacks x end) e)

-- it does not lack its own
pub lacks_none : (x : Name) (fs : Fields Rigid) (t : Ground) → lacks x (extend fs t) ≡ true → has_field x fs ≡ false
lacks_none x fs (Made h ts) e = absurd (let w : false ≡ true = e in cc)
lacks_none x fs (Record gs end) e =
    (not_in_all x fs gs (not_yes (has_field x (insert_all fs gs)) (and_left (not (has_field x (insert_all fs gs))) (end_lacks x end) e))).0

pub lacks_more : (x : Name) (fs : Fields Rigid) (t : Ground) → has_field x fs ≡ false → lacks x t ≡ true → lacks x (extend fs t) ≡ true
lacks_more x fs (Made h ts) n e = e
lacks_more x fs (Record gs end) n e =
    and_both (not (has_field x (insert_all fs gs))) (end_lacks x end)
    (ap not (in_neither x fs gs n (not_yes (has_field x gs) (and_left (not (has_field x gs)) (end_lacks x end) e))))
    (and_right (not (has_field x gs)) (end_lacks x end) e)

pub all_less : (xs : List Name) (fs : Fields Rigid) (t : Ground) → lacks_all xs (extend fs t) ≡ true → lacks_all xs t ≡ true
all_less [] fs t e = refl
all_less (x ∷ xs) fs t e =
    and_both (lacks x t) (lacks_all xs t) (lacks_less x fs t (and_left (lacks x (extend fs t)) (lacks_all xs (extend fs t)) e)) (all_less xs fs t (and_right (lacks x (extend fs t)) (lacks_all xs (extend fs t)) e))

pub all_more : (types : ℕ → Ground) (xs : List Name) (fs : List FieldSlot) (t : Ground) → NoneIn xs (field_names fs) → lacks_all xs t ≡ true → lacks_all xs (extend (row_value types fs) t) ≡ true
all_more types [] fs t a e = refl
all_more types (x ∷ xs) fs t a e =
    and_both (lacks x (extend (row_value types fs) t)) (lacks_all xs (extend (row_value types fs) t))
    (lacks_more x (row_value types fs) t (has_row types x fs ∙ All-head (λ y. contains y (field_names fs) ≡ false) x xs a) (and_left (lacks x t) (lacks_all xs t) e))
    (all_more types xs fs t (All-tail (λ y. contains y (field_names fs) ≡ false) x xs a) (and_right (lacks x t) (lacks_all xs t) e))

pub lacks_of : (x : Name) (xs : List Name) (t : Ground) → contains x xs ≡ true → lacks_all xs t ≡ true → lacks x t ≡ true
lacks_of x [] t c e = absurd (let w : false ≡ true = c in cc)
lacks_of x (y ∷ ys) t c e = go (bytes_eq x y) refl (lacks_of x ys t)
  where
    go : (b : Bool) → bytes_eq x y ≡ b → (contains x ys ≡ true → lacks_all ys t ≡ true → lacks x t ≡ true) → lacks x t ≡ true
    go true q again = ap (λ z. lacks z t) (same_name x y q) ∙ and_left (lacks y t) (lacks_all ys t) e
    go false q again = again (sym (ap (λ b. b || contains x ys) q) ∙ c) (and_right (lacks y t) (lacks_all ys t) e)

-- ---- rows with the same names

or_none : {A : Type 0} (o : Option A) → first_or o None ≡ o
or_none (Some x) = refl
or_none None = refl

module _ (F G fs gs : Fields Rigid) (e e' : End Rigid) (names : (j : Name) → has_field j F ≡ has_field j G) (lf : LacksFields F (Record fs e)) (lg : LacksFields G (Record gs e')) (same : insert_all F fs ≡ insert_all G gs) where
  both_found : (j : Name) → first_or (field_type j F) (field_type j fs) ≡ first_or (field_type j G) (field_type j gs)
  both_found j = sym (found_all j F fs) ∙ (ap (field_type j) same ∙ found_all j G gs)

  each_found : (j : Name) → (has_field j F ≡ true) ⊎ (has_field j F ≡ false) → (field_type j F ≡ field_type j G) × (field_type j fs ≡ field_type j gs)
  each_found j (inl y) =
      let nf : field_type j fs ≡ None = (no_field_type j fs).0 (lacked F fs e j lf y).0 in
      let ng : field_type j gs ≡ None = (no_field_type j gs).0 (lacked G gs e' j lg (sym (names j) ∙ y)).0 in
      (sym (or_none (field_type j F)) ∙ (ap (first_or (field_type j F)) (sym nf) ∙ (both_found j ∙ (ap (first_or (field_type j G)) ng ∙ or_none (field_type j G)))), nf ∙ sym ng)
  each_found j (inr n) =
      let nf : field_type j F ≡ None = (no_field_type j F).0 n in
      let ng : field_type j G ≡ None = (no_field_type j G).0 (sym (names j) ∙ n) in
      (nf ∙ sym ng, ap (λ o. first_or o (field_type j fs)) (sym nf) ∙ (both_found j ∙ ap (λ o. first_or o (field_type j gs)) ng))

  rows_apart : rise F ≡ true → rise G ≡ true → rise fs ≡ true → rise gs ≡ true → (F ≡ G) × (fs ≡ gs)
  rows_apart a b c d = (same_fields F G a b (λ j. (each_found j (yes_or_no (has_field j F))).0), same_fields fs gs c d (λ j. (each_found j (yes_or_no (has_field j F))).1))

no_names : (G : Fields Rigid) → ((j : Name) → false ≡ has_field j G) → NoField ≡ G
no_names NoField h = refl
no_names (MoreField k t G) h = absurd (let a : has_field k (MoreField k t G) ≡ true = ap (λ b. b || has_field k G) (equal_itself k) in let b = h k in cc)

pub extend_apart : (F G : Fields Rigid) (x y : Ground) → ((j : Name) → has_field j F ≡ has_field j G) → rise F ≡ true → rise G ≡ true → LacksFields F x → LacksFields G y → rise (fields_in x) ≡ true → rise (fields_in y) ≡ true
    → extend F x ≡ extend G y → (F ≡ G) × (x ≡ y)
extend_apart NoField G (Made h ts) y names a b lf lg gx gy e =
    let n : NoField ≡ G = no_names G names in
    (n, e ∙ (ap (λ K. extend K y) (sym n) ∙ extend_none y))
extend_apart (MoreField k t F) G (Made h ts) y names a b lf lg gx gy e = absurd (let w : false ≡ true = lf.0 in cc)
extend_apart F NoField (Record fs end) (Made h ts) names a b lf lg gx gy e =
    let n : NoField ≡ F = no_names F (λ j. sym (names j)) in
    (sym n, sym (extend_none (Record fs end)) ∙ (ap (λ K. extend K (Record fs end)) n ∙ e))
extend_apart F (MoreField k t G) (Record fs end) (Made h ts) names a b lf lg gx gy e = absurd (let w : false ≡ true = lg.0 in cc)
extend_apart F G (Record fs end) (Record gs end') names a b lf lg gx gy e =
    let r = rows_apart F G fs gs end end' names lf lg (ap fields_in e) a b gx gy in
    (r.0, ap (λ hs. Record hs end) r.1 ∙ ap (Record gs) (ap end_in e))

pub rise_ground : (t : Ground) → is_ground t ≡ true → rise (fields_in t) ≡ true
rise_ground (Made h ts) g = refl
rise_ground (Record fs e) g = and_left (rise fs) (end_lacks_each fs e && fields_ground fs) g

pub rise_extended : (fs : Fields Rigid) (t : Ground) → rise fs ≡ true → rise (fields_in t) ≡ true → LacksFields fs t → rise (fields_in (extend fs t)) ≡ true
rise_extended fs (Made h ts) a b l = refl
rise_extended fs (Record gs e) a b l = rise_all fs gs a b (λ j h. (lacked fs gs e j l h).0)

-- what has a field has not the form of what has it not
pub cannot : (x : Name) (ls rs : Fields Rigid) (t u : Ground) → has_field x ls ≡ true → has_field x rs ≡ false → lacks x t ≡ true → has_field x (fields_in u) ≡ false → extend ls t ≡ extend rs u → ⊥
cannot x ls rs (Made h ts) u a b l n e = let w : false ≡ true = l in cc
cannot x ls rs (Record fs f) (Made h ts) a b l n e = let w : Record (insert_all ls fs) f ≡ Made h ts = e in cc
cannot x ls rs (Record fs f) (Record gs f') a b l n e =
    let same : insert_all ls fs ≡ insert_all rs gs = ap fields_in e in
    let none : has_field x (insert_all ls fs) ≡ false = ap (has_field x) same ∙ in_neither x rs gs b n in
    let not_left = (not_in_all x ls fs none).0 in cc

-- ---- the common fields have the same types

pub sames_of_rows : (σ : Values) (fs gs : List FieldSlot) → row_value σ.types fs ≡ row_value σ.types gs → All (MeetsAsk σ) (sames (field_slots fs) (field_slots gs))
sames_of_rows σ [] gs e = All-nil (MeetsAsk σ)
sames_of_rows σ (f ∷ fs) [] e = All-nil (MeetsAsk σ)
sames_of_rows σ (f ∷ fs) (g ∷ gs) e =
    let a : σ.types f.1 ≡ σ.types g.1 = cc in
    let b : row_value σ.types fs ≡ row_value σ.types gs = cc in
    All-cons (MeetsAsk σ) (Same f.1 g.1) (sames (field_slots fs) (field_slots gs)) a (sames_of_rows σ fs gs b)

pub rows_of_sames : (σ : Values) (fs gs : List FieldSlot) → field_names fs ≡ field_names gs → All (MeetsAsk σ) (sames (field_slots fs) (field_slots gs)) → row_value σ.types fs ≡ row_value σ.types gs
rows_of_sames σ [] [] n h = refl
rows_of_sames σ [] (g ∷ gs) n h = absurd cc
rows_of_sames σ (f ∷ fs) [] n h = absurd cc
rows_of_sames σ (f ∷ fs) (g ∷ gs) n h =
    let a : f.0 ≡ g.0 = cc in
    let b : field_names fs ≡ field_names gs = cc in
    let c : σ.types f.1 ≡ σ.types g.1 = All-head (MeetsAsk σ) (Same f.1 g.1) (sames (field_slots fs) (field_slots gs)) h in
    let d : row_value σ.types fs ≡ row_value σ.types gs = rows_of_sames σ fs gs b (All-tail (MeetsAsk σ) (Same f.1 g.1) (sames (field_slots fs) (field_slots gs)) h) in
    cc
