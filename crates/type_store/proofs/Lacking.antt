-- Fields that a ground type lacks.
use Rattle.std.proofs.Common.{◌≡◌, List, [], ◌∷◌, ◌++◌, Bool, true, false, refl, sym, ap, ◌∙◌, subst}
use Rattle.std.specs.Prelude.{◌||◌, ◌&&◌, not, All}
use Rattle.std.specs.Str.{bytes_eq}
use Rattle.std.proofs.lemmas.List.{append_assoc}
use Rattle.std.proofs.lemmas.List.Elements.{All-head, All-tail, All-cons, All-nil}
use Rattle.elm_type.specs.Types.{Name, Rigid, End, ElmType, Fields, Closed, Made, Record, NoField, MoreField, variable}
use Rattle.elm_type.specs.Classes.{Ground}
use Rattle.elm_type.specs.Rows.{name_lt, insert_field, insert_all, extend, has_field, rise}
use Rattle.elm_type.specs.Ground.{contains, lacks, lacks_all, end_lacks, end_lacks_each, is_ground, fields_ground}
use Rattle.type_store.specs.Shape.{AllIn, NoneIn}
use Rattle.type_store.proofs.Names.{same_name, equal_itself}
use Rattle.type_store.proofs.Rows.{insert_after, insert_before}
use Rattle.type_store.proofs.Classes.{no}
use Rattle.type_store.proofs.RowsMeet.{LacksFields, and_left, and_right, and_both, or_right, rise_all}

pub not_yes : (b : Bool) → not b ≡ true → b ≡ false
not_yes true e = no e
not_yes false e = refl

pub not_true : (b : Bool) → (b ≡ true → ⊥) → b ≡ false
not_true true h = absurd (h refl)
not_true false h = refl

pub not_or : (b c : Bool) → (b || c) ≡ false → (b ≡ false) × (c ≡ false)
not_or true c e = absurd (let w : true ≡ false = e in cc)
not_or false c e = (refl, e)

pub or_left : (a b : Bool) → a ≡ true → (a || b) ≡ true
or_left true b e = refl
or_left false b e = no e

-- ---- names in a list

-- what holds of each name of a list holds of one that is contained in it
pub at_contained : (P : Name → Type 0) (x : Name) (ys : List Name) → contains x ys ≡ true → All P ys → P x
at_contained P x [] e h = no e
at_contained P x (y ∷ ys) e h = go (bytes_eq x y) refl (at_contained P x ys)
  where
    go : (b : Bool) → bytes_eq x y ≡ b → (contains x ys ≡ true → All P ys → P x) → P x
    go true q again = subst P (sym (same_name x y q)) (All-head P y ys h)
    go false q again = again (sym (ap (λ b. b || contains x ys) q) ∙ e) (All-tail P y ys h)

-- what is in a list with none of others is none of these
pub none_contained : (x : Name) (xs ys : List Name) → NoneIn xs ys → contains x ys ≡ true → contains x xs ≡ false
none_contained x xs ys h e = not_true (contains x xs) (λ f. (
    let g : contains x ys ≡ false = at_contained (λ z. contains z ys ≡ false) x xs f h in
    let a : true ≡ false = sym e ∙ g in cc))

-- a name of a list is contained in it, whatever stands before it
pub contained : (before : List Name) (x : Name) (after : List Name) → contains x (before ++ x ∷ after) ≡ true
contained [] x after = or_left (bytes_eq x x) (contains x after) (equal_itself x)
contained (y ∷ ys) x after = or_right (bytes_eq x y) (contains x (ys ++ x ∷ after)) (contained ys x after)

in_whole : (before own whole : List Name) → whole ≡ before ++ own → AllIn own whole
in_whole before [] whole e = All-nil (λ x. contains x whole ≡ true)
in_whole before (x ∷ xs) whole e =
    All-cons (λ z. contains z whole ≡ true) x xs (ap (contains x) e ∙ contained before x xs)
    (in_whole (before ++ x ∷ []) xs whole (e ∙ sym (append_assoc before (x ∷ []) xs)))

pub all_in_itself : (xs : List Name) → AllIn xs xs
all_in_itself xs = in_whole [] xs xs refl

pub lacks_in : (x : Name) (xs : List Name) (t : Ground) → contains x xs ≡ true → lacks_all xs t ≡ true → lacks x t ≡ true
lacks_in x [] t c e = no c
lacks_in x (y ∷ ys) t c e = go (bytes_eq x y) refl (lacks_in x ys t)
  where
    go : (b : Bool) → bytes_eq x y ≡ b → (contains x ys ≡ true → lacks_all ys t ≡ true → lacks x t ≡ true) → lacks x t ≡ true
    go true q again = ap (λ z. lacks z t) (same_name x y q) ∙ and_left (lacks y t) (lacks_all ys t) e
    go false q again = again (sym (ap (λ b. b || contains x ys) q) ∙ c) (and_right (lacks y t) (lacks_all ys t) e)

-- a type that lacks all fields of a list lacks each part of them
pub lacks_part : (xs ys : List Name) (t : Ground) → AllIn xs ys → lacks_all ys t ≡ true → lacks_all xs t ≡ true
lacks_part [] ys t h e = refl
lacks_part (x ∷ xs) ys t h e =
    and_both (lacks x t) (lacks_all xs t)
    (lacks_in x ys t (All-head (λ z. contains z ys ≡ true) x xs h) e)
    (lacks_part xs ys t (All-tail (λ z. contains z ys ≡ true) x xs h) e)

pub lacks_first : (xs ys : List Name) (t : Ground) → lacks_all (xs ++ ys) t ≡ true → lacks_all xs t ≡ true
lacks_first [] ys t e = refl
lacks_first (x ∷ xs) ys t e =
    and_both (lacks x t) (lacks_all xs t) (and_left (lacks x t) (lacks_all (xs ++ ys) t) e)
    (lacks_first xs ys t (and_right (lacks x t) (lacks_all (xs ++ ys) t) e))

pub lacks_second : (xs ys : List Name) (t : Ground) → lacks_all (xs ++ ys) t ≡ true → lacks_all ys t ≡ true
lacks_second [] ys t e = e
lacks_second (x ∷ xs) ys t e = lacks_second xs ys t (and_right (lacks x t) (lacks_all (xs ++ ys) t) e)

pub lacks_both : (xs ys : List Name) (t : Ground) → lacks_all xs t ≡ true → lacks_all ys t ≡ true → lacks_all (xs ++ ys) t ≡ true
lacks_both [] ys t e f = f
lacks_both (x ∷ xs) ys t e f =
    and_both (lacks x t) (lacks_all (xs ++ ys) t) (and_left (lacks x t) (lacks_all xs t) e)
    (lacks_both xs ys t (and_right (lacks x t) (lacks_all xs t) e) f)

-- a constant lacks the fields of its list
pub constant_lacks : (xs : List Name) (r : Rigid) → AllIn xs r.lacks → lacks_all xs (variable r) ≡ true
constant_lacks [] r h = refl
constant_lacks (x ∷ xs) r h =
    and_both (contains x r.lacks) (lacks_all xs (variable r)) (All-head (λ z. contains z r.lacks ≡ true) x xs h)
    (constant_lacks xs r (All-tail (λ z. contains z r.lacks ≡ true) x xs h))

-- the record without fields lacks all
pub empty_lacks : (xs : List Name) → lacks_all xs (Record NoField Closed) ≡ true
empty_lacks [] = refl
empty_lacks (x ∷ xs) = empty_lacks xs

-- ---- fields that are put in

or_swap : (a b c : Bool) → (a || (b || c)) ≡ (b || (a || c))
or_swap true true c = refl
or_swap true false c = refl
or_swap false b c = refl

or_assoc : (a b c : Bool) → (a || (b || c)) ≡ ((a || b) || c)
or_assoc true b c = refl
or_assoc false b c = refl

module _ {X : Type 0} where
  pub has_inserted : (j k : Name) (t : ElmType X) (fs : Fields X) → has_field j (insert_field k t fs) ≡ (bytes_eq j k || has_field j fs)
  has_inserted j k t NoField = refl
  has_inserted j k t (MoreField m v fs) = go (has_inserted j k t fs) (name_lt m k) refl
    where
      go : has_field j (insert_field k t fs) ≡ (bytes_eq j k || has_field j fs) → (b : Bool) → name_lt m k ≡ b
          → has_field j (insert_field k t (MoreField m v fs)) ≡ (bytes_eq j k || (bytes_eq j m || has_field j fs))
      go again true e = ap (has_field j) (insert_after k m t v fs e) ∙ (ap (λ b. bytes_eq j m || b) again ∙ or_swap (bytes_eq j m) (bytes_eq j k) (has_field j fs))
      go again false e = ap (has_field j) (insert_before k m t v fs e)

  pub has_all : (j : Name) (fs gs : Fields X) → has_field j (insert_all fs gs) ≡ (has_field j fs || has_field j gs)
  has_all j NoField gs = refl
  has_all j (MoreField k t fs) gs =
      has_inserted j k t (insert_all fs gs) ∙ (ap (λ b. bytes_eq j k || b) (has_all j fs gs) ∙ or_assoc (bytes_eq j k) (has_field j fs) (has_field j gs))

not_either : (a b e : Bool) → (not (a || b) && e) ≡ (not a && (not b && e))
not_either true b e = refl
not_either false b e = refl

and_false : (b : Bool) → (b && false) ≡ false
and_false true = refl
and_false false = refl

-- a record with more fields lacks what it lacked, but for these
pub lacks_extended : (x : Name) (fs : Fields Rigid) (t : Ground) → lacks x (extend fs t) ≡ (not (has_field x fs) && lacks x t)
lacks_extended x fs (Made h ts) = sym (and_false (not (has_field x fs)))
lacks_extended x fs (Record gs end) =
    ap (λ b. not b && end_lacks x end) (has_all x fs gs) ∙ not_either (has_field x fs) (has_field x gs) (end_lacks x end)

-- ---- records that are ground types

ends_inserted : (k : Name) (t : Ground) (fs : Fields Rigid) (end : End Rigid) → end_lacks k end ≡ true → end_lacks_each fs end ≡ true
    → end_lacks_each (insert_field k t fs) end ≡ true
ends_inserted k t NoField end a b = and_both (end_lacks k end) true a refl
ends_inserted k t (MoreField m v fs) end a b =
    go (ends_inserted k t fs end a (and_right (end_lacks m end) (end_lacks_each fs end) b)) (name_lt m k) refl
  where
    go : end_lacks_each (insert_field k t fs) end ≡ true → (c : Bool) → name_lt m k ≡ c → end_lacks_each (insert_field k t (MoreField m v fs)) end ≡ true
    go again true e =
        ap (λ gs. end_lacks_each gs end) (insert_after k m t v fs e)
        ∙ and_both (end_lacks m end) (end_lacks_each (insert_field k t fs) end) (and_left (end_lacks m end) (end_lacks_each fs end) b) again
    go again false e =
        ap (λ gs. end_lacks_each gs end) (insert_before k m t v fs e) ∙ and_both (end_lacks k end) (end_lacks_each (MoreField m v fs) end) a b

ground_inserted : (k : Name) (t : Ground) (fs : Fields Rigid) → is_ground t ≡ true → fields_ground fs ≡ true → fields_ground (insert_field k t fs) ≡ true
ground_inserted k t NoField a b = and_both (is_ground t) true a refl
ground_inserted k t (MoreField m v fs) a b =
    go (ground_inserted k t fs a (and_right (is_ground v) (fields_ground fs) b)) (name_lt m k) refl
  where
    go : fields_ground (insert_field k t fs) ≡ true → (c : Bool) → name_lt m k ≡ c → fields_ground (insert_field k t (MoreField m v fs)) ≡ true
    go again true e =
        ap fields_ground (insert_after k m t v fs e) ∙ and_both (is_ground v) (fields_ground (insert_field k t fs)) (and_left (is_ground v) (fields_ground fs) b) again
    go again false e = ap fields_ground (insert_before k m t v fs e) ∙ and_both (is_ground t) (fields_ground (MoreField m v fs)) a b

ends_all : (fs gs : Fields Rigid) (end : End Rigid) → LacksFields fs (Record gs end) → end_lacks_each gs end ≡ true → end_lacks_each (insert_all fs gs) end ≡ true
ends_all NoField gs end l e = e
ends_all (MoreField k t fs) gs end l e =
    ends_inserted k t (insert_all fs gs) end (and_right (not (has_field k gs)) (end_lacks k end) l.0) (ends_all fs gs end l.1 e)

ground_all : (fs gs : Fields Rigid) → fields_ground fs ≡ true → fields_ground gs ≡ true → fields_ground (insert_all fs gs) ≡ true
ground_all NoField gs a b = b
ground_all (MoreField k t fs) gs a b =
    ground_inserted k t (insert_all fs gs) (and_left (is_ground t) (fields_ground fs) a) (ground_all fs gs (and_right (is_ground t) (fields_ground fs) a) b)

-- no field of the first is in what lacks them
none_had : (fs gs : Fields Rigid) (end : End Rigid) → LacksFields fs (Record gs end) → (j : Name) → has_field j fs ≡ true → has_field j gs ≡ false
none_had NoField gs end l j e = no e
none_had (MoreField k t fs) gs end l j e = go (bytes_eq j k) refl (none_had fs gs end l.1 j)
  where
    go : (b : Bool) → bytes_eq j k ≡ b → (has_field j fs ≡ true → has_field j gs ≡ false) → has_field j gs ≡ false
    go true q again = ap (λ z. has_field z gs) (same_name j k q) ∙ not_yes (has_field k gs) (and_left (not (has_field k gs)) (end_lacks k end) l.0)
    go false q again = again (sym (ap (λ b. b || has_field j fs) q) ∙ e)

-- a record with fields that it lacked is a ground type
pub ground_extended : (fs : Fields Rigid) (t : Ground) → rise fs ≡ true → fields_ground fs ≡ true → LacksFields fs t → is_ground t ≡ true
    → is_ground (extend fs t) ≡ true
ground_extended NoField (Made h ts) r f l g = g
ground_extended (MoreField k t fs) (Made h ts) r f l g = no l.0
ground_extended fs (Record gs end) r f l g =
    let rg = and_left (rise gs) (end_lacks_each gs end && fields_ground gs) g in
    let more = and_right (rise gs) (end_lacks_each gs end && fields_ground gs) g in
    and_both (rise (insert_all fs gs)) (end_lacks_each (insert_all fs gs) end && fields_ground (insert_all fs gs))
    (rise_all fs gs r rg (none_had fs gs end l))
    (and_both (end_lacks_each (insert_all fs gs) end) (fields_ground (insert_all fs gs))
    (ends_all fs gs end l (and_left (end_lacks_each gs end) (fields_ground gs) more))
    (ground_all fs gs f (and_right (end_lacks_each gs end) (fields_ground gs) more)))
