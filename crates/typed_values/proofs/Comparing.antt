-- Equality, order and ++ of values of one type.
use Rattle.std.proofs.Common.{◌≡◌, ℕ, zero, suc, pos, negsuc, List, [], ◌∷◌, length, Bool, true, false, Some, inl, inr, refl, sym, ap, ◌∙◌, subst, arith, eqb-true}
use Rattle.std.specs.Prelude.{◌&&◌, ◌||◌, not, if◌then◌else◌, nat_eq, option_and_then}
use Rattle.std.specs.List.{AllByRecursion}
use Rattle.std.specs.Str.{bytes_eq}
use Rattle.std.specs.declared.cmp.Ordering.{Ordering}
use Rattle.std.specs.declared.cmp.Ordering.TheVariants.{Less, Equal, Greater}
use Rattle.std.proofs.lemmas.Slice.Eq.{bytes_eq-Decides}
use Rattle.runs.specs.Ends.{End, Val, Crashed, OutOfFuel, Unsafe, Stuck, then_do}
use Rattle.elm_canon.specs.Names.{same_name}
use Rattle.elm_canon.specs.declared.unions.Tag.{Tag}
use Rattle.elm_canon.specs.declared.unions.Tag.TheVariants.{Number, Truth, Blank}
use Rattle.elm_canon.specs.Unions.{tuple_alternative}
use Rattle.elm_meaning.specs.Values.{Value, IntV, TextV, TagV, RecordV, CloV, KnownV, WireV, Values, NoValue, MoreValue, FieldValues, NoFieldV, MoreFieldV, count_of, items, list_before}
use Rattle.elm_meaning.specs.Seen.{TagS, DictS, Seens, NoSeen, MoreSeen, dict_or_odd, entries, entries_in, see, see_all, see_fields, names_of, same_tag, same_kind, same_count}
use Rattle.elm_meaning.specs.Equal.{equal, equal_all, same_names, by_tags}
use Rattle.elm_meaning.specs.Order.{compare, compare_all, or_then}
use Rattle.elm_meaning.specs.Operate.{append}
use Rattle.elm_type.specs.Types.{Fields, Record, Made, NoField, MoreField, Closed, Over, Rigid, count, types_of, list_type, tuple, int_type, string_type}
use Rattle.elm_type.specs.Classes.{Ground, meets, all_meet, demand_met, is_below, is_int, is_char, is_string, is_list}
use Rattle.elm_type.specs.Rows.{substitute_all}
use Rattle.elm_type.specs.declared.class.Class.{Class}
use Rattle.elm_type.specs.declared.class.Class.TheVariants.{Any, Number as Number_, Comparable, Appendable, CompAppend}
use Rattle.elm_type.specs.declared.demands.Demand.TheVariants.{Never, Always, OfParts}
use Rattle.elm_type.specs.declared.head.Head.TheVariants as head
use Rattle.typed_values.specs.World.{World, is_negative, variables_of, MadeBy, OfPort, is_ported, is_port_tag, IsSound}
use Rattle.typed_values.specs.Typed.{EndsWell, Has, HasEach, HaveFields}
use Rattle.typed_values.specs.Steps.{EndsAs}
use Rattle.typed_values.proofs.Names.{yes_or_no, not_both}
use Rattle.typed_values.proofs.Keeping.{and_left, and_right, and_both}
use Rattle.typed_values.proofs.Forms.{Ints, Texts, Tags, Records, Calls, named_form, form, each_count, value_form, union_plain, int_value, text_value, tag_value, record_value, is_port_ground, port_ground, plain_made, tag_made}
use Rattle.typed_values.proofs.Numbers.{number_is_int}
use Rattle.typed_values.proofs.Sent.{ported_made, ported_order, carried_same, sent_equal}
use Rattle.typed_values.proofs.Makers.{together, same_signs, node_parts, list_made}

-- the end is not Stuck
abbrev pub Fine : {X : Type 0} → End X → Type 0
Fine end = EndsWell (λ _. Unit {0}) end

then_fine : {X Y : Type 0} (o : End X) (go : X → End Y) → Fine o → ((x : X) → Fine (go x)) → Fine (then_do o go)
then_fine (Val x) go h k = k x
then_fine (Crashed t) go h k = tt
then_fine OutOfFuel go h k = tt
then_fine Unsafe go h k = tt
then_fine Stuck go h k = absurd h

if_fine : {X : Type 0} (b : Bool) (one other : End X) → Fine one → Fine other → Fine (if b then one else other)
if_fine true one other h k = h
if_fine false one other h k = k

-- where constructors are of one union
tags_fine : {X : Type 0} (j k : Tag) (xs ys : Seens) (same different : End X) → same_kind j k ≡ true → (same_tag j k ≡ true → (same_count xs ys ≡ true) × Fine same)
    → Fine different → Fine (by_tags j k xs ys same different)
tags_fine j k xs ys same different kinds h d = go (same_tag j k) refl
  where
    go : (b : Bool) → same_tag j k ≡ b → Fine (if b then (if same_count xs ys then same else Stuck) else (if same_kind j k then different else Stuck))
    go true e = (let r = h e in subst (λ c. Fine (if c then same else Stuck)) (sym r.0) r.1)
    go false e = subst (λ c. Fine (if c then different else Stuck)) (sym kinds) d

counts_seen : (vs us : Values) → count_of vs ≡ count_of us → same_count (see_all vs) (see_all us) ≡ true
counts_seen NoValue NoValue e = refl
counts_seen NoValue (MoreValue u us) e = absurd (let z : 0 ≡ suc (count_of us) = e in omega arith)
counts_seen (MoreValue v vs) NoValue e = absurd (let z : suc (count_of vs) ≡ 0 = e in omega arith)
counts_seen (MoreValue v vs) (MoreValue u us) e = counts_seen vs us (let z : suc (count_of vs) ≡ suc (count_of us) = e in omega arith)

-- ---- which types meet a class

no_record : (c : Class) (ts : Fields Rigid) → (meets c (Record NoField Closed) ≡ false) → meets c (Record (MoreField [] int_type NoField) Closed) ≡ false → meets c (Record ts Closed) ≡ false
no_record c NoField e f = e
no_record c (MoreField k t ts) e f = f

no_named_call : {X : Type 0} (a b : Bool) → named_form a b ≡ Calls → X
no_named_call true b e = absurd (let z : Ints ≡ Calls = e in cc)
no_named_call false true e = absurd (let z : Texts ≡ Calls = e in cc)
no_named_call false false e = absurd (let z : Tags ≡ Calls = e in cc)

no_call : (g : Ground) → form g ≡ Calls → (meets Comparable g ≡ false) × (meets Appendable g ≡ false)
no_call (Made (head.Named m x) ts) e = no_named_call (is_int (head.Named m x)) (is_char (head.Named m x) || is_string (head.Named m x)) e
no_call (Made head.Function ts) e = (refl, refl)
no_call (Made head.Tuple ts) e = absurd (let z : Tags ≡ Calls = e in cc)
no_call (Record fs Closed) e = absurd (let z : Records ≡ Calls = e in cc)
no_call (Record NoField (Over r)) e = absurd (let z : Ints ≡ Calls = e in cc)
no_call (Record (MoreField k t fs) (Over r)) e = absurd (let z : Records ≡ Calls = e in cc)

never_comparable : (a b c l e one x : Bool) (p : Class → Bool) → a ≡ false → b ≡ false → c ≡ false → l ≡ false
    → demand_met (if (a || (b || c)) && e then Always else (if (l && one) || (false && x) then OfParts Comparable else Never)) p ≡ false
never_comparable false false false false e one x p fa fb fc fl = refl
never_comparable true b c l e one x p fa fb fc fl = not_both true refl fa
never_comparable false true c l e one x p fa fb fc fl = not_both true refl fb
never_comparable false false true l e one x p fa fb fc fl = not_both true refl fc
never_comparable false false false true e one x p fa fb fc fl = not_both true refl fl

never_appendable : (c l e one : Bool) (p : Class → Bool) → c ≡ false → l ≡ false → demand_met (if (c && e) || (l && one) then Always else Never) p ≡ false
never_appendable false false e one p fc fl = refl
never_appendable true l e one p fc fl = not_both true refl fc
never_appendable false true e one p fc fl = not_both true refl fl

-- types that can be compared
abbrev pub Ordered : Ground → Type 0
Ordered t = meets Comparable t ≡ true

not_zero : (n : ℕ) → nat_eq (suc n) 0 ≡ false
not_zero n = go (nat_eq (suc n) 0) refl
  where
    go : (b : Bool) → nat_eq (suc n) 0 ≡ b → b ≡ false
    go true e = absurd (let z : suc n ≡ 0 = eqb-true (suc n) 0 e in omega arith)
    go false e = refl

tuple_meets : (t : Ground) (ts : List Ground) → meets Comparable (tuple (t ∷ ts)) ≡ true → all_meet Comparable (types_of (t ∷ ts)) ≡ true
tuple_meets t ts e =
    sym (ap (λ b. demand_met (if not b then OfParts Comparable else Never) (λ d. all_meet d (types_of (t ∷ ts)))) (not_zero (count (types_of ts)))) ∙ e

all_ordered : (ts : List Ground) → all_meet Comparable (types_of ts) ≡ true → AllByRecursion Ordered ts
all_ordered [] m = tt
all_ordered (t ∷ ts) m = (
  and_left (meets Comparable t) (all_meet Comparable (types_of ts)) m,
  all_ordered ts (and_right (meets Comparable t) (all_meet Comparable (types_of ts)) m),
)

-- commands and subscriptions have no order
unported_order : (g : Ground) → Ordered g → is_port_ground g ≡ false
unported_order (Made (head.Named m x) ts) o = go (is_ported m x) refl
  where
    go : (b : Bool) → is_ported m x ≡ b → b ≡ false
    go false e = refl
    go true e = not_both (meets Comparable (Made (head.Named m x) ts)) o (ported_order m x ts e)
unported_order (Made head.Function ts) o = refl
unported_order (Made head.Tuple ts) o = refl
unported_order (Record fs end) o = refl

-- numbers are not put together
no_number : {X : Type 0} (g : Ground) → meets Appendable g ≡ true → meets Number_ g ≡ true → X
no_number (Made h ts) m n = not_both (meets Appendable (Made h ts)) m (sym (ap (meets Appendable) (number_is_int h ts n)))
no_number (Record NoField Closed) m n = not_both false n refl
no_number (Record NoField (Over r)) m n = go r.class m n
  where
    go : {Y : Type 0} (c : Class) → is_below c Appendable ≡ true → is_below c Number_ ≡ true → Y
    go Any e f = not_both false e refl
    go Number_ e f = not_both false e refl
    go Comparable e f = not_both false e refl
    go Appendable e f = not_both false f refl
    go CompAppend e f = not_both false f refl
no_number (Record (MoreField k t fs) end) m n = not_both false m refl

module _ (w : World) (sound : IsSound w) where
  see_tag : (tag : Tag) (vs : Values) → is_negative tag ≡ false → see (TagV tag vs) ≡ TagS tag (see_all vs)
  see_tag (Number (pos n)) vs m = refl
  see_tag (Number (negsuc n)) vs m = not_both true refl m
  see_tag (Truth b) vs m = refl
  see_tag Blank vs m = refl

  names_same : (fs gs : FieldValues) (ts : Fields Rigid) → HaveFields w fs ts → HaveFields w gs ts → same_names (names_of fs) (names_of gs) ≡ true
  names_same NoFieldV NoFieldV NoField h k = refl
  names_same NoFieldV NoFieldV (MoreField j t ts) h k = absurd h
  names_same NoFieldV (MoreFieldV i v fs) NoField h k = absurd k
  names_same NoFieldV (MoreFieldV i v fs) (MoreField j t ts) h k = absurd h
  names_same (MoreFieldV i v fs) NoFieldV NoField h k = absurd h
  names_same (MoreFieldV i v fs) NoFieldV (MoreField j t ts) h k = absurd k
  names_same (MoreFieldV i v fs) (MoreFieldV l u gs) NoField h k = absurd h
  names_same (MoreFieldV i v fs) (MoreFieldV l u gs) (MoreField j t ts) h k =
      and_both (same_name i l) (same_names (names_of fs) (names_of gs)) ((bytes_eq-Decides i l).1 (h.0 ∙ sym k.0)) (names_same fs gs ts h.2 k.2)

  -- ---- dictionaries: the keys and values in turn

  abbrev AllBelow : Ground → Type 0
  AllBelow g = (tag : Tag) (vs : Values) (parts : List Ground) → MadeBy w tag vs parts g → is_negative tag ≡ true

  -- the parts of all nodes of a type have the same types
  abbrev NodesAre : Ground → Ground → Ground → Ground → Type 0
  NodesAre g color key value =
      (vs : Values) (parts : List Ground) → MadeBy w (Number (negsuc 0)) vs parts g → count_of vs ≡ length parts → parts ≡ color ∷ key ∷ value ∷ g ∷ g ∷ []

  nodes_alike : (us : Values) (others : List Ground) (g color key value : Ground) → MadeBy w (Number (negsuc 0)) us others g → count_of us ≡ length others
      → others ≡ color ∷ key ∷ value ∷ g ∷ g ∷ [] → NodesAre g color key value
  nodes_alike us others g color key value m n is vs parts m2 n2 = (together w sound (Number (negsuc 0)) vs parts (Number (negsuc 0)) us others g m2 m n2 n).same refl ∙ is

  tags_form : (tag : Tag) (vs : Values) (g : Ground) → Has w (TagV tag vs) g → form g ≡ Tags
  tags_form tag vs g h = value_form w sound (TagV tag vs) g h

  abbrev TypedKeys : Ground → Ground → Seens → Type 0
  TypedKeys key value NoSeen = Unit {0}
  TypedKeys key value (MoreSeen k NoSeen) = ⊥
  TypedKeys key value (MoreSeen k (MoreSeen x rest)) =
      ((u : Value) × Has w u key × (k ≡ see u)) × ((u : Value) × Has w u value × (x ≡ see u)) × TypedKeys key value rest

  abbrev FineKeys : Ground → Ground → Seens → Type 0
  FineKeys key value NoSeen = Unit {0}
  FineKeys key value (MoreSeen k NoSeen) = ⊥
  FineKeys key value (MoreSeen k (MoreSeen x rest)) =
      ((u : Value) → Has w u key → Fine (equal k (see u))) × ((u : Value) → Has w u value → Fine (equal x (see u))) × FineKeys key value rest

  none_equal : (ys : Seens) → Fine (equal_all NoSeen ys)
  none_equal NoSeen = tt
  none_equal (MoreSeen y ys) = tt

  equal_none : (xs : Seens) → Fine (equal_all xs NoSeen)
  equal_none NoSeen = tt
  equal_none (MoreSeen x xs) = tt

  keys_equal : (key value : Ground) (xs ys : Seens) → FineKeys key value xs → TypedKeys key value ys → Fine (equal_all xs ys)
  keys_equal key value NoSeen ys h k = none_equal ys
  keys_equal key value (MoreSeen x NoSeen) ys h k = absurd h
  keys_equal key value (MoreSeen x (MoreSeen y xs)) NoSeen h k = tt
  keys_equal key value (MoreSeen x (MoreSeen y xs)) (MoreSeen a NoSeen) h k = absurd k
  keys_equal key value (MoreSeen x (MoreSeen y xs)) (MoreSeen a (MoreSeen b ys)) h k =
      then_fine (equal x a) (λ same. if same then equal_all (MoreSeen y xs) (MoreSeen b ys) else Val false)
      (subst (λ z. Fine (equal x z)) (sym k.0.2) (h.0 k.0.0 k.0.1)) (λ same.
      if_fine same (equal_all (MoreSeen y xs) (MoreSeen b ys)) (Val false)
      (then_fine (equal y b) (λ again. if again then equal_all xs ys else Val false) (subst (λ z. Fine (equal y z)) (sym k.1.2) (h.1 k.1.0 k.1.1))
      (λ again. if_fine again (equal_all xs ys) (Val false) (keys_equal key value xs ys h.2 k.2) tt)) tt)

  mutual
    keys_typed : (v : Value) (g color key value : Ground) → form g ≡ Tags → AllBelow g → NodesAre g color key value → Has w v g → (others : Seens) → TypedKeys key value others
        → (out : Seens) × (entries v others ≡ Some out) × TypedKeys key value out
    keys_typed (TagV (Number (pos n)) vs) g color key value tags signs nodes h others typed = (others, refl, typed)
    keys_typed (TagV (Number (negsuc (suc n))) vs) g color key value tags signs nodes h others typed = (others, refl, typed)
    keys_typed (TagV (Number (negsuc zero)) vs) g color key value tags signs nodes h others typed =
        node_typed vs g color key value tags signs nodes (subst (HasEach w vs) (nodes vs h.0 (tag_made w sound (Number (negsuc zero)) vs h.0 g refl h.1) (each_count w vs h.0 h.2)) h.2) others typed
    keys_typed (TagV (Truth b) vs) g color key value tags signs nodes h others typed = not_both false (signs (Truth b) vs h.0 (tag_made w sound (Truth b) vs h.0 g refl h.1)) refl
    keys_typed (TagV Blank vs) g color key value tags signs nodes h others typed = not_both false (signs Blank vs h.0 (tag_made w sound Blank vs h.0 g refl h.1)) refl
    keys_typed (IntV n) g color key value tags signs nodes h others typed = absurd (let z : Tags ≡ Ints = sym tags ∙ value_form w sound (IntV n) g h in cc)
    keys_typed (TextV us) g color key value tags signs nodes h others typed = absurd (let z : Tags ≡ Texts = sym tags ∙ value_form w sound (TextV us) g h in cc)
    keys_typed (RecordV fs) g color key value tags signs nodes h others typed = absurd (let z : Tags ≡ Records = sym tags ∙ value_form w sound (RecordV fs) g h in cc)
    keys_typed (CloV env qs e) g color key value tags signs nodes h others typed = absurd (let z : Tags ≡ Calls = sym tags ∙ value_form w sound (CloV env qs e) g h in cc)
    keys_typed (KnownV f vs) g color key value tags signs nodes h others typed = absurd (let z : Tags ≡ Calls = sym tags ∙ value_form w sound (KnownV f vs) g h in cc)
    keys_typed (WireV wire) g color key value tags signs nodes h others typed = absurd (let z : Tags ≡ Calls = sym tags ∙ value_form w sound (WireV wire) g h in cc)

    node_typed : (vs : Values) (g color key value : Ground) → form g ≡ Tags → AllBelow g → NodesAre g color key value → HasEach w vs (color ∷ key ∷ value ∷ g ∷ g ∷ []) → (others : Seens)
        → TypedKeys key value others → (out : Seens) × (entries_in 0 vs others ≡ Some out) × TypedKeys key value out
    node_typed NoValue g color key value tags signs nodes h others typed = absurd h
    node_typed (MoreValue c NoValue) g color key value tags signs nodes h others typed = absurd h.1
    node_typed (MoreValue c (MoreValue k NoValue)) g color key value tags signs nodes h others typed = absurd h.1.1
    node_typed (MoreValue c (MoreValue k (MoreValue x NoValue))) g color key value tags signs nodes h others typed = absurd h.1.1.1
    node_typed (MoreValue c (MoreValue k (MoreValue x (MoreValue l NoValue)))) g color key value tags signs nodes h others typed = absurd h.1.1.1.1
    node_typed (MoreValue c (MoreValue k (MoreValue x (MoreValue l (MoreValue r (MoreValue y ys)))))) g color key value tags signs nodes h others typed = absurd h.1.1.1.1.1
    node_typed (MoreValue c (MoreValue k (MoreValue x (MoreValue l (MoreValue r NoValue))))) g color key value tags signs nodes h others typed =
        let right = keys_typed r g color key value tags signs nodes h.1.1.1.1.0 others typed in
        let left = keys_typed l g color key value tags signs nodes h.1.1.1.0 (MoreSeen (see k) (MoreSeen (see x) right.0)) ((k, h.1.0, refl), (x, h.1.1.0, refl), right.2) in
        (left.0, ap (option_and_then (λ after. entries l (MoreSeen (see k) (MoreSeen (see x) after)))) right.1 ∙ left.1, left.2)

  -- what is made by a constructor, with the types of its parts
  abbrev Built : Tag → Values → Ground → Type 0
  Built tag vs g = (parts : List Ground) × MadeBy w tag vs parts g × HasEach w vs parts

  has_made : (tag : Tag) (vs : Values) (g : Ground) → Built tag vs g → Has w (TagV tag vs) g
  has_made tag vs g h = (h.0, inl h.1, h.2)

  abbrev EqualFine : Value → Value → Type 0
  EqualFine v u = Fine (equal (see v) (see u))

  -- what a node has of itself and of those on its sides
  abbrev NodeFine : Values → Ground → Type 0
  NodeFine vs g =
      (color key value : Ground) → form g ≡ Tags → AllBelow g → NodesAre g color key value → HasEach w vs (color ∷ key ∷ value ∷ g ∷ g ∷ [])
      → (out : Seens) × (entries_in 0 vs NoSeen ≡ Some out) × FineKeys key value out

  tags_equal : (tag : Tag) (vs : Values) (other : Tag) (us : Values) (g : Ground) → Built tag vs g → Built other us g → is_negative tag ≡ false → is_negative other ≡ false
      → ((ts : List Ground) → HasEach w vs ts → HasEach w us ts → Fine (equal_all (see_all vs) (see_all us))) → EqualFine (TagV tag vs) (TagV other us)
  tags_equal tag vs other us g h k above above2 each =
      let n = each_count w vs h.0 h.2 in
      let o = each_count w us k.0 k.2 in
      let t = together w sound tag vs h.0 other us k.0 g h.1 k.1 n o in
      subst (λ x. Fine (equal x (see (TagV other us)))) (sym (see_tag tag vs above))
      (subst (λ y. Fine (equal (TagS tag (see_all vs)) y)) (sym (see_tag other us above2))
      (tags_fine tag other (see_all vs) (see_all us) (equal_all (see_all vs) (see_all us)) (Val false) t.kinds
      (λ s. let p = t.same s in (
        counts_seen vs us (n ∙ (ap length p ∙ sym o)),
        each h.0 h.2 (subst (λ ts. HasEach w us ts) (sym p) k.2),
      )) tt))

  -- dictionaries
  below_equal : (tag : Tag) (vs : Values) (other : Tag) (us : Values) (g : Ground) → Built tag vs g → Built other us g → is_negative tag ≡ true → is_negative other ≡ true → NodeFine vs g
      → EqualFine (TagV tag vs) (TagV other us)
  below_equal (Number (negsuc (suc n))) vs (Number (negsuc (suc m))) us g h k below below2 node = tt
  below_equal (Number (negsuc (suc n))) vs (Number (negsuc zero)) us g h k below below2 node =
      let p = node_parts w sound us k.0 g k.1 in
      let d = nodes_alike us k.0 g p.color p.key p.value k.1 (each_count w us k.0 k.2) p.is in
      let e = keys_typed (TagV (Number (negsuc zero)) us) g p.color p.key p.value (tags_form (Number (negsuc zero)) us g (has_made (Number (negsuc zero)) us g k)) (λ tag2 vs2 parts2 m. sym (same_signs w sound (Number (negsuc zero)) us k.0 tag2 vs2 parts2 g k.1 m)) d (has_made (Number (negsuc zero)) us g k) NoSeen tt in
      subst (λ o. Fine (equal (DictS NoSeen) (dict_or_odd o))) (sym e.1) (none_equal e.0)
  below_equal (Number (negsuc zero)) vs (Number (negsuc (suc m))) us g h k below below2 node =
      let p = node_parts w sound vs h.0 g h.1 in
      let d = nodes_alike vs h.0 g p.color p.key p.value h.1 (each_count w vs h.0 h.2) p.is in
      let e = keys_typed (TagV (Number (negsuc zero)) vs) g p.color p.key p.value (tags_form (Number (negsuc zero)) vs g (has_made (Number (negsuc zero)) vs g h)) (λ tag2 vs2 parts2 m2. sym (same_signs w sound (Number (negsuc zero)) vs h.0 tag2 vs2 parts2 g h.1 m2)) d (has_made (Number (negsuc zero)) vs g h) NoSeen tt in
      subst (λ o. Fine (equal (dict_or_odd o) (DictS NoSeen))) (sym e.1) (equal_none e.0)
  below_equal (Number (negsuc zero)) vs (Number (negsuc zero)) us g h k below below2 node =
      let p = node_parts w sound vs h.0 g h.1 in
      let d = nodes_alike vs h.0 g p.color p.key p.value h.1 (each_count w vs h.0 h.2) p.is in
      let signs : AllBelow g = λ tag2 vs2 parts2 m. sym (same_signs w sound (Number (negsuc zero)) vs h.0 tag2 vs2 parts2 g h.1 m) in
      let one = node p.color p.key p.value (tags_form (Number (negsuc zero)) vs g (has_made (Number (negsuc zero)) vs g h)) signs d (subst (HasEach w vs) p.is h.2) in
      let two = keys_typed (TagV (Number (negsuc zero)) us) g p.color p.key p.value (tags_form (Number (negsuc zero)) us g (has_made (Number (negsuc zero)) us g k)) signs d (has_made (Number (negsuc zero)) us g k) NoSeen tt in
      subst (λ o. Fine (equal (dict_or_odd o) (see (TagV (Number (negsuc zero)) us)))) (sym one.1)
      (subst (λ o. Fine (equal (DictS one.0) (dict_or_odd o))) (sym two.1) (keys_equal p.key p.value one.0 two.0 one.2 two.2))
  below_equal (Number (negsuc n)) vs (Number (pos m)) us g h k below below2 node = not_both false below2 refl
  below_equal (Number (negsuc n)) vs (Truth c) us g h k below below2 node = not_both false below2 refl
  below_equal (Number (negsuc n)) vs Blank us g h k below below2 node = not_both false below2 refl
  below_equal (Number (pos n)) vs other us g h k below below2 node = not_both false below refl
  below_equal (Truth b) vs other us g h k below below2 node = not_both false below refl
  below_equal Blank vs other us g h k below below2 node = not_both false below refl

  unlike_equal : (tag : Tag) (vs : Values) (other : Tag) (us : Values) (a b : Tag) → tag ≡ a → other ≡ b → is_negative a ≡ false → is_negative b ≡ false → same_tag a b ≡ false → same_kind a b ≡ true
      → EqualFine (TagV tag vs) (TagV other us)
  unlike_equal tag vs other us a b e f above above2 unlike kinds =
      subst (λ z. EqualFine (TagV z vs) (TagV other us)) (sym e) (subst (λ z. EqualFine (TagV a vs) (TagV z us)) (sym f)
      (subst (λ x. Fine (equal x (see (TagV b us)))) (sym (see_tag a vs above)) (subst (λ y. Fine (equal (TagS a (see_all vs)) y)) (sym (see_tag b us above2))
      (tags_fine a b (see_all vs) (see_all us) (equal_all (see_all vs) (see_all us)) (Val false) kinds (λ s. not_both (same_tag a b) s unlike) tt))))

  -- a command or a subscription that no port makes is a batch
  batch_tag : (tag : Tag) (vs : Values) (parts : List Ground) (g : Ground) → is_port_ground g ≡ true → MadeBy w tag vs parts g → tag ≡ Number (pos 1)
  batch_tag tag vs parts g port (inl m) = not_both (is_port_ground g) port (sym (ap is_port_ground m.is))
  batch_tag tag vs parts g port (inr (inl m)) = not_both (is_port_ground g) port (sym (ap is_port_ground m.is))
  batch_tag tag vs parts g port (inr (inr m)) = sym m.tag_is ∙ (ported_made w sound m.home m.name m.constructor_ (ap is_port_ground m.is ∙ port) m.among
      (λ e. not_both (is_port_tag m.home m.name tag) (and_both (is_ported m.home m.name) (same_tag tag (Number (pos 0))) (ap is_port_ground m.is ∙ port) (ap (λ z. same_tag z (Number (pos 0))) (sym m.tag_is ∙ e))) m.own)).tag_is

  -- commands, or subscriptions, of ports
  ports_equal : (tag : Tag) (vs : Values) (other : Tag) (us : Values) (g : Ground) (parts others : List Ground) → OfPort w tag vs parts g → OfPort w other us others g
      → HasEach w vs parts → HasEach w us others → Fine (equal_all (see_all vs) (see_all us)) → EqualFine (TagV tag vs) (TagV other us)
  ports_equal tag vs other us g parts others m n h k fine =
      subst (λ z. EqualFine (TagV z vs) (TagV other us)) (sym m.tag_is) (subst (λ z. EqualFine (TagV (Number (pos 0)) vs) (TagV z us)) (sym n.tag_is)
      (let xs = see_all vs in let ys = see_all us in
      let counted : same_count xs ys ≡ true = counts_seen vs us (each_count w vs parts h ∙ (ap length m.parts_are ∙ (sym (ap length n.parts_are) ∙ sym (each_count w us others k)))) in
      subst (λ b. Fine (if b then equal_all xs ys else Stuck)) (sym counted) fine))

  if_found : (b : Bool) (one : End Bool) → (b ≡ true → Fine one) → Fine (if b then one else Val false)
  if_found true one h = h refl
  if_found false one h = tt

  mutual
    pub equal_fine : (v u : Value) (g : Ground) → Has w v g → Has w u g → EqualFine v u
    equal_fine (IntV n) u g h k = (let r = int_value w sound u g (value_form w sound (IntV n) g h) k in subst (EqualFine (IntV n)) (sym r.1) tt)
    equal_fine (TextV us) u g h k = (let r = text_value w sound u g (value_form w sound (TextV us) g h) k in subst (EqualFine (TextV us)) (sym r.1) tt)
    equal_fine (TagV tag vs) u g h k =
        let r = tag_value w sound u g (value_form w sound (TagV tag vs) g h) k in
        let other = r.0 in
        let us = r.1 in
        let k2 : Has w (TagV other us) g = subst (λ z. Has w z g) r.2 k in
        subst (EqualFine (TagV tag vs)) (sym r.2) (elim h.1 [
          | inl m ↦ elim k2.1 [
            | inl n ↦ (let signs = same_signs w sound tag vs h.0 other us k2.0 g m n in elim (yes_or_no (is_negative tag)) [
              | inl below ↦ below_equal tag vs other us g (h.0, m, h.2) (k2.0, n, k2.2) below (sym signs ∙ below)
                  (λ color key value tags below2 nodes each. node_fine vs g color key value tags below2 nodes each NoSeen tt)
              | inr above ↦ tags_equal tag vs other us g (h.0, m, h.2) (k2.0, n, k2.2) above (sym signs ∙ above) (λ ts a b. each_equal vs us ts a b)
            ])
            | inr n ↦ unlike_equal tag vs other us (Number (pos 1)) (Number (pos 0)) (batch_tag tag vs h.0 g (port_ground w sound other us k2.0 g n) m) n.tag_is refl refl refl refl
          ]
          | inr m ↦ elim k2.1 [
            | inl n ↦ unlike_equal tag vs other us (Number (pos 0)) (Number (pos 1)) m.tag_is (batch_tag other us k2.0 g (port_ground w sound tag vs h.0 g m) n) refl refl refl refl
            | inr n ↦ ports_equal tag vs other us g h.0 k2.0 m n h.2 k2.2
                (carried_equal vs us m.port n.port m.carried n.carried m.rest n.rest m.begins n.begins (subst (HasEach w vs) m.parts_are h.2) (subst (HasEach w us) n.parts_are k2.2)
                (λ e. carried_same w sound m.port n.port m.carried n.carried g e m.carries n.carries))
          ]
        ])
    equal_fine (RecordV fs) u g h k =
        let r = record_value w sound u g (value_form w sound (RecordV fs) g h) k in
        let gs = r.0 in
        let k2 : Has w (RecordV gs) g = subst (λ z. Has w z g) r.1 k in
        let e : Record h.0 Closed ≡ Record k2.0 Closed = h.1 ∙ sym k2.1 in
        let same : h.0 ≡ k2.0 = cc in
        let k3 : HaveFields w gs h.0 = subst (λ ts. HaveFields w gs ts) (sym same) k2.2 in
        subst (EqualFine (RecordV fs)) (sym r.1)
        (subst (λ b. Fine (if b then equal_all (see_fields fs) (see_fields gs) else Stuck)) (sym (names_same fs gs h.0 h.2 k3)) (fields_equal fs gs h.0 h.2 k3))
    equal_fine (CloV env qs e) u g h k = tt
    equal_fine (KnownV f vs) u g h k = tt
    equal_fine (WireV wire) u g h k = sent_equal w sound wire u g h k

    -- the names of the ports decide, and of one port what is carried has one type
    carried_equal : (vs us : Values) (p q : List ℕ) (a b : Ground) (rest others : Values) → vs ≡ MoreValue (TextV p) rest → us ≡ MoreValue (TextV q) others
        → HasEach w vs (string_type ∷ a ∷ []) → HasEach w us (string_type ∷ b ∷ []) → (p ≡ q → a ≡ b) → Fine (equal_all (see_all vs) (see_all us))
    carried_equal NoValue us p q a b rest others e f h k same = absurd h
    carried_equal (MoreValue v vs) NoValue p q a b rest others e f h k same = absurd k
    carried_equal (MoreValue v vs) (MoreValue u us) p q a b rest others e f h k same =
        let v_is : v ≡ TextV p = cc in
        let u_is : u ≡ TextV q = cc in
        subst (λ z. Fine (then_do (equal (see z) (see u)) (λ same. if same then equal_all (see_all vs) (see_all us) else Val false))) (sym v_is)
        (subst (λ z. Fine (then_do (equal (see (TextV p)) (see z)) (λ same. if same then equal_all (see_all vs) (see_all us) else Val false))) (sym u_is)
        (if_found (bytes_eq p q) (equal_all (see_all vs) (see_all us)) (λ y.
        each_equal vs us (a ∷ []) h.1 (subst (λ z. HasEach w us (z ∷ [])) (sym (same ((bytes_eq-Decides p q).0 y))) k.1))))

    -- each key and each value is fine beside those of its type
    keys_fine : (v : Value) (g color key value : Ground) → form g ≡ Tags → AllBelow g → NodesAre g color key value → Has w v g → (others : Seens) → FineKeys key value others
        → (out : Seens) × (entries v others ≡ Some out) × FineKeys key value out
    keys_fine (TagV (Number (pos n)) vs) g color key value tags signs nodes h others fine = (others, refl, fine)
    keys_fine (TagV (Number (negsuc (suc n))) vs) g color key value tags signs nodes h others fine = (others, refl, fine)
    keys_fine (TagV (Number (negsuc zero)) vs) g color key value tags signs nodes h others fine =
        node_fine vs g color key value tags signs nodes (subst (HasEach w vs) (nodes vs h.0 (tag_made w sound (Number (negsuc zero)) vs h.0 g refl h.1) (each_count w vs h.0 h.2)) h.2) others fine
    keys_fine (TagV (Truth b) vs) g color key value tags signs nodes h others fine = not_both false (signs (Truth b) vs h.0 (tag_made w sound (Truth b) vs h.0 g refl h.1)) refl
    keys_fine (TagV Blank vs) g color key value tags signs nodes h others fine = not_both false (signs Blank vs h.0 (tag_made w sound Blank vs h.0 g refl h.1)) refl
    keys_fine (IntV n) g color key value tags signs nodes h others fine = absurd (let z : Tags ≡ Ints = sym tags ∙ value_form w sound (IntV n) g h in cc)
    keys_fine (TextV us) g color key value tags signs nodes h others fine = absurd (let z : Tags ≡ Texts = sym tags ∙ value_form w sound (TextV us) g h in cc)
    keys_fine (RecordV fs) g color key value tags signs nodes h others fine = absurd (let z : Tags ≡ Records = sym tags ∙ value_form w sound (RecordV fs) g h in cc)
    keys_fine (CloV env qs e) g color key value tags signs nodes h others fine = absurd (let z : Tags ≡ Calls = sym tags ∙ value_form w sound (CloV env qs e) g h in cc)
    keys_fine (KnownV f vs) g color key value tags signs nodes h others fine = absurd (let z : Tags ≡ Calls = sym tags ∙ value_form w sound (KnownV f vs) g h in cc)
    keys_fine (WireV wire) g color key value tags signs nodes h others fine = absurd (let z : Tags ≡ Calls = sym tags ∙ value_form w sound (WireV wire) g h in cc)

    node_fine : (vs : Values) (g color key value : Ground) → form g ≡ Tags → AllBelow g → NodesAre g color key value → HasEach w vs (color ∷ key ∷ value ∷ g ∷ g ∷ []) → (others : Seens)
        → FineKeys key value others → (out : Seens) × (entries_in 0 vs others ≡ Some out) × FineKeys key value out
    node_fine NoValue g color key value tags signs nodes h others fine = absurd h
    node_fine (MoreValue c NoValue) g color key value tags signs nodes h others fine = absurd h.1
    node_fine (MoreValue c (MoreValue k NoValue)) g color key value tags signs nodes h others fine = absurd h.1.1
    node_fine (MoreValue c (MoreValue k (MoreValue x NoValue))) g color key value tags signs nodes h others fine = absurd h.1.1.1
    node_fine (MoreValue c (MoreValue k (MoreValue x (MoreValue l NoValue)))) g color key value tags signs nodes h others fine = absurd h.1.1.1.1
    node_fine (MoreValue c (MoreValue k (MoreValue x (MoreValue l (MoreValue r (MoreValue y ys)))))) g color key value tags signs nodes h others fine = absurd h.1.1.1.1.1
    node_fine (MoreValue c (MoreValue k (MoreValue x (MoreValue l (MoreValue r NoValue))))) g color key value tags signs nodes h others fine =
        let right = keys_fine r g color key value tags signs nodes h.1.1.1.1.0 others fine in
        let left = keys_fine l g color key value tags signs nodes h.1.1.1.0 (MoreSeen (see k) (MoreSeen (see x) right.0))
        ((λ u m. equal_fine k u key h.1.0 m), (λ u m. equal_fine x u value h.1.1.0 m), right.2) in
        (left.0, ap (option_and_then (λ after. entries l (MoreSeen (see k) (MoreSeen (see x) after)))) right.1 ∙ left.1, left.2)

    each_equal : (vs us : Values) (ts : List Ground) → HasEach w vs ts → HasEach w us ts → Fine (equal_all (see_all vs) (see_all us))
    each_equal NoValue NoValue ts h k = tt
    each_equal NoValue (MoreValue u us) [] h k = absurd k
    each_equal NoValue (MoreValue u us) (t ∷ ts) h k = absurd h
    each_equal (MoreValue v vs) NoValue [] h k = absurd h
    each_equal (MoreValue v vs) NoValue (t ∷ ts) h k = absurd k
    each_equal (MoreValue v vs) (MoreValue u us) [] h k = absurd h
    each_equal (MoreValue v vs) (MoreValue u us) (t ∷ ts) h k =
        then_fine (equal (see v) (see u)) (λ same. if same then equal_all (see_all vs) (see_all us) else Val false) (equal_fine v u t h.0 k.0)
        (λ same. if_fine same (equal_all (see_all vs) (see_all us)) (Val false) (each_equal vs us ts h.1 k.1) tt)

    fields_equal : (fs gs : FieldValues) (ts : Fields Rigid) → HaveFields w fs ts → HaveFields w gs ts → Fine (equal_all (see_fields fs) (see_fields gs))
    fields_equal NoFieldV NoFieldV ts h k = tt
    fields_equal NoFieldV (MoreFieldV i u gs) NoField h k = absurd k
    fields_equal NoFieldV (MoreFieldV i u gs) (MoreField j t ts) h k = absurd h
    fields_equal (MoreFieldV i v fs) NoFieldV NoField h k = absurd h
    fields_equal (MoreFieldV i v fs) NoFieldV (MoreField j t ts) h k = absurd k
    fields_equal (MoreFieldV i v fs) (MoreFieldV l u gs) NoField h k = absurd h
    fields_equal (MoreFieldV i v fs) (MoreFieldV l u gs) (MoreField j t ts) h k =
        then_fine (equal (see v) (see u)) (λ same. if same then equal_all (see_fields fs) (see_fields gs) else Val false) (equal_fine v u t h.1 k.1)
        (λ same. if_fine same (equal_all (see_fields fs) (see_fields gs)) (Val false) (fields_equal fs gs ts h.2 k.2) tt)

  -- ---- order

  pub record Numbered (tag : Tag) (parts : List Ground) : Type 0 where
    pub number : ℕ
    pub is : tag ≡ Number (pos number)
    pub ordered : AllByRecursion Ordered parts

  ordered_parts : (tag : Tag) (vs : Values) (parts : List Ground) (g : Ground) → MadeBy w tag vs parts g → Ordered g → count_of vs ≡ length parts → Numbered tag parts
  ordered_parts tag vs parts g (inl m) o n = go parts m.is o n
    where
      go : (ts : List Ground) → tuple ts ≡ g → Ordered g → count_of vs ≡ length ts → Numbered tag ts
      go [] e q c = not_both (meets Comparable g) q (sym (ap (meets Comparable) e))
      go (t ∷ ts) e q c =
          let r : Ordered (tuple (t ∷ ts)) = subst Ordered (sym e) q in record {
            number = 0;
            is = m.tag_is ∙ ap (λ k. (tuple_alternative k).tag) c;
            ordered = all_ordered (t ∷ ts) (tuple_meets t ts r);
          }
  ordered_parts tag vs parts g (inr (inl m)) o n =
      let q : Ordered (list_type m.item) = subst Ordered (sym m.is) o in
      let item : Ordered m.item = and_left (meets Comparable m.item) true q in
      elim m.form [
        | inl a ↦ record { number = 0; is = a.0; ordered = subst (AllByRecursion Ordered) (sym a.1) tt }
        | inr a ↦ record { number = 1; is = a.0; ordered = subst (AllByRecursion Ordered) (sym a.1) (item, (q, tt)) }
      ]
  ordered_parts tag vs parts g (inr (inr m)) o n =
      let p = union_plain w sound m.home m.name m.constructor_ m.among in
      let h = head.Named m.home m.name in
      let k = count (substitute_all m.choice (types_of (variables_of m.constructor_.arguments))) in
      not_both (meets Comparable g) o (ap (meets Comparable) (sym m.is) ∙ never_comparable (is_int h) (is_char h) (is_string h) (is_list h) (nat_eq k 0) (nat_eq k 1) (not (nat_eq k 0)) _ p.int p.char p.string p.list)

  abbrev CompareFine : Value → Value → Type 0
  CompareFine v u = Fine (compare (see v) (see u))

  or_fine : (o : Ordering) (rest : End Ordering) → Fine rest → Fine (or_then o rest)
  or_fine Less rest h = tt
  or_fine Equal rest h = h
  or_fine Greater rest h = tt

  mutual
    pub compare_fine : (v u : Value) (g : Ground) → Ordered g → Has w v g → Has w u g → CompareFine v u
    compare_fine (IntV n) u g o h k = (let r = int_value w sound u g (value_form w sound (IntV n) g h) k in subst (CompareFine (IntV n)) (sym r.1) tt)
    compare_fine (TextV us) u g o h k = (let r = text_value w sound u g (value_form w sound (TextV us) g h) k in subst (CompareFine (TextV us)) (sym r.1) tt)
    compare_fine (TagV tag vs) u g o h k =
        let r = tag_value w sound u g (value_form w sound (TagV tag vs) g h) k in
        let other = r.0 in
        let us = r.1 in
        let k2 : Has w (TagV other us) g = subst (λ z. Has w z g) r.2 k in
        let n = each_count w vs h.0 h.2 in
        let m = each_count w us k2.0 k2.2 in
        let plain : is_port_ground g ≡ false = unported_order g o in
        let h_made = plain_made w sound tag vs h.0 g plain h.1 in
        let k_made = plain_made w sound other us k2.0 g plain k2.1 in
        let t = together w sound tag vs h.0 other us k2.0 g h_made k_made n m in
        let a = ordered_parts tag vs h.0 g h_made o n in
        let b = ordered_parts other us k2.0 g k_made o m in
        let by_number : Fine (compare (TagS (Number (pos a.number)) (see_all vs)) (TagS (Number (pos b.number)) (see_all us))) =
        tags_fine (Number (pos a.number)) (Number (pos b.number)) (see_all vs) (see_all us) (compare_all (see_all vs) (see_all us)) _ refl
        (λ s. let p = t.same (ap (λ z. same_tag z other) a.is ∙ (ap (same_tag (Number (pos a.number))) b.is ∙ s)) in (
          counts_seen vs us (n ∙ (ap length p ∙ sym m)),
          each_compare vs us h.0 a.ordered h.2 (subst (λ ts. HasEach w us ts) (sym p) k2.2),
        )) tt in
        subst (CompareFine (TagV tag vs)) (sym r.2)
        (subst (λ x. Fine (compare x (see (TagV other us)))) (sym (see_tag tag vs (ap is_negative a.is)))
        (subst (λ y. Fine (compare (TagS tag (see_all vs)) y)) (sym (see_tag other us (ap is_negative b.is)))
        (subst (λ z. Fine (compare (TagS z (see_all vs)) (TagS other (see_all us)))) (sym a.is)
        (subst (λ z. Fine (compare (TagS (Number (pos a.number)) (see_all vs)) (TagS z (see_all us)))) (sym b.is) by_number))))
    compare_fine (RecordV fs) u g o h k = not_both (meets Comparable g) o (ap (meets Comparable) (sym h.1) ∙ no_record Comparable h.0 refl refl)
    compare_fine (CloV env qs e) u g o h k = not_both (meets Comparable g) o (no_call g (value_form w sound (CloV env qs e) g h)).0
    compare_fine (KnownV f vs) u g o h k = not_both (meets Comparable g) o (no_call g (value_form w sound (KnownV f vs) g h)).0
    compare_fine (WireV wire) u g o h k = not_both (meets Comparable g) o (no_call g (value_form w sound (WireV wire) g h)).0

    each_compare : (vs us : Values) (ts : List Ground) → AllByRecursion Ordered ts → HasEach w vs ts → HasEach w us ts → Fine (compare_all (see_all vs) (see_all us))
    each_compare NoValue NoValue ts o h k = tt
    each_compare NoValue (MoreValue u us) [] o h k = absurd k
    each_compare NoValue (MoreValue u us) (t ∷ ts) o h k = absurd h
    each_compare (MoreValue v vs) NoValue [] o h k = absurd h
    each_compare (MoreValue v vs) NoValue (t ∷ ts) o h k = absurd k
    each_compare (MoreValue v vs) (MoreValue u us) [] o h k = absurd h
    each_compare (MoreValue v vs) (MoreValue u us) (t ∷ ts) o h k =
        then_fine (compare (see v) (see u)) (λ order. or_then order (compare_all (see_all vs) (see_all us))) (compare_fine v u t o.0 h.0 k.0)
        (λ order. or_fine order (compare_all (see_all vs) (see_all us)) (each_compare vs us ts o.1 h.1 k.1))

  -- ---- lists

  abbrev pub AllHave : Values → Ground → Type 0
  AllHave NoValue t = Unit {0}
  AllHave (MoreValue v vs) t = Has w v t × AllHave vs t

  pub record Listed (v : Value) (t : Ground) : Type 0 where
    pub values : Values
    pub is : items v ≡ Val values
    pub have : AllHave values t

  pub nil_has : (t : Ground) → Has w (TagV (Number (pos 0)) NoValue) (list_type t)
  nil_has t = ([], inl (inr (inl (record { item = t; is = refl; form = inl (refl, refl) }))), tt)

  pub cons_has : (v rest : Value) (t : Ground) → Has w v t → Has w rest (list_type t) → Has w (TagV (Number (pos 1)) (MoreValue v (MoreValue rest NoValue))) (list_type t)
  cons_has v rest t h k = (t ∷ list_type t ∷ [], inl (inr (inl (record { item = t; is = refl; form = inr (refl, refl) }))), (h, (k, tt)))

  pub before_has : (vs : Values) (rest : Value) (t : Ground) → AllHave vs t → Has w rest (list_type t) → Has w (list_before vs rest) (list_type t)
  before_has NoValue rest t h k = k
  before_has (MoreValue v vs) rest t h k = cons_has v (list_before vs rest) t h.0 (before_has vs rest t h.1 k)

  mutual
    pub listed : (v : Value) (t : Ground) → Has w v (list_type t) → Listed v t
    listed (TagV tag vs) t h = elim (list_made w sound tag vs h.0 t (plain_made w sound tag vs h.0 (list_type t) refl h.1)) [
      | inl a ↦ subst (λ z. Listed (TagV z vs) t) (sym a.0) (listed_nil vs t (subst (λ ts. HasEach w vs ts) a.1 h.2))
      | inr a ↦ subst (λ z. Listed (TagV z vs) t) (sym a.0) (listed_cons vs t (subst (λ ts. HasEach w vs ts) a.1 h.2))
    ]
    listed (IntV n) t h = absurd (let z : Tags ≡ Ints = value_form w sound (IntV n) (list_type t) h in cc)
    listed (TextV us) t h = absurd (let z : Tags ≡ Texts = value_form w sound (TextV us) (list_type t) h in cc)
    listed (RecordV fs) t h = absurd (let z : Tags ≡ Records = value_form w sound (RecordV fs) (list_type t) h in cc)
    listed (CloV env qs e) t h = absurd (let z : Tags ≡ Calls = value_form w sound (CloV env qs e) (list_type t) h in cc)
    listed (KnownV f vs) t h = absurd (let z : Tags ≡ Calls = value_form w sound (KnownV f vs) (list_type t) h in cc)
    listed (WireV wire) t h = absurd (let z : Tags ≡ Calls = value_form w sound (WireV wire) (list_type t) h in cc)

    listed_nil : (vs : Values) (t : Ground) → HasEach w vs [] → Listed (TagV (Number (pos 0)) vs) t
    listed_nil NoValue t h = record { values = NoValue; is = refl; have = tt }
    listed_nil (MoreValue v vs) t h = absurd h

    listed_cons : (vs : Values) (t : Ground) → HasEach w vs (t ∷ list_type t ∷ []) → Listed (TagV (Number (pos 1)) vs) t
    listed_cons NoValue t h = absurd h
    listed_cons (MoreValue v NoValue) t h = absurd h.1
    listed_cons (MoreValue v (MoreValue rest (MoreValue u us))) t h = absurd h.1.1
    listed_cons (MoreValue v (MoreValue rest NoValue)) t h =
        let r = listed rest t h.1.0 in
        record { values = MoreValue v r.values; is = ap (λ o. then_do o (λ vs. Val (MoreValue v vs))) r.is; have = (h.0, r.have) }

  -- ---- ++

  append_list : (v u : Value) (t : Ground) → Has w v (list_type t) → Has w u (list_type t) → EndsAs w (list_type t) (then_do (items v) (λ vs. Val (list_before vs u)))
  append_list v u t h k =
      let r = listed v t h in
      subst (λ o. EndsAs w (list_type t) (then_do o (λ vs. Val (list_before vs u)))) (sym r.is) (before_has r.values u t r.have k)

  pub append_well : (v u : Value) (g : Ground) → meets Appendable g ≡ true → Has w v g → Has w u g → EndsAs w g (append v u)
  append_well (IntV n) u g m h k = no_number g m h
  append_well (TextV us) u g m h k = (let r = text_value w sound u g (value_form w sound (TextV us) g h) k in subst (λ z. EndsAs w g (append (TextV us) z)) (sym r.1) h)
  append_well (TagV tag vs) u g m h k = elim h.1 [ inl a ↦ go a | inr a ↦ not_both (meets Appendable g) m (port_appends a) ]
    where
      port_appends : OfPort w tag vs h.0 g → meets Appendable g ≡ false
      port_appends a = elim a.carries [ inl s ↦ ap (meets Appendable) (sym s.is) | inr l ↦ ap (meets Appendable) (sym l.is) ]

      go : MadeBy w tag vs h.0 g → EndsAs w g (append (TagV tag vs) u)
      go (inl a) = not_both (meets Appendable g) m (ap (meets Appendable) (sym a.is))
      go (inr (inl a)) =
          subst (λ z. EndsAs w z (append (TagV tag vs) u)) a.is
          (append_list (TagV tag vs) u a.item (subst (λ z. Has w (TagV tag vs) z) (sym a.is) h) (subst (λ z. Has w u z) (sym a.is) k))
      go (inr (inr a)) =
          let p = union_plain w sound a.home a.name a.constructor_ a.among in
          let d = head.Named a.home a.name in
          not_both (meets Appendable g) m (ap (meets Appendable) (sym a.is) ∙ never_appendable (is_string d) (is_list d) _ _ _ p.string p.list)
  append_well (RecordV fs) u g m h k = not_both (meets Appendable g) m (ap (meets Appendable) (sym h.1) ∙ no_record Appendable h.0 refl refl)
  append_well (CloV env qs e) u g m h k = not_both (meets Appendable g) m (no_call g (value_form w sound (CloV env qs e) g h)).1
  append_well (KnownV f vs) u g m h k = not_both (meets Appendable g) m (no_call g (value_form w sound (KnownV f vs) g h)).1
  append_well (WireV wire) u g m h k = not_both (meets Appendable g) m (no_call g (value_form w sound (WireV wire) g h)).1
