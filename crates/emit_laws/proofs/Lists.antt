-- Lists and records on both sides.
use Rattle.std.proofs.Common.{◌≡◌, zero, suc, pos, List, [], ◌∷◌, Bool, true, false, refl, sym, ap, ◌∙◌, subst, arith, codes}
use Rattle.std.specs.Prelude.{if◌then◌else◌, ◌||◌, ◌&&◌, not}
use Rattle.std.specs.List.{list_any}
use Rattle.std.specs.Str.{bytes_eq}
use Rattle.std.proofs.lemmas.Slice.Eq.{bytes_eq-Decides}
use Rattle.runs.specs.Ends.{End, Val, Stuck, then_do}
use Rattle.emit_laws.specs.Records.{Rises, named_value}
use Rattle.emit_laws.proofs.Records.{records_hold, records_rise, updates_hold, updates_rise}
use Rattle.elm_canon.specs.Names.{Name, same_name}
use Rattle.elm_canon.specs.declared.unions.Tag.TheVariants.{Number}
use Rattle.elm_canon.specs.Spelled.{are_fields}
use Rattle.elm_meaning.specs.Values.{Value, TextV, TagV, RecordV, Values, NoValue, MoreValue, FieldValues, NoFieldV, MoreFieldV, has_field, insert_field, fields_of, field_in, replace_field, replace_fields, items, cons, nil, list_before, record_of}
use Rattle.elm_meaning.specs.Operate.{append}
use Rattle.js_meaning.specs.Values.{JVal, JNumV, JTextV, JObjV, JVals, NoJVal, MoreJVal, JFields, NoJField, MoreJField}
use Rattle.js_meaning.specs.Values as js
use Rattle.js_meaning.specs.Lists.{part_name, tagged, items_of, items_by, with_items, cons_value, nil_value, list_value}
use Rattle.js_meaning.specs.Lists as lists
use Rattle.js_meaning.specs.Helpers.{replace_in, update_in, update}
use Rattle.js_meaning.specs.Helpers as helpers
use Rattle.emit_laws.specs.For.{For, for_text, for_number, for_record, no_part, more_part, ForField, no_field, one_field, is_record}
use Rattle.emit_laws.proofs.Ends.{EndFor, both_give, any_stuck, end_then}
use Rattle.emit_laws.proofs.Constructs.{ForAll, for_none, for_more}
use Rattle.emit_laws.proofs.Objects.{named, next_field, word_is_not}
use Rattle.emit_laws.proofs.Sights.{part_is, FirstField, first_field}

-- ---- lists

-- the object of first and rest, by the names of its parts
pub cons_is : (v w : JVal) → cons_value v w ≡ tagged (pos 1) (MoreJField (part_name 0) v (MoreJField (part_name 1) w NoJField))
cons_is v w =
    ap (λ k. tagged (pos 1) (MoreJField k v (MoreJField (codes "a1") w NoJField))) (sym (part_is 0 (omega arith)))
    ∙ ap (λ k. tagged (pos 1) (MoreJField (part_name 0) v (MoreJField k w NoJField))) (sym (part_is 1 (omega arith)))

pub for_nil_list : For nil nil_value
for_nil_list = for_number (omega arith) no_part

pub for_cons : {v vs : Value} {w ws : JVal} → For v w → For vs ws → For (cons v vs) (cons_value w ws)
for_cons {v} {vs} {w} {ws} r rs = subst (λ z. For (cons v vs) z) (sym (cons_is w ws)) (for_number (omega arith) (more_part r (more_part rs no_part)))

pub for_list : {vs : Values} {ws : JVals} {rest : Value} {more : JVal} → ForAll vs ws → For rest more → For (list_before vs rest) (lists.list_before ws more)
for_list for_none r = r
for_list (for_more q qs) r = for_cons q (for_list qs r)

pub items_same : (v : Value) (w : JVal) → For v w → EndFor ForAll (items v) (items_of w)
items_same (TagV (Number (pos zero)) NoValue) w (for_number few no_part) = both_give for_none
items_same (TagV (Number (pos (suc zero))) (MoreValue v (MoreValue rest NoValue))) w (for_number few (more_part {w = a} ra (more_part {w = b} rb no_part))) =
    subst (λ z. EndFor ForAll (then_do (items rest) (λ vs. Val (MoreValue v vs))) (items_of z)) (cons_is a b)
    (end_then (λ vs. Val (MoreValue v vs)) (λ vs. Val (MoreJVal a vs)) (items_same rest b rb) (λ vs ws rs. both_give (for_more ra rs)))
items_same _ w r = any_stuck

-- a text or a list before another
pub append_same : (v x : Value) (w y : JVal) → For v w → For x y → EndFor For (append v x) (helpers.append w y)
append_same (TextV s) (TextV t) w y for_text for_text = both_give for_text
append_same (TextV s) _ w y for_text q = any_stuck
append_same (TagV (Number k) vs) x w y (for_number {ws} few ps) q =
    end_then (λ vs. Val (list_before vs x)) (λ vs. Val (lists.list_before vs y)) (items_same (TagV (Number k) vs) (tagged k ws) (for_number few ps)) (λ vs ws rs. both_give (for_list rs q))
append_same _ x w y r q = any_stuck

-- ---- records

is_new : (k : Name) (ks : List Name) (ws : JVals) → list_any (same_name k) ks ≡ false → js.has_field k (named ks ws) ≡ false
is_new k [] ws e = refl
is_new k (j ∷ ks) NoJVal e = refl
is_new k (j ∷ ks) (MoreJVal w ws) e = go (same_name k j) e (is_new k ks ws)
  where
    go : (t : Bool) → (t || list_any (same_name k) ks) ≡ false → (list_any (same_name k) ks ≡ false → js.has_field k (named ks ws) ≡ false) → (t || js.has_field k (named ks ws)) ≡ false
    go true e rec = absurd (cc)
    go false e rec = rec e

pub all_three : (a b c : Bool) → a ≡ false → b ≡ false → c ≡ true → (not a && (not b && c)) ≡ true
all_three true b c e f g = absurd (cc)
all_three false true c e f g = absurd (cc)
all_three false false c e f g = g

named_record : (ks : List Name) (ws : JVals) → are_fields ks ≡ true → is_record (named ks ws) ≡ true
named_record [] ws e = refl
named_record (k ∷ ks) NoJVal e = refl
named_record (k ∷ ks) (MoreJVal w ws) e =
    let n = next_field k ks e in
    all_three (bytes_eq k (codes "$")) (js.has_field k (named ks ws)) (is_record (named ks ws)) (word_is_not k (codes "$") n.word refl) (is_new k ks ws n.new) (named_record ks ws n.rest)

named_found : {vs : Values} {ws : JVals} (k : Name) (ks : List Name) → ForAll vs ws → ForField (named_value k ks vs) (js.field_in k (named ks ws))
named_found k [] for_none = no_field
named_found k [] (for_more r rs) = no_field
named_found k (j ∷ ks) for_none = no_field
named_found k (j ∷ ks) (for_more {v} {w} {vs} {ws} r rs) = go (same_name k j) (named_found k ks rs)
  where
    go : (t : Bool) → ForField (named_value k ks vs) (js.field_in k (named ks ws)) → ForField (if t then Val v else named_value k ks vs) (if t then Val w else js.field_in k (named ks ws))
    go true rec = one_field r
    go false rec = rec

-- a value, or no rule
pub data Only {A : Type 0} : End A → Type 0 where
  only_value : {a : A} → Only (Val a)
  only_stuck : Only Stuck

only_then : {A B : Type 0} {o : End A} (f : A → End B) → Only o → ((a : A) → Only (f a)) → Only (then_do o f)
only_then f (only_value {a}) next = next a
only_then f only_stuck next = only_stuck

only_fields : (ks : List Name) (vs : Values) → Only (fields_of ks vs)
only_fields [] NoValue = only_value
only_fields [] (MoreValue v vs) = only_stuck
only_fields (k ∷ ks) NoValue = only_stuck
only_fields (k ∷ ks) (MoreValue v vs) = only_then _ (only_fields ks vs) (λ fs. go fs (has_field k fs))
  where
    go : (fs : FieldValues) (t : Bool) → Only (if t then Stuck else Val (insert_field k v fs))
    go fs true = only_stuck
    go fs false = only_value

only_replaced : (k : Name) (v : Value) (fs : FieldValues) → Only (replace_field k v fs)
only_replaced k v NoFieldV = only_stuck
only_replaced k v (MoreFieldV i w fs) = go (same_name k i) (only_replaced k v fs)
  where
    go : (t : Bool) → Only (replace_field k v fs) → Only (if t then Val (MoreFieldV i v fs) else then_do (replace_field k v fs) (λ gs. Val (MoreFieldV i w gs)))
    go true o = only_value
    go false o = only_then _ o (λ gs. only_value)

-- the record of these names with their values
pub record_same : {vs : Values} {ws : JVals} (ks : List Name) → are_fields ks ≡ true → ForAll vs ws → EndFor For (record_of ks vs) (Val (JObjV (named ks ws)))
record_same {vs} {ws} ks fields r = go (only_fields ks vs) refl
  where
    go : {o : End FieldValues} → Only o → fields_of ks vs ≡ o → EndFor For (then_do o (λ fs. Val (RecordV fs))) (Val (JObjV (named ks ws)))
    go (only_value {a = fs}) e = both_give (for_record (records_rise ks vs fs e) (named_record ks ws fields) (λ k. subst (λ o. ForField o (js.field_in k (named ks ws))) (sym (records_hold ks vs fs e k)) (named_found k ks r)))
    go only_stuck e = any_stuck

-- ---- fields with other values

turned : (i j : Name) → bytes_eq i j ≡ false → bytes_eq j i ≡ false
turned i j e = go (bytes_eq j i) refl
  where
    go : (t : Bool) → bytes_eq j i ≡ t → t ≡ false
    go true f = let g = (bytes_eq-Decides i j).1 (sym ((bytes_eq-Decides j i).0 f)) in absurd (cc)
    go false f = refl

replaced_found : (j k : Name) (w : JVal) (gs : JFields) → js.field_in j (replace_in gs k w) ≡ (if bytes_eq j k then Val w else js.field_in j gs)
replaced_found j k w NoJField = refl
replaced_found j k w (MoreJField i u gs) = go (bytes_eq k i) refl (replaced_found j k w gs)
  where
    same : (a b : Bool) → bytes_eq j i ≡ a → bytes_eq j k ≡ b → k ≡ i → (if a then Val w else js.field_in j gs) ≡ (if b then Val w else (if a then Val u else js.field_in j gs))
    same true true e f g = refl
    same false false e f g = refl
    same true false e f g = let h = sym e ∙ ap (λ z. bytes_eq j z) (sym g) ∙ f in absurd (cc)
    same false true e f g = let h = sym e ∙ ap (λ z. bytes_eq j z) (sym g) ∙ f in absurd (cc)

    other : (a b : Bool) → bytes_eq j i ≡ a → bytes_eq j k ≡ b → bytes_eq k i ≡ false → (if a then Val u else (if b then Val w else js.field_in j gs)) ≡ (if b then Val w else (if a then Val u else js.field_in j gs))
    other true true e f g = let h = (bytes_eq-Decides k i).1 (sym ((bytes_eq-Decides j k).0 f) ∙ (bytes_eq-Decides j i).0 e) in absurd (cc)
    other true false e f g = refl
    other false true e f g = refl
    other false false e f g = refl

    go : (t : Bool) → bytes_eq k i ≡ t → js.field_in j (replace_in gs k w) ≡ (if bytes_eq j k then Val w else js.field_in j gs) → js.field_in j (if t then MoreJField i w gs else MoreJField i u (replace_in gs k w)) ≡ (if bytes_eq j k then Val w else (if bytes_eq j i then Val u else js.field_in j gs))
    go true e rec = same (bytes_eq j i) (bytes_eq j k) refl refl ((bytes_eq-Decides k i).0 e)
    go false e rec = ap (λ o. if bytes_eq j i then Val u else o) rec ∙ other (bytes_eq j i) (bytes_eq j k) refl refl e

replaced_has : (i k : Name) (w : JVal) (gs : JFields) → bytes_eq i k ≡ false → js.has_field i (replace_in gs k w) ≡ js.has_field i gs
replaced_has i k w NoJField e = ap (λ b. b || false) e
replaced_has i k w (MoreJField j u gs) e = go (bytes_eq k j) (replaced_has i k w gs e)
  where
    go : (t : Bool) → js.has_field i (replace_in gs k w) ≡ js.has_field i gs → js.has_field i (if t then MoreJField j w gs else MoreJField j u (replace_in gs k w)) ≡ (bytes_eq i j || js.has_field i gs)
    go true rec = refl
    go false rec = ap (λ b. bytes_eq i j || b) rec

replaced_record : (k : Name) (w : JVal) (gs : JFields) → bytes_eq k (codes "$") ≡ false → is_record gs ≡ true → is_record (replace_in gs k w) ≡ true
replaced_record k w NoJField tagless e = all_three (bytes_eq k (codes "$")) false true tagless refl refl
replaced_record k w (MoreJField i u gs) tagless e = go (bytes_eq k i) refl (first_field i u gs e) (replaced_record k w gs tagless)
  where
    go : (t : Bool) → bytes_eq k i ≡ t → FirstField i u gs → (is_record gs ≡ true → is_record (replace_in gs k w) ≡ true) → is_record (if t then MoreJField i w gs else MoreJField i u (replace_in gs k w)) ≡ true
    go true f first rec = all_three (bytes_eq i (codes "$")) (js.has_field i gs) (is_record gs) first.no_tag first.new first.rest
    go false f first rec = all_three (bytes_eq i (codes "$")) (js.has_field i (replace_in gs k w)) (is_record (replace_in gs k w)) first.no_tag (replaced_has i k w gs (turned k i f) ∙ first.new) (rec first.rest)

pub record RecordFor (fs : FieldValues) (gs : JFields) : Type 0 where
  pub rises : Rises fs
  pub is : is_record gs ≡ true
  pub found : (k : Name) → ForField (field_in k fs) (js.field_in k gs)

updates_same : {vs : Values} {ws : JVals} (ks : List Name) (fs : FieldValues) (gs : JFields) → are_fields ks ≡ true → ForAll vs ws → RecordFor fs gs → EndFor RecordFor (replace_fields ks vs fs) (Val (update_in gs (named ks ws)))
updates_same [] fs gs fields for_none r = both_give r
updates_same [] fs gs fields (for_more q qs) r = any_stuck
updates_same (k ∷ ks) fs gs fields for_none r = any_stuck
updates_same (k ∷ ks) fs gs fields (for_more {v} {w} {vs} {ws} q qs) r =
    let n = next_field k ks fields in
    let tagless = word_is_not k (codes "$") n.word refl in
    go (only_replaced k v fs) refl (λ fs2 e. updates_same ks fs2 (replace_in gs k w) n.rest qs (record {
      rises = updates_rise k v fs fs2 r.rises e;
      is = replaced_record k w gs tagless r.is;
      found = λ j. subst (λ o. ForField o (js.field_in j (replace_in gs k w))) (sym (updates_hold k v fs fs2 e j)) (subst (λ p. ForField (if same_name j k then Val v else field_in j fs) p) (sym (replaced_found j k w gs)) (one j (same_name j k) (r.found j)));
    }))
  where
    one : (j : Name) (t : Bool) → ForField (field_in j fs) (js.field_in j gs) → ForField (if t then Val v else field_in j fs) (if t then Val w else js.field_in j gs)
    one j true f = one_field q
    one j false f = f

    go : {o : End FieldValues} → Only o → replace_field k v fs ≡ o → ((fs2 : FieldValues) → replace_field k v fs ≡ Val fs2 → EndFor RecordFor (replace_fields ks vs fs2) (Val (update_in (replace_in gs k w) (named ks ws)))) → EndFor RecordFor (then_do o (λ fs2. replace_fields ks vs fs2)) (Val (update_in (replace_in gs k w) (named ks ws)))
    go (only_value {a}) e rec = rec a e
    go only_stuck e rec = any_stuck

-- a record with some of its fields changed
pub update_same : {vs : Values} {ws : JVals} {fs : FieldValues} {a : JVal} (ks : List Name) → are_fields ks ≡ true → For (RecordV fs) a → ForAll vs ws → EndFor For (then_do (replace_fields ks vs fs) (λ gs. Val (RecordV gs))) (update a (JObjV (named ks ws)))
update_same {ws} {fs} ks fields (for_record {gs} rises is found) q =
    end_then (λ hs. Val (RecordV hs)) (λ hs. Val (JObjV hs)) (updates_same ks fs gs fields q (record { rises = rises; is = is; found = found })) (λ a b r. both_give (for_record r.rises r.is r.found))
