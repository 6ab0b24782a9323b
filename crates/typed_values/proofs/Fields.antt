-- Records and their types: fields that are found, put in and replaced.
use Rattle.std.proofs.Common.{◌≡◌, suc, List, [], ◌∷◌, length, Bool, true, false, cond, Some, None, refl, sym, ap, ◌∙◌, subst, arith}
use Rattle.std.specs.Prelude.{if◌then◌else◌, ◌&&◌, ◌||◌, not, nat_lt, ◌==◌}
use Rattle.std.specs.List.{zip, list_any}
use Rattle.std.specs.Str.{bytes_eq}
use Rattle.std.specs.declared.cmp.Ordering.{Ordering}
use Rattle.std.specs.declared.cmp.Ordering.TheVariants.{Less, Equal, Greater}
use Rattle.std.specs.Ordering.{nat_cmp, is_lt, ordering_then}
use Rattle.std.specs.Cmp.Lexicographic.{slice_cmp}
use Rattle.std.proofs.lemmas.Slice.Eq.{bytes_eq-Decides}
use Rattle.runs.specs.Ends.{End, Val, Stuck, then_do}
use Rattle.runs.specs.Texts.{units_lt}
use Rattle.elm_canon.specs.Names.{Name, same_name}
use Rattle.elm_canon.specs.Spelled.{is_word, are_fields}
use Rattle.elm_meaning.specs.Values.{Value, Values, NoValue, MoreValue, FieldValues, NoFieldV, MoreFieldV, insert_field, field_in, fields_of, replace_field, replace_fields}
use Rattle.elm_meaning.specs.Values as values
use Rattle.elm_type.specs.Types.{Fields, NoField, MoreField, Closed, Record, Rigid}
use Rattle.elm_type.specs.Classes.{Ground}
use Rattle.elm_type.specs.Rows.{name_lt, field_type, has_field, insert_all, sorted}
use Rattle.elm_type.specs.Rows as rows
use Rattle.elm_type.specs.Ground.{lacks, lacks_all}
use Rattle.typed_values.specs.World.{World}
use Rattle.typed_values.specs.Typed.{Has, HasEach, HaveFields}
use Rattle.typed_values.proofs.Names.{not_both, not_or, or_not}
use Rattle.typed_values.proofs.Keeping.{and_left, and_right}
use Rattle.typed_values.proofs.Rows.{insert_after, insert_before, insert_all_insert, has_inserted}

lt_step : (a b : Bool) (r : Ordering) → (a || (b && is_lt r)) ≡ is_lt (ordering_then (cond a Less (cond b Equal Greater)) r)
lt_step true b r = refl
lt_step false true r = refl
lt_step false false r = refl

-- the order of names in values is that in types
lt_by_order : (s t : Name) → units_lt s t ≡ name_lt s t
lt_by_order [] [] = refl
lt_by_order (u ∷ us) [] = refl
lt_by_order [] (v ∷ vs) = refl
lt_by_order (u ∷ us) (v ∷ vs) = ap (λ b. nat_lt u v || (u == v && b)) (lt_by_order us vs) ∙ lt_step (nat_lt u v) (u == v) (slice_cmp nat_cmp us vs)

pub turned : (x y : Name) → bytes_eq x y ≡ false → bytes_eq y x ≡ false
turned x y e = go (bytes_eq y x) refl
  where
    go : (b : Bool) → bytes_eq y x ≡ b → b ≡ false
    go false q = refl
    go true q = not_both (bytes_eq x y) ((bytes_eq-Decides x y).1 (sym ((bytes_eq-Decides y x).0 q))) e

name_itself : (x : Name) → bytes_eq x x ≡ true
name_itself x = (bytes_eq-Decides x x).1 refl

-- ---- types of fields

abbrev pub TypeOf : Name → Fields Rigid → Ground → Type 0
TypeOf x fs t = field_type x fs ≡ Some t

pub type_inserted : (x : Name) (t : Ground) (fs : Fields Rigid) → has_field x fs ≡ false → TypeOf x (rows.insert_field x t fs) t
type_inserted x t NoField n = ap (λ b. if b then Some t else None) (name_itself x)
type_inserted x t (MoreField j u fs) n =
    let o = not_or (bytes_eq x j) (has_field x fs) n in
    go (type_inserted x t fs o.1) (name_lt j x) refl o.0
  where
    go : TypeOf x (rows.insert_field x t fs) t → (b : Bool) → name_lt j x ≡ b → bytes_eq x j ≡ false → TypeOf x (rows.insert_field x t (MoreField j u fs)) t
    go again true e d =
        ap (field_type x) (insert_after x j t u fs e) ∙ (ap (λ b. if b then Some u else field_type x (rows.insert_field x t fs)) d ∙ again)
    go again false e d =
        ap (field_type x) (insert_before x j t u fs e) ∙ ap (λ b. if b then Some t else field_type x (MoreField j u fs)) (name_itself x)

pub type_other : (x k : Name) (t : Ground) (fs : Fields Rigid) → bytes_eq x k ≡ false → field_type x (rows.insert_field k t fs) ≡ field_type x fs
type_other x k t NoField d = ap (λ b. if b then Some t else None) d
type_other x k t (MoreField j u fs) d = go (type_other x k t fs d) (name_lt j k) refl
  where
    go : field_type x (rows.insert_field k t fs) ≡ field_type x fs → (b : Bool) → name_lt j k ≡ b → field_type x (rows.insert_field k t (MoreField j u fs)) ≡ field_type x (MoreField j u fs)
    go again true e = ap (field_type x) (insert_after k j t u fs e) ∙ ap (λ o. if bytes_eq x j then Some u else o) again
    go again false e = ap (field_type x) (insert_before k j t u fs e) ∙ ap (λ b. if b then Some t else field_type x (MoreField j u fs)) d

-- fields more, one by one
abbrev pub onto : List Name → List Ground → Fields Rigid → Fields Rigid
onto xs ts gs = insert_all (sorted (zip xs ts)) gs

pub onto_more : (x : Name) (t : Ground) (xs : List Name) (ts : List Ground) (gs : Fields Rigid) → onto (x ∷ xs) (t ∷ ts) gs ≡ rows.insert_field x t (onto xs ts gs)
onto_more x t xs ts gs = insert_all_insert x t (sorted (zip xs ts)) gs

-- no field of that name
has_none : (x : Name) (xs : List Name) (ts : List Ground) (gs : Fields Rigid) → list_any (same_name x) xs ≡ false → has_field x gs ≡ false → has_field x (onto xs ts gs) ≡ false
has_none x [] ts gs n h = h
has_none x (y ∷ ys) [] gs n h = h
has_none x (y ∷ ys) (t ∷ ts) gs n h =
    let o = not_or (same_name x y) (list_any (same_name x) ys) n in
    ap (has_field x) (onto_more y t ys ts gs) ∙ (has_inserted x y t (onto ys ts gs) ∙ or_not (bytes_eq x y) (has_field x (onto ys ts gs)) o.0 (has_none x ys ts gs o.1 h))

-- the fields have these types
abbrev pub TypedAt : List Name → List Ground → Fields Rigid → Type 0
TypedAt [] [] fs = Unit {0}
TypedAt [] (t ∷ ts) fs = ⊥
TypedAt (x ∷ xs) [] fs = ⊥
TypedAt (x ∷ xs) (t ∷ ts) fs = TypeOf x fs t × TypedAt xs ts fs

typed_more : (x : Name) (t : Ground) (ys : List Name) (us : List Ground) (fs : Fields Rigid) → list_any (same_name x) ys ≡ false → TypedAt ys us fs → TypedAt ys us (rows.insert_field x t fs)
typed_more x t [] [] fs n h = tt
typed_more x t [] (u ∷ us) fs n h = absurd h
typed_more x t (y ∷ ys) [] fs n h = absurd h
typed_more x t (y ∷ ys) (u ∷ us) fs n h =
    let o = not_or (same_name x y) (list_any (same_name x) ys) n in
    (type_other y x t fs (turned x y o.0) ∙ h.0, typed_more x t ys us fs o.1 h.1)

pub not_true : (b : Bool) → not b ≡ true → b ≡ false
not_true true e = not_both false e refl
not_true false e = refl

pub onto_typed : (xs : List Name) (ts : List Ground) (gs : Fields Rigid) → are_fields xs ≡ true → length ts ≡ length xs → lacks_all xs (Record gs Closed) ≡ true → TypedAt xs ts (onto xs ts gs)
onto_typed [] [] gs proper n l = tt
onto_typed [] (t ∷ ts) gs proper n l = absurd (let e : suc (length ts) ≡ 0 = n in omega arith)
onto_typed (x ∷ xs) [] gs proper n l = absurd (let e : 0 ≡ suc (length xs) = n in omega arith)
onto_typed (x ∷ xs) (t ∷ ts) gs proper n l =
    let m : length ts ≡ length xs = (let e : suc (length ts) ≡ suc (length xs) = n in omega arith) in
    let p = and_right (is_word x) (not (list_any (same_name x) xs) && are_fields xs) proper in
    let new = not_true (list_any (same_name x) xs) (and_left (not (list_any (same_name x) xs)) (are_fields xs) p) in
    let l0 = and_left (lacks x (Record gs Closed)) (lacks_all xs (Record gs Closed)) l in
    let none = not_true (has_field x gs) (and_left (not (has_field x gs)) true l0) in
    let again = onto_typed xs ts gs (and_right (not (list_any (same_name x) xs)) (are_fields xs) p) m (and_right (lacks x (Record gs Closed)) (lacks_all xs (Record gs Closed)) l) in
    subst (TypedAt (x ∷ xs) (t ∷ ts)) (sym (onto_more x t xs ts gs))
    (type_inserted x t (onto xs ts gs) (has_none x xs ts gs new none), typed_more x t xs ts (onto xs ts gs) new again)

-- ---- values

module _ (w : World) where
  pub record Found (k : Name) (fs : FieldValues) (t : Ground) : Type 0 where
    pub value : Value
    pub is : field_in k fs ≡ Val value
    pub has : Has w value t

  pub field_found : (k : Name) (fs : FieldValues) (ts : Fields Rigid) (t : Ground) → HaveFields w fs ts → TypeOf k ts t → Found k fs t
  field_found k NoFieldV NoField t h e = absurd (cc)
  field_found k NoFieldV (MoreField j u ts) t h e = absurd h
  field_found k (MoreFieldV i v fs) NoField t h e = absurd h
  field_found k (MoreFieldV i v fs) (MoreField j u ts) t h e = go (bytes_eq k j) refl (field_found k fs ts t h.2) e
    where
      same : (b : Bool) → bytes_eq k j ≡ b → same_name k i ≡ b
      same b q = ap (same_name k) h.0 ∙ q

      go : (b : Bool) → bytes_eq k j ≡ b → (TypeOf k ts t → Found k fs t) → (if b then Some u else field_type k ts) ≡ Some t → Found k (MoreFieldV i v fs) t
      go true q again r = (let m : u ≡ t = cc in record {
        value = v;
        is = ap (λ b. if b then Val v else field_in k fs) (same true q);
        has = subst (λ x. Has w v x) m h.1;
      })
      go false q again r = (let o = again r in record {
        value = o.value;
        is = ap (λ b. if b then Val v else field_in k fs) (same false q) ∙ o.is;
        has = o.has;
      })

  pub record Replaced (end : End FieldValues) (ts : Fields Rigid) : Type 0 where
    pub fields : FieldValues
    pub is : end ≡ Val fields
    pub have : HaveFields w fields ts

  replaced_one : (k : Name) (v : Value) (fs : FieldValues) (ts : Fields Rigid) (t : Ground) → HaveFields w fs ts → TypeOf k ts t → Has w v t → Replaced (replace_field k v fs) ts
  replaced_one k v NoFieldV NoField t h e has = absurd (cc)
  replaced_one k v NoFieldV (MoreField j u ts) t h e has = absurd h
  replaced_one k v (MoreFieldV i x fs) NoField t h e has = absurd h
  replaced_one k v (MoreFieldV i x fs) (MoreField j u ts) t h e has = go (bytes_eq k j) refl (λ q. replaced_one k v fs ts t h.2 q has) e
    where
      same : (b : Bool) → bytes_eq k j ≡ b → same_name k i ≡ b
      same b q = ap (same_name k) h.0 ∙ q

      go : (b : Bool) → bytes_eq k j ≡ b → (TypeOf k ts t → Replaced (replace_field k v fs) ts) → (if b then Some u else field_type k ts) ≡ Some t → Replaced (replace_field k v (MoreFieldV i x fs)) (MoreField j u ts)
      go true q again r = (let m : u ≡ t = cc in record {
        fields = MoreFieldV i v fs;
        is = ap (λ b. if b then Val (MoreFieldV i v fs) else then_do (replace_field k v fs) (λ gs. Val (MoreFieldV i x gs))) (same true q);
        have = (h.0, subst (λ y. Has w v y) (sym m) has, h.2);
      })
      go false q again r = (let o = again r in record {
        fields = MoreFieldV i x o.fields;
        is = ap (λ b. if b then Val (MoreFieldV i v fs) else then_do (replace_field k v fs) (λ gs. Val (MoreFieldV i x gs))) (same false q) ∙ ap (λ end. then_do end (λ gs. Val (MoreFieldV i x gs))) o.is;
        have = (h.0, h.1, o.have);
      })

  pub replaced : (ks : List Name) (ts : List Ground) (vs : Values) (fs : FieldValues) (whole : Fields Rigid) → TypedAt ks ts whole → HasEach w vs ts → HaveFields w fs whole → Replaced (replace_fields ks vs fs) whole
  replaced [] [] NoValue fs whole typed each have = record { fields = fs; is = refl; have = have }
  replaced [] [] (MoreValue v vs) fs whole typed each have = absurd each
  replaced [] (t ∷ ts) vs fs whole typed each have = absurd typed
  replaced (k ∷ ks) [] vs fs whole typed each have = absurd typed
  replaced (k ∷ ks) (t ∷ ts) NoValue fs whole typed each have = absurd each
  replaced (k ∷ ks) (t ∷ ts) (MoreValue v vs) fs whole typed each have =
      let one = replaced_one k v fs whole t have typed.0 each.0 in
      let rest = replaced ks ts vs one.fields whole typed.1 each.1 one.have in
      record { fields = rest.fields; is = ap (λ end. then_do end (λ gs. replace_fields ks vs gs)) one.is ∙ rest.is; have = rest.have }

  -- ---- records that are made

  pub inserted : (k : Name) (v : Value) (t : Ground) (fs : FieldValues) (ts : Fields Rigid) → HaveFields w fs ts → Has w v t → HaveFields w (insert_field k v fs) (rows.insert_field k t ts)
  inserted k v t NoFieldV NoField h has = (refl, has, tt)
  inserted k v t NoFieldV (MoreField j u ts) h has = absurd h
  inserted k v t (MoreFieldV i x fs) NoField h has = absurd h
  inserted k v t (MoreFieldV i x fs) (MoreField j u ts) h has = go (inserted k v t fs ts h.2 has) (name_lt j k) refl
    where
      same : units_lt i k ≡ name_lt j k
      same = lt_by_order i k ∙ ap (λ z. name_lt z k) h.0

      go : HaveFields w (insert_field k v fs) (rows.insert_field k t ts) → (b : Bool) → name_lt j k ≡ b → HaveFields w (insert_field k v (MoreFieldV i x fs)) (rows.insert_field k t (MoreField j u ts))
      go again true q =
          subst (λ b. HaveFields w (if b then MoreFieldV i x (insert_field k v fs) else MoreFieldV k v (MoreFieldV i x fs)) (rows.insert_field k t (MoreField j u ts))) (sym (same ∙ q))
          (subst (HaveFields w (MoreFieldV i x (insert_field k v fs))) (sym (insert_after k j t u ts q)) (h.0, h.1, again))
      go again false q =
          subst (λ b. HaveFields w (if b then MoreFieldV i x (insert_field k v fs) else MoreFieldV k v (MoreFieldV i x fs)) (rows.insert_field k t (MoreField j u ts))) (sym (same ∙ q))
          (subst (HaveFields w (MoreFieldV k v (MoreFieldV i x fs))) (sym (insert_before k j t u ts q)) (refl, has, h))

  same_fields : (k : Name) (fs : FieldValues) (ts : Fields Rigid) → HaveFields w fs ts → values.has_field k fs ≡ has_field k ts
  same_fields k NoFieldV NoField h = refl
  same_fields k NoFieldV (MoreField j u ts) h = absurd h
  same_fields k (MoreFieldV i v fs) NoField h = absurd h
  same_fields k (MoreFieldV i v fs) (MoreField j u ts) h = ap (λ z. same_name k z || values.has_field k fs) h.0 ∙ ap (λ b. bytes_eq k j || b) (same_fields k fs ts h.2)

  pub made : (ks : List Name) (ts : List Ground) (vs : Values) → are_fields ks ≡ true → length ts ≡ length ks → HasEach w vs ts → Replaced (fields_of ks vs) (sorted (zip ks ts))
  made [] [] NoValue proper n each = record { fields = NoFieldV; is = refl; have = tt }
  made [] [] (MoreValue v vs) proper n each = absurd each
  made [] (t ∷ ts) vs proper n each = absurd (let e : suc (length ts) ≡ 0 = n in omega arith)
  made (k ∷ ks) [] vs proper n each = absurd (let e : 0 ≡ suc (length ks) = n in omega arith)
  made (k ∷ ks) (t ∷ ts) NoValue proper n each = absurd each
  made (k ∷ ks) (t ∷ ts) (MoreValue v vs) proper n each =
      let m : length ts ≡ length ks = (let e : suc (length ts) ≡ suc (length ks) = n in omega arith) in
      let p = and_right (is_word k) (not (list_any (same_name k) ks) && are_fields ks) proper in
      let new = not_true (list_any (same_name k) ks) (and_left (not (list_any (same_name k) ks)) (are_fields ks) p) in
      let rest = made ks ts vs (and_right (not (list_any (same_name k) ks)) (are_fields ks) p) m each.1 in
      let none : values.has_field k rest.fields ≡ false =
      same_fields k rest.fields (sorted (zip ks ts)) rest.have ∙ sorted_none k ks ts new in record {
        fields = insert_field k v rest.fields;
        is = ap (λ end. then_do end (λ fs. if values.has_field k fs then Stuck else Val (insert_field k v fs))) rest.is
            ∙ ap (λ b. if b then Stuck else Val (insert_field k v rest.fields)) none;
        have = inserted k v t rest.fields (sorted (zip ks ts)) rest.have each.0;
      }
    where
      sorted_none : (x : Name) (xs : List Name) (us : List Ground) → list_any (same_name x) xs ≡ false → has_field x (sorted (zip xs us)) ≡ false
      sorted_none x [] us q = refl
      sorted_none x (y ∷ ys) [] q = refl
      sorted_none x (y ∷ ys) (u ∷ us) q =
          let o = not_or (same_name x y) (list_any (same_name x) ys) q in
          has_inserted x y u (sorted (zip ys us)) ∙ or_not (bytes_eq x y) (has_field x (sorted (zip ys us))) o.0 (sorted_none x ys us o.1)
