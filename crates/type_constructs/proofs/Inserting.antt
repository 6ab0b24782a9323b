-- Fields that are put in their places: their variables, and whether they are formed.
use Rattle.std.proofs.Common.{◌≡◌, ℕ, List, [], Bool, true, false, cond, refl, sym, ap, ◌∙◌}
use Rattle.std.specs.Prelude.{◌||◌, ◌&&◌}
use Rattle.std.specs.Str.{bytes_eq}
use Rattle.std.specs.List.{AllByRecursion}
use Rattle.elm_type.specs.Types.{Name, ElmType, Fields, End, Made, Record, NoField, MoreField, variables}
use Rattle.elm_type.specs.Types.{variables_fields, end_variables, Leaf, Kind}
use Rattle.elm_type.specs.Rows.{name_lt, insert_field, insert_all, extend, has_field, rise}
use Rattle.type_items.specs.Principal.{end_lacks, end_lacks_each, is_formed, fields_formed}
use Rattle.type_store.proofs.Names.{same_name}
use Rattle.type_store.proofs.RowsMeet.{and_left, and_right, and_both, rise_all}
use Rattle.type_items.proofs.Matching.{all_first, all_second, all_both}

-- ---- their variables

module _ {X : Type 0} (P : X → Type 0) where
  inserted_variables : (k : Name) (t : ElmType X) (fs : Fields X) → AllByRecursion P (variables t)
      → AllByRecursion P (variables_fields fs)
      → AllByRecursion P (variables_fields (insert_field k t fs))
  inserted_variables k t NoField h i = all_both P (variables t) [] h tt
  inserted_variables k t (MoreField m v fs) h i =
      go (inserted_variables k t fs h (all_second P (variables v) (variables_fields fs) i)) (name_lt m k)
    where
      go : AllByRecursion P (variables_fields (insert_field k t fs)) → (b : Bool)
          → AllByRecursion P (variables_fields
          (cond b (MoreField m v (insert_field k t fs)) (MoreField k t (MoreField m v fs))))
      go again true =
          all_both P (variables v) (variables_fields (insert_field k t fs))
          (all_first P (variables v) (variables_fields fs) i) again
      go again false = all_both P (variables t) (variables_fields (MoreField m v fs)) h i

  all_variables : (fs gs : Fields X) → AllByRecursion P (variables_fields fs) → AllByRecursion P (variables_fields gs)
      → AllByRecursion P (variables_fields (insert_all fs gs))
  all_variables NoField gs h i = i
  all_variables (MoreField k t fs) gs h i =
      inserted_variables k t (insert_all fs gs) (all_first P (variables t) (variables_fields fs) h)
      (all_variables fs gs (all_second P (variables t) (variables_fields fs) h) i)

  pub extended_variables : (fs : Fields X) (t : ElmType X) → AllByRecursion P (variables_fields fs)
      → AllByRecursion P (variables t)
      → AllByRecursion P (variables (extend fs t))
  extended_variables fs (Made h ts) f i = i
  extended_variables fs (Record gs end) f i =
      all_both P (end_variables end) (variables_fields (insert_all fs gs))
      (all_first P (end_variables end) (variables_fields gs) i)
      (all_variables fs gs f (all_second P (end_variables end) (variables_fields gs) i))

-- ---- whether they are formed

module _ (kinds : List Kind) where
  -- a record without the field, which it never has
  abbrev pub LacksField : Name → ElmType (Leaf ℕ) → Type 0
  LacksField x (Made h ts) = ⊥
  LacksField x (Record fs end) = (has_field x fs ≡ false) × (end_lacks kinds x end ≡ true)

  abbrev pub LacksEach : Fields (Leaf ℕ) → ElmType (Leaf ℕ) → Type 0
  LacksEach NoField t = Unit {0}
  LacksEach (MoreField k u fs) t = LacksField k t × LacksEach fs t

  ends_inserted : (k : Name) (t : ElmType (Leaf ℕ)) (fs : Fields (Leaf ℕ)) (end : End (Leaf ℕ))
      → end_lacks kinds k end ≡ true → end_lacks_each kinds fs end ≡ true
      → end_lacks_each kinds (insert_field k t fs) end ≡ true
  ends_inserted k t NoField end a b = and_both (end_lacks kinds k end) true a refl
  ends_inserted k t (MoreField m v fs) end a b =
      go (ends_inserted k t fs end a (and_right (end_lacks kinds m end) (end_lacks_each kinds fs end) b)) (name_lt m k)
    where
      go : end_lacks_each kinds (insert_field k t fs) end ≡ true → (c : Bool)
          → end_lacks_each kinds (cond c (MoreField m v (insert_field k t fs)) (MoreField k t (MoreField m v fs))) end ≡
          true
      go again true =
          and_both (end_lacks kinds m end) (end_lacks_each kinds (insert_field k t fs) end)
          (and_left (end_lacks kinds m end) (end_lacks_each kinds fs end) b) again
      go again false = and_both (end_lacks kinds k end) (end_lacks_each kinds (MoreField m v fs) end) a b

  formed_inserted : (k : Name) (t : ElmType (Leaf ℕ)) (fs : Fields (Leaf ℕ)) → is_formed kinds t ≡ true
      → fields_formed kinds fs ≡ true
      → fields_formed kinds (insert_field k t fs) ≡ true
  formed_inserted k t NoField a b = and_both (is_formed kinds t) true a refl
  formed_inserted k t (MoreField m v fs) a b =
      go (formed_inserted k t fs a (and_right (is_formed kinds v) (fields_formed kinds fs) b)) (name_lt m k)
    where
      go : fields_formed kinds (insert_field k t fs) ≡ true → (c : Bool)
          → fields_formed kinds (cond c (MoreField m v (insert_field k t fs)) (MoreField k t (MoreField m v fs))) ≡ true
      go again true =
          and_both (is_formed kinds v) (fields_formed kinds (insert_field k t fs))
          (and_left (is_formed kinds v) (fields_formed kinds fs) b) again
      go again false = and_both (is_formed kinds t) (fields_formed kinds (MoreField m v fs)) a b

  ends_all : (fs gs : Fields (Leaf ℕ)) (end : End (Leaf ℕ)) → LacksEach fs (Record gs end)
      → end_lacks_each kinds gs end ≡ true
      → end_lacks_each kinds (insert_all fs gs) end ≡ true
  ends_all NoField gs end l e = e
  ends_all (MoreField k t fs) gs end l e = ends_inserted k t (insert_all fs gs) end l.0.1 (ends_all fs gs end l.1 e)

  formed_all : (fs gs : Fields (Leaf ℕ)) → fields_formed kinds fs ≡ true → fields_formed kinds gs ≡ true
      → fields_formed kinds (insert_all fs gs) ≡ true
  formed_all NoField gs a b = b
  formed_all (MoreField k t fs) gs a b =
      formed_inserted k t (insert_all fs gs) (and_left (is_formed kinds t) (fields_formed kinds fs) a)
      (formed_all fs gs (and_right (is_formed kinds t) (fields_formed kinds fs) a) b)

  none_had : (fs gs : Fields (Leaf ℕ)) (end : End (Leaf ℕ)) → LacksEach fs (Record gs end) → (j : Name)
      → has_field j fs ≡ true → has_field j gs ≡ false
  none_had NoField gs end l j e = absurd (cc)
  none_had (MoreField k t fs) gs end l j e = go (bytes_eq j k) refl (none_had fs gs end l.1 j)
    where
      go : (b : Bool) → bytes_eq j k ≡ b → (has_field j fs ≡ true → has_field j gs ≡ false) → has_field j gs ≡ false
      go true q again = ap (λ z. has_field z gs) (same_name j k q) ∙ l.0.0
      go false q again = again (sym (ap (λ b. b || has_field j fs) q) ∙ e)

  -- a record with fields that it lacked is formed
  pub formed_extended : (fs : Fields (Leaf ℕ)) (t : ElmType (Leaf ℕ)) → rise fs ≡ true → fields_formed kinds fs ≡ true
      → LacksEach fs t → is_formed kinds t ≡ true
      → is_formed kinds (extend fs t) ≡ true
  formed_extended NoField (Made h ts) r f l g = g
  formed_extended (MoreField k t fs) (Made h ts) r f l g = absurd l.0
  formed_extended fs (Record gs end) r f l g =
      let rg = and_left (rise gs) (end_lacks_each kinds gs end && fields_formed kinds gs) g in
      let more = and_right (rise gs) (end_lacks_each kinds gs end && fields_formed kinds gs) g in
      and_both (rise (insert_all fs gs)) (end_lacks_each kinds (insert_all fs gs) end && fields_formed kinds
      (insert_all fs gs))
      (rise_all fs gs r rg (none_had fs gs end l))
      (and_both (end_lacks_each kinds (insert_all fs gs) end) (fields_formed kinds (insert_all fs gs))
      (ends_all fs gs end l (and_left (end_lacks_each kinds gs end) (fields_formed kinds gs) more))
      (formed_all fs gs f (and_right (end_lacks_each kinds gs end) (fields_formed kinds gs) more)))
