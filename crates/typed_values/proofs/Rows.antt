-- Fields that are put in order, and substitution in them.
use Rattle.std.proofs.Common.{◌≡◌, Bool, true, false, Ordering, Less, Equal, Greater, refl, sym, ap, ◌∙◌}
use Rattle.std.specs.Prelude.{if◌then◌else◌, ◌||◌}
use Rattle.std.specs.Str.{bytes_eq}
use Rattle.std.specs.Ordering.{is_lt, nat_cmp, ordering_reverse}
use Rattle.std.specs.Cmp.Lexicographic.{slice_cmp}
use Rattle.std.proofs.lemmas.Cmp.{nat_list_cmp_total}
use Rattle.elm_type.specs.Types.{Name, ElmType, ElmTypes, Fields, End, Closed, Over, Made, Record, NoType, MoreType}
use Rattle.elm_type.specs.Types.{NoField, MoreField, renamed, renamed_all, renamed_fields, renamed_end}
use Rattle.elm_type.specs.Rows.{name_lt, has_field, insert_field, insert_all, extend, at_end, substitute, substitute_all}
use Rattle.elm_type.specs.Rows.{substitute_fields}

abbrev order : Name → Name → Ordering
order x y = slice_cmp nat_cmp x y

less : (o : Ordering) → is_lt o ≡ true → o ≡ Less
less Less e = refl
less Equal e = absurd (cc)
less Greater e = absurd (cc)

lt_trans : (x y z : Name) → name_lt x y ≡ true → name_lt y z ≡ true → name_lt x z ≡ true
lt_trans x y z a b = ap is_lt (nat_list_cmp_total.trans x y z (less (order x y) a) (less (order y z) b))

lt_back : (x y : Name) → name_lt x y ≡ true → name_lt y x ≡ false
lt_back x y a = ap is_lt (nat_list_cmp_total.antisymm y x ∙ ap ordering_reverse (less (order x y) a))

-- ---- a field more

pub insert_after : {X : Type 0} (k m : Name) (t v : ElmType X) (fs : Fields X) → name_lt m k ≡ true → insert_field k t (MoreField m v fs) ≡ MoreField m v (insert_field k t fs)
insert_after k m t v fs e = ap (λ b. if b then MoreField m v (insert_field k t fs) else MoreField k t (MoreField m v fs)) e

pub insert_before : {X : Type 0} (k m : Name) (t v : ElmType X) (fs : Fields X) → name_lt m k ≡ false → insert_field k t (MoreField m v fs) ≡ MoreField k t (MoreField m v fs)
insert_before k m t v fs e = ap (λ b. if b then MoreField m v (insert_field k t fs) else MoreField k t (MoreField m v fs)) e

-- two fields may be put in in either order
insert_swap : {X : Type 0} (j k : Name) (t u : ElmType X) (fs : Fields X) → name_lt j k ≡ true → insert_field j t (insert_field k u fs) ≡ insert_field k u (insert_field j t fs)
insert_swap j k t u NoField l = insert_before j k t u NoField (lt_back j k l) ∙ sym (insert_after k j u t NoField l)
insert_swap j k t u (MoreField m v fs) l = go (insert_swap j k t u fs l) (name_lt m k) (name_lt m j) refl refl
  where
    go : insert_field j t (insert_field k u fs) ≡ insert_field k u (insert_field j t fs) → (a b : Bool) → name_lt m k ≡ a → name_lt m j ≡ b
        → insert_field j t (insert_field k u (MoreField m v fs)) ≡ insert_field k u (insert_field j t (MoreField m v fs))
    go again true true d e =
        ap (insert_field j t) (insert_after k m u v fs d) ∙ (insert_after j m t v (insert_field k u fs) e ∙ (ap (MoreField m v) again ∙
        (sym (insert_after k m u v (insert_field j t fs) d) ∙ sym (ap (insert_field k u) (insert_after j m t v fs e)))))
    go again true false d e =
        ap (insert_field j t) (insert_after k m u v fs d) ∙ (insert_before j m t v (insert_field k u fs) e ∙ (sym (ap (MoreField j t) (insert_after k m u v fs d)) ∙
        (sym (insert_after k j u t (MoreField m v fs) l) ∙ sym (ap (insert_field k u) (insert_before j m t v fs e)))))
    go again false true d e = absurd (let x : name_lt m k ≡ true = lt_trans m j k e l in cc)
    go again false false d e =
        ap (insert_field j t) (insert_before k m u v fs d) ∙ (insert_before j k t u (MoreField m v fs) (lt_back j k l) ∙ (sym (ap (MoreField j t) (insert_before k m u v fs d)) ∙
        (sym (insert_after k j u t (MoreField m v fs) l) ∙ sym (ap (insert_field k u) (insert_before j m t v fs e)))))

pub insert_all_insert : {X : Type 0} (k : Name) (t : ElmType X) (fs gs : Fields X) → insert_all (insert_field k t fs) gs ≡ insert_field k t (insert_all fs gs)
insert_all_insert k t NoField gs = refl
insert_all_insert k t (MoreField m v fs) gs = go (insert_all_insert k t fs gs) (name_lt m k) refl
  where
    go : insert_all (insert_field k t fs) gs ≡ insert_field k t (insert_all fs gs) → (b : Bool) → name_lt m k ≡ b
        → insert_all (insert_field k t (MoreField m v fs)) gs ≡ insert_field k t (insert_field m v (insert_all fs gs))
    go again true e = ap (λ hs. insert_all hs gs) (insert_after k m t v fs e) ∙ (ap (insert_field m v) again ∙ insert_swap m k v t (insert_all fs gs) e)
    go again false e = ap (λ hs. insert_all hs gs) (insert_before k m t v fs e)

insert_all_twice : {X : Type 0} (fs gs hs : Fields X) → insert_all (insert_all fs gs) hs ≡ insert_all fs (insert_all gs hs)
insert_all_twice NoField gs hs = refl
insert_all_twice (MoreField k t fs) gs hs = insert_all_insert k t (insert_all fs gs) hs ∙ ap (insert_field k t) (insert_all_twice fs gs hs)

extend_twice : {X : Type 0} (fs gs : Fields X) (t : ElmType X) → extend (insert_all fs gs) t ≡ extend fs (extend gs t)
extend_twice fs gs (Made h ts) = refl
extend_twice fs gs (Record hs end) = ap (λ is. Record is end) (insert_all_twice fs gs hs)

pub extend_none : {X : Type 0} (t : ElmType X) → extend NoField t ≡ t
extend_none (Made h ts) = refl
extend_none (Record fs end) = refl

or_swap : (a b c : Bool) → (a || (b || c)) ≡ (b || (a || c))
or_swap true true c = refl
or_swap true false c = refl
or_swap false true c = refl
or_swap false false c = refl

pub has_inserted : {X : Type 0} (x k : Name) (t : ElmType X) (fs : Fields X) → has_field x (insert_field k t fs) ≡ (bytes_eq x k || has_field x fs)
has_inserted x k t NoField = refl
has_inserted x k t (MoreField m v fs) = go (has_inserted x k t fs) (name_lt m k) refl
  where
    go : has_field x (insert_field k t fs) ≡ (bytes_eq x k || has_field x fs) → (b : Bool) → name_lt m k ≡ b
        → has_field x (insert_field k t (MoreField m v fs)) ≡ (bytes_eq x k || (bytes_eq x m || has_field x fs))
    go again true e = ap (has_field x) (insert_after k m t v fs e) ∙ (ap (λ b. bytes_eq x m || b) again ∙ or_swap (bytes_eq x m) (bytes_eq x k) (has_field x fs))
    go again false e = ap (has_field x) (insert_before k m t v fs e)

or_both : (a b c : Bool) → (a || (b || c)) ≡ ((a || b) || c)
or_both true b c = refl
or_both false b c = refl

pub has_all : {X : Type 0} (x : Name) (fs gs : Fields X) → has_field x (insert_all fs gs) ≡ (has_field x fs || has_field x gs)
has_all x NoField gs = refl
has_all x (MoreField k t fs) gs =
    has_inserted x k t (insert_all fs gs) ∙ (ap (λ b. bytes_eq x k || b) (has_all x fs gs) ∙ or_both (bytes_eq x k) (has_field x fs) (has_field x gs))

-- ---- substitution

module _ {X Y : Type 0} (f : X → ElmType Y) where
  pub substitute_insert : (k : Name) (t : ElmType X) (fs : Fields X) → substitute_fields f (insert_field k t fs) ≡ insert_field k (substitute f t) (substitute_fields f fs)
  substitute_insert k t NoField = refl
  substitute_insert k t (MoreField m v fs) = go (substitute_insert k t fs) (name_lt m k) refl
    where
      go : substitute_fields f (insert_field k t fs) ≡ insert_field k (substitute f t) (substitute_fields f fs) → (b : Bool) → name_lt m k ≡ b
          → substitute_fields f (insert_field k t (MoreField m v fs)) ≡ insert_field k (substitute f t) (MoreField m (substitute f v) (substitute_fields f fs))
      go again true e =
          ap (substitute_fields f) (insert_after k m t v fs e) ∙ (ap (MoreField m (substitute f v)) again ∙ sym (insert_after k m (substitute f t) (substitute f v) (substitute_fields f fs) e))
      go again false e = ap (substitute_fields f) (insert_before k m t v fs e) ∙ sym (insert_before k m (substitute f t) (substitute f v) (substitute_fields f fs) e)

  substitute_insert_all : (fs gs : Fields X) → substitute_fields f (insert_all fs gs) ≡ insert_all (substitute_fields f fs) (substitute_fields f gs)
  substitute_insert_all NoField gs = refl
  substitute_insert_all (MoreField k t fs) gs = substitute_insert k t (insert_all fs gs) ∙ ap (insert_field k (substitute f t)) (substitute_insert_all fs gs)

  pub substitute_extend : (fs : Fields X) (t : ElmType X) → substitute f (extend fs t) ≡ extend (substitute_fields f fs) (substitute f t)
  substitute_extend fs (Made h ts) = refl
  substitute_extend fs (Record gs end) =
      ap (λ hs. extend hs (at_end f end)) (substitute_insert_all fs gs) ∙ extend_twice (substitute_fields f fs) (substitute_fields f gs) (at_end f end)

  pub has_substituted : (j : Name) (fs : Fields X) → has_field j (substitute_fields f fs) ≡ has_field j fs
  has_substituted j NoField = refl
  has_substituted j (MoreField k t fs) = ap (λ b. bytes_eq j k || b) (has_substituted j fs)

-- one substitution after the other is one
module _ {X Y Z : Type 0} (f : X → ElmType Y) (g : Y → ElmType Z) where
  at_end_twice : (end : End X) → substitute g (at_end f end) ≡ at_end (λ x. substitute g (f x)) end
  at_end_twice Closed = refl
  at_end_twice (Over x) = refl

  mutual
    pub substitute_twice : (t : ElmType X) → substitute g (substitute f t) ≡ substitute (λ x. substitute g (f x)) t
    substitute_twice (Made h ts) = ap (Made h) (substitute_all_twice ts)
    substitute_twice (Record fs end) =
        substitute_extend g (substitute_fields f fs) (at_end f end) ∙ (ap (λ gs. extend gs (substitute g (at_end f end))) (substitute_fields_twice fs) ∙
        ap (extend (substitute_fields (λ x. substitute g (f x)) fs)) (at_end_twice end))

    substitute_all_twice : (ts : ElmTypes X) → substitute_all g (substitute_all f ts) ≡ substitute_all (λ x. substitute g (f x)) ts
    substitute_all_twice NoType = refl
    substitute_all_twice (MoreType t ts) =
        ap (λ u. MoreType u (substitute_all g (substitute_all f ts))) (substitute_twice t) ∙ ap (MoreType (substitute (λ x. substitute g (f x)) t)) (substitute_all_twice ts)

    substitute_fields_twice : (fs : Fields X) → substitute_fields g (substitute_fields f fs) ≡ substitute_fields (λ x. substitute g (f x)) fs
    substitute_fields_twice NoField = refl
    substitute_fields_twice (MoreField k t fs) =
        ap (λ u. MoreField k u (substitute_fields g (substitute_fields f fs))) (substitute_twice t) ∙ ap (MoreField k (substitute (λ x. substitute g (f x)) t)) (substitute_fields_twice fs)

-- so is one after other variables in the place of variables
module _ {X Y Z : Type 0} (f : X → Y) (g : Y → ElmType Z) where
  end_after_renamed : (end : End X) → at_end g (renamed_end f end) ≡ at_end (λ x. g (f x)) end
  end_after_renamed Closed = refl
  end_after_renamed (Over x) = refl

  mutual
    pub after_renamed : (t : ElmType X) → substitute g (renamed f t) ≡ substitute (λ x. g (f x)) t
    after_renamed (Made h ts) = ap (Made h) (all_after_renamed ts)
    after_renamed (Record fs end) =
        ap (λ gs. extend gs (at_end g (renamed_end f end))) (fields_after_renamed fs) ∙ ap (extend (substitute_fields (λ x. g (f x)) fs)) (end_after_renamed end)

    all_after_renamed : (ts : ElmTypes X) → substitute_all g (renamed_all f ts) ≡ substitute_all (λ x. g (f x)) ts
    all_after_renamed NoType = refl
    all_after_renamed (MoreType t ts) =
        ap (λ u. MoreType u (substitute_all g (renamed_all f ts))) (after_renamed t) ∙ ap (MoreType (substitute (λ x. g (f x)) t)) (all_after_renamed ts)

    fields_after_renamed : (fs : Fields X) → substitute_fields g (renamed_fields f fs) ≡ substitute_fields (λ x. g (f x)) fs
    fields_after_renamed NoField = refl
    fields_after_renamed (MoreField k t fs) =
        ap (λ u. MoreField k u (substitute_fields g (renamed_fields f fs))) (after_renamed t) ∙ ap (MoreField k (substitute (λ x. g (f x)) t)) (fields_after_renamed fs)

pub substitute_same : {X Y : Type 0} (f g : X → ElmType Y) (t : ElmType X) → ((x : X) → f x ≡ g x) → substitute f t ≡ substitute g t
substitute_same f g t h = ap (λ k. substitute k t) (λ i x. h x i)
