-- Fields of records that are renamed, and that types are put in.
use Rattle.std.proofs.Common.{◌≡◌, ℕ, suc, ◌+◌, Bool, true, false, cond, Ordering, Less, Equal, Greater, refl, sym, ap}
use Rattle.std.proofs.Common.{◌∙◌, arith}
use Rattle.std.specs.Prelude.{◌&&◌}
use Rattle.std.specs.Ordering.{is_lt, nat_cmp, ordering_reverse}
use Rattle.std.specs.Cmp.Lexicographic.{slice_cmp}
use Rattle.std.proofs.lemmas.Cmp.{nat_list_cmp_total}
use Rattle.elm_type.specs.Types.{Name, ElmType, Fields, End, Made, Record, NoField, MoreField}
use Rattle.elm_type.specs.Types.{count_fields, renamed_fields}
use Rattle.elm_type.specs.Rows.{name_lt, insert_field, insert_all, extend, substitute_fields, is_under, rise}

pub first_true : (a b : Bool) → (a && b) ≡ true → a ≡ true
first_true true b e = refl
first_true false b e = e

pub second_true : (a b : Bool) → (a && b) ≡ true → b ≡ true
second_true true b e = e
second_true false b e = absurd cc

-- ---- fields in order are inserted as they stand

less_reversed : (o : Ordering) → is_lt (ordering_reverse o) ≡ true → is_lt o ≡ false
less_reversed Less e = absurd cc
less_reversed Equal e = refl
less_reversed Greater e = refl

antisymmetric : (x y : Name) → name_lt x y ≡ true → name_lt y x ≡ false
antisymmetric x y e = less_reversed (slice_cmp nat_cmp y x) (ap is_lt (sym (nat_list_cmp_total.antisymm x y)) ∙ e)

insert_first : {X : Type 0} (k : Name) (t : ElmType X) (fs : Fields X) → is_under k fs ≡ true → insert_field k t fs ≡ MoreField k t fs
insert_first k t NoField e = refl
insert_first k t (MoreField j u fs) e =
    ap (λ b. cond b (MoreField j u (insert_field k t fs)) (MoreField k t (MoreField j u fs))) (antisymmetric k j e)

insert_ordered : {X : Type 0} (fs : Fields X) → rise fs ≡ true → insert_all fs NoField ≡ fs
insert_ordered NoField e = refl
insert_ordered (MoreField k t fs) e =
    ap (insert_field k t) (insert_ordered fs (second_true (is_under k fs) (rise fs) e))
    ∙ insert_first k t fs (first_true (is_under k fs) (rise fs) e)

module _ {X Y : Type 0} (f : X → ElmType Y) where
  under_put : (k : Name) (fs : Fields X) → is_under k (substitute_fields f fs) ≡ is_under k fs
  under_put k NoField = refl
  under_put k (MoreField j t fs) = refl

  rise_put : (fs : Fields X) → rise (substitute_fields f fs) ≡ rise fs
  rise_put NoField = refl
  rise_put (MoreField k t fs) =
      ap (λ b. b && rise (substitute_fields f fs)) (under_put k fs) ∙ ap (λ b. is_under k fs && b) (rise_put fs)

  pub count_put : (fs : Fields X) → count_fields (substitute_fields f fs) ≡ count_fields fs
  count_put NoField = refl
  count_put (MoreField k t fs) = ap suc (count_put fs)

  pub put_ordered : (fs : Fields X) → rise fs ≡ true → insert_all (substitute_fields f fs) NoField ≡ substitute_fields f fs
  put_ordered fs e = insert_ordered (substitute_fields f fs) (rise_put fs ∙ e)

pub count_renamed : {X Y : Type 0} (f : X → Y) (fs : Fields X) → count_fields (renamed_fields f fs) ≡ count_fields fs
count_renamed f NoField = refl
count_renamed f (MoreField k t fs) = ap suc (count_renamed f fs)

-- ---- counting fields

count_by : {X : Type 0} (b : Bool) (fs gs : Fields X) (n : ℕ) → count_fields fs ≡ n → count_fields gs ≡ n → count_fields (cond b fs gs) ≡ n
count_by true fs gs n d e = d
count_by false fs gs n d e = e

count_inserted : {X : Type 0} (k : Name) (t : ElmType X) (fs : Fields X) → count_fields (insert_field k t fs) ≡ suc (count_fields fs)
count_inserted k t NoField = refl
count_inserted k t (MoreField j u fs) =
    count_by (name_lt j k) (MoreField j u (insert_field k t fs)) (MoreField k t (MoreField j u fs)) _
    (ap suc (count_inserted k t fs)) refl

pub count_all : {X : Type 0} (fs gs : Fields X) → count_fields (insert_all fs gs) ≡ count_fields fs + count_fields gs
count_all NoField gs = omega arith
count_all (MoreField k t fs) gs = omega (arith, count_inserted k t (insert_all fs gs), count_all fs gs)

pub none_counted : {X : Type 0} (fs : Fields X) → count_fields fs ≡ 0 → fs ≡ NoField
none_counted NoField e = refl
none_counted (MoreField k t fs) e = absurd (omega (arith, e))

-- ---- what a record was extended from

pub record Extended {X : Type 0} (fs : Fields X) (t : ElmType X) (gs : Fields X) (end : End X) : Type 0 where
  pub rest : Fields X
  pub from : t ≡ Record rest end
  pub all : insert_all fs rest ≡ gs

pub extended : {X : Type 0} (fs : Fields X) (t : ElmType X) (gs : Fields X) (end : End X) → extend fs t ≡ Record gs end → Extended fs t gs end
extended fs (Made h ts) gs end e = absurd cc
extended fs (Record rest last) gs end e = record { rest = rest; from = (let d : last ≡ end = cc in ap (Record rest) d); all = cc }
