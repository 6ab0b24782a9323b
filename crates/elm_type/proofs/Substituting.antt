-- Other variables in the place of variables, as a substitution.
use Rattle.std.proofs.Common.{◌≡◌, Bool, true, false, ◌&&◌, cond, refl, sym, ◌∙◌, ap}
use Rattle.std.specs.Ordering.{is_lt, nat_cmp, ordering_reverse}
use Rattle.std.specs.Cmp.Lexicographic.{slice_cmp}
use Rattle.std.proofs.Common.{Ordering, Less, Equal, Greater}
use Rattle.std.proofs.lemmas.Bool.{false≢true}
use Rattle.std.proofs.lemmas.Cmp.{nat_list_cmp_total}
use Rattle.elm_type.specs.Types.{Name, ElmType, ElmTypes, Fields, End, Closed, Over, Made, Record, NoType, MoreType}
use Rattle.elm_type.specs.Types.{NoField, MoreField, variable, renamed, renamed_all, renamed_fields, renamed_end}
use Rattle.elm_type.specs.Rows.{name_lt, insert_field, insert_all, extend, at_end, substitute, substitute_all}
use Rattle.elm_type.specs.Rows.{substitute_fields, is_under, rise, ordered, ordered_all, ordered_fields}
use Rattle.elm_type.specs.Rows.{RenamesBySubstitution}

and_first : (a b : Bool) → (a && b) ≡ true → a ≡ true
and_first true b e = refl
and_first false b e = e

and_second : (a b : Bool) → (a && b) ≡ true → b ≡ true
and_second true b e = e
and_second false b e = absurd (false≢true e)

less_reversed : (o : Ordering) → is_lt (ordering_reverse o) ≡ true → is_lt o ≡ false
less_reversed Less e = absurd (false≢true e)
less_reversed Equal e = refl
less_reversed Greater e = refl

-- of a name that is less, the other is not less
antisymmetric : (x y : Name) → name_lt x y ≡ true → name_lt y x ≡ false
antisymmetric x y e = less_reversed (slice_cmp nat_cmp y x) (ap is_lt (sym (nat_list_cmp_total.antisymm x y)) ∙ e)

insert_first : {X : Type 0} (k : Name) (t : ElmType X) (fs : Fields X) → is_under k fs ≡ true → insert_field k t fs ≡ MoreField k t fs
insert_first k t NoField e = refl
insert_first k t (MoreField j u fs) e = ap (λ b. cond b (MoreField j u (insert_field k t fs)) (MoreField k t (MoreField j u fs))) (antisymmetric k j e)

-- fields in order are inserted as they stand
insert_ordered : {X : Type 0} (fs : Fields X) → rise fs ≡ true → insert_all fs NoField ≡ fs
insert_ordered NoField e = refl
insert_ordered (MoreField k t fs) e =
    ap (insert_field k t) (insert_ordered fs (and_second (is_under k fs) (rise fs) e)) ∙ insert_first k t fs (and_first (is_under k fs) (rise fs) e)

under_renamed : {X Y : Type 0} (f : X → Y) (k : Name) (fs : Fields X) → is_under k (renamed_fields f fs) ≡ is_under k fs
under_renamed f k NoField = refl
under_renamed f k (MoreField j t fs) = refl

rise_renamed : {X Y : Type 0} (f : X → Y) (fs : Fields X) → rise (renamed_fields f fs) ≡ rise fs
rise_renamed f NoField = refl
rise_renamed f (MoreField k t fs) = ap (λ b. b && rise (renamed_fields f fs)) (under_renamed f k fs) ∙ ap (λ b. is_under k fs && b) (rise_renamed f fs)

end_renamed : {X Y : Type 0} (f : X → Y) (gs : Fields Y) (end : End X) → rise gs ≡ true → extend gs (at_end (λ x. variable (f x)) end) ≡ Record gs (renamed_end f end)
end_renamed f gs Closed e = ap (λ hs. Record hs Closed) (insert_ordered gs e)
end_renamed f gs (Over x) e = ap (λ hs. Record hs (Over (f x))) (insert_ordered gs e)

mutual
  by_substitution : {X Y : Type 0} (f : X → Y) (t : ElmType X) → ordered t ≡ true → substitute (λ x. variable (f x)) t ≡ renamed f t
  by_substitution f (Made h ts) e = ap (Made h) (all_by_substitution f ts e)
  by_substitution f (Record fs end) e =
      ap (λ gs. extend gs (at_end (λ x. variable (f x)) end)) (fields_by_substitution f fs (and_second (rise fs) (ordered_fields fs) e))
      ∙ end_renamed f (renamed_fields f fs) end (rise_renamed f fs ∙ and_first (rise fs) (ordered_fields fs) e)

  all_by_substitution : {X Y : Type 0} (f : X → Y) (ts : ElmTypes X) → ordered_all ts ≡ true → substitute_all (λ x. variable (f x)) ts ≡ renamed_all f ts
  all_by_substitution f NoType e = refl
  all_by_substitution f (MoreType t ts) e =
      ap (λ u. MoreType u (substitute_all (λ x. variable (f x)) ts)) (by_substitution f t (and_first (ordered t) (ordered_all ts) e))
      ∙ ap (MoreType (renamed f t)) (all_by_substitution f ts (and_second (ordered t) (ordered_all ts) e))

  fields_by_substitution : {X Y : Type 0} (f : X → Y) (fs : Fields X) → ordered_fields fs ≡ true → substitute_fields (λ x. variable (f x)) fs ≡ renamed_fields f fs
  fields_by_substitution f NoField e = refl
  fields_by_substitution f (MoreField k t fs) e =
      ap (λ u. MoreField k u (substitute_fields (λ x. variable (f x)) fs)) (by_substitution f t (and_first (ordered t) (ordered_fields fs) e))
      ∙ ap (MoreField k (renamed f t)) (fields_by_substitution f fs (and_second (ordered t) (ordered_fields fs) e))

pub renames_by_substitution : {X Y : Type 0} → RenamesBySubstitution X Y
renames_by_substitution = by_substitution
