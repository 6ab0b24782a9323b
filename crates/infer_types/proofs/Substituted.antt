-- Types with others in the place of their variables.
use Rattle.std.proofs.Common.{◌≡◌, ℕ, List, true, refl, ap, ◌∙◌}
use Rattle.std.specs.Prelude.{◌&&◌}
use Rattle.std.specs.List.{AllByRecursion}
use Rattle.elm_type.specs.Types.{ElmType, ElmTypes, Fields, End, Closed, Over, Made, Record, NoType, MoreType, NoField}
use Rattle.elm_type.specs.Types.{MoreField, variable, variables, variables_all, variables_fields, renamed, renamed_all}
use Rattle.elm_type.specs.Types.{renamed_fields, renamed_end, Leaf, Kind}
use Rattle.elm_type.specs.Rows.{substitute, substitute_all, substitute_fields, extend, rise, ordered}
use Rattle.elm_type.specs.Rows.{ordered_all, ordered_fields}
use Rattle.elm_type.proofs.Substituting.{renames_by_substitution}
use Rattle.type_items.specs.Principal.{is_formed, are_formed, fields_formed, end_lacks_each}
use Rattle.type_walks.proofs.Cleaning.{all_first, all_second}
use Rattle.type_store.proofs.RowsMeet.{and_left, and_right, and_both}

-- the same types in their place
mutual
  pub substitute_same : {X Y : Type 0} (f g : X → ElmType Y) (t : ElmType X) → AllByRecursion (λ x. f x ≡ g x)
      (variables t) → substitute f t ≡ substitute g t
  substitute_same f g (Made h ts) e = ap (Made h) (all_same f g ts e)
  substitute_same f g (Record fs Closed) e = ap (λ gs. extend gs (Record NoField Closed)) (fields_same f g fs e)
  substitute_same f g (Record fs (Over x)) e =
      ap (λ gs. extend gs (f x)) (fields_same f g fs e.1) ∙ ap (extend (substitute_fields g fs)) e.0

  all_same : {X Y : Type 0} (f g : X → ElmType Y) (ts : ElmTypes X) → AllByRecursion (λ x. f x ≡ g x) (variables_all ts)
      → substitute_all f ts ≡ substitute_all g ts
  all_same f g NoType e = refl
  all_same f g (MoreType t ts) e =
      ap (λ u. MoreType u (substitute_all f ts))
      (substitute_same f g t (all_first (λ x. f x ≡ g x) (variables t) (variables_all ts) e))
      ∙ ap (MoreType (substitute g t)) (all_same f g ts
      (all_second (λ x. f x ≡ g x) (variables t) (variables_all ts) e))

  fields_same : {X Y : Type 0} (f g : X → ElmType Y) (fs : Fields X) → AllByRecursion (λ x. f x ≡ g x)
      (variables_fields fs) → substitute_fields f fs ≡ substitute_fields g fs
  fields_same f g NoField e = refl
  fields_same f g (MoreField k t fs) e =
      ap (λ u. MoreField k u (substitute_fields f fs))
      (substitute_same f g t (all_first (λ x. f x ≡ g x) (variables t) (variables_fields fs) e))
      ∙ ap (MoreField k (substitute g t)) (fields_same f g fs
      (all_second (λ x. f x ≡ g x) (variables t) (variables_fields fs) e))

-- other variables, and others in their place
end_twice : {X Y Z : Type 0} (f : Y → Z) (g : X → Y) (end : End X)
    → renamed_end f (renamed_end g end) ≡ renamed_end (λ x. f (g x)) end
end_twice f g Closed = refl
end_twice f g (Over x) = refl

mutual
  pub renamed_twice : {X Y Z : Type 0} (f : Y → Z) (g : X → Y) (t : ElmType X)
      → renamed f (renamed g t) ≡ renamed (λ x. f (g x)) t
  renamed_twice f g (Made h ts) = ap (Made h) (all_twice f g ts)
  renamed_twice f g (Record fs end) =
      ap (λ gs. Record gs (renamed_end f (renamed_end g end))) (fields_twice f g fs) ∙ ap
      (Record (renamed_fields (λ x. f (g x)) fs)) (end_twice f g end)

  all_twice : {X Y Z : Type 0} (f : Y → Z) (g : X → Y) (ts : ElmTypes X)
      → renamed_all f (renamed_all g ts) ≡ renamed_all (λ x. f (g x)) ts
  all_twice f g NoType = refl
  all_twice f g (MoreType t ts) =
      ap (λ u. MoreType u (renamed_all f (renamed_all g ts))) (renamed_twice f g t) ∙ ap
      (MoreType (renamed (λ x. f (g x)) t)) (all_twice f g ts)

  fields_twice : {X Y Z : Type 0} (f : Y → Z) (g : X → Y) (fs : Fields X)
      → renamed_fields f (renamed_fields g fs) ≡ renamed_fields (λ x. f (g x)) fs
  fields_twice f g NoField = refl
  fields_twice f g (MoreField k t fs) =
      ap (λ u. MoreField k u (renamed_fields f (renamed_fields g fs))) (renamed_twice f g t) ∙ ap
      (MoreField k (renamed (λ x. f (g x)) t)) (fields_twice f g fs)

-- each variable in its own place
end_itself : {X : Type 0} (f : X → X) → ((x : X) → f x ≡ x) → (end : End X) → renamed_end f end ≡ end
end_itself f e Closed = refl
end_itself f e (Over x) = ap Over (e x)

mutual
  pub renamed_itself : {X : Type 0} (f : X → X) → ((x : X) → f x ≡ x) → (t : ElmType X) → renamed f t ≡ t
  renamed_itself f e (Made h ts) = ap (Made h) (all_itself f e ts)
  renamed_itself f e (Record fs end) =
      ap (λ gs. Record gs (renamed_end f end)) (fields_itself f e fs) ∙ ap (Record fs) (end_itself f e end)

  all_itself : {X : Type 0} (f : X → X) → ((x : X) → f x ≡ x) → (ts : ElmTypes X) → renamed_all f ts ≡ ts
  all_itself f e NoType = refl
  all_itself f e (MoreType t ts) =
      ap (λ u. MoreType u (renamed_all f ts)) (renamed_itself f e t) ∙ ap (MoreType t) (all_itself f e ts)

  fields_itself : {X : Type 0} (f : X → X) → ((x : X) → f x ≡ x) → (fs : Fields X) → renamed_fields f fs ≡ fs
  fields_itself f e NoField = refl
  fields_itself f e (MoreField k t fs) =
      ap (λ u. MoreField k u (renamed_fields f fs)) (renamed_itself f e t) ∙ ap (MoreField k t) (fields_itself f e fs)

-- fields of formed records are in order
mutual
  pub formed_ordered : (kinds : List Kind) (t : ElmType (Leaf ℕ)) → is_formed kinds t ≡ true → ordered t ≡ true
  formed_ordered kinds (Made h ts) e = all_ordered kinds ts e
  formed_ordered kinds (Record fs end) e =
      and_both (rise fs) (ordered_fields fs)
      (and_left (rise fs) (end_lacks_each kinds fs end && fields_formed kinds fs) e)
      (fields_ordered kinds fs (and_right (end_lacks_each kinds fs end) (fields_formed kinds fs)
      (and_right (rise fs) (end_lacks_each kinds fs end && fields_formed kinds fs) e)))

  all_ordered : (kinds : List Kind) (ts : ElmTypes (Leaf ℕ)) → are_formed kinds ts ≡ true → ordered_all ts ≡ true
  all_ordered kinds NoType e = refl
  all_ordered kinds (MoreType t ts) e =
      and_both (ordered t) (ordered_all ts) (formed_ordered kinds t
      (and_left (is_formed kinds t) (are_formed kinds ts) e))
      (all_ordered kinds ts (and_right (is_formed kinds t) (are_formed kinds ts) e))

  fields_ordered : (kinds : List Kind) (fs : Fields (Leaf ℕ)) → fields_formed kinds fs ≡ true → ordered_fields fs ≡ true
  fields_ordered kinds NoField e = refl
  fields_ordered kinds (MoreField k t fs) e =
      and_both (ordered t) (ordered_fields fs)
      (formed_ordered kinds t (and_left (is_formed kinds t) (fields_formed kinds fs) e))
      (fields_ordered kinds fs (and_right (is_formed kinds t) (fields_formed kinds fs) e))

-- variables in the place of variables
pub by_variables : {X Y : Type 0} (f : X → ElmType Y) (g : X → Y) (t : ElmType X) → ordered t ≡ true
    → AllByRecursion (λ x. f x ≡ variable (g x)) (variables t)
    → substitute f t ≡ renamed g t
by_variables f g t o e = substitute_same f (λ x. variable (g x)) t e ∙ renames_by_substitution g t o
