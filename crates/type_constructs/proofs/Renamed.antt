-- Types with other variables: their values, whether they are formed, and their sizes.
use Rattle.std.proofs.Common.{◌≡◌, ℕ, ◌+◌, List, refl, ap, ◌∙◌}
use Rattle.std.specs.Prelude.{◌&&◌}
use Rattle.std.specs.List.{AllByRecursion}
use Rattle.elm_type.specs.Types.{Name, ElmType, ElmTypes, Fields, End, Closed, Over, Made, Record, NoType, MoreType}
use Rattle.elm_type.specs.Types.{NoField, MoreField}
use Rattle.elm_type.specs.Types.{variables, variables_all, variables_fields, end_variables, renamed, renamed_all}
use Rattle.elm_type.specs.Types.{renamed_fields, renamed_end}
use Rattle.elm_type.specs.Types.{size, size_all, size_fields, Leaf, Kind}
use Rattle.elm_type.specs.Rows.{extend, at_end, substitute, substitute_all, substitute_fields, is_under, rise}
use Rattle.elm_type.specs.Ground.{contains}
use Rattle.type_items.specs.Principal.{leaf_lacks, end_lacks, end_lacks_each, is_formed, are_formed, fields_formed}
use Rattle.type_items.proofs.Matching.{all_first, all_second}

-- ---- the same types in the places of other variables

module _ {X Y Z : Type 0} (f : X → ElmType Z) (d : Y → ElmType Z) (g : X → Y) where
  abbrev Same : X → Type 0
  Same x = f x ≡ d (g x)

  end_put : (end : End X) → AllByRecursion Same (end_variables end) → at_end f end ≡ at_end d (renamed_end g end)
  end_put Closed h = refl
  end_put (Over x) h = h.0

  mutual
    pub put_same : (t : ElmType X) → AllByRecursion Same (variables t) → substitute f t ≡ substitute d (renamed g t)
    put_same (Made h ts) a = ap (Made h) (all_put ts a)
    put_same (Record fs end) a =
        ap (λ gs. extend gs (at_end f end)) (fields_put fs
        (all_second Same (end_variables end) (variables_fields fs) a))
        ∙ ap (extend (substitute_fields d (renamed_fields g fs)))
        (end_put end (all_first Same (end_variables end) (variables_fields fs) a))

    all_put : (ts : ElmTypes X) → AllByRecursion Same (variables_all ts)
        → substitute_all f ts ≡ substitute_all d (renamed_all g ts)
    all_put NoType a = refl
    all_put (MoreType t ts) a =
        ap (λ u. MoreType u (substitute_all f ts)) (put_same t (all_first Same (variables t) (variables_all ts) a))
        ∙ ap (MoreType (substitute d (renamed g t))) (all_put ts (all_second Same (variables t) (variables_all ts) a))

    fields_put : (fs : Fields X) → AllByRecursion Same (variables_fields fs)
        → substitute_fields f fs ≡ substitute_fields d (renamed_fields g fs)
    fields_put NoField a = refl
    fields_put (MoreField k t fs) a =
        ap (λ u. MoreField k u (substitute_fields f fs))
        (put_same t (all_first Same (variables t) (variables_fields fs) a))
        ∙ ap (MoreField k (substitute d (renamed g t)))
        (fields_put fs (all_second Same (variables t) (variables_fields fs) a))

-- ---- whether they are formed

module _ (ks js : List Kind) (f : Leaf ℕ → Leaf ℕ) where
  abbrev pub Keeps : Leaf ℕ → Type 0
  Keeps l = leaf_lacks js (f l) ≡ leaf_lacks ks l

  under_renamed : (k : Name) (fs : Fields (Leaf ℕ)) → is_under k (renamed_fields f fs) ≡ is_under k fs
  under_renamed k NoField = refl
  under_renamed k (MoreField j t fs) = refl

  rise_renamed : (fs : Fields (Leaf ℕ)) → rise (renamed_fields f fs) ≡ rise fs
  rise_renamed NoField = refl
  rise_renamed (MoreField k t fs) =
      ap (λ b. b && rise (renamed_fields f fs)) (under_renamed k fs) ∙ ap (λ b. is_under k fs && b) (rise_renamed fs)

  end_same : (k : Name) (end : End (Leaf ℕ)) → AllByRecursion Keeps (end_variables end)
      → end_lacks js k (renamed_end f end) ≡ end_lacks ks k end
  end_same k Closed h = refl
  end_same k (Over l) h = ap (contains k) h.0

  each_same : (fs : Fields (Leaf ℕ)) (end : End (Leaf ℕ)) → AllByRecursion Keeps (end_variables end)
      → end_lacks_each js (renamed_fields f fs) (renamed_end f end) ≡ end_lacks_each ks fs end
  each_same NoField end h = refl
  each_same (MoreField k t fs) end h =
      ap (λ b. b && end_lacks_each js (renamed_fields f fs) (renamed_end f end)) (end_same k end h) ∙ ap
      (λ b. end_lacks ks k end && b) (each_same fs end h)

  mutual
    pub formed_same : (t : ElmType (Leaf ℕ)) → AllByRecursion Keeps (variables t)
        → is_formed js (renamed f t) ≡ is_formed ks t
    formed_same (Made h ts) a = all_formed_same ts a
    formed_same (Record fs end) a =
        ap (λ b. b && (end_lacks_each js (renamed_fields f fs) (renamed_end f end) && fields_formed js
        (renamed_fields f fs))) (rise_renamed fs)
        ∙ (ap (λ b. rise fs && (b && fields_formed js (renamed_fields f fs)))
        (each_same fs end (all_first Keeps (end_variables end) (variables_fields fs) a))
        ∙ ap (λ b. rise fs && (end_lacks_each ks fs end && b))
        (fields_formed_same fs (all_second Keeps (end_variables end) (variables_fields fs) a)))

    all_formed_same : (ts : ElmTypes (Leaf ℕ)) → AllByRecursion Keeps (variables_all ts)
        → are_formed js (renamed_all f ts) ≡ are_formed ks ts
    all_formed_same NoType a = refl
    all_formed_same (MoreType t ts) a =
        ap (λ b. b && are_formed js (renamed_all f ts))
        (formed_same t (all_first Keeps (variables t) (variables_all ts) a))
        ∙ ap (λ b. is_formed ks t && b) (all_formed_same ts (all_second Keeps (variables t) (variables_all ts) a))

    fields_formed_same : (fs : Fields (Leaf ℕ)) → AllByRecursion Keeps (variables_fields fs)
        → fields_formed js (renamed_fields f fs) ≡ fields_formed ks fs
    fields_formed_same NoField a = refl
    fields_formed_same (MoreField k t fs) a =
        ap (λ b. b && fields_formed js (renamed_fields f fs))
        (formed_same t (all_first Keeps (variables t) (variables_fields fs) a))
        ∙ ap (λ b. is_formed ks t && b) (fields_formed_same fs (all_second Keeps (variables t) (variables_fields fs) a))

-- ---- how large they are

mutual
  pub size_renamed : {X Y : Type 0} (f : X → Y) (t : ElmType X) → size (renamed f t) ≡ size t
  size_renamed f (Made h ts) = ap (λ n. 1 + n) (size_all_renamed f ts)
  size_renamed f (Record fs Closed) = ap (λ n. 1 + n) (size_fields_renamed f fs)
  size_renamed f (Record NoField (Over x)) = refl
  size_renamed f (Record (MoreField k t fs) (Over x)) =
      ap (λ n. 2 + (n + size_fields (renamed_fields f fs))) (size_renamed f t) ∙ ap (λ n. 2 + (size t + n))
      (size_fields_renamed f fs)

  size_all_renamed : {X Y : Type 0} (f : X → Y) (ts : ElmTypes X) → size_all (renamed_all f ts) ≡ size_all ts
  size_all_renamed f NoType = refl
  size_all_renamed f (MoreType t ts) =
      ap (λ n. n + size_all (renamed_all f ts)) (size_renamed f t) ∙ ap (λ n. size t + n) (size_all_renamed f ts)

  size_fields_renamed : {X Y : Type 0} (f : X → Y) (fs : Fields X) → size_fields (renamed_fields f fs) ≡ size_fields fs
  size_fields_renamed f NoField = refl
  size_fields_renamed f (MoreField k t fs) =
      ap (λ n. n + size_fields (renamed_fields f fs)) (size_renamed f t) ∙ ap (λ n. size t + n)
      (size_fields_renamed f fs)
