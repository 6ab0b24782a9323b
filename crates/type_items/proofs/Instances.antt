-- A scheme with its variables in order of appearance has the same instances, and is principal where the scheme is.
use Rattle.std.proofs.Common.{◌≡◌, ℕ, zero, suc, List, [], ◌∷◌, map, Bool, true, false, cond, refl, sym}
use Rattle.std.proofs.Common.{ap, ◌∙◌}
use Rattle.std.specs.Prelude.{◌&&◌, nat_eq, slice_get, unwrap_or}
use Rattle.std.specs.List.{AllByRecursion, list_any}
use Rattle.elm_type.specs.Types.{Name, ElmType, ElmTypes, Fields, End, Closed, Over, Made, Record, NoType, MoreType}
use Rattle.elm_type.specs.Types.{NoField}
use Rattle.elm_type.specs.Types.{MoreField, int_type, variable, variables, variables_all, variables_fields}
use Rattle.elm_type.specs.Types.{end_variables}
use Rattle.elm_type.specs.Types.{renamed, renamed_all, renamed_fields, renamed_end, Leaf, Free, Fixed, Kind, kind_at}
use Rattle.elm_type.specs.Types.{Scheme}
use Rattle.elm_type.specs.Classes.{Ground}
use Rattle.elm_type.specs.Rows.{extend, at_end, substitute, substitute_all, substitute_fields, is_under, rise}
use Rattle.elm_type.specs.Schemes.{appearing, placed, rename}
use Rattle.elm_type.specs.Ground.{contains, is_ground, leaf_value, fits}
use Rattle.type_items.specs.Principal.{IsInstance, leaf_lacks, end_lacks, end_lacks_each, is_formed, are_formed}
use Rattle.type_items.specs.Principal.{fields_formed}
use Rattle.type_items.specs.Uniqueness.{RenamedPrincipal}
use Rattle.type_items.proofs.Fresh.{fresh, fresh_fits}
use Rattle.type_items.proofs.Matching.{all_first, all_second}
use Rattle.type_items.proofs.Orders.{OfLeaf}
use Rattle.type_items.proofs.Members.{Member, at_place}
use Rattle.type_items.proofs.Renaming.{number, members, new_kind}

-- ---- types in the place of variables that have other names

module _ {X Y Z : Type 0} (f : Y → ElmType Z) (g : X → Y) where
  put_end : (end : End X) → at_end f (renamed_end g end) ≡ at_end (λ x. f (g x)) end
  put_end Closed = refl
  put_end (Over x) = refl

  mutual
    put_renamed : (t : ElmType X) → substitute f (renamed g t) ≡ substitute (λ x. f (g x)) t
    put_renamed (Made h ts) = ap (Made h) (put_all_renamed ts)
    put_renamed (Record fs end) =
        ap (λ e. extend (substitute_fields f (renamed_fields g fs)) e) (put_end end)
        ∙ ap (λ gs. extend gs (at_end (λ x. f (g x)) end)) (put_fields_renamed fs)

    put_all_renamed : (ts : ElmTypes X) → substitute_all f (renamed_all g ts) ≡ substitute_all (λ x. f (g x)) ts
    put_all_renamed NoType = refl
    put_all_renamed (MoreType t ts) =
        ap (λ u. MoreType u (substitute_all f (renamed_all g ts))) (put_renamed t)
        ∙ ap (MoreType (substitute (λ x. f (g x)) t)) (put_all_renamed ts)

    put_fields_renamed : (fs : Fields X) → substitute_fields f (renamed_fields g fs) ≡ substitute_fields (λ x. f (g x)) fs
    put_fields_renamed NoField = refl
    put_fields_renamed (MoreField k t fs) =
        ap (λ u. MoreField k u (substitute_fields f (renamed_fields g fs))) (put_renamed t)
        ∙ ap (MoreField k (substitute (λ x. f (g x)) t)) (put_fields_renamed fs)

module _ {X Y : Type 0} (f g : X → ElmType Y) where
  same_end : (end : End X) → AllByRecursion (λ x. f x ≡ g x) (end_variables end) → at_end f end ≡ at_end g end
  same_end Closed h = refl
  same_end (Over x) h = h.0

  mutual
    put_same : (t : ElmType X) → AllByRecursion (λ x. f x ≡ g x) (variables t) → substitute f t ≡ substitute g t
    put_same (Made h ts) a = ap (Made h) (put_all_same ts a)
    put_same (Record fs end) a =
        ap (λ e. extend (substitute_fields f fs) e) (same_end end (all_first (λ x. f x ≡ g x) (end_variables end) (variables_fields fs) a))
        ∙ ap (λ gs. extend gs (at_end g end)) (put_fields_same fs (all_second (λ x. f x ≡ g x) (end_variables end) (variables_fields fs) a))

    put_all_same : (ts : ElmTypes X) → AllByRecursion (λ x. f x ≡ g x) (variables_all ts) → substitute_all f ts ≡ substitute_all g ts
    put_all_same NoType a = refl
    put_all_same (MoreType t ts) a =
        ap (λ u. MoreType u (substitute_all f ts)) (put_same t (all_first (λ x. f x ≡ g x) (variables t) (variables_all ts) a))
        ∙ ap (MoreType (substitute g t)) (put_all_same ts (all_second (λ x. f x ≡ g x) (variables t) (variables_all ts) a))

    put_fields_same : (fs : Fields X) → AllByRecursion (λ x. f x ≡ g x) (variables_fields fs) → substitute_fields f fs ≡ substitute_fields g fs
    put_fields_same NoField a = refl
    put_fields_same (MoreField k t fs) a =
        ap (λ u. MoreField k u (substitute_fields f fs)) (put_same t (all_first (λ x. f x ≡ g x) (variables t) (variables_fields fs) a))
        ∙ ap (MoreField k (substitute g t)) (put_fields_same fs (all_second (λ x. f x ≡ g x) (variables t) (variables_fields fs) a))

-- ---- formed types with other names

module _ (ks js : List Kind) (f : Leaf ℕ → Leaf ℕ) where
  abbrev Keeps : Leaf ℕ → Type 0
  Keeps l = leaf_lacks js (f l) ≡ leaf_lacks ks l

  under_renamed : (k : Name) (fs : Fields (Leaf ℕ)) → is_under k (renamed_fields f fs) ≡ is_under k fs
  under_renamed k NoField = refl
  under_renamed k (MoreField j t fs) = refl

  rise_renamed : (fs : Fields (Leaf ℕ)) → rise (renamed_fields f fs) ≡ rise fs
  rise_renamed NoField = refl
  rise_renamed (MoreField k t fs) =
      ap (λ b. b && rise (renamed_fields f fs)) (under_renamed k fs) ∙ ap (λ b. is_under k fs && b) (rise_renamed fs)

  end_same : (k : Name) (end : End (Leaf ℕ)) → AllByRecursion Keeps (end_variables end) → end_lacks js k (renamed_end f end) ≡ end_lacks ks k end
  end_same k Closed h = refl
  end_same k (Over l) h = ap (contains k) h.0

  each_same : (fs : Fields (Leaf ℕ)) (end : End (Leaf ℕ)) → AllByRecursion Keeps (end_variables end)
      → end_lacks_each js (renamed_fields f fs) (renamed_end f end) ≡ end_lacks_each ks fs end
  each_same NoField end h = refl
  each_same (MoreField k t fs) end h =
      ap (λ b. b && end_lacks_each js (renamed_fields f fs) (renamed_end f end)) (end_same k end h)
      ∙ ap (λ b. end_lacks ks k end && b) (each_same fs end h)

  mutual
    formed_same : (t : ElmType (Leaf ℕ)) → AllByRecursion Keeps (variables t) → is_formed js (renamed f t) ≡ is_formed ks t
    formed_same (Made h ts) a = all_formed_same ts a
    formed_same (Record fs end) a =
        ap (λ b. b && (end_lacks_each js (renamed_fields f fs) (renamed_end f end) && fields_formed js (renamed_fields f fs))) (rise_renamed fs)
        ∙ (ap (λ b. rise fs && (b && fields_formed js (renamed_fields f fs))) (each_same fs end (all_first Keeps (end_variables end) (variables_fields fs) a))
        ∙ ap (λ b. rise fs && (end_lacks_each ks fs end && b)) (fields_formed_same fs (all_second Keeps (end_variables end) (variables_fields fs) a)))

    all_formed_same : (ts : ElmTypes (Leaf ℕ)) → AllByRecursion Keeps (variables_all ts) → are_formed js (renamed_all f ts) ≡ are_formed ks ts
    all_formed_same NoType a = refl
    all_formed_same (MoreType t ts) a =
        ap (λ b. b && are_formed js (renamed_all f ts)) (formed_same t (all_first Keeps (variables t) (variables_all ts) a))
        ∙ ap (λ b. is_formed ks t && b) (all_formed_same ts (all_second Keeps (variables t) (variables_all ts) a))

    fields_formed_same : (fs : Fields (Leaf ℕ)) → AllByRecursion Keeps (variables_fields fs) → fields_formed js (renamed_fields f fs) ≡ fields_formed ks fs
    fields_formed_same NoField a = refl
    fields_formed_same (MoreField k t fs) a =
        ap (λ b. b && fields_formed js (renamed_fields f fs)) (formed_same t (all_first Keeps (variables t) (variables_fields fs) a))
        ∙ ap (λ b. is_formed ks t && b) (fields_formed_same fs (all_second Keeps (variables t) (variables_fields fs) a))

-- ---- instances

module _ (s : Scheme) where
  abbrev order : List ℕ
  order = appearing s

  -- the choices in order
  abbrev in_turn : (ℕ → Ground) → ℕ → Ground
  in_turn choice k = unwrap_or (slice_get (map choice order) k) int_type

  turn_ground : (choice : ℕ → Ground) → ((i : ℕ) → is_ground (choice i) ≡ true) → (is : List ℕ) (k : ℕ)
      → is_ground (unwrap_or (slice_get (map choice is) k) int_type) ≡ true
  turn_ground choice h [] k = refl
  turn_ground choice h (i ∷ is) zero = h i
  turn_ground choice h (i ∷ is) (suc k) = turn_ground choice h is k

  turn_fits : (choice : ℕ → Ground) → ((i : ℕ) → fits (kind_at s.kinds i) (choice i) ≡ true) → (is : List ℕ) (k : ℕ)
      → fits (kind_at (map (kind_at s.kinds) is) k) (unwrap_or (slice_get (map choice is) k) int_type) ≡ true
  turn_fits choice h [] k = refl
  turn_fits choice h (i ∷ is) zero = h i
  turn_fits choice h (i ∷ is) (suc k) = turn_fits choice h is k

  leaves_in_turn : (choice : ℕ → Ground) (ls : List (Leaf ℕ)) → AllByRecursion (OfLeaf (Member order)) ls
      → AllByRecursion (λ l. leaf_value (in_turn choice) (placed order l) ≡ leaf_value choice l) ls
  leaves_in_turn choice [] h = tt
  leaves_in_turn choice (Free i ∷ ls) h = (ap (λ o. unwrap_or o int_type) (at_place choice order i h.0), leaves_in_turn choice ls h.1)
  leaves_in_turn choice (Fixed r ∷ ls) h = (refl, leaves_in_turn choice ls h.1)

  to_renamed : (g : Ground) → IsInstance s g → IsInstance (rename s) g
  to_renamed g i = record {
    choice = in_turn i.choice;
    ground = turn_ground i.choice i.ground order;
    kinds = turn_fits i.choice i.kinds order;
    is =
        put_renamed (leaf_value (in_turn i.choice)) (placed order) s.type
        ∙ (put_same (λ l. leaf_value (in_turn i.choice) (placed order l)) (leaf_value i.choice) s.type
        (leaves_in_turn i.choice (variables s.type) (members s)) ∙ i.is);
  }

  -- by the variable's place, or where it does not appear by a constant of its kind
  abbrev by_place : (ℕ → Ground) → ℕ → Ground
  by_place choice i = cond (list_any (nat_eq i) order) (choice (number s i)) (variable (fresh 0 s.kinds i))

  either_ground : (choice : ℕ → Ground) (i : ℕ) (b : Bool) → is_ground (choice (number s i)) ≡ true
      → is_ground (cond b (choice (number s i)) (variable (fresh 0 s.kinds i))) ≡ true
  either_ground choice i true h = h
  either_ground choice i false h = refl

  either_fits : (choice : ℕ → Ground) (i : ℕ) (b : Bool) → list_any (nat_eq i) order ≡ b
      → fits (kind_at (rename s).kinds (number s i)) (choice (number s i)) ≡ true
      → fits (kind_at s.kinds i) (cond b (choice (number s i)) (variable (fresh 0 s.kinds i))) ≡ true
  either_fits choice i true e h = ap (λ k. fits k (choice (number s i))) (sym (new_kind s i e)) ∙ h
  either_fits choice i false e h = fresh_fits 0 s.kinds i

  leaves_by_place : (choice : ℕ → Ground) (ls : List (Leaf ℕ)) → AllByRecursion (OfLeaf (Member order)) ls
      → AllByRecursion (λ l. leaf_value (by_place choice) l ≡ leaf_value choice (placed order l)) ls
  leaves_by_place choice [] h = tt
  leaves_by_place choice (Free i ∷ ls) h =
      (ap (λ b. cond b (choice (number s i)) (variable (fresh 0 s.kinds i))) h.0, leaves_by_place choice ls h.1)
  leaves_by_place choice (Fixed r ∷ ls) h = (refl, leaves_by_place choice ls h.1)

  from_renamed : (g : Ground) → IsInstance (rename s) g → IsInstance s g
  from_renamed g i = record {
    choice = by_place i.choice;
    ground = λ k. either_ground i.choice k (list_any (nat_eq k) order) (i.ground (number s k));
    kinds = λ k. either_fits i.choice k (list_any (nat_eq k) order) refl (i.kinds (number s k));
    is =
        put_same (leaf_value (by_place i.choice)) (λ l. leaf_value i.choice (placed order l)) s.type
        (leaves_by_place i.choice (variables s.type) (members s))
        ∙ (sym (put_renamed (leaf_value i.choice) (placed order) s.type) ∙ i.is);
  }

  all_kept : (ls : List (Leaf ℕ)) → AllByRecursion (OfLeaf (Member order)) ls → AllByRecursion (Keeps s.kinds (rename s).kinds (placed order)) ls
  all_kept [] h = tt
  all_kept (Free i ∷ ls) h = (ap (λ k. k.lacks) (new_kind s i h.0), all_kept ls h.1)
  all_kept (Fixed r ∷ ls) h = (refl, all_kept ls h.1)

  formed_renamed : is_formed s.kinds s.type ≡ true → is_formed (rename s).kinds (rename s).type ≡ true
  formed_renamed h = formed_same s.kinds (rename s).kinds (placed order) s.type (all_kept (variables s.type) (members s)) ∙ h

pub renamed_principal : RenamedPrincipal
renamed_principal p items t s h = record {
  formed = formed_renamed s h.formed;
  each = λ g. ((λ has. to_renamed s g ((h.each g).0 has)), (λ i. (h.each g).1 (from_renamed s g i)));
  kept = λ g outside i. h.kept g outside (from_renamed s g i);
}
