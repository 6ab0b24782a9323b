-- Which definitions use which: those of a group use none of a later group.
use Rattle.std.proofs.Common.{◌≡◌, ℕ, zero, suc, ◌≤◌, List, [], ◌∷◌, ◌++◌, Some, false, sym}
use Rattle.std.proofs.Common.{subst, ◌⊎◌, inl, inr, arith}
use Rattle.std.specs.Prelude.{slice_get}
use Rattle.std.proofs.lemmas.Option.{same_Some}
use Rattle.elm_canon.specs.declared.reference.Ref.{Ref}
use Rattle.elm_canon.specs.Tree.{Groups, NoGroup, MoreGroup, Group, Together, Constant, Destructure}
use Rattle.elm_canon.specs.Tree.{Functions, NoFunction, MoreFunction}
use Rattle.elm_canon.specs.Proper.{Scope, among, IsIn, with_all, group_names, function_names}
use Rattle.elm_canon.specs.Proper.{ProperGroups, ProperGroup}
use Rattle.type_items.specs.Definitions.{Definition}
use Rattle.type_items.specs.Expressions.{group_definitions, function_definitions}
use Rattle.type_items.specs.Uses.{used, used_group, used_functions}
use Rattle.infer_order.specs.Spots.{at_spot}
use Rattle.infer_order.specs.Order.{group_list}
use Rattle.elm_canon.specs.Apart.{let_names, inner_group, inner_groups, NamesApart}
use Rattle.elm_canon.proofs.Among.{first_or_later, later, in_left, in_right, in_both, with_old, with_new, two_ways}
use Rattle.elm_canon.proofs.Among.{is_false, fresh_new, first}
use Rattle.infer_proper.proofs.Using.{group_known}

module _ (x : Ref) where
  -- ---- the names and the uses of a definition of a group

  only_name : (y : Ref) (ys : List Ref) → IsIn x (y ∷ []) → IsIn x (y ∷ ys)
  only_name y ys h = elim (first_or_later x y [] h) [
    | inl is ↦ subst (λ z. IsIn x (z ∷ ys)) is (first x ys)
    | inr k ↦ absurd cc
  ]

  function_name : (fs : Functions) (k : ℕ) (d : Definition) → slice_get (function_definitions fs) k ≡ Some d
      → IsIn x d.names → IsIn x (function_names fs)
  function_name NoFunction k d e h = absurd cc
  function_name (MoreFunction title ps b fs) zero d e h =
      only_name title.name (function_names fs)
      (subst (λ (y : Definition). IsIn x y.names) (sym (same_Some _ d e)) h)
  function_name (MoreFunction title ps b fs) (suc k) d e h =
      later x title.name (function_names fs) (function_name fs k d e h)

  function_use : (fs : Functions) (k : ℕ) (d : Definition) → slice_get (function_definitions fs) k ≡ Some d
      → IsIn x d.uses → IsIn x (used_functions fs)
  function_use NoFunction k d e h = absurd cc
  function_use (MoreFunction title ps b fs) zero d e h =
      in_left x (used b) (used_functions fs)
      (subst (λ (y : Definition). IsIn x y.uses) (sym (same_Some _ d e)) h)
  function_use (MoreFunction title ps b fs) (suc k) d e h =
      in_right x (used b) (used_functions fs) (function_use fs k d e h)

  group_name : (g : Group) (k : ℕ) (d : Definition) → slice_get (group_definitions g) k ≡ Some d → IsIn x d.names
      → IsIn x (group_names g)
  group_name (Together fs) k d e h = function_name fs k d e h
  group_name (Constant title b) zero d e h = subst (λ (y : Definition). IsIn x y.names) (sym (same_Some _ d e)) h
  group_name (Constant title b) (suc k) d e h = absurd cc
  group_name (Destructure q b) zero d e h = subst (λ (y : Definition). IsIn x y.names) (sym (same_Some _ d e)) h
  group_name (Destructure q b) (suc k) d e h = absurd cc

  group_use : (g : Group) (k : ℕ) (d : Definition) → slice_get (group_definitions g) k ≡ Some d → IsIn x d.uses
      → IsIn x (used_group g)
  group_use (Together fs) k d e h = function_use fs k d e h
  group_use (Constant title b) zero d e h = subst (λ (y : Definition). IsIn x y.uses) (sym (same_Some _ d e)) h
  group_use (Constant title b) (suc k) d e h = absurd cc
  group_use (Destructure q b) zero d e h = subst (λ (y : Definition). IsIn x y.uses) (sym (same_Some _ d e)) h
  group_use (Destructure q b) (suc k) d e h = absurd cc

  -- ---- the names of later groups

  group_fresh : (scope : Scope) (g : Group) → ProperGroup scope g → IsIn x (group_names g) → among x scope ≡ false
  group_fresh scope (Together fs) p h = fresh_new x (function_names fs) scope p.0 h
  group_fresh scope (Constant title b) p h = fresh_new x (title.name ∷ []) scope (p.1.0, tt) h
  group_fresh scope (Destructure q b) p h = fresh_new x _ scope p.0.1 h

  names_fresh : (scope : Scope) (gs : Groups) (h l : ℕ) (d : Definition) → ProperGroups scope gs
      → at_spot (group_list gs) h l ≡ Some d → IsIn x d.names → among x scope ≡ false
  names_fresh scope NoGroup h l d p e n = absurd cc
  names_fresh scope (MoreGroup g gs) zero l d p e n = group_fresh scope g p.0 (group_name g l d e n)
  names_fresh scope (MoreGroup g gs) (suc h) l d p e n =
      is_false (among x scope) (λ i. two_ways (among x (with_all (group_names g) scope))
      (with_old x (group_names g) scope i) (names_fresh (with_all (group_names g) scope) gs h l d p.1 e n))

  among_let : (gs : Groups) (h l : ℕ) (d : Definition) → at_spot (group_list gs) h l ≡ Some d → IsIn x d.names
      → IsIn x (let_names gs)
  among_let NoGroup h l d e n = absurd cc
  among_let (MoreGroup g gs) zero l d e n = in_left x (group_names g) (let_names gs) (group_name g l d e n)
  among_let (MoreGroup g gs) (suc h) l d e n =
      in_right x (group_names g) (let_names gs) (among_let gs h l d e n)

-- the names of later groups are apart too
pub later_apart : (g : Group) (gs : Groups) → NamesApart (MoreGroup g gs) → NamesApart gs
later_apart g gs apart = λ y m.
    is_false (among y (inner_groups gs)) (λ k. two_ways (among y (inner_groups (MoreGroup g gs)))
    (in_right y (inner_group g) (inner_groups gs) k) (apart y (in_right y (group_names g) (let_names gs) m)))

-- ---- a definition uses no name of a later group

module _ (x : Ref) where
  pub not_later : (scope : Scope) (gs : Groups) → ProperGroups scope gs → NamesApart gs → (g k h l : ℕ)
      (d e : Definition) → at_spot (group_list gs) g k ≡ Some d → at_spot (group_list gs) h l ≡ Some e
      → IsIn x e.names → IsIn x d.uses → h ≤ g
  not_later scope NoGroup p apart g k h l d e at there n u = absurd cc
  not_later scope (MoreGroup f gs) p apart g k zero l d e at there n u = omega arith
  not_later scope (MoreGroup f gs) p apart zero k (suc h) l d e at there n u =
      absurd (never (group_known x scope f p.0 (group_use x f k d at u)))
    where
      off : among x (with_all (group_names f) scope) ≡ false
      off = names_fresh x (with_all (group_names f) scope) gs h l e p.1 there n

      inside : among x (inner_groups (MoreGroup f gs)) ≡ false
      inside = apart x (in_right x (group_names f) (let_names gs) (among_let x gs h l e there n))

      never : IsIn x scope ⊎ IsIn x (group_names f ++ inner_group f) → ⊥
      never (inl i) =
          two_ways (among x (with_all (group_names f) scope)) (with_old x (group_names f) scope i) off
      never (inr i) = elim (in_both x (group_names f) (inner_group f) i) [
        | inl a ↦ two_ways (among x (with_all (group_names f) scope)) (with_new x (group_names f) scope a) off
        | inr b ↦ two_ways (among x (inner_groups (MoreGroup f gs)))
            (in_left x (inner_group f) (inner_groups gs) b) inside
      ]
  not_later scope (MoreGroup f gs) p apart (suc g) k (suc h) l d e at there n u =
      let r = not_later (with_all (group_names f) scope) gs p.1 (later_apart f gs apart) g k h l d e at there n u in
      omega (arith, r)
