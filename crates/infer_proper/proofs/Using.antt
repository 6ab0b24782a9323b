-- The names that a proper expression uses are in scope, or bound inside it.
use Rattle.std.proofs.Common.{List, [], ◌∷◌, ◌++◌, sym, subst, ◌⊎◌, inl, inr}
use Rattle.elm_canon.specs.declared.reference.Ref.{Ref}
use Rattle.elm_canon.specs.Tree.{Expr, Is, NameOf, Accessor, Lambda, Apply, Strict, If, Logical, Let, Case, Located}
use Rattle.elm_canon.specs.Tree.{Exprs, NoExpr, MoreExpr, Branches, NoBranch, MoreBranch, Groups, NoGroup, MoreGroup}
use Rattle.elm_canon.specs.Tree.{Group, Together, Constant, Destructure, Functions, NoFunction, MoreFunction}
use Rattle.elm_canon.specs.Proper.{Scope, IsIn, with_all, bound_by, all_bound_by, group_names, function_names}
use Rattle.elm_canon.specs.Proper.{after, Proper, AllProper, ProperBranches, ProperGroups, ProperGroup}
use Rattle.elm_canon.specs.Proper.{ProperFunctions}
use Rattle.type_items.specs.Uses.{used, used_each, used_branches, used_groups, used_group, used_functions}
use Rattle.elm_canon.specs.Apart.{let_names, inner_names, inner_each, inner_branches, inner_groups, inner_group}
use Rattle.elm_canon.specs.Apart.{inner_functions}
use Rattle.elm_canon.proofs.Among.{first_or_later, in_left, in_right, in_both, with_cases, after_cases}

module _ (x : Ref) where
  -- in scope, or among these
  abbrev pub Known : Scope → List Ref → Type 0
  Known scope xs = IsIn x scope ⊎ IsIn x xs

  on_left : (scope : Scope) (xs ys : List Ref) → Known scope xs → Known scope (xs ++ ys)
  on_left scope xs ys (inl h) = inl h
  on_left scope xs ys (inr h) = inr (in_left x xs ys h)

  on_right : (scope : Scope) (xs ys : List Ref) → Known scope ys → Known scope (xs ++ ys)
  on_right scope xs ys (inl h) = inl h
  on_right scope xs ys (inr h) = inr (in_right x xs ys h)

  -- with names that are bound before
  bound : (scope : Scope) (ns xs : List Ref) → Known (with_all ns scope) xs → Known scope (ns ++ xs)
  bound scope ns xs (inl h) = on_left scope ns xs (with_cases x ns scope h)
  bound scope ns xs (inr h) = inr (in_right x ns xs h)

  bound_after : (scope : Scope) (gs : Groups) (xs ys : List Ref) → Known (after gs scope) ys
      → Known scope (let_names gs ++ (xs ++ ys))
  bound_after scope gs xs ys (inl h) = on_left scope (let_names gs) (xs ++ ys) (after_cases x gs scope h)
  bound_after scope gs xs ys (inr h) = inr (in_right x (let_names gs) (xs ++ ys) (in_right x xs ys h))

  parts : {Y : Type 0} (us vs : List Ref) → IsIn x (us ++ vs) → (IsIn x us → Y) → (IsIn x vs → Y) → Y
  parts us vs h f g = elim (in_both x us vs h) [
    | inl l ↦ f l
    | inr r ↦ g r
  ]

  both_known : (scope : Scope) (gs : Groups) (ys : List Ref) → Known scope (let_names gs ++ inner_groups gs)
      → Known scope (let_names gs ++ (inner_groups gs ++ ys))
  both_known scope gs ys (inl h) = inl h
  both_known scope gs ys (inr h) =
      parts (let_names gs) (inner_groups gs) h
      (λ l. inr (in_left x (let_names gs) (inner_groups gs ++ ys) l))
      (λ r. inr (in_right x (let_names gs) (inner_groups gs ++ ys) (in_left x (inner_groups gs) ys r)))

  first_group : (scope : Scope) (g : Group) (gs : Groups) → Known scope (group_names g ++ inner_group g)
      → Known scope (let_names (MoreGroup g gs) ++ inner_groups (MoreGroup g gs))
  first_group scope g gs (inl h) = inl h
  first_group scope g gs (inr h) =
      parts (group_names g) (inner_group g) h
      (λ l. inr (in_left x (let_names (MoreGroup g gs)) (inner_groups (MoreGroup g gs))
      (in_left x (group_names g) (let_names gs) l)))
      (λ r. inr (in_right x (let_names (MoreGroup g gs)) (inner_groups (MoreGroup g gs))
      (in_left x (inner_group g) (inner_groups gs) r)))

  later_groups : (scope : Scope) (g : Group) (gs : Groups)
      → Known (with_all (group_names g) scope) (let_names gs ++ inner_groups gs)
      → Known scope (let_names (MoreGroup g gs) ++ inner_groups (MoreGroup g gs))
  later_groups scope g gs (inl h) = elim (with_cases x (group_names g) scope h) [
    | inl k ↦ inl k
    | inr k ↦ inr (in_left x (let_names (MoreGroup g gs)) (inner_groups (MoreGroup g gs))
        (in_left x (group_names g) (let_names gs) k))
  ]
  later_groups scope g gs (inr h) =
      parts (let_names gs) (inner_groups gs) h
      (λ l. inr (in_left x (let_names (MoreGroup g gs)) (inner_groups (MoreGroup g gs))
      (in_right x (group_names g) (let_names gs) l)))
      (λ r. inr (in_right x (let_names (MoreGroup g gs)) (inner_groups (MoreGroup g gs))
      (in_right x (inner_group g) (inner_groups gs) r)))

  mutual
    pub used_known : (scope : Scope) (e : Expr) → Proper scope e → IsIn x (used e) → Known scope (inner_names e)
    used_known scope (Is l) p h = absurd cc
    used_known scope (NameOf y) p h = elim (first_or_later x y [] h) [
      | inl is ↦ inl (subst (λ z. IsIn z scope) (sym is) p)
      | inr k ↦ absurd cc
    ]
    used_known scope (Accessor y) p h = absurd cc
    used_known scope (Lambda ps e) p h =
        bound scope (all_bound_by ps) (inner_names e) (used_known (with_all (all_bound_by ps) scope) e p.1.1 h)
    used_known scope (Apply f es) p h =
        parts (used f) (used_each es) h
        (λ l. on_left scope (inner_names f) (inner_each es) (used_known scope f p.0 l))
        (λ r. on_right scope (inner_names f) (inner_each es) (each_known scope es p.1 r))
    used_known scope (Strict op es) p h = each_known scope es p.1 h
    used_known scope (If c a b) p h =
        parts (used c ++ used a) (used b) h
        (λ l. parts (used c) (used a) l
        (λ i. on_left scope (inner_names c) (inner_names a ++ inner_names b) (used_known scope c p.0 i))
        (λ j. on_right scope (inner_names c) (inner_names a ++ inner_names b)
        (on_left scope (inner_names a) (inner_names b) (used_known scope a p.1.0 j))))
        (λ r. on_right scope (inner_names c) (inner_names a ++ inner_names b)
        (on_right scope (inner_names a) (inner_names b) (used_known scope b p.1.1 r)))
    used_known scope (Logical pos op a b) p h =
        parts (used a) (used b) h
        (λ l. on_left scope (inner_names a) (inner_names b) (used_known scope a p.0 l))
        (λ r. on_right scope (inner_names a) (inner_names b) (used_known scope b p.1 r))
    used_known scope (Let gs e) p h =
        parts (used_groups gs) (used e) h
        (λ l. both_known scope gs (inner_names e) (groups_known scope gs p.0 l))
        (λ r. bound_after scope gs (inner_groups gs) (inner_names e) (used_known (after gs scope) e p.1 r))
    used_known scope (Case e bs) p h =
        parts (used e) (used_branches bs) h
        (λ l. on_left scope (inner_names e) (inner_branches bs) (used_known scope e p.0 l))
        (λ r. on_right scope (inner_names e) (inner_branches bs) (branches_known scope bs p.1 r))
    used_known scope (Located pos e) p h = used_known scope e p h

    each_known : (scope : Scope) (es : Exprs) → AllProper scope es → IsIn x (used_each es) → Known scope (inner_each es)
    each_known scope NoExpr p h = absurd cc
    each_known scope (MoreExpr e es) p h =
        parts (used e) (used_each es) h
        (λ l. on_left scope (inner_names e) (inner_each es) (used_known scope e p.0 l))
        (λ r. on_right scope (inner_names e) (inner_each es) (each_known scope es p.1 r))

    branches_known : (scope : Scope) (bs : Branches) → ProperBranches scope bs → IsIn x (used_branches bs)
        → Known scope (inner_branches bs)
    branches_known scope NoBranch p h = absurd cc
    branches_known scope (MoreBranch q e bs) p h =
        parts (used e) (used_branches bs) h
        (λ l. bound scope (bound_by q) (inner_names e ++ inner_branches bs)
        (on_left (with_all (bound_by q) scope) (inner_names e) (inner_branches bs)
        (used_known (with_all (bound_by q) scope) e p.1.0 l)))
        (λ r. on_right scope (bound_by q) (inner_names e ++ inner_branches bs)
        (on_right scope (inner_names e) (inner_branches bs) (branches_known scope bs p.1.1 r)))

    groups_known : (scope : Scope) (gs : Groups) → ProperGroups scope gs → IsIn x (used_groups gs)
        → Known scope (let_names gs ++ inner_groups gs)
    groups_known scope NoGroup p h = absurd cc
    groups_known scope (MoreGroup g gs) p h =
        parts (used_group g) (used_groups gs) h
        (λ l. first_group scope g gs (group_known scope g p.0 l))
        (λ r. later_groups scope g gs (groups_known (with_all (group_names g) scope) gs p.1 r))

    -- in scope, of the group, or bound inside it
    pub group_known : (scope : Scope) (g : Group) → ProperGroup scope g → IsIn x (used_group g)
        → Known scope (group_names g ++ inner_group g)
    group_known scope (Together fs) p h =
        bound scope (function_names fs) (inner_functions fs)
        (functions_known (with_all (function_names fs) scope) fs p.1 h)
    group_known scope (Constant title e) p h =
        on_right scope (title.name ∷ []) (inner_names e) (used_known scope e p.1.1 h)
    group_known scope (Destructure q e) p h = on_right scope (bound_by q) (inner_names e) (used_known scope e p.1 h)

    functions_known : (scope : Scope) (fs : Functions) → ProperFunctions scope fs → IsIn x (used_functions fs)
        → Known scope (inner_functions fs)
    functions_known scope NoFunction p h = absurd cc
    functions_known scope (MoreFunction title ps e fs) p h =
        parts (used e) (used_functions fs) h
        (λ l. bound scope (all_bound_by ps) (inner_names e ++ inner_functions fs)
        (on_left (with_all (all_bound_by ps) scope) (inner_names e) (inner_functions fs)
        (used_known (with_all (all_bound_by ps) scope) e p.1.1.1.0 l)))
        (λ r. on_right scope (all_bound_by ps) (inner_names e ++ inner_functions fs)
        (on_right scope (inner_names e) (inner_functions fs) (functions_known scope fs p.1.1.1.1 r)))
