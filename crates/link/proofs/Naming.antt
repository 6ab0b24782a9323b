-- Names of modules among names: `top_more`, `noted_more`; and a pattern's locals: `no_tops`.
use Rattle.std.proofs.Common.{◌≡◌, ℕ, zero, suc, ◌+◌, ◌<◌, length, drop, get_or, arith, List, [], ◌∷◌, ◌++◌, Option}
use Rattle.std.proofs.Common.{Some, None, Bool, true, false, if◌then◌else◌, refl, sym, ap, ◌∙◌, map, append_assoc}
use Rattle.elm_canon.specs.Names.{Name, same_ref}
use Rattle.elm_base.specs.declared.position.Pos.{Pos}
use Rattle.elm_canon.specs.declared.reference.Ref.{Ref}
use Rattle.elm_canon.specs.declared.reference.Ref.TheVariants.{Local, Top}
use Rattle.elm_canon.specs.Tree.{Pattern, Anything, Named, As, Exactly, Construct, FieldsOf, LocatedPattern, Patterns}
use Rattle.elm_canon.specs.Tree.{NoPattern, MorePattern}
use Rattle.elm_canon.specs.Tree.{functions_of, Title, Expr}
use Rattle.elm_canon.specs.Proper.{bound_by, all_bound_by, locals, function_names}
use Rattle.link.specs.Names.{TopName, top_names, noted, is_among}
use Rattle.link.specs.Made.{place_in, titled}

pub top_more : (xs ys : List Ref) → top_names (xs ++ ys) ≡ top_names xs ++ top_names ys
top_more [] ys = refl
top_more (Local x ∷ xs) ys = top_more xs ys
top_more (Top m x ∷ xs) ys = ap (λ ns. (m, x) ∷ ns) (top_more xs ys)

pub noted_more : (before xs ys : List TopName) → noted before (xs ++ ys) ≡ noted (noted before xs) ys
noted_more before [] ys = refl
noted_more before (x ∷ xs) ys = noted_more (if is_among x before then before else before ++ x ∷ []) xs ys

no_local_tops : (xs : List Name) → top_names (locals xs) ≡ []
no_local_tops [] = refl
no_local_tops (x ∷ xs) = no_local_tops xs

mutual
  pub no_tops : (p : Pattern) → top_names (bound_by p) ≡ []
  no_tops Anything = refl
  no_tops (Named x) = refl
  no_tops (As p x) = top_more (bound_by p) (Local x ∷ []) ∙ ap (λ ns. ns ++ []) (no_tops p)
  no_tops (Exactly l) = refl
  no_tops (Construct u a ps) = no_tops_all ps
  no_tops (FieldsOf xs) = no_local_tops xs
  no_tops (LocatedPattern place p) = no_tops p

  no_tops_all : (ps : Patterns) → top_names (all_bound_by ps) ≡ []
  no_tops_all NoPattern = refl
  no_tops_all (MorePattern p ps) =
      top_more (bound_by p) (all_bound_by ps) ∙ ap (λ ns. ns ++ top_names (all_bound_by ps)) (no_tops p)
      ∙ no_tops_all ps

pub function_names_more : (fs gs : List (Title × Patterns × Expr)) →
    function_names (functions_of (fs ++ gs)) ≡ function_names (functions_of fs) ++ function_names (functions_of gs)
function_names_more [] gs = refl
function_names_more (f ∷ fs) gs = ap (λ ns. f.0.name ∷ ns) (function_names_more fs gs)

-- ---- places

pub place_either : Option Pos → Option Pos → Option Pos
place_either None p = p
place_either (Some q) p = Some q

pub place_more : (r : Ref) (xs ys : List (Ref × Pos)) → place_in r (xs ++ ys) ≡ place_either (place_in r xs) (place_in
    r ys)
unfolding place_either
place_more r [] ys = refl
place_more r (x ∷ xs) ys = by (same_ref x.0 r) (place_more r xs ys)
  where
    by : (b : Bool) → place_in r (xs ++ ys) ≡ place_either (place_in r xs) (place_in r ys) →
        (if b then Some x.1 else place_in r (xs ++ ys)) ≡ place_either (if b then Some x.1 else place_in r xs)
        (place_in r ys)
    by true e = refl
    by false e = e

pub place_first : (r : Ref) (xs ys : List (Ref × Pos)) (p : Pos) → Some p ≡ place_in r xs →
    Some p ≡ place_in r (xs ++ ys)
unfolding place_either
place_first r xs ys p e = sym (place_more r xs ys ∙ ap (λ o. place_either o (place_in r ys)) (sym e))

pub place_later : (r : Ref) (xs ys : List (Ref × Pos)) → None ≡ place_in r xs → place_in r (xs ++ ys) ≡ place_in r ys
unfolding place_either
place_later r xs ys e = place_more r xs ys ∙ ap (λ o. place_either o (place_in r ys)) (sym e)

pub titled_more : (fs gs : List (Title × Patterns × Expr)) →
    titled (functions_of (fs ++ gs)) ≡ titled (functions_of fs) ++ titled (functions_of gs)
titled_more [] gs = refl
titled_more (f ∷ fs) gs = ap (λ ns. (f.0.name, f.0.place) ∷ ns) (titled_more fs gs)

-- of one title
pub one_title : (r : Ref) (x : Ref) (p : Pos) (b : Bool) → same_ref x r ≡ b →
    place_in r ((x, p) ∷ []) ≡ (if b then Some p else None)
one_title r x p b e = ap (λ c. if c then Some p else None) e

-- ---- lists from a place on

drop_suc : {X : Type 0} (xs : List X) (i : ℕ) (x : X) → i < length xs → x ≡ get_or xs i x →
    drop i xs ≡ x ∷ drop (suc i) xs
drop_suc [] i x l e = absurd (omega arith)
drop_suc (y ∷ xs) zero x l e = ap (λ z. z ∷ xs) (sym e)
drop_suc (y ∷ xs) (suc i) x l e = drop_suc xs i x (omega arith) e

next_place : (i : ℕ) → suc i ≡ i + 1
next_place i = omega arith

pub drop_at : {X : Type 0} (xs : List X) (i : ℕ) (x : X) → i < length xs → x ≡ get_or xs i x →
    drop i xs ≡ x ∷ drop (i + 1) xs
drop_at xs i x l e = drop_suc xs i x l e ∙ ap (λ k. x ∷ drop k xs) (next_place i)
