-- Names that come into scope and go out of it.
use Rattle.std.proofs.Common.{◌≡◌, List, [], ◌∷◌, ◌++◌, Bool, true, false, Some, if◌then◌else◌, refl, sym, ap}
use Rattle.std.proofs.Common.{◌∙◌, ℕ, ◌+◌, ◌-◌, ◌<◌, length, take, get_or, arith}
use Rattle.std.proofs.Math.Seq.{take-length}
use Rattle.std.proofs.lemmas.List.{take_more}
use Rattle.std.proofs.Math.Path.{fun_ext}
use Rattle.elm_tree.specs.Tree.{Pos, Word}
use Rattle.elm_canon.specs.Names.{Name, same_name}
use Rattle.canon_env.specs.Imports.{name_of}
use Rattle.canon_env.proofs.Adding.{one_name}
use Rattle.canon_env.specs.Locals.{Locals, with_names}
use Rattle.canon_expr.specs.Scope.{without}
use Rattle.canon_expr.specs.declared.scope.Entered.{Entered}

-- the last names are bound first
pub with_names-append : (xs ys : List Word) (locals : Locals) →
    with_names (xs ++ ys) locals ≡ with_names xs (with_names ys locals)
with_names-append xs ys locals = fun_ext (at xs)
  where
    at : (zs : List Word) (n : Name) → with_names (zs ++ ys) locals n ≡ with_names zs (with_names ys locals) n
    at [] n = refl
    at (z ∷ zs) n = ap (λ o. if same_name (name_of z) n then Some z.place else o) (at zs n)

-- the last names go first
pub without-append : (es fs : List Entered) (locals : Locals) →
    without (es ++ fs) locals ≡ without es (without fs locals)
unfolding without
without-append es fs locals = fun_ext (at es)
  where
    at : (gs : List Entered) (n : Name) → without (gs ++ fs) locals n ≡ without gs (without fs locals) n
    at [] n = refl
    at (g ∷ gs) n = ap (λ o. if same_name g.name n then g.outer else o) (at gs n)

pub without-nothing : (locals : Locals) → without [] locals ≡ locals
unfolding without
without-nothing locals = fun_ext (λ n. refl)

-- a name is bound, and what it was before is bound again
pub bound_again : (old new : Locals) (e : Entered) (place : Pos) →
    ((n : Name) → new n ≡ (if same_name e.name n then Some place else old n)) → e.outer ≡ old e.name →
    without (e ∷ []) new ≡ old
unfolding without
bound_again old new e place put was = fun_ext at
  where
    by : (n : Name) (b : Bool) → same_name e.name n ≡ b →
        (if b then e.outer else (if b then Some place else old n)) ≡ old n
    by n true same = was ∙ ap old (one_name e.name n same)
    by n false other = refl

    at : (n : Name) → without (e ∷ []) new n ≡ old n
    at n =
        ap (λ o. if same_name e.name n then e.outer else o) (put n)
        ∙ by n (same_name e.name n) refl

-- a name is bound again as it was before
pub restored : (old new : Locals) (e : Entered) →
    ((n : Name) → new n ≡ (if same_name e.name n then e.outer else old n)) → new ≡ without (e ∷ []) old
unfolding without
restored old new e h = fun_ext h

-- a name is bound
pub bound : (old new : Locals) (w : Word) →
    ((n : Name) → new n ≡ (if same_name (name_of w) n then Some w.place else old n)) → new ≡ with_names (w ∷ []) old
bound old new w h = fun_ext h

pub with_names-nothing : (locals : Locals) → with_names [] locals ≡ locals
with_names-nothing locals = fun_ext (λ n. refl)

-- a list that is not empty is its front and its last item
pub front_and_last : {X : Type 0} → (xs : List X) (d : X) → 0 < length xs →
    take (length xs - 1) xs ++ get_or xs (length xs - 1) d ∷ [] ≡ xs
front_and_last xs d h =
    sym (take_more xs (length xs - 1) d (omega arith)) ∙ ap (λ n. take n xs) (omega_last (length xs) h) ∙ take-length xs
  where
    omega_last : (n : ℕ) → 0 < n → n - 1 + 1 ≡ n
    omega_last n p = omega arith

pub none_left : {X : Type 0} → (xs : List X) → length xs < 1 → xs ≡ []
none_left [] h = refl
none_left (x ∷ xs) h = absurd (omega arith)
