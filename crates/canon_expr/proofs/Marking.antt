-- Which definitions reach themselves, one after the other.
use Rattle.std.proofs.Common.{◌≡◌, ℕ, ◌+◌, suc, List, [], ◌∷◌, ◌++◌, Bool, true, false, if◌then◌else◌, length, map, None, refl, sym, ap, ◌∙◌, arith}
use Rattle.std.specs.Prelude.{◌&&◌, not}
use Rattle.std.specs.List.{enumerate_from}
use Rattle.elm_base.specs.declared.fault.Code.TheVariants.{RecursiveValue}
use Rattle.canon_env.specs.Naming.{World}
use Rattle.canon_env.specs.Sites.{Defined, Reaching, faults_at, finding, recursion_faults}
use Rattle.canon_expr.specs.Logs.{Grows, used_place}
use Rattle.canon_expr.specs.declared.log.Log.{Log}
use Rattle.canon_expr.proofs.Growing.{grows_one}
use Rattle.std.proofs.lemmas.List.{append-nil, map-append}
use Rattle.std.proofs.Common.{Result, Ok, Err, OnOk}
use Rattle.decl_groups.specs.InOrder.{uses_itself}
use Rattle.canon_expr.specs.Blocks.{reaching_sites}

reaching_faults : (w : World) (b : Bool) (d : Defined) → faults_at w (Reaching b d) ≡ recursion_faults b d
unfolding faults_at
reaching_faults w b d = refl

reaching_unused : (w : World) (b : Bool) (d : Defined) → used_place w (Reaching b d) ≡ None
unfolding used_place
reaching_unused w b d = refl

-- a definition that is not refused
pub not_refused : (w : World) (log : Log) (b : Bool) (d : Defined) → (b && not d.is_function) ≡ false →
    Grows w log log (Reaching b d ∷ [])
not_refused w log b d e =
    grows_one (Reaching b d) []
    (reaching_faults w b d ∙ ap (λ t. if t then finding RecursiveValue d.place d.name ∷ [] else []) e)
    (reaching_unused w b d) (sym (append-nil log.findings.items)) refl

-- one that is
pub refused : (w : World) (old new : Log) (b : Bool) (d : Defined) → (b && not d.is_function) ≡ true →
    new.findings.items ≡ old.findings.items ++ finding RecursiveValue d.place d.name ∷ [] →
    new.uses.items ≡ old.uses.items → Grows w old new (Reaching b d ∷ [])
refused w old new b d e found used =
    grows_one (Reaching b d) (finding RecursiveValue d.place d.name ∷ [])
    (reaching_faults w b d ∙ ap (λ t. if t then finding RecursiveValue d.place d.name ∷ [] else []) e)
    (reaching_unused w b d) found used

pub no_reach : (b : Bool) (d : Defined) → b ≡ false → (b && not d.is_function) ≡ false
no_reach b d e = ap (λ t. t && not d.is_function) e

pub no_function : (b : Bool) (d : Defined) → d.is_function ≡ true → (b && not d.is_function) ≡ false
no_function true d e = ap not e
no_function false d e = refl

pub both_so : (b : Bool) (d : Defined) → b ≡ true → d.is_function ≡ false → (b && not d.is_function) ≡ true
both_so b d e f = ap (λ t. t && not d.is_function) e ∙ ap not f

pub enumerate_next : {X : Type 0} → (n : ℕ) (xs : List X) (x : X) →
    enumerate_from n (xs ++ x ∷ []) ≡ enumerate_from n xs ++ (n + length xs, x) ∷ []
enumerate_next n [] x = let e : n ≡ n + 0 = omega arith in ap (λ k. (k, x) ∷ []) e
enumerate_next n (y ∷ xs) x =
    let e : n + 1 + length xs ≡ n + suc (length xs) = omega arith in
    ap (λ l. (n, y) ∷ l) (enumerate_next (n + 1) xs x ∙ ap (λ k. enumerate_from (n + 1) xs ++ (k, x) ∷ []) e)

-- one definition more
pub reaching_next : (uses : List (List ℕ)) (ds : List Defined) (d : Defined) (i : ℕ) → length ds ≡ i →
    reaching_sites uses (ds ++ d ∷ []) ≡ reaching_sites uses ds ++ Reaching (uses_itself uses i) d ∷ []
reaching_next uses ds d i e =
    let one = λ (p : ℕ × Defined). Reaching (uses_itself uses p.0) p.1 in
    let n : 0 + length ds ≡ i = omega (arith, e) in
    ap (map one) (enumerate_next 0 ds d)
    ∙ map-append one (enumerate_from 0 ds) ((0 + length ds, d) ∷ [])
    ∙ ap (λ k. reaching_sites uses ds ++ Reaching (uses_itself uses k) d ∷ []) n

pub on_ok_both : {T E P Q R : Type 0} → (r : Result T E) → (P → Q → R) → OnOk r P → OnOk r Q → OnOk r R
on_ok_both (Ok x) f p q = f p q
on_ok_both (Err e) f p q = tt
