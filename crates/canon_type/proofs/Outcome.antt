-- What holds of a value that is made by steps.
use Rattle.std.proofs.Common.{◌≡◌, List, [], ◌∷◌, ◌++◌, map, Result, Ok, Err, OnOk, sym, ap, ◌∙◌, subst}
use Rattle.std.specs.Prelude.{IfOk, IsOkAnd, is_ok}
use Rattle.std.specs.Result.{result_and, result_unwrap_or}
use Rattle.std.proofs.lemmas.Bool.{false≢true}
use Rattle.canon_env.proofs.Filtering.{pushed}

pub both : {T E : Type 0} {P Q G : T → Type 0} → (r : Result T E) → ((x : T) → P x → Q x → G x) → IfOk r P →
    IfOk r Q → IfOk r G
both (Ok x) f p q = f x p q
both (Err e) f p q = tt

-- the value of a box
pub out_of : {T B E : Type 0} → (value : B → T) (P : T → Type 0) (r : Result T E) (b : Result B E) →
    IfOk r (λ x. IsOkAnd b (λ y. x ≡ value y)) → IfOk b (λ y. P (value y)) → IfOk r P
out_of value P (Ok x) (Ok y) e p = subst P (sym e) p
out_of value P (Ok x) (Err f) e p = absurd e
out_of value P (Err f) b e p = tt

-- a box of what was changed by a step that did not fail
pub done_boxed : {T B U E H : Type 0} → (value : B → T) (P : T → Type 0) (b : Result B E) (w : Result T E)
    (done : Result U E) (v : T) → IfOk b (λ y. w ≡ Ok (value y)) → w ≡ result_and done (Ok v) → OnOk done H →
    (H → P v) → IfOk b (λ y. P (value y))
done_boxed value P (Ok y) w (Ok u) v e d h f = subst P (sym (ap (λ r. result_unwrap_or r v) (sym e ∙ d))) (f h)
done_boxed value P (Ok y) w (Err g) v e d h f = absurd (false≢true (sym (ap is_ok (sym e ∙ d))))
done_boxed value P (Err g) w done v e d h f = tt

-- what is made of other values, if they are made
pub through : {T V E F : Type 0} {P : T → V → Type 0} {Q : V → Type 0} {G : T → Type 0} → (r : Result T E)
    (m : Result V F) → ((x : T) (y : V) → P x y → Q y → G x) → IfOk r (λ x. IsOkAnd m (λ y. P x y)) → IfOk m Q →
    IfOk r G
through (Ok x) (Ok y) f e q = f x y e q
through (Ok x) (Err g) f e q = absurd e
through (Err g) m f e q = tt

-- what was done when they were made
pub done_through : {T V E F H G : Type 0} → (P : T → V → Type 0) (r : Result T E) (m : Result V F) → (H → G) →
    IfOk r (λ x. IsOkAnd m (λ y. P x y)) → OnOk m H → OnOk r G
done_through P (Ok x) (Ok y) f e h = f h
done_through P (Ok x) (Err g) f e h = absurd e
done_through P (Err g) m f e h = tt

pub when_made : {T E H : Type 0} → (P : T → Type 0) (m : Result T E) → IsOkAnd m P → OnOk m H → H
when_made P (Ok x) e h = h
when_made P (Err g) e h = absurd e

-- one item more, which is made
pub added : {X Y E : Type 0} → (f : X → Y) (made : Result X E) (old new : List X) (l : List Y) (y : Y) →
    IsOkAnd made (λ x. new ≡ old ++ x ∷ []) → IfOk made (λ x. f x ≡ y) → map f old ≡ l → map f new ≡ l ++ y ∷ []
added f (Ok x) old new l y e g h = pushed f old new x l y e h g
added f (Err z) old new l y e g h = absurd e

-- the same of a list that is known by what f makes of the value
pub added_of : {X Y E : Type 0} → (f : X → Y) (made : Result X E) (old new l : List Y) (y : Y) →
    IsOkAnd made (λ x. new ≡ old ++ f x ∷ []) → IfOk made (λ x. f x ≡ y) → old ≡ l → new ≡ l ++ y ∷ []
added_of f (Ok x) old new l y e g h = e ∙ ap (λ z. z ++ f x ∷ []) h ∙ ap (λ z. l ++ z ∷ []) g
added_of f (Err z) old new l y e g h = absurd e
