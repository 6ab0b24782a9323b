-- What holds of a value that is made by steps.
use Rattle.std.proofs.Common.{◌≡◌, Result, Ok, Err, subst}
use Rattle.std.specs.Prelude.{IfOk, IsOkAnd}

-- a value that is made of what is made before
pub of_both : {T U E F : Type 0} → (R : T → U → Type 0) (P : U → Type 0) (G : T → Type 0) (r : Result T E)
    (made : Result U F) → ((x : T) (y : U) → R x y → P y → G x) → IfOk r (λ x. IsOkAnd made (λ y. R x y)) →
    IfOk made P → IfOk r G
of_both R P G (Ok x) (Ok y) f q p = f x y q p
of_both R P G (Ok x) (Err e) f q p = absurd q
of_both R P G (Err e) made f q p = tt

-- a box of what is made
pub in_box : {T B E : Type 0} → (value : B → T) (P : T → Type 0) (b : Result B E) (made : Result T E) →
    IfOk b (λ y. made ≡ Ok (value y)) → IfOk made P → IfOk b (λ y. P (value y))
in_box value P (Ok y) made e p = subst (λ r. IfOk r P) e p
in_box value P (Err f) made e p = tt

-- three things that hold of it
pub of_three : {T E : Type 0} → (P Q R G : T → Type 0) (r : Result T E) → ((x : T) → P x → Q x → R x → G x) →
    IfOk r P → IfOk r Q → IfOk r R → IfOk r G
of_three P Q R G (Ok x) f p q h = f x p q h
of_three P Q R G (Err e) f p q h = tt
