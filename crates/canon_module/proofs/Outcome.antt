-- What holds of a value that is made by steps.
use Rattle.std.proofs.Common.{◌≡◌, Result, Option, Ok, Err, Some, OnOk, true, sym, subst}
use Rattle.std.specs.Prelude.{IfOk, IsOkAnd, is_ok}
use Rattle.std.specs.Result.{result_and}

-- a box of what is made
pub in_box : {T B E : Type 0} → (value : B → T) (P : T → Type 0) (b : Result B E) (made : Result T E) →
    IfOk b (λ y. made ≡ Ok (value y)) → IfOk made P → IfOk b (λ y. P (value y))
in_box value P (Ok y) made e p = subst (λ r. IfOk r P) e p
in_box value P (Err f) made e p = tt

-- what is kept in a place if it is made
pub kept : {T U E : Type 0} → (P : Option T → Type 0) (place : Option T) (r : Result U E) (made : Result T E) →
    OnOk r (IsOkAnd made (λ x. place ≡ Some x)) → IfOk made (λ x. P (Some x)) → OnOk r (P place)
kept P place (Ok u) (Ok x) e p = subst P (sym e) p
kept P place (Ok u) (Err f) e p = absurd e
kept P place (Err f) made e p = tt

-- what holds where a value is made, and what is done with it
pub with_made : {T U E F H : Type 0} → {Q P : T → Type 0} → (r : Result U E) (made : Result T F) →
    ((x : T) → Q x → P x → H) → OnOk r (IsOkAnd made Q) → IfOk made P → OnOk r H
with_made (Ok u) (Ok x) f q p = f x q p
with_made (Ok u) (Err e) f q p = absurd q
with_made (Err e) made f q p = tt

-- the same of what holds whatever the value is
pub where_made : {T U E F : Type 0} → (Q : T → Type 0) (H : Type 0) (r : Result U E) (made : Result T F) →
    OnOk r (IsOkAnd made Q) → OnOk made H → OnOk r H
where_made Q H (Ok u) (Ok x) q h = h
where_made Q H (Ok u) (Err e) q h = absurd q
where_made Q H (Err e) made q h = tt

pub where_done : {T U E F : Type 0} → (H : Type 0) (r : Result U E) (made : Result T F) → OnOk r (is_ok made ≡ true) →
    OnOk made H → OnOk r H
where_done H (Ok u) (Ok x) e h = h
where_done H (Ok u) (Err f) e h = absurd cc
where_done H (Err e) made q h = tt

pub anyway : {T E H : Type 0} → (r : Result T E) → H → OnOk r H
anyway (Ok x) h = h
anyway (Err e) h = tt

pub of_made : {T E : Type 0} → (P : T → Type 0) (r : Result T E) (x : T) → r ≡ Ok x → IfOk r P → P x
of_made P r x e h = subst (λ q. IfOk q P) e h

-- a value that stands unless what was done fails
pub if_done : {T U E : Type 0} → (r : Result T E) (done : Result U E) (v : T) (P : T → Type 0) →
    r ≡ result_and done (Ok v) → P v → IfOk r P
if_done r (Ok u) v P e h = subst (λ x. IfOk x P) (sym e) h
if_done r (Err f) v P e h = subst (λ x. IfOk x P) (sym e) tt

pub on_done : {T U E : Type 0} → (H : Type 0) (r : Result T E) (done : Result U E) (v : T) →
    r ≡ result_and done (Ok v) → OnOk done H → OnOk r H
on_done H r (Ok u) v e h = subst (λ x. OnOk x H) (sym e) h
on_done H r (Err f) v e h = subst (λ x. OnOk x H) (sym e) tt
