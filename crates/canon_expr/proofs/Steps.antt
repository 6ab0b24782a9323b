-- One item more.
use Rattle.std.proofs.Common.{◌≡◌, ℕ, ◌+◌, ◌<◌, List, [], ◌∷◌, ◌++◌, length, map, take, get_or, ap, sym, ◌∙◌, append_assoc}
use Rattle.std.proofs.Common.{append-nil}
use Rattle.std.proofs.Math.Seq.{take-length}
use Rattle.std.specs.List.{flat_map}
use Rattle.std.proofs.lemmas.Grind.{flat_map-append}
use Rattle.canon_env.proofs.Filtering.{map_next}

pub flat_next : {X Y Z : Type 0} → (f : Y → List Z) (g : X → Y) (xs : List X) (i : ℕ) (x : X) → i < length xs →
    x ≡ get_or xs i x → flat_map f (map g (take (i + 1) xs)) ≡ flat_map f (map g (take i xs)) ++ f (g x)
flat_next f g xs i x lt is =
    ap (flat_map f) (map_next g xs i x lt is)
    ∙ flat_map-append f (map g (take i xs)) (g x ∷ [])
    ∙ ap (λ r. flat_map f (map g (take i xs)) ++ r) (append-nil (f (g x)))

-- what comes after a list, with the next one after it
pub after_both : {A : Type 0} → (mid new old before one after : List A) → mid ≡ old ++ before → new ≡ mid ++ one →
    after ≡ before ++ one → new ≡ old ++ after
after_both mid new old before one after h more e =
    more ∙ ap (λ (l : List _). l ++ one) h ∙ append_assoc old before one ∙ ap (λ (l : List _). old ++ l) (sym e)

pub take_all : {X : Type 0} → (i : ℕ) (xs : List X) → i ≡ length xs → take i xs ≡ xs
take_all i xs e = ap (λ n. take n xs) e ∙ take-length xs
