-- Parts joined by a slash, one more at the end.
use Rattle.std.proofs.Common.{◌≡◌, ℕ, List, [], ◌∷◌, ◌++◌, Bool, true, false, refl, ap, ◌∙◌, sym, append_assoc}
use Rattle.std.proofs.Common.{append-nil}
use Rattle.std.specs.Prelude.{if◌then◌else◌}
use Rattle.std.specs.List.{join_with_byte, filter}
use Rattle.std.proofs.lemmas.List.Elements.{filter-append}

abbrev pub is_nil : List (List ℕ) → Bool
is_nil [] = true
is_nil (x ∷ xs) = false

-- the part with a slash before it, unless it is the first
abbrev slashed : Bool → List ℕ → List ℕ
slashed first part = if first then part else 47 ∷ part

join-snoc : (xs : List (List ℕ)) (y : List ℕ) → join_with_byte 47 (xs ++ y ∷ []) ≡ join_with_byte 47 xs ++ slashed (is_nil xs) y
join-snoc [] y = refl
join-snoc (x ∷ []) y = refl
join-snoc (x ∷ z ∷ xs) y =
    ap (λ t. x ++ (47 ∷ t)) (join-snoc (z ∷ xs) y) ∙ sym (append_assoc x (47 ∷ join_with_byte 47 (z ∷ xs)) (47 ∷ y))

is_nil-snoc : (xs : List (List ℕ)) (y : List ℕ) → is_nil (xs ++ y ∷ []) ≡ false
is_nil-snoc [] y = refl
is_nil-snoc (x ∷ xs) y = refl

-- the text is these parts joined, and the next part is the first where there is none yet
pub record IsJoined (parts : List (List ℕ)) (text : List ℕ) (first : Bool) : Type 0 where
  pub joined : text ≡ join_with_byte 47 parts
  pub nothing_yet : first ≡ is_nil parts

-- one more part
pub next : (parts : List (List ℕ)) (part text after : List ℕ) (first : Bool) → IsJoined parts text first →
    after ≡ text ++ (if first then part else 47 ∷ part) → IsJoined (parts ++ part ∷ []) after false
next parts part text after first j e = record {
  joined = e ∙ ap (λ t. t ++ slashed first part) j.joined ∙ ap (λ b. join_with_byte 47 parts ++ slashed b part) j.nothing_yet ∙ sym (join-snoc parts part);
  nothing_yet = sym (is_nil-snoc parts part);
}

-- what is kept of parts with one more after them
pub filter-snoc : (kept : List ℕ → Bool) (xs : List (List ℕ)) (y : List ℕ) → kept y ≡ true →
    filter kept (xs ++ y ∷ []) ≡ filter kept xs ++ y ∷ []
filter-snoc kept xs y e =
    filter-append kept xs (y ∷ []) ∙ ap (λ b. filter kept xs ++ (if b then y ∷ [] else [])) e

pub filter-skip : (kept : List ℕ → Bool) (xs : List (List ℕ)) (y : List ℕ) → kept y ≡ false →
    filter kept (xs ++ y ∷ []) ≡ filter kept xs
filter-skip kept xs y e =
    filter-append kept xs (y ∷ []) ∙ ap (λ b. filter kept xs ++ (if b then y ∷ [] else [])) e ∙ append-nil (filter kept xs)
