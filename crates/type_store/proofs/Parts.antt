-- Slots, and what holds of each part of a cell.
use Rattle.std.proofs.Common.{◌≡◌, ℕ, ◌≤◌, List, [], ◌∷◌, ◌++◌, length, ap}
use Rattle.std.specs.Prelude.{All, unwrap_or}
use Rattle.std.proofs.lemmas.List.Elements.{All-head, All-tail, All-cons, All-nil}
use Rattle.std.proofs.lemmas.Option.{slice_get_past}
use Rattle.type_store.specs.Store.{Store, slot_at, open_slot}

pub all_first : {X : Type 0} (P : X → Type 0) (xs ys : List X) → All P (xs ++ ys) → All P xs
all_first P [] ys h = All-nil P
all_first P (x ∷ xs) ys h = All-cons P x xs (All-head P x (xs ++ ys) h) (all_first P xs ys (All-tail P x (xs ++ ys) h))

pub all_second : {X : Type 0} (P : X → Type 0) (xs ys : List X) → All P (xs ++ ys) → All P ys
all_second P [] ys h = h
all_second P (x ∷ xs) ys h = all_second P xs ys (All-tail P x (xs ++ ys) h)

-- what holds of all, where another thing does
pub all_with : {X : Type 0} (P Q R : X → Type 0) (xs : List X) → ((x : X) → P x → Q x → R x) → All P xs → All Q xs → All R xs
all_with P Q R [] k p q = All-nil R
all_with P Q R (x ∷ xs) k p q =
    All-cons R x xs (k x (All-head P x xs p) (All-head Q x xs q)) (all_with P Q R xs k (All-tail P x xs p) (All-tail Q x xs q))

-- of what is not there nothing is known
pub slot_past : (s : Store) (v : ℕ) → length s ≤ v → slot_at s v ≡ open_slot
slot_past s v h = ap (λ o. unwrap_or o open_slot) (slice_get_past s v h)
