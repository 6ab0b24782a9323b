-- What is known of the variables that a new row names, or is asked of them.
use Rattle.std.proofs.Common.{◌≡◌, ℕ, ◌<◌, List, [], ◌∷◌, ◌++◌, length, set, map, false, Option, Some, None, inr, ⊎_elim, refl, arith}
use Rattle.std.specs.List.{All, Contains}
use Rattle.std.proofs.lemmas.List.Elements.{All-cons, All-nil, Contains-append_left, Contains-append_right, Contains-append_cases}
use Rattle.elm_type.specs.Types.{Name, any_kind}
use Rattle.elm_type.specs.Ground.{contains}
use Rattle.type_store.specs.Store.{FieldSlot, Cell, Row, Store, slot_at, field_names}
use Rattle.type_store.specs.Solutions.{Ask, InClass, Lacks}
use Rattle.type_store.specs.Shape.{NoneIn}
use Rattle.type_store.specs.Steps.{kind_asks, rest_asks, put}
use Rattle.type_store.specs.Spreading.{HasLack, SpreadBut}
use Rattle.type_store.proofs.Keeping.{Keeps, keeps_chained, keeps_kinds, keeps_put}

abbrev pub Within : List Ask → List Ask → Type 0
Within xs ys = (a : Ask) → Contains xs a → Contains ys a

pub within_left : (xs ys : List Ask) → Within xs (xs ++ ys)
within_left xs ys a h = Contains-append_left xs ys a h

pub within_right : (xs ys : List Ask) → Within ys (xs ++ ys)
within_right xs ys a h = Contains-append_right xs ys a h

-- all that was asked is asked
pub keeps_within : (s : Store) (before after : List Ask) → Within before after → Keeps s before s after
keeps_within s before after i = keeps_kinds s s before after (λ w. refl) (λ w d. i (InClass w d)) (λ w x. i (Lacks w x))

-- a slot is written whose kind is asked already
pub keeps_again : (s : Store) (v d : ℕ) (c : Cell) (work : List Ask) → v < length s → Within (kind_asks v (slot_at s v).kind) work → Keeps s work (set s v (put c d)) work
keeps_again s v d c work l i =
    let kinds = kind_asks v (slot_at s v).kind in
    keeps_chained s (set s v (put c d)) (set s v (put c d)) work (work ++ kinds) work (keeps_put s v d c work l)
    (keeps_within (set s v (put c d)) (work ++ kinds) work (λ a h. ⊎_elim (λ q. q) (i a) (Contains-append_cases work kinds a h)))

none_listed : (xs : List Name) → NoneIn xs []
none_listed [] = All-nil (λ x. contains x [] ≡ false)
none_listed (x ∷ xs) = All-cons (λ x. contains x [] ≡ false) x xs refl (none_listed xs)

lacks_asked : (t : Store) (work : List Ask) (w : ℕ) (xs : List Name) → Within (map (Lacks w) xs) work → All (HasLack t work w) xs
lacks_asked t work w [] i = All-nil (HasLack t work w)
lacks_asked t work w (x ∷ xs) i =
    All-cons (HasLack t work w) x xs (inr (i (Lacks w x) (0, omega arith, refl)))
    (lacks_asked t work w xs (λ a h. i a (Contains-append_right (Lacks w x ∷ []) (map (Lacks w) xs) a h)))

-- where a row ends is asked to lack its fields
pub row_spread : (t : Store) (work : List Ask) (fs : List FieldSlot) (end : Option ℕ) → Within (rest_asks end (field_names fs)) work → SpreadBut t work any_kind (Row fs end)
row_spread t work fs None i = (refl, none_listed (field_names fs))
row_spread t work fs (Some w) i = (refl, none_listed (field_names fs), lacks_asked t work w (field_names fs) i)
