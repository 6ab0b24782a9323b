-- Values, unions and aliases in the order of their names, by insertion.
use Rattle.std.proofs.Common.{◌≡◌, List, [], ◌∷◌, map, Bool, true, false, if◌then◌else◌, refl, ap, ◌∙◌}
use Rattle.std.specs.Cmp.{IsStrictWeakOrder}
use Rattle.std.specs.List.Sorted.{IsSortedBy, IsStableBy}
use Rattle.std.proofs.lemmas.Cmp.{nat_list_cmp_total}
use Rattle.std.proofs.lemmas.List.Sorted.{ranks_by}
use Rattle.elm_base.proofs.Sorting as sorting
use Rattle.elm_base.proofs.Sorting.{sorted_is}
use Rattle.elm_canon.specs.Names.{Name}
use Rattle.interface.specs.Interface.{comes_before, inserted, in_order}

-- by the name of what is seen of each
abbrev pub before : {X A : Type 0} → (X → A) → (A → Name) → X → X → Bool
before view name x y = comes_before (name (view x)) (name (view y))

pub is_order : {X A : Type 0} (view : X → A) (name : A → Name) → IsStrictWeakOrder (before view name)
is_order {X} view name = ranks_by nat_list_cmp_total (λ (x : X). name (view x))

insert_step : {X A : Type 0} (view : X → A) (name : A → Name) (m x : X) (xs : List X) (b : Bool) → map view (sorting.inserted (before view name) m xs) ≡ inserted name (view m) (map view xs)
    → map view (if b then x ∷ sorting.inserted (before view name) m xs else m ∷ x ∷ xs) ≡ (if b then view x ∷ inserted name (view m) (map view xs) else view m ∷ view x ∷ map view xs)
insert_step {X} {A} view name m x xs true rest = ap (λ (as_ : List A). view x ∷ as_) rest
insert_step view name m x xs false rest = refl

insert_is : {X A : Type 0} (view : X → A) (name : A → Name) (m : X) (xs : List X) → map view (sorting.inserted (before view name) m xs) ≡ inserted name (view m) (map view xs)
insert_is view name m [] = refl
insert_is view name m (x ∷ xs) = insert_step view name m x xs (before view name x m) (insert_is view name m xs)

order_is : {X A : Type 0} (view : X → A) (name : A → Name) (xs : List X) → map view (sorting.in_order (before view name) xs) ≡ in_order name (map view xs)
order_is view name [] = refl
order_is {X} {A} view name (x ∷ xs) = insert_is view name x (sorting.in_order (before view name) xs) ∙ ap (inserted name (view x)) (order_is view name xs)

pub sort_arranges : {X A : Type 0} (view : X → A) (name : A → Name) (xs ys : List X) → IsSortedBy (before view name) ys → IsStableBy (before view name) xs ys → map view ys ≡ in_order name (map view xs)
sort_arranges view name xs ys up stable = ap (map view) (sorted_is (before view name) (is_order view name) xs ys up stable) ∙ order_is view name xs
