-- A scheme with the fields that its variables lack in order has the same instances.
use Rattle.std.proofs.Common.{◌≡◌, ℕ, zero, suc, List, [], ◌∷◌, map, true, refl, subst}
use Rattle.std.proofs.Common.{⊎_elim}
use Rattle.std.specs.List.{Contains}
use Rattle.elm_type.specs.Types.{Name, Kind, Scheme, kind_at}
use Rattle.elm_type.specs.Classes.{Ground, meets}
use Rattle.elm_type.specs.Ground.{lacks, lacks_all, fits}
use Rattle.elm_type.specs.Order.{in_order, kind_in_order, scheme_in_order}
use Rattle.elm_type.proofs.Ascending.{first_or, first_in, rest_in, none_in}
use Rattle.elm_type.proofs.Inserted.{same_names}
use Rattle.typed_values.proofs.Keeping.{and_left, and_right, and_both}
use Rattle.program_safety.specs.Parts.{HasInstances}

lacks_each : (xs : List Name) (g : Ground) (x : Name) → lacks_all xs g ≡ true → Contains xs x → lacks x g ≡ true
lacks_each [] g x e c = absurd (none_in x c)
lacks_each (y ∷ ys) g x e c =
    ⊎_elim (λ is. subst (λ z. lacks z g ≡ true) is (and_left (lacks y g) (lacks_all ys g) e))
    (λ later. lacks_each ys g x (and_right (lacks y g) (lacks_all ys g) e) later) (first_or y ys x c)

each_lacks : (xs : List Name) (g : Ground) → ((x : Name) → Contains xs x → lacks x g ≡ true) → lacks_all xs g ≡ true
each_lacks [] g h = refl
each_lacks (y ∷ ys) g h =
    and_both (lacks y g) (lacks_all ys g) (h y (first_in y ys)) (each_lacks ys g (λ x c. h x (rest_in y ys x c)))

kind_fits : (k : Kind) (g : Ground) → fits (kind_in_order k) g ≡ true → fits k g ≡ true
kind_fits k g e =
    and_both (meets k.class g) (lacks_all k.lacks g) (and_left (meets k.class g) (lacks_all (in_order k.lacks) g) e)
    (each_lacks k.lacks g (λ x c. lacks_each (in_order k.lacks) g x
    (and_right (meets k.class g) (lacks_all (in_order k.lacks) g) e) ((same_names k.lacks x).1 c)))

at_fits : (ks : List Kind) (i : ℕ) (g : Ground) → fits (kind_at (map kind_in_order ks) i) g ≡ true
    → fits (kind_at ks i) g ≡ true
at_fits [] i g e = e
at_fits (k ∷ ks) zero g e = kind_fits k g e
at_fits (k ∷ ks) (suc i) g e = at_fits ks i g e

pub ordered_instances : (s : Scheme) → HasInstances s (scheme_in_order s)
ordered_instances s f choice stands chosen =
    (choice, record { kinds = λ i. at_fits s.kinds i (choice i) (chosen.kinds i) }, refl)
