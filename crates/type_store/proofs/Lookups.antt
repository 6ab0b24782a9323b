-- A name is in a list.
use Rattle.std.proofs.Common.{◌≡◌, ℕ, zero, suc, ◌+◌, ◌<◌, List, [], ◌∷◌, length, get_or, take, map, true, false, sym, ap, ◌∙◌, arith, add-one}
use Rattle.std.specs.Prelude.{◌||◌}
use Rattle.std.specs.Str.{bytes_eq}
use Rattle.elm_type.specs.Types.{Name}
use Rattle.elm_type.specs.Ground.{contains}
use Rattle.type_store.specs.Store.{field_names}
use Rattle.type_store.specs.declared.slot.FieldSlot.{FieldSlot}
use Rattle.type_store.specs.View.{field_view}
use Rattle.type_store.proofs.RowsMeet.{or_right, not_had}

pub contains_hit : (x : Name) (ys : List Name) (i : ℕ) (y : Name) → i < length ys → y ≡ get_or ys i y → bytes_eq x y ≡ true → true ≡ contains x ys
contains_hit x [] i y l e h = absurd (omega (arith, l))
contains_hit x (z ∷ ys) zero y l e h = sym (ap (λ b. b || contains x ys) (ap (bytes_eq x) (sym e) ∙ h))
contains_hit x (z ∷ ys) (suc i) y l e h = sym (or_right (bytes_eq x z) (contains x ys) (sym (contains_hit x ys i y (omega (arith, l)) e h)))

miss : (x : Name) (ys : List Name) (i : ℕ) (y : Name) → i < length ys → y ≡ get_or ys i y → bytes_eq x y ≡ false → contains x (take i ys) ≡ false → contains x (take (suc i) ys) ≡ false
miss x [] i y l e h n = absurd (omega (arith, l))
miss x (z ∷ ys) zero y l e h n = ap (λ b. b || false) (ap (bytes_eq x) (sym e) ∙ h)
miss x (z ∷ ys) (suc i) y l e h n =
    let k = not_had (bytes_eq x z) (contains x (take i ys)) n in
    ap (λ b. b || contains x (take (suc i) ys)) k.0 ∙ miss x ys i y (omega (arith, l)) e h k.1

pub contains_miss : (x : Name) (ys : List Name) (i : ℕ) (y : Name) → i < length ys → y ≡ get_or ys i y → bytes_eq x y ≡ false → contains x (take i ys) ≡ false → contains x (take (i + 1) ys) ≡ false
contains_miss x ys i y l e h n = rw add-one (miss x ys i y l e h n)

pub field_hit : (x : Name) (fs : List FieldSlot) (i : ℕ) (f : FieldSlot) → i < length fs → f ≡ get_or fs i f → bytes_eq x f.name ≡ true → true ≡ contains x (field_names (map field_view fs))
field_hit x [] i y l e h = absurd (omega (arith, l))
field_hit x (z ∷ fs) zero y l e h = sym (ap (λ b. b || contains x (field_names (map field_view fs))) (ap (λ (f : FieldSlot). bytes_eq x f.name) (sym e) ∙ h))
field_hit x (z ∷ fs) (suc i) y l e h = sym (or_right (bytes_eq x z.name) (contains x (field_names (map field_view fs))) (sym (field_hit x fs i y (omega (arith, l)) e h)))

missed : (x : Name) (fs : List FieldSlot) (i : ℕ) (f : FieldSlot) → i < length fs → f ≡ get_or fs i f → bytes_eq x f.name ≡ false → contains x (field_names (map field_view (take i fs))) ≡ false → contains x (field_names (map field_view (take (suc i) fs))) ≡ false
missed x [] i y l e h n = absurd (omega (arith, l))
missed x (z ∷ fs) zero y l e h n = ap (λ b. b || false) (ap (λ (f : FieldSlot). bytes_eq x f.name) (sym e) ∙ h)
missed x (z ∷ fs) (suc i) y l e h n =
    let k = not_had (bytes_eq x z.name) (contains x (field_names (map field_view (take i fs)))) n in
    ap (λ b. b || contains x (field_names (map field_view (take (suc i) fs)))) k.0 ∙ missed x fs i y (omega (arith, l)) e h k.1

pub field_miss : (x : Name) (fs : List FieldSlot) (i : ℕ) (f : FieldSlot) → i < length fs → f ≡ get_or fs i f → bytes_eq x f.name ≡ false → contains x (field_names (map field_view (take i fs))) ≡ false → contains x (field_names (map field_view (take (i + 1) fs))) ≡ false
field_miss x fs i f l e h n = rw add-one (missed x fs i f l e h n)
