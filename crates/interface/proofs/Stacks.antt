-- A stack that holds what was read: the last item is the first type.
use Rattle.std.proofs.Common.{◌≡◌, ℕ, zero, suc, ◌+◌, ◌-◌, ◌<◌, ◌≤◌, List, [], ◌∷◌, ◌++◌, length, get_or, drop, reverse, Option, Some, None, Bool, true, false, not, if◌then◌else◌, refl, sym, ap, ◌∙◌, arith}
use mathlib.Core.Bool.{beq}
use Rattle.std.proofs.lemmas.Grind.{common_steps}
use Rattle.elm_type.specs.Spelling.{type_of, AreSpelled}
use Rattle.elm_type.specs.declared.node.Node.{Node}
use Rattle.interface.specs.Formats.{◌>>=◌}
use Rattle.interface.specs.Shapes.{left_after, shaped, shapes_of, is_one, are_shaped, type_at}
use Rattle.interface.proofs.Shaping.{are_spelled}

pub reverse_push : {A : Type 0} (xs : List A) (x : A) → reverse (xs ++ x ∷ []) ≡ x ∷ reverse xs
reverse_push xs x = grind (arith, common_steps)

differ : (c b : Bool) → not (beq c b) ≡ true → c ≡ b → ⊥
differ true true e = absurd (cc)
differ true false e = λ h. cc
differ false true e = λ h. cc
differ false false e = absurd (cc)

agree : (c b : Bool) → not (beq c b) ≡ false → c ≡ b
agree true true e = refl
agree true false e = absurd (cc)
agree false true e = absurd (cc)
agree false false e = refl

-- ---- so many types

one_after : (b : Bool) (n : ℕ) (shapes : List Bool) → left_after b (suc n) (b ∷ shapes) ≡ left_after b n shapes
one_after true n shapes = refl
one_after false n shapes = refl

other_after : (b c : Bool) (n : ℕ) (shapes : List Bool) → (c ≡ b → ⊥) → left_after b (suc n) (c ∷ shapes) ≡ None
other_after true true n shapes h = absurd (h refl)
other_after true false n shapes h = refl
other_after false true n shapes h = refl
other_after false false n shapes h = absurd (h refl)

nothing_after : (b : Bool) (n : ℕ) → left_after b (suc n) [] ≡ None
nothing_after true n = refl
nothing_after false n = refl

all_after : (b : Bool) (shapes : List Bool) → left_after b 0 shapes ≡ Some shapes
all_after true shapes = refl
all_after false shapes = refl

pub step_off : (b c : Bool) (n i : ℕ) (old new : List Bool) (total : Option (List Bool)) → i < n → old ≡ new ++ c ∷ [] → not (beq c b) ≡ false → left_after b (n - i) (reverse old) ≡ total → left_after b (n - (i + 1)) (reverse new) ≡ total
step_off b c n i old new total lt is same so_far =
    let k : n - i ≡ suc (n - (i + 1)) = omega arith in
    sym (ap (λ (m : ℕ). left_after b m (reverse old)) k ∙ ap (λ (xs : List Bool). left_after b (suc (n - (i + 1))) xs) (ap reverse is ∙ reverse_push new c ∙ ap (λ (d : Bool). d ∷ reverse new) (agree c b same)) ∙ one_after b (n - (i + 1)) (reverse new)) ∙ so_far

pub other_off : (b c : Bool) (n i : ℕ) (old new : List Bool) (total : Option (List Bool)) → i < n → old ≡ new ++ c ∷ [] → not (beq c b) ≡ true → left_after b (n - i) (reverse old) ≡ total → total ≡ None
other_off b c n i old new total lt is differs so_far =
    let k : n - i ≡ suc (n - (i + 1)) = omega arith in
    sym so_far ∙ ap (λ (m : ℕ). left_after b m (reverse old)) k ∙ ap (λ (xs : List Bool). left_after b (suc (n - (i + 1))) xs) (ap reverse is ∙ reverse_push new c) ∙ other_after b c (n - (i + 1)) (reverse new) (differ c b differs)

pub none_off : (b : Bool) (n i : ℕ) (old : List Bool) (total : Option (List Bool)) → i < n → old ≡ [] → left_after b (n - i) (reverse old) ≡ total → total ≡ None
none_off b n i old total lt is so_far =
    let k : n - i ≡ suc (n - (i + 1)) = omega arith in
    sym so_far ∙ ap (λ (m : ℕ). left_after b m (reverse old)) k ∙ ap (λ (xs : List Bool). left_after b (suc (n - (i + 1))) (reverse xs)) is ∙ nothing_after b (n - (i + 1))

pub all_off : (b : Bool) (n i : ℕ) (old : List Bool) (total : Option (List Bool)) → n ≤ i → left_after b (n - i) (reverse old) ≡ total → total ≡ Some (reverse old)
all_off b n i old total le so_far =
    let k : n - i ≡ 0 = omega arith in
    sym so_far ∙ ap (λ (m : ℕ). left_after b m (reverse old)) k ∙ all_after b (reverse old)

-- ---- nodes from the last to the first

node_before : (ns : List Node) (i : ℕ) (n : Node) → i < length ns → n ≡ get_or ns i n → shapes_of (drop i ns) ≡ (shapes_of (drop (suc i) ns) >>= shaped n)
unfolding shapes_of
node_before [] i n lt is = absurd (omega arith)
node_before (m ∷ ns) zero n lt is = ap (λ (k : Node). shapes_of ns >>= shaped k) (sym is)
node_before (m ∷ ns) (suc i) n lt is = node_before ns i n (omega arith) is

pub one_more_node : (ns : List Node) (i j : ℕ) (n : Node) → j ≡ suc i → i < length ns → n ≡ get_or ns i n → shapes_of (drop i ns) ≡ (shapes_of (drop j ns) >>= shaped n)
one_more_node ns i j n next lt is = node_before ns i n lt is ∙ ap (λ (k : ℕ). shapes_of (drop k ns) >>= shaped n) (sym next)

pub refused_before : (ns : List Node) (i : ℕ) → shapes_of (drop i ns) ≡ None → shapes_of ns ≡ None
unfolding shapes_of
refused_before ns zero e = e
refused_before [] (suc i) e = absurd (cc)
refused_before (n ∷ ns) (suc i) e = ap (λ (r : Option (List Bool)). r >>= shaped n) (refused_before ns i e)

-- ---- what the nodes are

pub shaped_type : (ns : List Node) → are_shaped (shapes_of ns) ≡ true → type_at ns ≡ Some (type_of ns)
shaped_type ns e = at (shapes_of ns) e
  where
    at : (r : Option (List Bool)) → are_shaped r ≡ true → (r >>= λ shapes. if is_one shapes then Some (type_of ns) else None) ≡ Some (type_of ns)
    at None e = absurd (cc)
    at (Some shapes) e = ap (λ (b : Bool). if b then Some (type_of ns) else None) e

pub no_shaped_type : (ns : List Node) → are_shaped (shapes_of ns) ≡ false → type_at ns ≡ None
no_shaped_type ns e = at (shapes_of ns) e
  where
    at : (r : Option (List Bool)) → are_shaped r ≡ false → (r >>= λ shapes. if is_one shapes then Some (type_of ns) else None) ≡ None
    at None e = refl
    at (Some shapes) e = ap (λ (b : Bool). if b then Some (type_of ns) else None) e

pub shaped_spelled : (ns : List Node) → are_shaped (shapes_of ns) ≡ true → AreSpelled ns
shaped_spelled ns e = at (shapes_of ns) refl e
  where
    at : (r : Option (List Bool)) → shapes_of ns ≡ r → are_shaped r ≡ true → AreSpelled ns
    at None h e = absurd (cc)
    at (Some shapes) h e = are_spelled ns shapes h e

-- ---- the loop over the nodes

pub shapes_at_end : (ns : List Node) (items : List Bool) → items ≡ [] → shapes_of (drop (length ns) ns) ≡ Some (reverse items)
unfolding shapes_of
shapes_at_end [] items e = ap (λ (xs : List Bool). Some (reverse xs)) (sym e)
shapes_at_end (n ∷ ns) items e = shapes_at_end ns items e

-- a node in front of those that were read
pub node_added : (ns : List Node) (i : ℕ) (n : Node) (stack : List Bool) (found : Option (List Bool)) → 0 < i → i ≤ length ns → n ≡ get_or ns (i - 1) n
    → shapes_of (drop i ns) ≡ Some (reverse stack) → shaped n (reverse stack) ≡ found → shapes_of (drop (i - 1) ns) ≡ found
node_added ns i n stack found some within is so_far h =
    one_more_node ns (i - 1) i n (omega arith) (omega arith) is ∙ ap (λ (r : Option (List Bool)). r >>= shaped n) so_far ∙ h

pub node_refused : (ns : List Node) (i : ℕ) → shapes_of (drop i ns) ≡ None → false ≡ are_shaped (shapes_of ns)
node_refused ns i e = sym (ap are_shaped (refused_before ns i e))

pub taken_is : {A : Type 0} (taken : Bool) (xs : A) → taken ≡ true → (if taken then Some xs else None) ≡ Some xs
taken_is taken xs e = ap (λ (b : Bool). if b then Some xs else None) e

pub taken_none : {A : Type 0} (taken : Bool) (xs : A) → taken ≡ false → (if taken then Some xs else None) ≡ None
taken_none taken xs e = ap (λ (b : Bool). if b then Some xs else None) e
