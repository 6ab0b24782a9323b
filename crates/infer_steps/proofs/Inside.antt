-- Regions below a place, and what of them is inside others.
use Rattle.std.proofs.Common.{◌≡◌, ℕ, refl, arith}
use Rattle.type_items.specs.Items.{Place, child}
use Rattle.type_walks.specs.Regions.{Region, only, below, span, Inside}
use Rattle.type_walks.proofs.Regions.{child_in_span, below_in_span}
use Rattle.type_walks.proofs.Linking.{left_inside, right_inside}
use Rattle.type_constructs.specs.Regions.{tops}
use Rattle.type_constructs.proofs.Spots.{Here, Child, Itself, Tops, In, atom_inside}
use Rattle.type_constructs.proofs.Parts.{tops_in_tops, only_in_tops}
use Rattle.infer_steps.specs.Operations.{beside, operands, parameters}

pub inside_itself : (R : Region) → Inside R R
inside_itself R = record { each = λ r h. h }

pub inside_on : {R Q X : Region} → Inside R Q → Inside Q X → Inside R X
inside_on h k = record { each = λ r e. k.each r (h.each r e) }

-- ---- children one and two

pub first_next : (q : Place) → Inside (only (child q 1)) (span q 1 2)
first_next q = child_in_span q 1 2 1 (omega arith) (omega arith)

pub below_next : (q : Place) → Inside (below (child q 1)) (span q 1 2)
below_next q = below_in_span q 1 2 1 (omega arith) (omega arith)

pub field_next : (q : Place) → Inside (only (child (child q 2) 0)) (span q 1 2)
field_next q = inside_on (atom_inside (child q 2) (In (Child Here 0) Itself) refl) (below_in_span q 1 2 2 (omega arith)
    (omega arith))

pub fields_next : (q : Place) (n : ℕ) → Inside (tops (child q 2) 0 n) (span q 1 2)
fields_next q n = inside_on (atom_inside (child q 2) (In Here (Tops 0 n)) refl) (below_in_span q 1 2 2 (omega arith)
    (omega arith))

-- ---- beside the parts

pub types_beside : (q : Place) (m n : ℕ) → m ≡ n → Inside (tops (child q 0) 0 m) (beside n q)
types_beside q m n e =
    inside_on (tops_in_tops (child q 0) 0 n 0 m (omega arith) (omega (arith, e))) (left_inside (tops (child q 0) 0 n)
    (span q 1 2))

pub next_beside : (q : Place) (n : ℕ) → Inside (span q 1 2) (beside n q)
next_beside q n = right_inside (tops (child q 0) 0 n) (span q 1 2)

pub first_beside : (q : Place) (n : ℕ) → Inside (only (child q 1)) (beside n q)
first_beside q n = inside_on (first_next q) (next_beside q n)

pub below_beside : (q : Place) (n : ℕ) → Inside (below (child q 1)) (beside n q)
below_beside q n = inside_on (below_next q) (next_beside q n)

-- ---- others

pub same_tops : (p : Place) (m n : ℕ) → m ≡ n → Inside (tops p 0 m) (tops p 0 n)
same_tops p m n e = tops_in_tops p 0 n 0 m (omega arith) (omega (arith, e))

pub left_operand : (q : Place) → Inside (only (child q 0)) (operands q)
left_operand q = only_in_tops q 0 2 0 (omega arith) (omega arith)

pub right_operand : (q : Place) → Inside (only (child q 1)) (operands q)
right_operand q = only_in_tops q 0 2 1 (omega arith) (omega arith)

pub parameters_in : (q : Place) (m n : ℕ) → m ≡ n → Inside (tops (child q 0) 0 m) (parameters n q)
parameters_in q m n e = inside_on (same_tops (child q 0) m n e) (left_inside (tops (child q 0) 0 n) (only (child q 1)))

pub value_in : (q : Place) (n : ℕ) → Inside (only (child q 1)) (parameters n q)
value_in q n = right_inside (tops (child q 0) 0 n) (only (child q 1))
