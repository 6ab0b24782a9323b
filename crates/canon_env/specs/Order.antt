-- The faults of a module as they are listed: each once, by place and then by code; those of one code at one place by
-- their detail.
use Rattle.std.specs.Prelude.{◌≡◌, List, [], ◌∷◌, IsTrue, Contains, ◌↔◌}
use Rattle.std.specs.declared.cmp.Ordering.{Ordering}
use Rattle.std.specs.Ordering.{ordering_then, nat_cmp, is_lt}
use Rattle.std.specs.Cmp.{IsTotalOrder, nat_cmp_total, on_total, then_total}
use Rattle.std.specs.Cmp.Lexicographic.{slice_cmp, nat_list_cmp_total}
use Rattle.elm_base.specs.Code.{code_text}
use Rattle.canon_env.specs.declared.finding.Finding.{Finding}

abbrev pub finding_cmp : Finding → Finding → Ordering
finding_cmp f g =
    ordering_then (nat_cmp f.place.row g.place.row)
    (ordering_then (nat_cmp f.place.column g.place.column)
    (ordering_then (slice_cmp nat_cmp (code_text f.code) (code_text g.code)) (slice_cmp nat_cmp f.detail g.detail)))

pub finding_total : IsTotalOrder finding_cmp
finding_total =
    then_total (on_total (λ (f : Finding). f.place.row) nat_cmp_total)
    (then_total (on_total (λ (f : Finding). f.place.column) nat_cmp_total)
    (then_total (on_total (λ (f : Finding). code_text f.code) nat_list_cmp_total)
    (on_total (λ (f : Finding). f.detail) nat_list_cmp_total)))

abbrev pub comes_before : Finding → Finding → Type 0
comes_before f g = IsTrue (is_lt (finding_cmp f g))

abbrev pub Ascends : List Finding → Type 0
Ascends [] = Unit {0}
Ascends (f ∷ []) = Unit {0}
Ascends (f ∷ g ∷ rest) = comes_before f g × Ascends (g ∷ rest)

-- the same faults, in ascending order
pub record IsInOrder (found ordered : List Finding) : Type 0 where
  pub ascends : Ascends ordered
  pub members : (f : Finding) → Contains ordered f ↔ Contains found f

-- two such lists are one
abbrev pub OneOrder : Type 0
OneOrder = (found a b : List Finding) → IsInOrder found a → IsInOrder found b → a ≡ b
