use Rattle.std.proofs.Common.{◌≡◌, drop, map}
use Rattle.std.specs.List.{list_any}
use Rattle.elm_canon.specs.View.{union_declaration_view}
use Rattle.core_modules.specs.Signs.{union_spelled, same_signs, signs_view}
use Rattle.core_modules.proofs.unions.has_spelled.Given as goal

abbrev pub invariant-loop-union : goal.invariant-loop-union
invariant-loop-union l =
    list_any (λ u. same_signs (union_spelled u) (signs_view l.signs))
    (map (λ u. union_declaration_view u.value) (drop l.union-index l.unions))
    ≡ list_any (λ u. same_signs (union_spelled u) (signs_view l.signs))
    (map (λ u. union_declaration_view u.value) l.unions)
