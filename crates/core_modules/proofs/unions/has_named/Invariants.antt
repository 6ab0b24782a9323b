use Rattle.std.proofs.Common.{◌≡◌, drop, map}
use Rattle.std.specs.List.{list_any}
use Rattle.elm_canon.specs.Names.{same_name}
use Rattle.elm_canon.specs.View.{union_declaration_view}
use Rattle.core_modules.proofs.unions.has_named.Given as goal

abbrev pub invariant-loop-union : goal.invariant-loop-union
invariant-loop-union l =
    list_any (λ u. same_name u.name l.name) (map (λ u. union_declaration_view u.value) (drop l.union-index l.unions))
    ≡ list_any (λ u. same_name u.name l.name) (map (λ u. union_declaration_view u.value) l.unions)
