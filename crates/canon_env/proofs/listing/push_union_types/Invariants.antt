use Rattle.std.proofs.Common.{◌≡◌, ◌++◌, map, take}
use Rattle.std.specs.List.{flat_map}
use Rattle.elm_canon.specs.View.{union_declaration_view}
use Rattle.canon_env.specs.Found.{named_by}
use Rattle.canon_env.specs.Shown.{type_meaning_view}
use Rattle.canon_env.specs.Filter.{filter_type}
use Rattle.canon_env.specs.Env.{union_type}
use Rattle.canon_env.proofs.listing.push_union_types.Given as goal

abbrev pub invariant-loop-union : goal.invariant-loop-union
invariant-loop-union l =
    map (named_by type_meaning_view) l.types.items
    ≡ map (named_by type_meaning_view) l.initial.types.items
    ++ flat_map (union_type (filter_type l.filter)) (map (λ u. union_declaration_view u.value) (take l.union-index l.unions))
