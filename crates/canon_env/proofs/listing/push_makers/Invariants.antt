use Rattle.std.proofs.Common.{◌≡◌, ◌++◌, map, take}
use Rattle.std.specs.List.{flat_map}
use Rattle.elm_canon.specs.View.{union_declaration_view}
use Rattle.canon_env.specs.Found.{named_by}
use Rattle.canon_env.specs.Shown.{maker_meaning_view}
use Rattle.canon_env.specs.Filter.{filter_makers}
use Rattle.canon_env.specs.Env.{union_makers}
use Rattle.canon_env.proofs.listing.push_makers.Given as goal

abbrev pub invariant-loop-union : goal.invariant-loop-union
invariant-loop-union l =
    map (named_by maker_meaning_view) l.makers.items
    ≡ map (named_by maker_meaning_view) l.initial.makers.items
    ++ flat_map (union_makers (filter_makers l.filter)) (map (λ u. union_declaration_view u.value) (take l.union-index l.unions))
