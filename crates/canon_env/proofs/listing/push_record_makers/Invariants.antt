use Rattle.std.proofs.Common.{◌≡◌, ◌++◌, map, take}
use Rattle.std.specs.List.{flat_map}
use Rattle.elm_canon.specs.View.{alias_declaration_view}
use Rattle.canon_env.specs.Found.{named_by}
use Rattle.canon_env.specs.Shown.{maker_meaning_view}
use Rattle.canon_env.specs.Filter.{filter_type}
use Rattle.canon_env.specs.Env.{record_maker}
use Rattle.canon_env.proofs.listing.push_record_makers.Given as goal

abbrev pub invariant-loop-alias : goal.invariant-loop-alias
invariant-loop-alias l =
    map (named_by maker_meaning_view) l.makers.items
    ≡ map (named_by maker_meaning_view) l.initial.makers.items
    ++ flat_map (record_maker (filter_type l.filter)) (map (λ a. alias_declaration_view a.value) (take l.alias-index l.aliases))
