use Rattle.std.proofs.Common.{◌≡◌, ◌||◌, map, take}
use Rattle.indexmap.specs.IndexSet.{contains}
use Rattle.elm_canon.specs.Names.{Name, same_name}
use Rattle.elm_canon.specs.View.{alias_declaration_view}
use Rattle.canon_env.specs.Exposing.{is_among}
use Rattle.canon_env.proofs.exposing.insert_aliases.Given as goal

abbrev pub invariant-loop-alias : goal.invariant-loop-alias
invariant-loop-alias l =
    (x : Name) → contains same_name l.names x
    ≡ (contains same_name l.initial.names x
    || is_among x (map (λ a. a.name) (map (λ a. alias_declaration_view a.value) (take l.alias-index l.aliases))))
