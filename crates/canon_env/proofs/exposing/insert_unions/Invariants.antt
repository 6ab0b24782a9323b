use Rattle.std.proofs.Common.{◌≡◌, ◌||◌, map, take}
use Rattle.indexmap.specs.IndexSet.{contains}
use Rattle.elm_canon.specs.Names.{Name, same_name}
use Rattle.elm_canon.specs.View.{union_declaration_view}
use Rattle.canon_env.specs.Exposing.{is_among}
use Rattle.canon_env.proofs.exposing.insert_unions.Given as goal

abbrev pub invariant-loop-union : goal.invariant-loop-union
invariant-loop-union l =
    (x : Name) → contains same_name l.names x
    ≡ (contains same_name l.initial.names x
    || is_among x (map (λ u. u.name) (map (λ u. union_declaration_view u.value) (take l.union-index l.unions))))
