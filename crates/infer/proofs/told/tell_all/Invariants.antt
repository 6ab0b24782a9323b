use Rattle.std.proofs.Common.{◌≡◌, ◌++◌, List, map, take}
use Rattle.std.specs.Prelude.{slice_get}
use Rattle.std.specs.List.{filter_map}
use Rattle.elm_canon.specs.Tree.{Group}
use Rattle.elm_type.specs.View.{scheme_view}
use Rattle.type_items.specs.Definitions.{Definition}
use Rattle.infer_order.specs.Order.{AreDefinitions}
use Rattle.infer.specs.Names.{AllTitled, names_of}
use Rattle.infer.specs.Told.{told_views}
use Rattle.infer.proofs.told.tell_all.Given as goal

abbrev pub invariant-loop-number : goal.invariant-loop-number
invariant-loop-number l =
    (gs : List Group) (ds : List Definition) → AllTitled gs → AreDefinitions gs l.definitions ds
    → told_views l.told.items ≡ told_views l.fn.told.items
    ++ map (λ x. (x, scheme_view l.scheme)) (names_of (filter_map (slice_get ds) (take l.number-index l.group)))
