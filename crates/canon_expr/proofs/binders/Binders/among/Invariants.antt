use Rattle.std.proofs.Common.{◌≡◌, List, take}
use Rattle.std.specs.List.{filter_map}
use Rattle.elm_tree.specs.Tree.{Word}
use Rattle.canon_expr.specs.Binding.{binder_of}
use Rattle.canon_expr.specs.Kept.{Binds}
use Rattle.canon_expr.proofs.binders.Binders.among.Given as goal

abbrev pub invariant-loop-place : goal.invariant-loop-place
invariant-loop-place l =
    (each : List (List Word)) → Binds l.self each →
    l.numbers.items ≡ filter_map (binder_of each) (take l.place-index l.places)
