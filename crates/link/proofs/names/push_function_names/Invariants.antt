use Rattle.std.proofs.Common.{◌≡◌, ◌++◌, map, take}
use Rattle.elm_canon.specs.Tree.{functions_of}
use Rattle.elm_canon.specs.View.{function_view}
use Rattle.elm_canon.specs.Proper.{function_names}
use Rattle.link.specs.Names.{top_names}
use Rattle.link.proofs.names.push_function_names.Given as goal

abbrev pub invariant-loop-function : goal.invariant-loop-function
invariant-loop-function l =
    l.names.items ≡ l.initial.names.items
    ++ top_names (function_names (functions_of (map function_view (take l.function-index l.functions))))
