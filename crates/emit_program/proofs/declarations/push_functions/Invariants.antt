use Rattle.std.proofs.Common.{map, take}
use Rattle.elm_canon.specs.Tree.{functions_of}
use Rattle.elm_canon.specs.View.{function_view}
use Rattle.js_tree.specs.Postorder.{trees_of}
use Rattle.js_emit.specs.Program.{function_lines}
use Rattle.emit_program.specs.Growth.{LinesGrown}
use Rattle.emit_program.proofs.declarations.push_functions.Given as goal

abbrev pub invariant-loop-function : goal.invariant-loop-function
invariant-loop-function l =
    LinesGrown (trees_of l.initial.trees) (trees_of l.trees)
    (function_lines (functions_of (map function_view (take l.function-index l.function-items))))
