use Rattle.std.proofs.Common.{◌∷◌, map, take}
use Rattle.elm_canon.specs.View.{declaration_view}
use Rattle.js_tree.specs.Postorder.{LinesOf, NoLineYet, trees_of}
use Rattle.js_emit.specs.Program.{primitive_lines}
use Rattle.emit_program.specs.Growth.{LinesGrown}
use Rattle.emit_program.specs.Programs.{core_view}
use Rattle.emit_program.proofs.Growing.{all_declared}
use Rattle.emit_program.proofs.program.push_lines.Given as goal

abbrev pub invariant-loop-core_name : goal.invariant-loop-core_name
invariant-loop-core_name l =
    LinesGrown (LinesOf NoLineYet ∷ trees_of l.fn.trees) (trees_of l.trees)
    (primitive_lines (map core_view (take l.core_name-index l.core_names)))

abbrev pub invariant-loop-declaration : goal.invariant-loop-declaration
invariant-loop-declaration l =
    LinesGrown (LinesOf NoLineYet ∷ trees_of l.fn.trees) (trees_of l.trees)
    (λ ls. primitive_lines (map core_view l.core_names)
    (all_declared (map declaration_view (take l.declaration-index l.declarations)) ls))
