use Rattle.std.proofs.Common.{◌∙◌, map, take, ap, sym, arith}
use Rattle.elm_canon.specs.Tree.{functions_of}
use Rattle.elm_canon.specs.View.{function_view}
use Rattle.js_emit.specs.Program.{function_lines}
use Rattle.emit_exprs.proofs.Rows.{seen_next}
use Rattle.emit_program.proofs.Growing.{lines_more, lines_same, functions_next}
use Rattle.emit_program.proofs.declarations.push_functions.Goals as goal

pub loop-function-preserved : goal.loop-function-preserved
loop-function-preserved c =
    let items = c.deref-function-items.result.now in
    let i = c.loop-function.function-index in
    let g = c.function-item.result in
    let fs = map function_view (take i items) in
    let next = seen_next function_view items i g (omega arith) c.function-item.is in
    lines_same
    (λ ls. functions_next fs (function_view g) ls ∙ ap (λ l. function_lines (functions_of l) ls) (sym next))
    (lines_more c.loop-function.invariant c.in_ok-push_function_line.ensures)
