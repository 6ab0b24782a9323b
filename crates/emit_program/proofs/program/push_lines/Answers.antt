use Rattle.std.proofs.Common.{◌∙◌, map, take, refl, ap, sym, arith}
use Rattle.elm_canon.specs.View.{declaration_view}
use Rattle.js_tree.specs.Tree.{NoLine}
use Rattle.js_tree.specs.Postorder.{NoLineYet, trees_of}
use Rattle.js_emit.specs.Program.{primitive_lines}
use Rattle.emit_exprs.proofs.Rows.{seen_next, seen_all}
use Rattle.emit_program.specs.Programs.{core_view}
use Rattle.emit_program.proofs.Growing.{lines_more, lines_same, primitives_next, declared_next, declared_all, all_declared}
use Rattle.emit_program.proofs.program.push_lines.Goals as goal

pub loop-core_name-preserved : goal.loop-core_name-preserved
loop-core_name-preserved c =
    let items = c.args.core_names.now in
    let i = c.loop-core_name.core_name-index in
    let g = c.core_name-item.result in
    let ps = map core_view (take i items) in
    let next = seen_next core_view items i g (omega arith) c.core_name-item.is in
    lines_same (λ ls. primitives_next ps (core_view g) ls ∙ ap (λ l. primitive_lines l ls) (sym next))
    (lines_more c.loop-core_name.invariant c.in_ok-push_core_name.ensures)

pub loop-declaration-preserved : goal.loop-declaration-preserved
loop-declaration-preserved c =
    let items = c.args.declarations.now in
    let i = c.loop-declaration.declaration-index in
    let g = c.declaration-item.result in
    let ds = map declaration_view (take i items) in
    let next = seen_next declaration_view items i g (omega arith) c.declaration-item.is in
    lines_same
    (λ ls. ap (primitive_lines (map core_view c.args.core_names.now))
    (declared_next ds (declaration_view g) ls ∙ ap (λ l. all_declared l ls) (sym next)))
    (lines_more c.loop-declaration.invariant c.in_ok-push_declaration.ensures)

pub returns-clause-lines : goal.returns-clause-lines
returns-clause-lines c =
    let items = c.args.declarations.now in
    let all = seen_all c.loop-declaration.declaration-index items (omega arith) in
    c.loop-declaration.invariant.grown NoLineYet (trees_of c.args.trees.now) refl NoLine
    ∙ ap (primitive_lines (map core_view c.args.core_names.now))
    (ap (λ l. all_declared (map declaration_view l) NoLine) all ∙ declared_all (map declaration_view items))
