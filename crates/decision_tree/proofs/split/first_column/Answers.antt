use Rattle.std.proofs.Common.{ap, ◌∙◌, sym, arith, pos, get_or}
use Rattle.std.proofs.lemmas.List.{length-map, drop_all}
use Rattle.js_tree.specs.Tree.{JInt}
use Rattle.js_emit.specs.Choice.{first_column}
use Rattle.decision_tree.specs.Views.{part_view, parts_view, path_view, paths_view, test_view, inner_view, ask_view}
use Rattle.decision_tree.proofs.Lists.{map_at, at_self}
use Rattle.decision_tree.proofs.Columns.{column_next, column_found, column_none, column_short}
use Rattle.decision_tree.proofs.split.first_column.Goals as goal

pub returns-then-parts-number-clause-found : goal.returns-then-parts-number-clause-found
returns-then-parts-number-clause-found c = λ subject.
    let paths = paths_view subject c.args.paths.now in
    let ps = parts_view c.args.parts.now in
    let i = c.loop-number.number in
    sym (column_short paths ps i (first_column paths ps)
    (drop_all i ps (omega (arith, c.if-parts-number.true, length-map c.args.parts.now part_view)))
    (c.loop-number.invariant subject))

pub returns-in-First-clause-found : goal.returns-in-First-clause-found
returns-in-First-clause-found c = λ subject.
    let paths = paths_view subject c.args.paths.now in
    let ps = parts_view c.args.parts.now in
    let i = c.loop-number.number in
    let x = c.index-parts-number.result in
    let paths-long = length-map c.args.paths.now (path_view subject) in
    let parts-long = length-map c.args.parts.now part_view in
    sym (column_found paths ps i (get_or paths i (JInt (pos 0))) (part_view x) (first_column paths ps)
    (test_view c.in-First.test) (inner_view c.in-First.field-1)
    (omega (arith, paths-long)) (omega (arith, parts-long, c.if-parts-number.false))
    (at_self paths i (JInt (pos 0)) (omega (arith, paths-long)))
    (map_at part_view c.args.parts.now i x (part_view x) (omega (arith, c.if-parts-number.false))
    (sym c.index-parts-number.is))
    (sym (ap ask_view c.in-First.is) ∙ c.ask_part.ensures) (c.loop-number.invariant subject))

pub loop-number-preserved : goal.loop-number-preserved
loop-number-preserved c = λ subject.
    let paths = paths_view subject c.args.paths.now in
    let ps = parts_view c.args.parts.now in
    let i = c.loop-number.number in
    let x = c.index-parts-number.result in
    let paths-long = length-map c.args.paths.now (path_view subject) in
    let parts-long = length-map c.args.parts.now part_view in
    column_next paths ps i (get_or paths i (JInt (pos 0))) (part_view x) (first_column paths ps)
    (omega (arith, paths-long)) (omega (arith, parts-long, c.if-parts-number.false))
    (at_self paths i (JInt (pos 0)) (omega (arith, paths-long)))
    (map_at part_view c.args.parts.now i x (part_view x) (omega (arith, c.if-parts-number.false))
    (sym c.index-parts-number.is))
    (sym (ap ask_view c.in-Nothing.is) ∙ c.ask_part.ensures) (c.loop-number.invariant subject)

pub returns-clause-found : goal.returns-clause-found
returns-clause-found c = λ subject.
    let paths = paths_view subject c.args.paths.now in
    let ps = parts_view c.args.parts.now in
    let i = c.loop-number.number in
    sym (column_none paths ps i (first_column paths ps)
    (drop_all i paths (omega (arith, length-map c.args.paths.now (path_view subject))))
    (c.loop-number.invariant subject))
