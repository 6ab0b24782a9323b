use Rattle.std.proofs.Common.{◌++◌, Bor, map, arith}
use Rattle.std.proofs.lemmas.List.{length-map}
use Rattle.elm_canon.specs.View.{pattern_view}
use Rattle.elm_canon.specs.declared.tree.Pattern as declared
use Rattle.decision_tree.specs.Views.{rows_of, rows_view}
use Rattle.decision_tree.proofs.Branching.{row_more, rows_end}
use Rattle.decision_tree.proofs.choice.add_rows.Goals as goal

pub loop-number-preserved : goal.loop-number-preserved
loop-number-preserved c =
    let ps = map (λ (p : Bor declared.Pattern). pattern_view p.now) c.args.patterns.now.items in
    row_more (rows_view c.loop-number.out.items) (rows_view c.add_first.new.out.items) c.loop-number.number ps
    (rows_view c.args.out.now.items ++ rows_of 0 ps) c.in_ok-add_first.ensures
    (omega (
      arith,
      c.len-number-end.ensures,
      length-map c.args.patterns.now.items (λ (p : Bor declared.Pattern). pattern_view p.now),
    ))
    c.loop-number.invariant

pub returns : goal.returns
returns c =
    let ps = map (λ (p : Bor declared.Pattern). pattern_view p.now) c.args.patterns.now.items in
    rows_end (rows_view c.loop-number.out.items) c.loop-number.number ps
    (rows_view c.args.out.now.items ++ rows_of 0 ps)
    (omega (
      arith,
      c.len-number-end.ensures,
      length-map c.args.patterns.now.items (λ (p : Bor declared.Pattern). pattern_view p.now),
    ))
    c.loop-number.invariant
