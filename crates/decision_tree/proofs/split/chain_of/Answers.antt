use Rattle.std.proofs.Common.{◌≡◌, ap, ◌∙◌, sym, pos, []}
use Rattle.js_tree.specs.Tree.{JInt, JVar, Made}
use Rattle.js_emit.specs.Matrix.{is_whole, tests_in}
use Rattle.decision_tree.specs.Before.{path_js}
use Rattle.decision_tree.specs.Views.{path_view, test_view, tests_view, rows_view}
use Rattle.decision_tree.specs.declared.split.Chain.{Chain}
use Rattle.decision_tree.specs.Run.{chosen_js, rest_js}
use Rattle.decision_tree.proofs.Lists.{map_at}
use Rattle.decision_tree.proofs.Chains.{chain_same}
use Rattle.decision_tree.proofs.split.chain_of.Goals as goal

pub returns : goal.returns
returns c = λ subject.
    let made : Chain = record {
      paths = c.args.matrix.paths;
      rows = c.args.matrix.rows;
      column = c.args.found.number;
      path = c.in_ok-path.path;
      is_whole = c.is_whole-is_whole.result;
      tests = c.in_ok-tests.tests;
      next = 0;
    } in
    let tests : tests_view c.in_ok-tests.tests.items
    ≡ tests_in (test_view c.args.found.test) c.args.found.number [] (rows_view c.args.matrix.rows.items) =
    c.in_ok-tests.ensures
    ∙ ap (λ rs. tests_in (test_view c.args.found.test) c.args.found.number [] (rows_view rs)) c.deref.ensures.value in
    chain_same (chosen_js subject made) (rest_js subject made) _ _ _ _ _ _
    (ap (λ ns. path_js (JVar (Made subject)) ns.items) c.in_ok-path.ensures
    ∙ sym (map_at (path_view subject) c.args.matrix.paths.items c.args.found.number c.index.result.now (JInt (pos 0))
    c.requires (sym c.index.ensures)))
    (c.is_whole-is_whole.ensures
    ∙ (ap (λ zs. is_whole (test_view c.args.found.test) (tests_view zs)) c.deref-2.ensures.value
    ∙ ap (is_whole (test_view c.args.found.test)) tests))
    tests
