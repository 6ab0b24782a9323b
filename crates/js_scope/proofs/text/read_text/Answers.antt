-- Reading, byte by byte and whole: `dead_after`, `live_after`, `at_end`, `stops_at_end`, and others.
use Rattle.std.proofs.Common.{length, ◌≤◌, ap, sym, ◌∙◌, arith}
use Rattle.js_tree.specs.Automaton.{Finished, is_live}
use Rattle.js_tree.specs.Postorder.{trees_of, top}
use Rattle.js_scope.specs.View.{state_of, program_at}
use Rattle.js_scope.specs.Empty.{is_finished}
use Rattle.js_scope.proofs.Reading.{dead_after, live_after, at_end, stops_at_end, whole_text, flip_true, flip_false}
use Rattle.js_scope.proofs.text.read_text.Goals as goal

pub returns-then-is_dead-clause-refused : goal.returns-then-is_dead-clause-refused
returns-then-is_dead-clause-refused c =
    let n = flip_true (is_live (state_of c.step.new.self)) c.is_dead.result c.is_dead.ensures c.if-is_dead.true in
    dead_after c.args.bytes.now c.loop-index.index 0 (state_of c.loop-index.reader) (state_of c.step.new.self) c.place_after.result c.loop-index-test.true
    c.loop-index.invariant.state c.loop-index.invariant.live c.in_ok-step.ensures n c.place_after.ensures

pub loop-index-preserved : goal.loop-index-preserved
loop-index-preserved c =
    record {
      state = live_after c.args.bytes.now c.loop-index.index 0 (state_of c.loop-index.reader) (state_of c.step.new.self) c.loop-index-test.true c.loop-index.invariant.state c.in_ok-step.ensures;
      live = flip_false (is_live (state_of c.step.new.self)) c.is_dead.result c.is_dead.ensures c.if-is_dead.false;
    }

pub returns-then-is_finished-clause-read : goal.returns-then-is_finished-clause-read
returns-then-is_finished-clause-read c =
    let bytes = c.args.bytes.now in
    let past : length bytes ≤ c.loop-index.index = let h = c.loop-index-test.false in omega arith in
    whole_text bytes (top (trees_of c.into_trees.result)) (sym (at_end bytes c.loop-index.index (state_of c.loop-index.reader) past c.loop-index.invariant.state)
    ∙ (c.is_finished.ensures.yes c.if-is_finished.true ∙ ap (λ ts. Finished (program_at (top (trees_of ts)))) (sym c.into_trees.ensures)))

pub returns-clause-refused : goal.returns-clause-refused
returns-clause-refused c =
    let bytes = c.args.bytes.now in
    let past : length bytes ≤ c.loop-index.index = let h = c.loop-index-test.false in omega arith in
    let e = at_end bytes c.loop-index.index (state_of c.loop-index.reader) past c.loop-index.invariant.state in
    stops_at_end bytes c.place_after-2.result (ap is_live (sym e) ∙ c.loop-index.invariant.live) (ap is_finished (sym e) ∙ c.is_finished.ensures.no c.if-is_finished.false) c.place_after-2.ensures
