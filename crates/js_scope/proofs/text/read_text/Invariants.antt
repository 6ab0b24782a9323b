use Rattle.std.proofs.Common.{◌≡◌, true, take}
use Rattle.js_tree.specs.Automaton.{run, start, is_live}
use Rattle.js_scope.specs.View.{state_of}
use Rattle.js_scope.proofs.text.read_text.Given as goal

abbrev pub invariant-loop-index : goal.invariant-loop-index
invariant-loop-index l = record {
  state : state_of l.reader ≡ run start (take l.index l.bytes);
  live : is_live (state_of l.reader) ≡ true;
}
