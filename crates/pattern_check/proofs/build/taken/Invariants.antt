use Rattle.std.proofs.Common.{◌≡◌, [], take, drop, map}
use Rattle.elm_canon.specs.View.{pattern_view}
use Rattle.pattern_check.specs.Built.{stack_view}
use Rattle.pattern_check.proofs.build.taken.Given as goal

abbrev pub invariant-loop : goal.invariant-loop
invariant-loop l = record {
  taken : map pattern_view l.out.items ≡ take l.counter (stack_view l.fn.stack.items []);
  left : stack_view l.stack.items [] ≡ drop l.counter (stack_view l.fn.stack.items []);
}
