use Rattle.std.proofs.Common.{◌≡◌, [], sym, ap, ◌∙◌, arith}
use Rattle.pattern_check.specs.Built.{stack_view}
use Rattle.pattern_check.proofs.Searching.{no_items}
use Rattle.pattern_check.proofs.Building.{taken_step, short, no_front}
use Rattle.pattern_check.proofs.build.taken.Goals as goal

pub returns-in_default-clause-taken : goal.returns-in_default-clause-taken
returns-in_default-clause-taken c =
    let none : c.loop.stack.items ≡ [] = no_items c.loop.stack.items (omega (arith, c.in_default.ensures.cases.0, c.loop.stack.ok.0)) in
    let h = short c.loop.counter c.args.count (stack_view c.args.stack.now.items [])
    (sym c.loop.invariant.left ∙ ap (λ z. stack_view z []) none) (omega (arith, c.loop-test.true)) in
    c.loop.invariant.taken ∙ sym h.0

pub returns-in_default-clause-left : goal.returns-in_default-clause-left
returns-in_default-clause-left c =
    let none : c.loop.stack.items ≡ [] = no_items c.loop.stack.items (omega (arith, c.in_default.ensures.cases.0, c.loop.stack.ok.0)) in
    let h = short c.loop.counter c.args.count (stack_view c.args.stack.now.items [])
    (sym c.loop.invariant.left ∙ ap (λ z. stack_view z []) none) (omega (arith, c.loop-test.true)) in
    ap (λ z. stack_view z []) (no_front c.pop.new.self.items [] (sym c.in_default.ensures.items ∙ none)) ∙ sym h.1

pub loop-preserved : goal.loop-preserved
loop-preserved c =
    let h = taken_step c.loop.counter _ (stack_view c.args.stack.now.items []) c.loop.stack.items c.pop.new.self.items
    c.loop.out.items c.push.new.self.items c.in-Some.pattern (omega arith) c.in-Some.ensures.items
    c.in_ok-push.ensures.items c.loop.invariant.taken c.loop.invariant.left in
    record { taken = h.0; left = h.1 }
