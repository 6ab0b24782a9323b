use Rattle.std.proofs.Common.{◌≡◌, ◌+◌, ◌-◌, take, drop, subst, sym, arith}
use Rattle.elm_type.specs.Spelling.{type_of, AreSpelled}
use Rattle.infer_steps.specs.View.{here}
use Rattle.infer_types.specs.Writing.{CanWrite, Writes}
use Rattle.infer_types.proofs.writing.write_part.Goals as goal

pub write_nodes-requires-clause-spelled : goal.write_nodes-requires-clause-spelled
write_nodes-requires-clause-spelled c =
    (let e : c.args.start + c.args.count - c.args.start ≡ c.args.count = omega arith in
    subst (λ k. AreSpelled (take k (drop c.args.start c.args.nodes.now))) (sym e) c.requires.spelled)

pub write_nodes-requires-clause-can : goal.write_nodes-requires-clause-can
write_nodes-requires-clause-can c =
    (let e : c.args.start + c.args.count - c.args.start ≡ c.args.count = omega arith in
    subst (λ k. CanWrite (here c.args.state.now).store c.args.leaves.now
    (type_of (take k (drop c.args.start c.args.nodes.now)))) (sym e) c.requires.can)

pub returns : goal.returns
returns c =
    (let e : c.args.start + c.args.count - c.args.start ≡ c.args.count = omega arith in
    subst (λ k. Writes c.args.leaves.now (type_of (take k (drop c.args.start c.args.nodes.now))) (here c.args.state.now)
    (here c.write_nodes.new.state) c.in_ok-variable.variable) e
    c.in_ok-variable.ensures)
