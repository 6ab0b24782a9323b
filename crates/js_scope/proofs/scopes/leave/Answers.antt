-- The marks of assignment that a walk leaves: `no_more`.
-- The names that are bound, as they are kept: `length-bound_on`, `settled_more`, `settled_end`, `first_more`.
use Rattle.std.proofs.Common.{◌∙◌, sym, ap, [], arith}
use Rattle.std.specs.Prelude.{◌&&◌}
use Rattle.js_scope.specs.Walk.{first_bound, is_settled}
use Rattle.js_scope.specs.Scopes.{bound_on, outer}
use Rattle.js_scope.proofs.Marks.{no_more}
use Rattle.js_scope.proofs.Bindings.{length-bound_on, settled_more, settled_end, first_more}
use Rattle.js_scope.proofs.scopes.leave.Goals as goal

pub returns-then-not-branch-clause-settled : goal.returns-then-not-branch-clause-settled
returns-then-not-branch-clause-settled c =
    let bs = c.loop-bindings.bindings in
    let ms = c.loop-bindings.marks in
    let bound = bound_on bs.items ms.items [] in
    let l = length-bound_on bs.items ms.items c.loop-bindings.invariant.indexed.marked in
    let k = bs.ok.0 in
    let more = settled_more c.args.bound bound (omega arith) in
    sym (c.loop-bindings.invariant.settled ∙ (more ∙ ap (λ t. t && is_settled c.args.bound (outer bound)) (sym c.in_ok-unbind.ensures.settled ∙ c.if-not-branch.true)))

pub loop-bindings-preserved : goal.loop-bindings-preserved
loop-bindings-preserved c =
    let bs = c.loop-bindings.bindings in
    let ms = c.loop-bindings.marks in
    let bound = bound_on bs.items ms.items [] in
    let l = length-bound_on bs.items ms.items c.loop-bindings.invariant.indexed.marked in
    let k = bs.ok.0 in
    let more = settled_more c.args.bound bound (omega arith) in
    let first = first_more c.args.bound bound (omega arith) in
    record {
      indexed = c.in_ok-unbind.ensures.indexed;
      settled = c.loop-bindings.invariant.settled ∙ (more ∙ (ap (λ t. t && is_settled c.args.bound (outer bound)) (sym c.in_ok-unbind.ensures.settled ∙ c.if-not-branch.false)
          ∙ ap (λ xs. is_settled c.args.bound xs) (sym c.in_ok-unbind.ensures.after)));
      first = c.loop-bindings.invariant.first ∙ (first ∙ ap (λ xs. first_bound c.args.bound xs) (sym c.in_ok-unbind.ensures.after));
    }

pub returns-clause-settled : goal.returns-clause-settled
returns-clause-settled c =
    let bs = c.loop-bindings.bindings in
    let ms = c.loop-bindings.marks in
    let l = length-bound_on bs.items ms.items c.loop-bindings.invariant.indexed.marked in
    let k = bs.ok.0 in
    sym (c.loop-bindings.invariant.settled ∙ settled_end c.args.bound (bound_on bs.items ms.items []) (omega arith))

pub returns-clause-after : goal.returns-clause-after
returns-clause-after c =
    let bs = c.loop-bindings.bindings in
    let ms = c.loop-bindings.marks in
    let l = length-bound_on bs.items ms.items c.loop-bindings.invariant.indexed.marked in
    let k = bs.ok.0 in
    λ _. sym (c.loop-bindings.invariant.first ∙ no_more c.args.bound (bound_on bs.items ms.items []) (omega arith))
