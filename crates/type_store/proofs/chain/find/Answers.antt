use Rattle.std.proofs.Common.{◌<◌, arith, length}
use Rattle.type_store.specs.Steps.{Here}
use Rattle.type_store.proofs.Undoing.{leads_on, bound_lower, bound_at, not_bound_at, length_view}
use Rattle.type_store.specs.View.{store_view}
use Rattle.type_store.proofs.chain.find.Goals as goal

pub loop-at-init : goal.loop-at-init
loop-at-init c = record { inside = c.requires.inside; leads = Here c.args.variable }

pub loop-at-smaller : goal.loop-at-smaller
loop-at-smaller c =
    let e = bound_at c.args.slots.now c.loop-at.at c.in-Bound.next _ c.loop-at.invariant.inside c.in-Bound.is in
    let l : c.loop-at.at < length (store_view c.args.slots.now) = omega (arith, length_view c.args.slots.now, c.loop-at.invariant.inside) in
    bound_lower (store_view c.args.slots.now) c.loop-at.at c.in-Bound.next c.requires.graph l e

pub loop-at-preserved : goal.loop-at-preserved
loop-at-preserved c =
    let e = bound_at c.args.slots.now c.loop-at.at c.in-Bound.next _ c.loop-at.invariant.inside c.in-Bound.is in
    let l : c.loop-at.at < length (store_view c.args.slots.now) = omega (arith, length_view c.args.slots.now, c.loop-at.invariant.inside) in
    let b : c.in-Bound.next < c.loop-at.at = bound_lower (store_view c.args.slots.now) c.loop-at.at c.in-Bound.next c.requires.graph l e in
    record {
      inside = omega (arith, b, c.loop-at.invariant.inside);
      leads = leads_on (store_view c.args.slots.now) c.args.variable c.loop-at.at c.in-Bound.next e c.loop-at.invariant.leads;
    }

pub returns : goal.returns
returns c = record {
  leads = c.loop-at.invariant.leads;
  ends = not_bound_at c.args.slots.now c.loop-at.at _ c.loop-at.invariant.inside c.in_default.not-Bound;
  inside = c.loop-at.invariant.inside;
}
