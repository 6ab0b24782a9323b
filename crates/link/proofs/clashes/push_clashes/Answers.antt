-- The fault of one piece more.
use Rattle.std.proofs.Common.{rules, ◌≡◌, ◌+◌, [], ◌∷◌, ◌++◌, map, drop, refl, sym, ap, ◌∙◌, arith, append_assoc}
use Rattle.link.proofs.Naming.{drop_at}
use Rattle.link.specs.Link.{clashes, clash_at, with_port}
use Rattle.link.specs.View.{placed_view}
use Rattle.link.proofs.clashes.push_clashes.Goals as goal

pub loop-placed-init : goal.loop-placed-init
loop-placed-init c = ([], (λ x. search rules), refl)

pub loop-placed-preserved : goal.loop-placed-preserved
loop-placed-preserved c =
    let i = c.loop-placed.placed-index in
    let ds = c.args.pieces.now in
    let d = c.placed-item.result in
    let v = placed_view d in
    let before = c.loop-placed.invariant.0 in
    let is = c.loop-placed.invariant.1 in
    let after = with_port before v.name v.piece.port in
    let rest = clashes after (map placed_view (drop (i + 1) ds)) in (
      after,
      c.in_ok-push_clash.ensures.homes before is,
      ap (λ fs. fs ++ rest) (c.in_ok-push_clash.ensures.fault before is)
          ∙ append_assoc c.loop-placed.faults.items (clash_at before v v.piece.port) rest
          ∙ ap (λ es. c.loop-placed.faults.items ++ clashes before (map placed_view es)) (sym (drop_at ds i d (omega
          arith) c.placed-item.is))
          ∙ c.loop-placed.invariant.2,
    )
