-- The ring with the least first module, among one more group: `plain_at`, `least_here`, `least_stays`.
use Rattle.std.proofs.Common.{◌≡◌, ◌+◌, sym, ap, subst, ◌∙◌}
use Rattle.std.proofs.lemmas.Bool.{false≢true}
use Rattle.decl_groups.specs.Groups.{plain, list_at}
use Rattle.import_graph.specs.Rings.{is_ring, IsLeast}
use Rattle.import_graph.proofs.Least.{plain_at, least_here, least_stays}
use Rattle.import_graph.proofs.ordering.least_ring.Goals as goal
use Rattle.import_graph.proofs.ordering.least_ring.Goals.{then-is_ring+then-begins_lower, else-is_ring}
use Rattle.import_graph.proofs.ordering.least_ring.Goals.{else-is_ring-via-then-is_ring+else-begins_lower}
use Rattle.import_graph.proofs.ordering.least_ring.Goals.{else-is_ring-via-else-is_ring}

pub loop-place-preserved : goal.loop-place-preserved
loop-place-preserved c =
    let uses = plain c.args.uses.now in
    let groups = plain c.args.groups.now in
    let place = c.loop-place.place in
    let group = plain_at c.args.groups.now place c.index-groups-place.result c.loop-place-test.true c.index-groups-place.is ∙ sym c.deref.ensures.value in
    let ring : is_ring uses (list_at groups place) ≡ c.is_ring.result = ap (is_ring uses) group ∙ sym c.is_ring.ensures in
    elim c.if-is_ring.branch [
      | then-is_ring+then-begins_lower w ↦ subst (IsLeast uses groups (place + 1)) (sym w.least-is) (least_here uses groups place c.loop-place.least c.loop-place.invariant (ring ∙ w.if-is_ring.true) (sym w.begins_lower.ensures ∙ w.if-begins_lower.true))
      | else-is_ring w ↦ subst (IsLeast uses groups (place + 1)) (sym w.least-is) (least_stays uses groups place c.loop-place.least c.loop-place.invariant (elim w.else-is_ring.branch [
        | else-is_ring-via-then-is_ring+else-begins_lower v ↦ λ e. sym v.begins_lower.ensures ∙ v.if-begins_lower.false
        | else-is_ring-via-else-is_ring v ↦ λ e. absurd (false≢true (sym (ring ∙ v.if-is_ring.false) ∙ e))
      ]))
    ]
