-- The node at the place stands before those after it: `front_at`.
use Rattle.std.proofs.Common.{◌+◌, drop, sym, ap, ◌∙◌}
use Rattle.port_payload.specs.Fronts.{after}
use Rattle.port_payload.proofs.Front.{front_at}
use Rattle.port_payload.proofs.Lasting.{some_left, rest_short}
use Rattle.port_payload.proofs.part.end_of.Goals as goal

pub still_left-left-requires-clause-few : goal.still_left-left-requires-clause-few
still_left-left-requires-clause-few c =
    let nodes = c.args.nodes.now in
    let at = c.nodes.at in
    let full = c.nodes.invariant.left ∙ c.requires.1 in (
      drop (at + 1) nodes,
      c.requires.0,
      ap (after c.nodes.left) (sym (front_at nodes at c.index-nodes-at.result
          (some_left c.nodes.left nodes at c.requires.0 c.nodes-test.true full) c.index-nodes-at.is)) ∙ full,
      rest_short nodes (at + 1),
    )
