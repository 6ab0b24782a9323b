use Rattle.build_safety.proofs.Safety.{linked_never_stuck}
use Rattle.build_safety.proofs.laws.linked_safety_law.Goals as goal

pub returns : goal.returns
returns c =
    linked_never_stuck c.sound_law.ensures c.world_law.ensures.known c.primitives_law.ensures.primitives
    c.pieces_law.ensures c.simple_law.ensures c.typed_law.ensures.linked c.worlds_law.ensures.ports
    c.placed_law.ensures c.main_law.ensures c.placed_law-2.ensures.programs c.leaving_law.ensures c.kept_law.ensures
