use Rattle.build_safety.proofs.Safety.{builds_never_stuck}
use Rattle.build_safety.proofs.laws.safety_law.Goals as goal

pub returns : goal.returns
returns c =
    builds_never_stuck c.build_law.ensures c.compiled_law.ensures c.core_law.ensures c.build_law-2.ensures.named
    c.linked_safety_law.ensures c.output_law.ensures.runs c.output_law.ensures.subset c.link_law.ensures
