use Rattle.build_safety.proofs.build_meaning_laws.meaning_law.Goals as goal
use Rattle.build_safety.proofs.Meaning.{outputs_mean}

pub returns : goal.returns
returns c =
    outputs_mean c.output_law.ensures.runs c.output_law.ensures.subset c.link_law.ensures c.build_law-2.ensures.linked
    c.build_law-2.ensures.named c.build_law.ensures
