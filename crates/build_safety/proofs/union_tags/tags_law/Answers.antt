use Rattle.build_safety.proofs.UnionTags.{unions_tagged}
use Rattle.build_safety.proofs.union_tags.tags_law.Goals as goal

pub returns : goal.returns
returns c = unions_tagged
