-- By the tokens of the text and their head: `one_list`.
use Rattle.import_graph.proofs.OneHead.{one_list}
use Rattle.import_graph.proofs.module_heads_laws.imports_law.Goals as goal

pub returns : goal.returns
returns c = one_list c.front_law.ensures c.tokens_law.ensures
