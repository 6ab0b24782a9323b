-- The place of the key is the number: `used_by_key`.
use Rattle.std.proofs.Common.{sym, ◌∙◌}
use Rattle.import_graph.proofs.Uses.{used_by_key}
use Rattle.import_graph.proofs.numbers.number_used.Goals as goal

pub returns-in-Some : goal.returns-in-Some
returns-in-Some c = sym c.in-Some.is ∙ used_by_key c.args.modules.now.entries c.args.import.now c.get_index_of.result c.requires.named c.in-File.is c.get_index_of.ensures.index

pub returns-in-None : goal.returns-in-None
returns-in-None c = sym c.in-None.is ∙ used_by_key c.args.modules.now.entries c.args.import.now c.get_index_of.result c.requires.named c.in-File.is c.get_index_of.ensures.index
