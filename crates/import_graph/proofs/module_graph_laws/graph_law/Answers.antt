-- One list of modules or one fault, and never both: `one_list`, `one_fault`, `not_refused`.
use Rattle.import_graph.proofs.OneList.{one_list}
use Rattle.import_graph.proofs.OneFault.{one_fault, not_refused}
use Rattle.import_graph.proofs.module_graph_laws.graph_law.Goals as goal

pub returns-clause-one_list : goal.returns-clause-one_list
returns-clause-one_list g c = λ one s written ms ns a b. one_list g.R.Reader.has_imports one s written ms ns a b

pub returns-clause-one_fault : goal.returns-clause-one_fault
returns-clause-one_fault g c = λ one s written f o a b. one_fault g.R.Reader.has_imports one s written f o a b

pub returns-clause-not_both : goal.returns-clause-not_both
returns-clause-not_both g c = λ one s written ms order f a o r. not_refused g.R.Reader.has_imports one s written ms order f a o r
