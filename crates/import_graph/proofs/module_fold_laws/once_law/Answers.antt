use Rattle.import_graph.proofs.Values.{folds_once}
use Rattle.import_graph.proofs.module_fold_laws.once_law.Goals as goal

pub returns : goal.returns
returns g c is_function ordered values others a b =
    folds_once (g.W.Work.makes c.args._work.now) (g.W.Work.graph c.args._work.now) ordered is_function values others a b
