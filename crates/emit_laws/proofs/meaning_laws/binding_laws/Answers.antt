use Rattle.emit_laws.proofs.meaning_laws.binding_laws.Goals as goal
use Rattle.emit_laws.proofs.MeaningLawsBinding.{binds_its_names, bind_their_names}

pub returns : goal.returns
returns c = record { one = binds_its_names; all = bind_their_names }
