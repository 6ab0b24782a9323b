use Rattle.infer_proper.proofs.Named.{name_is, declarations_read}
use Rattle.infer_proper.proofs.Writing.{known_written}
use Rattle.infer_proper.proofs.ModuleReadyModules.{records_of, inferable_of}
use Rattle.infer_proper.proofs.module_ready_laws.ready_law.Goals as goal

pub returns-clause-named : goal.returns-clause-named
returns-clause-named c = λ a text t m named short. name_is a text t m named short

pub returns-clause-read : goal.returns-clause-read
returns-clause-read c = λ a text t m named short. declarations_read a text t m named short

pub returns-clause-imports : goal.returns-clause-imports
returns-clause-imports c = λ a t sound. records_of a t sound

pub returns-clause-inferable : goal.returns-clause-inferable
returns-clause-inferable c = λ a text t m sound named short.
    inferable_of c.can_infer_law.ensures a text t m sound named short

pub returns-clause-written : goal.returns-clause-written
returns-clause-written c = λ interfaces sound. known_written interfaces sound
