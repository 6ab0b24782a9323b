use Rattle.infer_proper.proofs.ModuleReadyModules.{offer_of}
use Rattle.infer_proper.proofs.module_ready_laws.offer_law.Goals as goal

pub returns : goal.returns
returns c = λ a text t m told sound named short written.
    offer_of c.module_law.ensures.declared a text t m told sound named short written
