-- By the laws of names, of annotations and of groups.
use Rattle.infer_proper.proofs.InferReadyGrouping.{all_formed}
use Rattle.infer_proper.proofs.infer_ready_laws.can_infer_law.Goals as goal

pub returns : goal.returns
returns c = λ s t m scope is around read imports none. record {
  scope = scope;
  proper = c.module_law.ensures.proper s t m scope is around read none;
  declared = c.module_law-2.ensures.declared s t m is read imports none;
  formed = all_formed m.declarations (c.module_law-3.ensures s t m scope is around read imports none);
}
