use Rattle.infer_proper.proofs.Declared.{declared_once}
use Rattle.infer_proper.proofs.AnnotationProperModules.{module_once}
use Rattle.infer_proper.proofs.annotation_proper_laws.module_law.Goals as goal

pub returns-clause-annotations : goal.returns-clause-annotations
returns-clause-annotations c = λ s t m is read imports none. module_once s t m is read imports none

pub returns-clause-declared : goal.returns-clause-declared
returns-clause-declared c = λ s t m is read imports none. declared_once m (module_once s t m is read imports none)
