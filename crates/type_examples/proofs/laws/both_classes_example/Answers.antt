use Rattle.type_examples.proofs.laws.both_classes_example.Goals as goal
use Rattle.type_examples.proofs.BothClasses.{both_classes_type}

pub returns : goal.returns
returns c = both_classes_type
