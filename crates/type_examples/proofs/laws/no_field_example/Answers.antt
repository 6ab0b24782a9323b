use Rattle.type_examples.proofs.laws.no_field_example.Goals as goal
use Rattle.type_examples.proofs.NoField.{no_such_field}

pub returns : goal.returns
returns c = no_such_field
