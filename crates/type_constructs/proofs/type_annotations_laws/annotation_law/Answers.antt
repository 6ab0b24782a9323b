use Rattle.type_constructs.proofs.type_annotations_laws.annotation_law.Goals as goal
use Rattle.type_constructs.proofs.Fixing.{fixes_types}

pub returns : goal.returns
returns c = fixes_types
