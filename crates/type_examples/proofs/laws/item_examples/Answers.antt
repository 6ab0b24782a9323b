-- The items are computed.
use Rattle.std.specs.Prelude.{refl}
use Rattle.decl_groups.specs.InOrder.{ordered_groups}
use Rattle.type_examples.proofs.laws.item_examples.Goals as goal

pub returns-clause-copies : goal.returns-clause-copies
unfolding ordered_groups
returns-clause-copies c = refl

pub returns-clause-annotated : goal.returns-clause-annotated
unfolding ordered_groups
returns-clause-annotated c = refl

pub returns-clause-in_scope : goal.returns-clause-in_scope
unfolding ordered_groups
returns-clause-in_scope c = refl

pub returns-clause-updated : goal.returns-clause-updated
unfolding ordered_groups
returns-clause-updated c = refl

pub returns-clause-both_classes : goal.returns-clause-both_classes
unfolding ordered_groups
returns-clause-both_classes c = refl

pub returns-clause-branches : goal.returns-clause-branches
returns-clause-branches c = refl

pub returns-clause-next : goal.returns-clause-next
unfolding ordered_groups
returns-clause-next c = refl

pub returns-clause-taken_apart : goal.returns-clause-taken_apart
unfolding ordered_groups
returns-clause-taken_apart c = refl

pub returns-clause-by_annotation : goal.returns-clause-by_annotation
unfolding ordered_groups
returns-clause-by_annotation c = refl
