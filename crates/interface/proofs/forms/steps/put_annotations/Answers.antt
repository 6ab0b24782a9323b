-- Types one after the other: `all_in_turn`.
use Rattle.std.proofs.Common.{map, arith}
use Rattle.std.proofs.lemmas.Grind.{common_steps}
use Rattle.elm_canon.specs.View.{annotation_view}
use Rattle.interface.specs.Text.{annotations_format, steps_format}
use Rattle.interface.proofs.Flattening.{all_in_turn}
use Rattle.interface.proofs.forms.steps.put_annotations.Goals as goal

pub returns : goal.returns
unfolding annotations_format steps_format
returns c = let e = all_in_turn (map annotation_view c.args.types.now) in grind (arith, common_steps)
