-- The fields that stand twice: `fields_noted`.
use Rattle.std.proofs.Common.{refl}
use Rattle.std.proofs.lemmas.Result.{on_ok_weaker}
use Rattle.canon_expr.proofs.Fielding.{fields_noted}
use Rattle.canon_expr.proofs.fields.note_fields.Goals as goal

pub returns : goal.returns
returns c = on_ok_weaker c.push_repeats.result (λ e w. fields_noted w c.args.log.now _ _ e refl) c.push_repeats.ensures
