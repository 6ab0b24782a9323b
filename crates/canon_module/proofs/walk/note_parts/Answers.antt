-- First the pattern, and then what it takes apart.
use Rattle.std.proofs.lemmas.Result.{on_ok_weaker}
use Rattle.canon_expr.proofs.Growing.{grows_more}
use Rattle.canon_module.proofs.walk.note_parts.Goals as goal

pub returns : goal.returns
returns c =
    on_ok_weaker c.note_value.result (λ more w is. grows_more (c.in_ok-note_pattern.ensures w is) (more w is))
    c.note_value.ensures
