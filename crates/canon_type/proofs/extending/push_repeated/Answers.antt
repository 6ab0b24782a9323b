-- The names that pass are those among the names before.
use Rattle.std.proofs.Common.{◌++◌, ap, ◌∙◌}
use Rattle.std.specs.Prelude.{filter}
use Rattle.std.proofs.Math.Path.{fun_ext}
use Rattle.canon_type.specs.Extending.{names_of}
use Rattle.canon_type.proofs.extending.push_repeated.Goals as goal

pub returns : goal.returns
returns c =
    c.in_ok-push_among.ensures
    ∙ ap (λ test. c.args.bad.now.items ++ filter test (names_of c.args.fields.now)) (fun_ext c.in_ok-names.ensures)
