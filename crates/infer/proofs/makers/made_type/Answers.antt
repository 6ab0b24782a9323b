use Rattle.std.proofs.Common.{arith}
use Rattle.std.proofs.lemmas.Grind.{common_steps}
use Rattle.elm_canon.proofs.Views.{named_type}
use Rattle.infer.proofs.makers.made_type.Goals as goal

pub returns : goal.returns
returns c =
    let e = named_type c.in_ok-home.home c.in_ok-name.name c.in_ok-variables.variables in grind (arith, common_steps)
