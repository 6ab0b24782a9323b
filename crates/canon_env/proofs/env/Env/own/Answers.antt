-- An environment without names, to which a module's own names are added.
use Rattle.canon_env.specs.Env.{no_rows}
use Rattle.canon_env.proofs.env.Env.own.Goals as goal

pub returns : goal.returns
returns c = c.in_ok-add_own.ensures no_rows c.new-env.ensures
