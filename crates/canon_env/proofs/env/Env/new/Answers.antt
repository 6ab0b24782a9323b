-- Environments to which names are added: `tells_none`.
use Rattle.canon_env.specs.Shown.{type_meaning_view, maker_meaning_view}
use Rattle.canon_env.specs.Env.{value_view}
use Rattle.canon_env.proofs.Envs.{tells_none}
use Rattle.canon_env.proofs.env.Env.new.Goals as goal

pub returns : goal.returns
returns c = record {
  values = tells_none value_view c.new.result c.new.ensures;
  types = tells_none type_meaning_view c.new-2.result c.new-2.ensures;
  makers = tells_none maker_meaning_view c.new-3.result c.new-3.ensures;
}
