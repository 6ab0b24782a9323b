-- More rows: `tells_look`.
use Rattle.canon_env.specs.Env.{value_view}
use Rattle.canon_env.specs.Space.{found_view}
use Rattle.canon_env.proofs.Rows.{tells_look}
use Rattle.canon_env.proofs.env.World.value.Goals as goal

pub returns : goal.returns
returns c = λ own imported h i.
    tells_look value_view c.args.self.now.own.values c.args.self.now.imported.values own.values imported.values (found_view c.look.result)
    c.args.qualifier.now c.args.name.now c.look.ensures h.values i.values
