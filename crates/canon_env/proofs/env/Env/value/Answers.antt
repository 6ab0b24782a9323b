-- More rows: `tells_find`.
use Rattle.canon_env.specs.Env.{value_view}
use Rattle.canon_env.specs.Space.{found_view}
use Rattle.canon_env.proofs.Rows.{tells_find}
use Rattle.canon_env.proofs.env.Env.value.Goals as goal

pub returns : goal.returns
returns c = λ rows h.
    tells_find value_view c.args.self.now.values rows.values (found_view c.find.result) c.args.qualifier.now c.args.name.now
    c.find.ensures h.values
