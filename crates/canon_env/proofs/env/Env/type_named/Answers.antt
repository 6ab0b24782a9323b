-- More rows: `tells_find`.
use Rattle.canon_env.specs.Shown.{type_meaning_view}
use Rattle.canon_env.specs.Space.{found_view}
use Rattle.canon_env.proofs.Rows.{tells_find}
use Rattle.canon_env.proofs.env.Env.type_named.Goals as goal

pub returns : goal.returns
returns c = λ rows h.
    tells_find type_meaning_view c.args.self.now.types rows.types (found_view c.find.result) c.args.qualifier.now c.args.name.now
    c.find.ensures h.types
