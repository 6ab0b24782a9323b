-- More rows: `tells_look`.
use Rattle.canon_env.specs.Shown.{type_meaning_view}
use Rattle.canon_env.specs.Space.{found_view}
use Rattle.canon_env.proofs.Rows.{tells_look}
use Rattle.canon_env.proofs.env.World.type_named.Goals as goal

pub returns : goal.returns
returns c = λ own imported h i.
    tells_look type_meaning_view c.args.self.now.own.types c.args.self.now.imported.types own.types imported.types (found_view c.look.result)
    c.args.qualifier.now c.args.name.now c.look.ensures h.types i.types
