-- More rows: `tells_look`.
use Rattle.canon_env.specs.Shown.{maker_meaning_view}
use Rattle.canon_env.specs.Space.{found_view}
use Rattle.canon_env.proofs.Rows.{tells_look}
use Rattle.canon_env.proofs.env.World.maker.Goals as goal

pub returns : goal.returns
returns c = λ own imported h i.
    tells_look maker_meaning_view c.args.self.now.own.makers c.args.self.now.imported.makers own.makers imported.makers (found_view c.look.result)
    c.args.qualifier.now c.args.name.now c.look.ensures h.makers i.makers
