use Rattle.std.proofs.Common.{◌≡◌, append-nil}
use Rattle.std.specs.Prelude.{None, slice_get}
use Rattle.std.proofs.lemmas.Option.{slice_get_past}
use Rattle.import_graph.proofs.folding.lay_one.Goals as goal

pub returns-in-None : goal.returns-in-None
returns-in-None g c = λ i vs h.
    let e : slice_get c.args.values.now c.args.import ≡ None = slice_get_past c.args.values.now c.args.import
    c.in-None.ensures.lookup.3 in rw (e, append-nil vs) h
