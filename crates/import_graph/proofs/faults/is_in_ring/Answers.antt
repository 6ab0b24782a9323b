-- A number is in the ring where the search finds it: `is_among_it`.
use Rattle.std.proofs.Common.{sym, ap, ◌∙◌}
use Rattle.import_graph.specs.Faults.{is_among}
use Rattle.import_graph.proofs.Searching.{is_among_it}
use Rattle.import_graph.proofs.faults.is_in_ring.Goals as goal

pub returns-in-Some : goal.returns-in-Some
returns-in-Some c =
    c.is_ok.ensures.value ∙ is_among_it c.args.ring.now c.in-Some.number c.binary_search.result c.requires.ascends c.binary_search.ensures.position
    ∙ ap (is_among c.args.ring.now) (sym c.in-Some.is ∙ c.number_used.ensures)
