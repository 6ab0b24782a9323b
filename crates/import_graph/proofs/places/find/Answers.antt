use Rattle.std.proofs.Common.{Option, subst}
use Rattle.std.specs.Prelude.{IfSome}
use Rattle.import_graph.specs.Places.{Fits, text_view}
use Rattle.import_graph.specs.declared.places.Source.{Source}
use Rattle.import_graph.proofs.places.find.Goals as goal

pub returns-in-Some-found-clause-fits : goal.returns-in-Some-found-clause-fits
returns-in-Some-found-clause-fits g c =
    subst (λ (o : Option Source). IfSome o (λ s. Fits (text_view s))) c.in-Some-found.is
    c.loop-directory.invariant.fits
