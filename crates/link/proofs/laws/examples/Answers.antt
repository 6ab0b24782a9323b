use Rattle.std.specs.Prelude.{refl}
use Rattle.link.specs.Reached.{is_reached}
use Rattle.link.specs.Link.{link, reached_pieces}
use Rattle.link.proofs.laws.examples.Goals as goal

pub returns : goal.returns
unfolding link reached_pieces is_reached
returns c = record { reached = refl; clash = refl; one_port = refl; no_main = refl }
