use Rattle.std.proofs.Common.{◌≡◌, length, drop}
use Rattle.elm_canon.specs.View.{types_view}
use Rattle.canon_env.specs.Expanding as sites
use Rattle.canon_type.specs.Filling.{Fills}
use Rattle.canon_type.proofs.filling.Filling.of.Given as goal

abbrev pub invariant-loop-t : goal.invariant-loop-t
invariant-loop-t l =
    Fills l.filling (sites.filling l.fn.names (types_view l.yielded)) × (l.rest ≡ drop (length l.yielded) l.fn.names)
