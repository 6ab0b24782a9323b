use Rattle.std.proofs.Common.{◌≡◌, ◌-◌}
use Rattle.interface.specs.Formats.{times}
use Rattle.interface.proofs.Loops.{with_front}
use Rattle.interface.proofs.forms.lists.so_many_at.Given as goal

abbrev pub invariant-loop : goal.invariant-loop
invariant-loop g l =
    with_front (g.T.Entry.views l.items.items) (times g.T.Entry.format.get (l.count - l.counter) l.input.rest.now) ≡ times g.T.Entry.format.get l.fn.count l.fn.input.rest.now
