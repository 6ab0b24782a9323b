use Rattle.std.proofs.Common.{length, take}
use Rattle.interface.proofs.Loops.{PutsFirst}
use Rattle.interface.proofs.forms.lists.put_list.Given as goal

abbrev pub invariant-loop-item : goal.invariant-loop-item
invariant-loop-item g l = PutsFirst g.T.Entry.format l.fn.out.items l.out.items (length l.items) l.item-index (g.T.Entry.views (take l.item-index l.items))
