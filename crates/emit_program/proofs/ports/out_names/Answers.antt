use Rattle.std.proofs.Common.{map}
use Rattle.elm_canon.specs.View.{declaration_view}
use Rattle.emit_program.proofs.Order.{outs_sorted}
use Rattle.emit_program.proofs.ports.out_names.Goals as goal

pub returns : goal.returns
returns c =
    outs_sorted (map declaration_view c.args.declarations.now) c.in_ok-names.names.items c.sort.new.self.items
    c.in_ok-names.ensures c.in_ok-sort.ensures.sorted c.sort.ensures.stable
