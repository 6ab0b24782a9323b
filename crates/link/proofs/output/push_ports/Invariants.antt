use Rattle.std.proofs.Common.{◌≡◌, ◌++◌, map, drop}
use Rattle.emit_program.specs.Texts.{in_view}
use Rattle.link.specs.Link.{ins_of, outs_of}
use Rattle.link.specs.View.{kept_piece}
use Rattle.link.proofs.output.push_ports.Given as goal

abbrev pub invariant-loop-placed : goal.invariant-loop-placed
invariant-loop-placed l = record {
  ins : map in_view l.ins.items ++ ins_of (map kept_piece (drop l.placed-index l.pieces))
      ≡ map in_view l.initial.ins.items ++ ins_of (map kept_piece l.pieces);
  outs : l.outs.items ++ outs_of (map kept_piece (drop l.placed-index l.pieces))
      ≡ l.initial.outs.items ++ outs_of (map kept_piece l.pieces);
}
