use Rattle.std.proofs.Common.{◌≡◌, ◌∷◌, map, drop}
use Rattle.js_tree.specs.Postorder.{MembersOf, trees_of, top, members, members_then}
use Rattle.emit_program.specs.Programs.{port_view, decoders_of}
use Rattle.emit_program.proofs.ports.push_ins.Given as goal

abbrev pub invariant-loop-port : goal.invariant-loop-port
invariant-loop-port l = record {
  kind : trees_of l.trees ≡ MembersOf (members (top (trees_of l.trees))) ∷ trees_of l.fn.trees;
  fields : members_then (members (top (trees_of l.trees))) (decoders_of (map port_view (drop l.port-index l.port-items)))
      ≡ decoders_of (map port_view l.port-items);
}
