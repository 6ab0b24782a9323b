use Rattle.std.proofs.Common.{◌≡◌, ◌++◌, map, drop}
use Rattle.elm_canon.specs.View.{declaration_view}
use Rattle.emit_program.specs.Programs.{in_ports, port_view}
use Rattle.emit_program.proofs.ports.in_ports.Given as goal

abbrev pub invariant-loop-declaration : goal.invariant-loop-declaration
invariant-loop-declaration l =
    map port_view l.ports.items ++ in_ports (map declaration_view (drop l.declaration-index l.declarations))
    ≡ in_ports (map declaration_view l.declarations)
