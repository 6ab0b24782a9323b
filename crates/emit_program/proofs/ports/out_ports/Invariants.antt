use Rattle.std.proofs.Common.{◌≡◌, ◌++◌, map, drop}
use Rattle.elm_canon.specs.View.{declaration_view}
use Rattle.emit_program.specs.Programs.{out_ports}
use Rattle.emit_program.proofs.ports.out_ports.Given as goal

abbrev pub invariant-loop-declaration : goal.invariant-loop-declaration
invariant-loop-declaration l =
    l.names.items ++ out_ports (map declaration_view (drop l.declaration-index l.declarations))
    ≡ out_ports (map declaration_view l.declarations)
