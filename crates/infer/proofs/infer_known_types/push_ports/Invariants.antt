use Rattle.std.proofs.Common.{◌≡◌, ◌++◌, map, take}
use Rattle.elm_canon.specs.Tree.{PortDeclaration}
use Rattle.elm_canon.specs.View.{port_declaration_view}
use Rattle.infer.specs.Known.{as_scheme}
use Rattle.infer.specs.Named.{named_views}
use Rattle.infer.proofs.infer_known_types.push_ports.Given as goal

abbrev pub invariant-loop-port : goal.invariant-loop-port
invariant-loop-port l =
    named_views l.found.items
    ≡ named_views l.fn.found.items
    ++ map as_scheme (map (λ (p : PortDeclaration). (p.name, p.port_type))
    (map port_declaration_view (take l.port-index l.ports)))
