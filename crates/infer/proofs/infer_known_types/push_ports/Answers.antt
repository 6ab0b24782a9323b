use Rattle.std.proofs.Common.{◌++◌, ◌∷◌, [], map, take, sym, ap, ◌∙◌, arith}
use Rattle.elm_canon.specs.Tree.{PortDeclaration}
use Rattle.elm_canon.specs.View.{port_declaration_view}
use Rattle.infer_order.proofs.Owning.{map_next}
use Rattle.type_items.specs.Modules.{Annotated}
use Rattle.infer.specs.Known.{as_scheme}
use Rattle.infer.specs.Named.{named_views}
use Rattle.infer.proofs.Making.{listed_next}
use Rattle.infer.proofs.infer_known_types.push_ports.Goals as goal

pub loop-port-preserved : goal.loop-port-preserved
loop-port-preserved c =
    let i = c.loop-port.port-index in
    let x = c.port-item.result in
    let old = named_views c.args.found.now.items in
    let first = map port_declaration_view (take i c.args.ports.now) in
    let f : PortDeclaration → Annotated = λ p. (p.name, p.port_type) in
    c.in_ok-push_annotated.ensures
    ∙ (ap (λ l. l ++ as_scheme (f (port_declaration_view x)) ∷ []) c.loop-port.invariant
    ∙ (listed_next f first (port_declaration_view x) old
    ∙ ap (λ l. old ++ map as_scheme (map f l))
    (sym (map_next port_declaration_view c.args.ports.now i x (omega arith) c.port-item.is))))
