use Rattle.std.proofs.Common.{map, rules}
use Rattle.std.proofs.lemmas.List.Sorted.{answers_always}
use Rattle.elm_canon.specs.View.{declaration_view}
use Rattle.emit_program.specs.declared.ports.InPort.{InPort}
use Rattle.emit_program.specs.Programs.{port_view}
use Rattle.emit_program.proofs.Order.{by_name, is_order, ins_sorted}
use Rattle.emit_program.proofs.ports.sorted_ports.Goals as goal

pub returns : goal.returns
returns c =
    let order = is_order (λ (p : InPort). (port_view p).0) in
    ins_sorted port_view (map declaration_view c.args.declarations.now) c.in_ok-ports.ports.items c.sort_by.new.self.items
    c.in_ok-ports.ensures
    (c.in_ok-sort_by.ensures.sorted (by_name port_view) order (answers_always _ _ _ (λ f a r g h. search rules)))
    (c.sort_by.ensures.stable (by_name port_view) order (answers_always _ _ _ (λ f a r g h. search rules)))
