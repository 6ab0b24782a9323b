use Rattle.std.proofs.Common.{rules}
use Rattle.std.proofs.lemmas.List.Sorted.{answers_always}
use Rattle.emit_program.proofs.Order.{is_order}
use Rattle.emit_program.specs.declared.emit_text_ports.InPort.{InPort}
use Rattle.emit_program.specs.Texts.{in_view}
use Rattle.emit_program.proofs.Ordered.{by_name, texts_sorted}
use Rattle.emit_program.proofs.emit_text_ports.sorted.Goals as goal

pub returns : goal.returns
returns c =
    let order = is_order (λ (p : InPort). (in_view p).0) in
    texts_sorted in_view c.args.ins.items c.sort_by.new.self.items
    (c.in_ok-sort_by.ensures.sorted (by_name in_view) order (answers_always _ _ _ (λ f a r g h. search rules)))
    (c.sort_by.ensures.stable (by_name in_view) order (answers_always _ _ _ (λ f a r g h. search rules)))
