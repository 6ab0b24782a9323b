-- What a step of the printer leaves: `comma`, `list_text`, `items_go_on`, `fronted_whole`.
use Rattle.std.proofs.Common.{true, false, ap, ◌∙◌, sym, append-nil, arith}
use Rattle.wire_value.proofs.Printing.{comma, list_text, items_go_on, fronted_whole}
use Rattle.wire_value.proofs.print.put_items.Goals as goal
use Rattle.wire_value.proofs.print.put_items.Goals.{then-not-is_empty+in_ok-push, else-not-is_empty}

pub returns : goal.returns
returns c = elim c.if-not-is_empty.branch [
  | then-not-is_empty+in_ok-push w ↦
      fronted_whole (comma false) (list_text c.args.items.now) _ _ _ c.args.text.now.items c.if-not-is_empty.text.items c.put_list.new.text.items c.args.tasks.now.items c.put_list.new.tasks.items c.put_list.result
      (items_go_on c.args.items.now false w.if-not-is_empty.ensures) (omega arith) (ap (λ v. v.items) w.text-is ∙ w.in_ok-push.ensures.items) c.put_list.ensures
  | else-not-is_empty w ↦
      fronted_whole (comma true) (list_text c.args.items.now) _ _ _ c.args.text.now.items c.if-not-is_empty.text.items c.put_list.new.text.items c.args.tasks.now.items c.put_list.new.tasks.items c.put_list.result
      (items_go_on c.args.items.now true w.if-not-is_empty.ensures) (omega arith) (ap (λ v. v.items) w.text-is ∙ sym (append-nil c.args.text.now.items)) c.put_list.ensures
]
