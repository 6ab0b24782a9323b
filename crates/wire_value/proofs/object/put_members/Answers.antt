-- What a step of the printer leaves: `comma`, `object_text`, `members_go_on`, `fronted_whole`.
use Rattle.std.proofs.Common.{true, false, ap, ◌∙◌, sym, append-nil, arith}
use Rattle.wire_value.proofs.Printing.{comma, object_text, members_go_on, fronted_whole}
use Rattle.wire_value.proofs.object.put_members.Goals as goal
use Rattle.wire_value.proofs.object.put_members.Goals.{then-not-is_empty+in_ok-push, else-not-is_empty}

pub returns : goal.returns
returns c = elim c.if-not-is_empty.branch [
  | then-not-is_empty+in_ok-push w ↦
      fronted_whole (comma false) (object_text c.args.members.now) _ _ _ c.args.text.now.items c.if-not-is_empty.text.items c.put_object.new.text.items c.args.tasks.now.items c.put_object.new.tasks.items c.put_object.result
      (members_go_on c.args.members.now false w.if-not-is_empty.ensures) (omega arith) (ap (λ v. v.items) w.text-is ∙ w.in_ok-push.ensures.items) c.put_object.ensures
  | else-not-is_empty w ↦
      fronted_whole (comma true) (object_text c.args.members.now) _ _ _ c.args.text.now.items c.if-not-is_empty.text.items c.put_object.new.text.items c.args.tasks.now.items c.put_object.new.tasks.items c.put_object.result
      (members_go_on c.args.members.now true w.if-not-is_empty.ensures) (omega arith) (ap (λ v. v.items) w.text-is ∙ sym (append-nil c.args.text.now.items)) c.put_object.ensures
]
