-- What a step of the printer leaves: `left_two`, `list_splits`.
use Rattle.std.proofs.Common.{[], refl, sym, append-nil}
use Rattle.wire_value.specs.declared.task.Task.TheVariants as task
use Rattle.wire_value.proofs.Printing.{left_two, list_splits}
use Rattle.wire_value.proofs.print.put_list.Goals as goal

pub returns : goal.returns
returns c =
    let s = list_splits c.args.items.now c.in-Some.rest.now c.in-Some.first.now c.in-Some.first c.in-Some.rest c.in-Some.ensures.cases.0 refl refl in
    left_two _ _ c.args.text.now.items [] c.args.text.now.items c.args.tasks.now.items c.push-2.new.self.items c.push-3.new.self.items (task.Value c.in-Some.first) (task.Items c.in-Some.rest)
    s.0 s.1 (sym (append-nil c.args.text.now.items)) c.in_ok-push-2.ensures.items c.in_ok-push-3.ensures.items
