-- What a step of the printer leaves: `after_two`, `object_left`.
use Rattle.std.proofs.Common.{codes, refl}
use Rattle.wire_value.specs.Text.{text_text}
use Rattle.wire_value.proofs.Printing.{after_two, object_left}
use Rattle.wire_value.proofs.object.put_object.Goals as goal

pub returns : goal.returns
returns c =
    object_left c.args.members.now c.in-Some.rest.now c.in-Some.first.now c.as_slice.result.now _ c.in-Some.rest c.args.text.now.items c.push-2.new.self.items c.args.tasks.now.items c.push-3.new.self.items c.push-4.new.self.items
    c.in_ok-push-4.ensures.items c.in_ok-push-3.ensures.items
    (after_two c.args.text.now.items (text_text c.as_slice.result.now) (codes ":") _ _ c.in_ok-write_text.ensures c.in_ok-push-2.ensures.items)
    c.in-Some.ensures.cases.0 c.as_slice.ensures refl refl
