-- The first type is joined to the second in its place: `joined_last`.
use Rattle.std.proofs.Common.{◌-◌, ◌<◌, refl, arith}
use Rattle.std.specs.Vec.{vec_len}
use Rattle.elm_canon.specs.View.{annotation_view}
use Rattle.interface.specs.Steps.{with_field}
use Rattle.interface.proofs.Onto.{joined_last}
use Rattle.interface.proofs.rebuilding.add_field.Goals as goal

pub returns-in-Some-last_mut : goal.returns-in-Some-last_mut
returns-in-Some-last_mut c =
    let some : 0 < vec_len c.take_first.new.stack = c.in-Some-last_mut.ensures.variant.0 refl in
    joined_last (with_field c.args.name) c.args.stack.now.items c.take_first.new.stack.items (vec_len c.take_first.new.stack - 1) (annotation_view c.in-Some.field_type) c.in-Some-last_mut.opened.now c.push_field.new.opened c.push_field.result
    (omega (arith, some)) c.in-Some.ensures c.in-Some-last_mut.ensures.value c.push_field.ensures
