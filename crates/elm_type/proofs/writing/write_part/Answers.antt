-- Frames: `wrote_field`, `wrote_passed`, `wrote_type`, `is_type`.
use Rattle.std.proofs.Common.{◌-◌, arith, reverse, sym, ◌∙◌}
use Rattle.elm_type.specs.Text.{leaf_name}
use Rattle.elm_type.proofs.Framing.{wrote_field, wrote_passed, wrote_type, is_type}
use Rattle.elm_type.proofs.writing.write_part.Goals as goal

pub returns-then-has_fields : goal.returns-then-has_fields
returns-then-has_fields c =
    rw c.in-Field.is
    (wrote_field (leaf_name c.args.names.now) c.in-Field.name c.args.top (c.args.top.left - 1) c.args.text.now.items c.write_field.new.text.items
    (reverse c.args.frames.now.items) (reverse c.write_field.new.frames.items) (record {
      left = omega arith;
      fields = sym c.has_fields.ensures ∙ c.if-has_fields.true;
      text = c.in_ok-write_field-in-Field.ensures.text;
      frames = c.in_ok-write_field-in-Field.ensures.frames;
    }))

pub returns-in_ok-push_frame-in-Field : goal.returns-in_ok-push_frame-in-Field
returns-in_ok-push_frame-in-Field c =
    rw (c.in-Field.is, c.in_ok-push_frame-in-Field.ensures)
    (wrote_passed (leaf_name c.args.names.now) c.in-Field.name c.args.top (c.args.top.left - 1) c.args.text.now.items (reverse c.args.frames.now.items)
    (sym c.has_fields.ensures ∙ c.if-has_fields.false) (omega arith))

pub returns-in_ok-write_type-in_default : goal.returns-in_ok-write_type-in_default
returns-in_ok-write_type-in_default c =
    wrote_type (leaf_name c.args.names.now) c.args.node.now c.args.top (c.args.top.left - 1) c.args.text.now.items c.write_type.new.text.items
    (reverse c.args.frames.now.items) (reverse c.write_type.new.frames.items) (is_type c.args.node.now c.in_default.not-Field) (record {
      left = omega arith;
      text = c.in_ok-write_type-in_default.ensures.text;
      frames = c.in_ok-write_type-in_default.ensures.frames;
    })
