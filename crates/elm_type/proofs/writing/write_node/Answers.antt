-- Frames: `wrote_none`.
use Rattle.std.proofs.Common.{reverse}
use Rattle.elm_type.specs.Text.{leaf_name}
use Rattle.elm_type.proofs.Framing.{wrote_none}
use Rattle.elm_type.proofs.writing.write_node.Goals as goal

pub returns-in-None : goal.returns-in-None
returns-in-None c =
    let e = rw c.in-None.is at c.in_ok-next_frame.ensures in
    wrote_none (leaf_name c.args.names.now) c.args.node.now c.args.text.now.items c.next_frame.new.text.items (reverse c.args.frames.now.items)
    (reverse c.next_frame.new.frames.items) (λ rs. e.text (leaf_name c.args.names.now) rs) e.wanted e.none
