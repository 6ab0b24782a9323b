use Rattle.std.proofs.Common.{◌≡◌, ◌≤◌, ◌++◌, length, drop, reverse}
use Rattle.elm_type.specs.Spelling.{read}
use Rattle.elm_type.specs.View.{type_view}
use Rattle.elm_type.specs.Text.{text_in, leaf_name}
use Rattle.elm_type.specs.Frames.{pending, wanted}
use Rattle.elm_type.specs.declared.frame.Around.TheVariants.{Alone}
use Rattle.elm_type.proofs.writing.write.Given as goal

-- what is written and what is to be written are the whole text
abbrev pub invariant-loop-node : goal.invariant-loop-node
invariant-loop-node l = record {
  text : l.text.items ++ pending (leaf_name l.names) (reverse l.frames.items) (read (drop l.node-index l.node-items)) ≡ text_in (leaf_name l.names) Alone (type_view l.ty);
  room : wanted (reverse l.frames.items) ≤ length (read (drop l.node-index l.node-items));
}
