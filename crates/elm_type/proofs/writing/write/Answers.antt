-- A walk over the nodes of a type: `walk_begins`, `walk_room`, `walk_text`, `walk_wanted`, and others.
use Rattle.std.proofs.Common.{◌≡◌, ◌∷◌, [], reverse, sym, ◌∙◌, ap, subst, arith}
use Rattle.elm_type.specs.Spelling.{AreSpelled}
use Rattle.elm_type.specs.View.{type_view}
use Rattle.elm_type.specs.Text.{leaf_name, text_in}
use Rattle.elm_type.specs.Frames.{frame}
use Rattle.elm_type.specs.declared.frame.Around.TheVariants.{Alone}
use Rattle.elm_type.specs.declared.frame.Kind.TheVariants.{Single}
use Rattle.elm_type.specs.declared.frame.Closing.TheVariants.{Nothing}
use Rattle.elm_type.proofs.Walking.{walk_begins, walk_room, walk_text, walk_wanted, walk_ends}
use Rattle.elm_type.proofs.writing.write.Goals as goal

pub loop-node-init : goal.loop-node-init
loop-node-init c =
    let ns = c.args.ty.now.nodes.items in
    let spelled = c.args.ty.now.spelled in
    let name = leaf_name c.args.names.now in
    let e : reverse c.push_frame.new.frames.items ≡ frame Single 1 Nothing ∷ [] = c.in_ok-push_frame.ensures ∙ ap (λ fs. frame Single 1 Nothing ∷ reverse fs) c.new-frames.ensures.items in
    rw (c.new-text.ensures.items, e, c.deref-node-items.ensures.value) (record {
      text = walk_begins name ns spelled;
      room = walk_room ns spelled;
    })

pub loop-node-preserved : goal.loop-node-preserved
loop-node-preserved c =
    let ns = c.deref-node-items.result.now in
    let spelled = subst AreSpelled (sym c.deref-node-items.ensures.value) c.args.ty.now.spelled in
    let name = leaf_name c.args.names.now in
    record {
      text = walk_text name ns c.loop-node.node-index c.node-item.result c.loop-node.text.items c.write_node.new.text.items
          (text_in name Alone (type_view c.args.ty.now)) (reverse c.loop-node.frames.items) (reverse c.write_node.new.frames.items)
          c.loop-node-test.true c.node-item.is spelled c.in_ok-write_node.ensures c.loop-node.invariant.room c.loop-node.invariant.text;
      room = walk_wanted name ns c.loop-node.node-index c.node-item.result c.loop-node.text.items c.write_node.new.text.items
          (reverse c.loop-node.frames.items) (reverse c.write_node.new.frames.items)
          c.loop-node-test.true c.node-item.is spelled c.in_ok-write_node.ensures c.loop-node.invariant.room;
    }

pub returns : goal.returns
returns c =
    let name = leaf_name c.args.names.now in
    c.in_ok-close_all.ensures name
    ∙ walk_ends name c.deref-node-items.result.now c.loop-node.node-index c.loop-node.text.items (text_in name Alone (type_view c.args.ty.now))
    (reverse c.loop-node.frames.items) (omega arith) c.loop-node.invariant.text
