-- The decoders of the parts so far, and then of those that are left, are those of all.
use Rattle.std.proofs.Common.{◌≡◌, ◌∷◌, drop, map}
use Rattle.elm_canon.specs.Tree.{payloads_of, payload_fields_of}
use Rattle.elm_canon.specs.View.{payload_view, payload_field_view}
use Rattle.js_tree.specs.Postorder.{ItemsOf, trees_of, items, items_then, top}
use Rattle.js_emit.specs.Codecs.{decoders, field_decoders}
use Rattle.js_emit.proofs.codecs.+decoders.Given as goal

abbrev pub invariant-push_tuple_decoder-loop-part : goal.invariant-push_tuple_decoder-loop-part
invariant-push_tuple_decoder-loop-part l = record {
  kind : trees_of l.trees ≡ ItemsOf (items (top (trees_of l.trees))) ∷ trees_of l.fn.trees;
  made : items_then (items (top (trees_of l.trees))) (decoders (payloads_of (map payload_view (drop l.part-index l.parts))))
      ≡ decoders (payloads_of (map payload_view l.parts));
}

abbrev pub invariant-push_record_decoder-loop-field : goal.invariant-push_record_decoder-loop-field
invariant-push_record_decoder-loop-field l = record {
  kind : trees_of l.trees ≡ ItemsOf (items (top (trees_of l.trees))) ∷ trees_of l.fn.trees;
  made : items_then (items (top (trees_of l.trees)))
      (field_decoders (payload_fields_of (map payload_field_view (drop l.field-index l.fields))))
      ≡ field_decoders (payload_fields_of (map payload_field_view l.fields));
}
