use Rattle.std.proofs.Common.{◌≡◌, ◌++◌, map, take}
use Rattle.std.specs.Prelude.{flat_map}
use Rattle.elm_tree.specs.View.{constructor_view}
use Rattle.elm_tree.specs.Turns.{tokens_view}
use Rattle.elm_canon.specs.View.{types_view}
use Rattle.elm_canon.specs.declared.tree.Fields.{Fields}
use Rattle.canon_env.specs.Naming.{World, IsWorld}
use Rattle.canon_type.specs.Unions.{fields_of, constructor_faults}
use Rattle.canon_type.proofs.constructors.fields_of.Given as goal

abbrev pub invariant-loop-constructor : goal.invariant-loop-constructor
invariant-loop-constructor l = record {
  fields : (w : World) → IsWorld l.world w → map (λ (f : Fields). types_view f.types.items) l.fields.items
      ≡ map (fields_of w) (map (constructor_view (tokens_view l.tokens)) (take l.constructor-index l.constructors));
  faults : (w : World) → IsWorld l.world w → l.findings.items ≡ l.initial.findings.items
      ++ flat_map (constructor_faults w)
      (map (constructor_view (tokens_view l.tokens)) (take l.constructor-index l.constructors));
}
