-- The types of one constructor's fields, and their faults: `fields_made`, `fields_faults`.
use Rattle.std.proofs.Common.{map, take, refl, arith, sym, ap, ◌∙◌, ◌++◌}
use Rattle.std.specs.Prelude.{flat_map}
use Rattle.elm_tree.specs.View.{type_view, constructor_view}
use Rattle.elm_tree.specs.Turns.{tokens_view}
use Rattle.elm_canon.specs.View.{types_view}
use Rattle.elm_canon.specs.declared.tree.Fields.{Fields}
use Rattle.canon_env.proofs.Filtering.{map_map_next, pushed}
use Rattle.canon_env.specs.Types.{type_of}
use Rattle.canon_type.proofs.Fillings.{bad_next}
use Rattle.canon_type.specs.Walking.{faults_in}
use Rattle.canon_type.specs.Unions.{fields_of, constructor_faults}
use Rattle.canon_type.proofs.Making.{fields_made, fields_faults}
use Rattle.std.proofs.lemmas.List.{take_all}
use Rattle.canon_type.proofs.constructors.fields_of.Goals as goal

pub loop-constructor-preserved : goal.loop-constructor-preserved
loop-constructor-preserved c =
    let tokens = tokens_view c.args.tokens.now in
    let view = constructor_view tokens in
    let cs = c.args.constructors.now in
    let i = c.loop-constructor.constructor-index in
    let k = c.constructor-item.result in
    let us = map (type_view tokens) k.arguments.items in
    record {
      fields = λ w h.
          pushed (λ (f : Fields). types_view f.types.items) c.loop-constructor.fields.items c.push.new.self.items
          (record { types = c.in_ok-types.types }) (map (fields_of w) (map view (take i cs))) (fields_of w (view k))
          c.in_ok-push.ensures.items (c.loop-constructor.invariant.fields w h)
          (fields_made w us c.in_ok-types.types.items
          (c.in_ok-types.ensures.types w h ∙ ap (λ l. map (type_of w) (map (type_view tokens) l)) c.deref.ensures.value))
          ∙ sym (map_map_next (fields_of w) view cs i k (omega arith) c.constructor-item.is);
      faults = λ w h.
          bad_next (constructor_faults w) view cs i k c.args.findings.now.items c.loop-constructor.findings.items
          c.annotations.new.findings.items (omega arith) c.constructor-item.is (c.loop-constructor.invariant.faults w h)
          (fields_faults w (view k) us c.loop-constructor.findings.items c.annotations.new.findings.items refl
          (c.in_ok-types.ensures.faults w h
          ∙ ap (λ l. c.loop-constructor.findings.items ++ flat_map (faults_in w) (map (type_view tokens) l))
          c.deref.ensures.value));
    }

pub returns-clause-fields : goal.returns-clause-fields
returns-clause-fields c = λ w h.
    c.loop-constructor.invariant.fields w h
    ∙ ap (λ l. map (fields_of w) (map (constructor_view (tokens_view c.args.tokens.now)) l))
    (take_all c.loop-constructor.constructor-index c.args.constructors.now (omega arith))

pub returns-clause-faults : goal.returns-clause-faults
returns-clause-faults c = λ w h.
    c.loop-constructor.invariant.faults w h
    ∙ ap (λ l. c.args.findings.now.items
    ++ flat_map (constructor_faults w) (map (constructor_view (tokens_view c.args.tokens.now)) l))
    (take_all c.loop-constructor.constructor-index c.args.constructors.now (omega arith))
