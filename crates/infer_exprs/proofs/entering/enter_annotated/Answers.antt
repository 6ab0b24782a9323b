-- The own variables of the annotation are constants, and then the annotation is fixed.
use Rattle.std.proofs.Common.{◌≡◌, ◌∙◌, Err, map, sym, ap, subst}
use Rattle.std.specs.List.{AllByRecursion}
use Rattle.elm_canon.specs.View.{annotation_view}
use Rattle.elm_type.specs.View.{kind_view, type_view}
use Rattle.type_items.specs.Items.{child}
use Rattle.type_items.specs.Annotations.{variables_of}
use Rattle.infer_steps.specs.Codes.{Code}
use Rattle.infer_steps.specs.Ready.{IsReady}
use Rattle.infer_steps.specs.View.{bad_view, code_of, here}
use Rattle.infer_steps.specs.declared.bad.InferError.TheVariants as error
use Rattle.infer_types.specs.Fixing.{IsAnnotation, HasConstant, Fixes, NotFixed}
use Rattle.infer_groups.specs.Annotated.{inside_of}
use Rattle.infer_groups.specs.Given.{AreApart, AreOwnOf}
use Rattle.infer_groups.proofs.Apart.{own_apart}
use Rattle.infer_types.proofs.Using.{err_same}
use Rattle.infer_exprs.proofs.Opening.{has_each, own_is}
use Rattle.infer_exprs.proofs.entering.enter_annotated.Goals as goal

pub open_annotated-requires-clause-apart : goal.open_annotated-requires-clause-apart
open_annotated-requires-clause-apart c =
    let code = code_of c.args.scope.now in
    let t = annotation_view c.args.annotation.now in
    let own : AreOwnOf code t c.in_ok-parts.parts.names.items (map kind_view c.deref-3.result.now) =
    own_is code t c.in_ok-own.own.items c.deref.result.now c.in_ok-parts.parts.names.items
    (map kind_view c.deref-2.result.now) (map kind_view c.deref-3.result.now) c.in_ok-own.ensures
    (c.deref.ensures.value ∙ c.in_ok-written.ensures.names)
    (ap (map kind_view) c.deref-2.ensures.value ∙ c.in_ok-written.ensures.kinds) c.in_ok-parts.ensures.names
    (ap (map kind_view) c.deref-3.ensures.value ∙ c.in_ok-parts.ensures.kinds) in
    subst AreApart (sym own.names) (own_apart code t)

pub fixed-requires-clause-ready : goal.fixed-requires-clause-ready
fixed-requires-clause-ready c =
    let code = code_of c.args.scope.now in
    let t = annotation_view c.args.annotation.now in
    let old = here c.args.state.now in
    let mid = here c.open_annotated.new.state in
    let own : AreOwnOf code t c.in_ok-parts.parts.names.items (map kind_view c.deref-3.result.now) =
    own_is code t c.in_ok-own.own.items c.deref.result.now c.in_ok-parts.parts.names.items
    (map kind_view c.deref-2.result.now) (map kind_view c.deref-3.result.now) c.in_ok-own.ensures
    (c.deref.ensures.value ∙ c.in_ok-written.ensures.names)
    (ap (map kind_view) c.deref-2.ensures.value ∙ c.in_ok-written.ensures.kinds) c.in_ok-parts.ensures.names
    (ap (map kind_view) c.deref-3.ensures.value ∙ c.in_ok-parts.ensures.kinds) in
    subst (λ k. IsReady k mid.depth mid.store) (sym (c.in_ok-inside.ensures.scope t own))
    (c.opening_law.ensures.ready code t c.args.number c.in_ok-inside.inside.slots.items old mid
    (c.in_ok-inside.ensures.opens t own))

pub fixed-requires-clause-around : goal.fixed-requires-clause-around
fixed-requires-clause-around c =
    let code = code_of c.args.scope.now in
    let t = annotation_view c.args.annotation.now in
    let old = here c.args.state.now in
    let own : AreOwnOf code t c.in_ok-parts.parts.names.items (map kind_view c.deref-3.result.now) =
    own_is code t c.in_ok-own.own.items c.deref.result.now c.in_ok-parts.parts.names.items
    (map kind_view c.deref-2.result.now) (map kind_view c.deref-3.result.now) c.in_ok-own.ensures
    (c.deref.ensures.value ∙ c.in_ok-written.ensures.names)
    (ap (map kind_view) c.deref-2.ensures.value ∙ c.in_ok-written.ensures.kinds) c.in_ok-parts.ensures.names
    (ap (map kind_view) c.deref-3.ensures.value ∙ c.in_ok-parts.ensures.kinds) in
    let there : c.deref-4.result.now ≡ variables_of t =
    c.deref-4.ensures.value ∙ c.in_ok-written.ensures.names in
    subst (λ k. AllByRecursion (HasConstant k) c.deref-4.result.now) (sym (c.in_ok-inside.ensures.scope t own))
    (subst (λ ys. AllByRecursion (HasConstant (inside_of code t (child old.place c.args.number)
    c.in_ok-inside.inside.slots.items)) ys) (sym there)
    (has_each code t (child old.place c.args.number) c.in_ok-inside.inside.slots.items
    (c.in_ok-inside.ensures.opens t own).count))

pub returns-in-Ok-clause-opens : goal.returns-in-Ok-clause-opens
returns-in-Ok-clause-opens c =
    let code = code_of c.args.scope.now in
    let t = annotation_view c.args.annotation.now in
    let old = here c.args.state.now in
    let mid = here c.open_annotated.new.state in
    let new = here c.fixed.new.state in
    let vs = c.in_ok-inside.inside.slots.items in
    let own : AreOwnOf code t c.in_ok-parts.parts.names.items (map kind_view c.deref-3.result.now) =
    own_is code t c.in_ok-own.own.items c.deref.result.now c.in_ok-parts.parts.names.items
    (map kind_view c.deref-2.result.now) (map kind_view c.deref-3.result.now) c.in_ok-own.ensures
    (c.deref.ensures.value ∙ c.in_ok-written.ensures.names)
    (ap (map kind_view) c.deref-2.ensures.value ∙ c.in_ok-written.ensures.kinds) c.in_ok-parts.ensures.names
    (ap (map kind_view) c.deref-3.ensures.value ∙ c.in_ok-parts.ensures.kinds) in
    let is : IsAnnotation t c.deref-4.result.now (map kind_view c.deref-5.result.now)
    (type_view c.in_ok-written.written.scheme.ty) = record {
      names = c.deref-4.ensures.value ∙ c.in_ok-written.ensures.names;
      kinds = ap (map kind_view) c.deref-5.ensures.value ∙ c.in_ok-written.ensures.kinds;
      type = c.in_ok-written.ensures.ty;
      once = c.requires.once;
    } in
    let inside = c.in_ok-inside.ensures.scope t own in
    record {
      mid = mid;
      opens = c.in_ok-inside.ensures.opens t own;
      is = inside;
      asked =
          c.fixing_law.ensures.asked (inside_of code t (child old.place c.args.number) vs) c.args.position t
          c.in-Ok.variable mid new
          (subst (λ (k : Code). Fixes k c.args.position t mid new c.in-Ok.variable) inside
          (c.in-Ok.ensures.fixed t is));
    }

pub returns-in-Ok-clause-names : goal.returns-in-Ok-clause-names
returns-in-Ok-clause-names c =
    let code = code_of c.args.scope.now in
    let t = annotation_view c.args.annotation.now in
    let own : AreOwnOf code t c.in_ok-parts.parts.names.items (map kind_view c.deref-3.result.now) =
    own_is code t c.in_ok-own.own.items c.deref.result.now c.in_ok-parts.parts.names.items
    (map kind_view c.deref-2.result.now) (map kind_view c.deref-3.result.now) c.in_ok-own.ensures
    (c.deref.ensures.value ∙ c.in_ok-written.ensures.names)
    (ap (map kind_view) c.deref-2.ensures.value ∙ c.in_ok-written.ensures.kinds) c.in_ok-parts.ensures.names
    (ap (map kind_view) c.deref-3.ensures.value ∙ c.in_ok-parts.ensures.kinds) in
    c.in_ok-inside.ensures.names ∙ own.names

pub returns-clause-stops : goal.returns-clause-stops
returns-clause-stops c b e d at =
    let code = code_of c.args.scope.now in
    let t = annotation_view c.args.annotation.now in
    let old = here c.args.state.now in
    let mid = here c.open_annotated.new.state in
    let new = here c.fixed.new.state in
    let vs = c.in_ok-inside.inside.slots.items in
    let own : AreOwnOf code t c.in_ok-parts.parts.names.items (map kind_view c.deref-3.result.now) =
    own_is code t c.in_ok-own.own.items c.deref.result.now c.in_ok-parts.parts.names.items
    (map kind_view c.deref-2.result.now) (map kind_view c.deref-3.result.now) c.in_ok-own.ensures
    (c.deref.ensures.value ∙ c.in_ok-written.ensures.names)
    (ap (map kind_view) c.deref-2.ensures.value ∙ c.in_ok-written.ensures.kinds) c.in_ok-parts.ensures.names
    (ap (map kind_view) c.deref-3.ensures.value ∙ c.in_ok-parts.ensures.kinds) in
    let is : IsAnnotation t c.deref-4.result.now (map kind_view c.deref-5.result.now)
    (type_view c.in_ok-written.written.scheme.ty) = record {
      names = c.deref-4.ensures.value ∙ c.in_ok-written.ensures.names;
      kinds = ap (map kind_view) c.deref-5.ensures.value ∙ c.in_ok-written.ensures.kinds;
      type = c.in_ok-written.ensures.ty;
      once = c.requires.once;
    } in
    c.fixing_law.ensures.stops code d t c.args.number vs old mid new (bad_view b) (c.in_ok-inside.ensures.opens t own)
    (subst (λ p. NotFixed (inside_of code t (child old.place c.args.number) vs) p t mid new (bad_view b)) (sym at)
    (subst (λ (k : Code). NotFixed k c.args.position t mid new (bad_view b)) (c.in_ok-inside.ensures.scope t own)
    (c.fixed.ensures.refused b (c.in-Err.is ∙ ap (λ x. Err x) (err_same c.in-Err.error (error.Bad b) e)) t is)))
