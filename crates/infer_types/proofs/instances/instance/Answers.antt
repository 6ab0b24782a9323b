-- The variables of the type, and then the type over them: `is_instance`, `no_instance`.
use Rattle.std.proofs.Common.{◌≡◌, ◌++◌, ◌∙◌, Err, sym, ap, subst}
use Rattle.std.specs.List.{AllByRecursion}
use Rattle.elm_type.specs.View.{type_view, scheme_view}
use Rattle.type_walks.specs.Links.{Live}
use Rattle.infer_steps.specs.View.{here, bad_view}
use Rattle.infer_steps.specs.declared.bad.InferError.TheVariants as error
use Rattle.infer_types.specs.Instances.{over}
use Rattle.infer_types.specs.Writing.{CanWrite, Writes}
use Rattle.infer_types.proofs.Instancing.{can_write, leaves_live, is_instance, no_instance}
use Rattle.infer_types.proofs.Using.{err_same}
use Rattle.infer_types.proofs.instances.instance.Goals as goal

pub write-requires-clause-leaves : goal.write-requires-clause-leaves
write-requires-clause-leaves c =
    (let u = here c.of_kinds.new.state in
    let t = over (scheme_view c.args.scheme.now) c.args.outer.now in
    let ws : c.deref-2.result.now ≡ c.in-Ok.variables.items ++ c.args.outer.now = c.deref-2.ensures.value ∙
    c.in_ok-extend_from_slice.ensures.items in
    subst (λ vs. AllByRecursion (Live u.depth u.store) vs) (sym ws)
    (leaves_live (here c.args.state.now) u c.args.position t c.in-Ok.variables.items c.requires.ready
    (rw c.deref.ensures.value at c.in-Ok.ensures.made)))

pub write-requires-clause-can : goal.write-requires-clause-can
write-requires-clause-can c =
    (let u = here c.of_kinds.new.state in
    let t = over (scheme_view c.args.scheme.now) c.args.outer.now in
    let ws : c.deref-2.result.now ≡ c.in-Ok.variables.items ++ c.args.outer.now = c.deref-2.ensures.value ∙
    c.in_ok-extend_from_slice.ensures.items in
    subst (λ vs. CanWrite u.store vs (type_view c.args.scheme.now.ty)) (sym ws)
    (can_write (here c.args.state.now) u c.args.position t c.in-Ok.variables.items c.requires.ready
    (rw c.deref.ensures.value at c.in-Ok.ensures.made)))

pub returns-clause-made : goal.returns-clause-made
returns-clause-made c =
    (let u = here c.of_kinds.new.state in
    let t = over (scheme_view c.args.scheme.now) c.args.outer.now in
    let ws : c.deref-2.result.now ≡ c.in-Ok.variables.items ++ c.args.outer.now = c.deref-2.ensures.value ∙
    c.in_ok-extend_from_slice.ensures.items in
    is_instance (here c.args.state.now) u (here c.write.new.state) c.args.position t c.in-Ok.variables.items
    c.in_ok-variable.variable c.requires.ready
    (rw c.deref.ensures.value at c.in-Ok.ensures.made)
    (subst (λ vs. Writes vs (type_view c.args.scheme.now.ty) u (here c.write.new.state) c.in_ok-variable.variable) ws
    c.in_ok-variable.ensures))

pub returns-in-Err-clause-refused : goal.returns-in-Err-clause-refused
returns-in-Err-clause-refused c b e =
    no_instance (here c.args.state.now) (here c.of_kinds.new.state) c.args.position
    (over (scheme_view c.args.scheme.now) c.args.outer.now) (bad_view b)
    (rw c.deref.ensures.value at (c.of_kinds.ensures.refused b
    (c.in-Err.is ∙ ap (λ x. Err x) (err_same c.in-Err.error (error.Bad b) e))))
