-- What the annotation asks, and then its type: `fixes`, `not_fixed`.
use Rattle.std.proofs.Common.{◌∙◌, Err, map, sym, ap, subst}
use Rattle.std.specs.List.{AllByRecursion}
use Rattle.std.proofs.lemmas.List.{length-map}
use Rattle.elm_type.specs.View.{kind_view, type_view}
use Rattle.type_walks.specs.Links.{Live}
use Rattle.infer_steps.specs.View.{here, bad_view, code_of}
use Rattle.infer_steps.specs.declared.bad.InferError.TheVariants as error
use Rattle.infer_steps.proofs.Stepping.{still_live}
use Rattle.infer_types.specs.Writing.{CanWrite, Writes}
use Rattle.infer_types.proofs.Using.{err_same}
use Rattle.infer_types.proofs.Constants.{as_many, leaves_live, can_fix, fixes, not_fixed}
use Rattle.infer_types.proofs.fixing.fixed.Goals as goal

pub ask_around-requires-clause-number : goal.ask_around-requires-clause-number
ask_around-requires-clause-number c =
    sym (length-map c.args.kinds.now kind_view)
    ∙ as_many c.requires.annotated.annotation c.args.names.now (map kind_view c.args.kinds.now)
    (type_view c.args.ty.now) c.requires.annotated.is

pub write-requires-clause-leaves : goal.write-requires-clause-leaves
write-requires-clause-leaves c =
    (let u = here c.ask_around.new.state in
    subst (λ vs. AllByRecursion (Live u.depth u.store) vs) (sym c.deref.ensures.value)
    (leaves_live (code_of c.args.scope.now) u.depth u.store c.args.names.now c.in_ok-leaves.leaves.items
    (λ x v is. still_live (here c.args.state.now) u v c.in-Ok.ensures.asks.follows (c.requires.ready.constants x v is))
    c.in_ok-leaves.ensures))

pub write-requires-clause-can : goal.write-requires-clause-can
write-requires-clause-can c =
    (let u = here c.ask_around.new.state in
    subst (λ vs. CanWrite u.store vs (type_view c.args.ty.now)) (sym c.deref.ensures.value)
    (can_fix (code_of c.args.scope.now) u.store c.args.names.now c.in_ok-leaves.leaves.items
    (map kind_view c.args.kinds.now) (type_view c.args.ty.now) c.requires.annotated
    c.in_ok-leaves.ensures c.in-Ok.ensures.asks.lacking))

pub returns-clause-fixed : goal.returns-clause-fixed
returns-clause-fixed c = λ t is.
    fixes (code_of c.args.scope.now) c.args.position t c.args.names.now (map kind_view c.args.kinds.now)
    (type_view c.args.ty.now) is c.requires.around (here c.args.state.now)
    (here c.ask_around.new.state) (here c.write.new.state) c.in_ok-leaves.leaves.items c.in_ok-variable.variable
    c.in-Ok.ensures.asks c.in_ok-leaves.ensures
    (subst (λ vs. Writes vs (type_view c.args.ty.now) (here c.ask_around.new.state) (here c.write.new.state)
    c.in_ok-variable.variable) c.deref.ensures.value
    c.in_ok-variable.ensures)

pub returns-in-Err-clause-refused : goal.returns-in-Err-clause-refused
returns-in-Err-clause-refused c b e = λ t is.
    not_fixed (code_of c.args.scope.now) c.args.position t c.args.names.now (map kind_view c.args.kinds.now)
    (type_view c.args.ty.now) is c.requires.around (here c.args.state.now)
    (here c.ask_around.new.state) (bad_view b)
    (c.ask_around.ensures.refuses b (c.in-Err.is ∙ ap (λ x. Err x) (err_same c.in-Err.error (error.Bad b) e)))
