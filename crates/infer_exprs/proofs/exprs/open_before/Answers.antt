use Rattle.std.proofs.Common.{◌∷◌, [], refl, sym, subst}
use Rattle.std.proofs.lemmas.Result.{err_from_is_err_and}
use Rattle.elm_canon.specs.View.{op_view}
use Rattle.infer_steps.specs.Ready.{AreWritten}
use Rattle.infer_steps.specs.View.{here, bad_view, code_of}
use Rattle.infer_parts.proofs.Coding.{other_error}
use Rattle.infer_parts.proofs.Operating.{strict_op, op_begun, op_unbegun}
use Rattle.infer_parts.proofs.Winding.{before_inside}
use Rattle.infer_exprs.proofs.exprs.open_before.Goals as goal

pub begin_op-requires-clause-known : goal.begin_op-requires-clause-known
begin_op-requires-clause-known c =
    subst AreWritten (sym c.known.ensures) c.requires.can.ready.known

pub begin_op-requires-clause-once : goal.begin_op-requires-clause-once
begin_op-requires-clause-once c =
    c.requires.formed.0

pub returns-in_err-variables-clause-stopped : goal.returns-in_err-variables-clause-stopped
returns-in_err-variables-clause-stopped c = λ b e x y.
    let p = err_from_is_err_and c.from_residual.result c.from_residual.ensures.1 in
    op_unbegun (code_of c.args.scope.now) c.args.wanted (op_view c.args.op.now) c.args.position
    (strict_op c.args.op.now) (y ∷ x ∷ []) 2 (here c.args.state.now)
    (here c.begin_op.new.state) (bad_view b) refl
    (c.in_err-variables.ensures.stops b (other_error _ _ (rw (p.1, p.2) at e)) (code_of c.args.scope.now)
    (sym c.known.ensures))

pub returns-clause-opened : goal.returns-clause-opened
returns-clause-opened c =
    let outside_ = here c.begin_op.new.state in
    let b = c.in_ok-variables.ensures.begins (code_of c.args.scope.now) (sym c.known.ensures) in
    λ x. record {
      own = c.in_ok-variables.variables.items;
      is = c.in_ok-inner.ensures.kept;
      inside_is =
          before_inside (code_of c.args.scope.now) c.args.position _ (here c.args.state.now) c.args.wanted
          (here c.go_inside.new.state) c.in_ok-inner.inner outside_
          c.requires.can b.follows b.live (op_view c.args.op.now) x (strict_op c.args.op.now) c.requires.formed
          (op_begun (code_of c.args.scope.now) c.args.wanted (op_view c.args.op.now) c.args.position
          (strict_op c.args.op.now) 2 c.in_ok-variables.variables.items (here c.args.state.now) outside_ b)
          c.in_ok-variables.ensures.number c.in_ok-inner.ensures.variable c.in_ok-inner.ensures.place;
    }
