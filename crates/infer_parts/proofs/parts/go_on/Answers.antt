use Rattle.std.proofs.Common.{◌∷◌, sym, subst}
use Rattle.std.specs.List.{AllByRecursion}
use Rattle.elm_canon.specs.View.{op_view}
use Rattle.type_walks.specs.Links.{Live}
use Rattle.infer_steps.specs.View.{here, bad_view}
use Rattle.infer_steps.proofs.Stepping.{still_live}
use Rattle.infer_steps.specs.Begun.{Begun, BeginStops}
use Rattle.infer_steps.specs.Operations.{next_two, update_items, update_types}
use Rattle.infer_parts.specs.Parts.{GoesOn, GoesOnStuck}
use Rattle.infer_parts.proofs.Showing.{read_at, live_read}
use Rattle.infer_parts.proofs.Onward.{AsksNoMore, no_code, goes_update, stops_update, first_goes, first_stops}
use Rattle.infer_parts.proofs.Onward.{goes_same}
use Rattle.infer_parts.proofs.Coding.{other_error}
use Rattle.infer_parts.proofs.parts.go_on.Goals as goal

pub returns-in_ok-variables-in-Ok-clause-live : goal.returns-in_ok-variables-in-Ok-clause-live
returns-in_ok-variables-in-Ok-clause-live c =
    let old = here c.args.state.now in
    let new = here c.go_on_update.new.state in
    let b = c.in-Ok.ensures.begins no_code 0 in
    subst (AllByRecursion (Live new.depth new.store)) (sym c.in_ok-variables-in-Ok.ensures) (
      still_live old new c.index-first.result.now b.follows
          (live_read old.depth old.store c.args.variables.now.items 0 c.index-first.result.now c.requires.some
          c.index-first.ensures c.requires.live),
      b.live,
    )

pub returns-in_ok-variables-in-Ok-clause-follows :
    goal.returns-in_ok-variables-in-Ok-clause-follows
returns-in_ok-variables-in-Ok-clause-follows c = (c.in-Ok.ensures.begins no_code 0).follows

pub returns-in_ok-variables-in-Ok-clause-goes : goal.returns-in_ok-variables-in-Ok-clause-goes
returns-in_ok-variables-in-Ok-clause-goes c = λ code n. (
    let old = here c.args.state.now in
    let new = here c.go_on_update.new.state in
    let vs = c.args.variables.now.items in
    let v = c.index-first.result.now in
    let is = read_at vs 0 v c.requires.some c.index-first.ensures in
    let here_ = c.args.position in
    first_goes c.args.index code (op_view c.args.op.now) n here_ vs c.in_ok-variables-in-Ok.field-0.items old new
    c.if-index-gt0.false
    (subst (λ us. GoesOn code (op_view c.args.op.now) n here_ vs us old new) (sym c.in_ok-variables-in-Ok.ensures)
    (subst (λ o. GoesOn code (op_view o) n here_ vs (v ∷ c.in-Ok.rest.items) old new) (sym c.in-Update.is)
    (goes_update code n here_ c.in-Update.names.items vs c.in-Ok.rest.items v old new c.requires.some is
    (subst (λ xs. Begun code v next_two (update_items xs n here_) c.in-Ok.rest.items (update_types xs n here_) old new)
    c.deref.ensures.value
    (c.in-Ok.ensures.begins code n))))))

pub returns-in-Err-clause-stops : goal.returns-in-Err-clause-stops
returns-in-Err-clause-stops c = λ b e code n. (
    let old = here c.args.state.now in
    let new = here c.go_on_update.new.state in
    let vs = c.args.variables.now.items in
    let v = c.index-first.result.now in
    let is = read_at vs 0 v c.requires.some c.index-first.ensures in
    let here_ = c.args.position in
    first_stops c.args.index code (op_view c.args.op.now) n here_ vs old new (bad_view b) c.if-index-gt0.false
    (subst (λ o. GoesOnStuck code (op_view o) n here_ vs old new (bad_view b)) (sym c.in-Update.is)
    (stops_update code n here_ c.in-Update.names.items vs v old new (bad_view b) c.requires.some is
    (subst (λ xs. BeginStops code v next_two (update_items xs n here_) old new (bad_view b)) c.deref.ensures.value
    (c.in-Err.ensures.stops b (other_error _ _ e) code n)))))

pub returns-in-Tuple-clause-goes : goal.returns-in-Tuple-clause-goes
returns-in-Tuple-clause-goes c = λ code n.
    goes_same c.args.index (op_view c.args.op.now) (here c.args.state.now) code n c.args.position
    c.args.variables.now.items c.if-index-gt0.false
    (subst (λ o. AsksNoMore (op_view o)) (sym c.in-Tuple.is) tt) c.requires.whole

pub returns-in-List-clause-goes : goal.returns-in-List-clause-goes
returns-in-List-clause-goes c = λ code n.
    goes_same c.args.index (op_view c.args.op.now) (here c.args.state.now) code n c.args.position
    c.args.variables.now.items c.if-index-gt0.false
    (subst (λ o. AsksNoMore (op_view o)) (sym c.in-List.is) tt) c.requires.whole

pub returns-in-Build-clause-goes : goal.returns-in-Build-clause-goes
returns-in-Build-clause-goes c = λ code n.
    goes_same c.args.index (op_view c.args.op.now) (here c.args.state.now) code n c.args.position
    c.args.variables.now.items c.if-index-gt0.false
    (subst (λ o. AsksNoMore (op_view o)) (sym c.in-Build.is) tt) c.requires.whole

pub returns-in-Record-clause-goes : goal.returns-in-Record-clause-goes
returns-in-Record-clause-goes c = λ code n.
    goes_same c.args.index (op_view c.args.op.now) (here c.args.state.now) code n c.args.position
    c.args.variables.now.items c.if-index-gt0.false
    (subst (λ o. AsksNoMore (op_view o)) (sym c.in-Record.is) tt) c.requires.whole

pub returns-in-Negate-clause-goes : goal.returns-in-Negate-clause-goes
returns-in-Negate-clause-goes c = λ code n.
    goes_same c.args.index (op_view c.args.op.now) (here c.args.state.now) code n c.args.position
    c.args.variables.now.items c.if-index-gt0.false
    (subst (λ o. AsksNoMore (op_view o)) (sym c.in-Negate.is) tt) c.requires.whole

pub returns-in-Binary-clause-goes : goal.returns-in-Binary-clause-goes
returns-in-Binary-clause-goes c = λ code n.
    goes_same c.args.index (op_view c.args.op.now) (here c.args.state.now) code n c.args.position
    c.args.variables.now.items c.if-index-gt0.false
    (subst (λ o. AsksNoMore (op_view o)) (sym c.in-Binary.is) tt) c.requires.whole
