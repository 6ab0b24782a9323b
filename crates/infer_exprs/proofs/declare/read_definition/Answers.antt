-- A definition with an annotation, or without: `one_more`, `one_not_read`, `none_more`.
use Rattle.std.proofs.Common.{◌++◌, ◌∷◌, [], ◌∙◌, Err, map, sym, ap, subst}
use Rattle.std.specs.Prelude.{option_map}
use Rattle.elm_canon.specs.View.{annotation_view, title_view}
use Rattle.infer_steps.specs.View.{bad_view, code_of, declared_view, here}
use Rattle.infer_steps.specs.declared.bad.InferError.TheVariants as error
use Rattle.infer_types.proofs.Using.{err_same}
use Rattle.infer_exprs.specs.Titles.{title_list}
use Rattle.infer_exprs.specs.Reading.{reading_view, AreRead, NotRead}
use Rattle.infer_exprs.proofs.Reading.{one_not_read}
use Rattle.infer_exprs.proofs.Looping.{none_more, one_more}
use Rattle.infer_exprs.proofs.declare.read_definition.Goals as goal

pub returns-in-Err-clause-refused : goal.returns-in-Err-clause-refused
returns-in-Err-clause-refused c b e =
    subst (λ o. NotRead (code_of c.args.scope.now) (title_list o) (here c.args.state.now) (here c.read.new.state)
    (bad_view b)) (sym c.in-Some.is)
    (one_not_read (code_of c.args.scope.now) (title_view c.in-Some.title.now)
    (annotation_view c.in-Some-annotation.annotation) (here c.args.state.now) (here c.read.new.state)
    (ap (option_map annotation_view) c.in-Some-annotation.is) (bad_view b)
    (c.read.ensures.refused b (c.in-Err.is ∙ ap (λ x. Err x) (err_same c.in-Err.error (error.Bad b) e))))

pub returns-in-None-annotation-clause-read : goal.returns-in-None-annotation-clause-read
returns-in-None-annotation-clause-read c titles start before =
    subst (λ o. AreRead (code_of c.args.scope.now) (titles ++ title_list o) (map reading_view c.args.readings.now.items)
    start (here c.args.state.now)) (sym c.in-Some.is)
    (none_more (code_of c.args.scope.now) titles (map reading_view c.args.readings.now.items) start
    (here c.args.state.now) before (title_view c.in-Some.title.now) c.requires.ready.whole
    (ap (option_map annotation_view) c.in-None-annotation.is))

pub returns-in_ok-push_reading-in-Some-annotation-clause-read :
    goal.returns-in_ok-push_reading-in-Some-annotation-clause-read
returns-in_ok-push_reading-in-Some-annotation-clause-read c titles start before =
    let title = title_view c.in-Some.title.now in
    subst (λ o. AreRead (code_of c.args.scope.now) (titles ++ title_list o)
    (map reading_view c.push_reading.new.readings.items) start (here c.read.new.state)) (sym c.in-Some.is)
    (subst (λ l. AreRead (code_of c.args.scope.now) (titles ++ title ∷ []) l start (here c.read.new.state))
    (sym c.in_ok-push_reading-in-Some-annotation.ensures)
    (one_more (code_of c.args.scope.now) titles (map reading_view c.args.readings.now.items) start
    (here c.args.state.now) before title (annotation_view c.in-Some-annotation.annotation) (here c.read.new.state)
    (declared_view c.in-Ok.declared) (ap (option_map annotation_view) c.in-Some-annotation.is) c.in-Ok.ensures.read))
