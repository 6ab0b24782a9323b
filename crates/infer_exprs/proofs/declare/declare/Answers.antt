-- Annotations are read, and then their names come into scope: `names_defined`, `names_stop`.
use Rattle.std.proofs.Common.{◌∙◌, Err, map, sym, ap, subst}
use Rattle.type_walks.specs.Regions.{none}
use Rattle.infer_steps.specs.View.{bad_view, code_of, here}
use Rattle.infer_steps.specs.declared.bad.InferError.TheVariants as error
use Rattle.infer_groups.specs.Defined.{Defined}
use Rattle.infer_groups.specs.Lets.{listed_names}
use Rattle.infer_types.proofs.Using.{err_same}
use Rattle.infer_exprs.specs.Titles.{titles_of}
use Rattle.infer_exprs.specs.Reading.{reading_view}
use Rattle.infer_exprs.proofs.Scoping.{titles_are, names_defined, names_stop}
use Rattle.infer_exprs.proofs.declare.declare.Goals as goal

pub returns-in-Err-clause-refused : goal.returns-in-Err-clause-refused
returns-in-Err-clause-refused c b e gs ds are =
    names_stop (code_of c.args.scope.now) (titles_of c.args.definitions.now) ds
    (titles_are gs c.args.definitions.now ds are) (here c.args.state.now) (here c.read_all.new.state) (bad_view b)
    (c.read_all.ensures.refused b (c.in-Err.is ∙ ap (λ x. Err x) (err_same c.in-Err.error (error.Bad b) e)))

pub returns-clause-declared : goal.returns-clause-declared
returns-clause-declared c gs ds are =
    subst (λ k. Defined (code_of c.args.scope.now) k (λ q. none) (listed_names ds) (here c.args.state.now)
    (here c.read_all.new.state)) (sym c.in_ok-entered.ensures.scope)
    (names_defined (code_of c.args.scope.now) (titles_of c.args.definitions.now) ds
    (titles_are gs c.args.definitions.now ds are) (here c.args.state.now) (here c.read_all.new.state)
    c.following_law.ensures.ready c.setting_law.ensures.later c.entering_law.ensures.names c.scope_law.ensures.each
    (map reading_view c.in-Ok.readings.items) c.requires.ready c.in-Ok.ensures.read)
