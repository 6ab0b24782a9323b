-- What is imported is what the rows of the imports say.
use Rattle.std.proofs.Common.{map, ap, ◌∙◌}
use Rattle.std.proofs.lemmas.Result.{IfOk-weaker}
use Rattle.elm_tree.specs.View.{words_view}
use Rattle.elm_tree.specs.Turns.{tokens_view}
use Rattle.canon_env.specs.Env.{imported_rows, known_view}
use Rattle.canon_env.specs.Imports.{name_of}
use Rattle.canon_module.proofs.module.declared.Goals as goal

pub returns-clause-values : goal.returns-clause-values
returns-clause-values c =
    IfOk-weaker c.types_of.result _ _
    (λ d told.
    told ∙ c.in_ok-values.ensures
    ∙ ap (λ ws. map name_of (words_view (tokens_view c.args.tokens.now) ws)) c.deref.ensures.value)
    c.types_of.ensures.values

pub returns-clause-types : goal.returns-clause-types
returns-clause-types c =
    IfOk-weaker c.types_of.result _ _
    (λ d told. told (imported_rows (map known_view c.args.setting.now.imports.now)) c.in_ok-imported.ensures)
    c.types_of.ensures.types

pub returns-clause-all : goal.returns-clause-all
returns-clause-all c =
    IfOk-weaker c.types_of.result _ _
    (λ d told. told (imported_rows (map known_view c.args.setting.now.imports.now)) c.in_ok-imported.ensures)
    c.types_of.ensures.all

pub returns-clause-world : goal.returns-clause-world
returns-clause-world c =
    IfOk-weaker c.types_of.result _ _
    (λ d told. told (imported_rows (map known_view c.args.setting.now.imports.now)) c.in_ok-imported.ensures)
    c.types_of.ensures.world

pub returns-clause-faults : goal.returns-clause-faults
returns-clause-faults c =
    IfOk-weaker c.types_of.result _ _
    (λ d told. told (imported_rows (map known_view c.args.setting.now.imports.now)) c.in_ok-imported.ensures)
    c.types_of.ensures.faults
