-- The import that is added: `imported`.
use Rattle.std.proofs.Common.{[], ◌∷◌, ◌++◌, map, ap, ◌∙◌}
use Rattle.canon_env.specs.Shown.{unions_view}
use Rattle.core_modules.specs.Given.{given_import, given_view}
use Rattle.core_modules.proofs.Shared.{then_ok, imported}
use Rattle.core_modules.proofs.given.push_import.Goals as goal

pub returns : goal.returns
returns c =
    then_ok c.push_made.result (λ p. imported (λ us. unions_view us.items) given_view c.given_types-unions.result
    c.import_of.result c.in_ok-home.home c.in_ok-qualifier.qualifier c.args.imports.now.items _
    c.given_types-unions.ensures c.import_of.ensures c.in_ok-qualifier.ensures.cases p
    ∙ ap (λ x. map given_view c.args.imports.now.items ++ given_import x ∷ []) c.in_ok-home.ensures)
    c.push_made.ensures
