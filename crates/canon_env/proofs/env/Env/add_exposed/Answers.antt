-- The filter of an import lets through what it exposes.
use Rattle.std.proofs.Common.{subst}
use Rattle.std.proofs.lemmas.Result.{on_ok_weaker}
use Rattle.canon_env.specs.Imports.{exposing_view}
use Rattle.canon_env.specs.Shown.{shown_view}
use Rattle.canon_env.specs.Env.{IsEnvOf, join, shown_rows}
use Rattle.canon_env.proofs.env.Env.add_exposed.Goals as goal

pub returns : goal.returns
returns c =
    let import = c.args.known.now.import.now in
    let shown = shown_view c.args.known.now.shown.now in
    let exposes = exposing_view import.exposes in
    on_ok_weaker c.add.result
    (λ more rows h. subst (λ q. IsEnvOf c.add.new.self (join rows (shown_rows q import.home exposes shown))) c.requires
    (more exposes rows c.in_ok-filter.ensures h))
    c.add.ensures
