-- Environments to which names are added: `join_assoc`.
use Rattle.std.proofs.Common.{[], subst}
use Rattle.std.proofs.lemmas.Result.{on_ok_weaker}
use Rattle.canon_env.specs.Imports.{Everything, exposing_view}
use Rattle.canon_env.specs.Shown.{shown_view}
use Rattle.canon_env.specs.Env.{IsEnvOf, join, shown_rows}
use Rattle.canon_env.proofs.Envs.{join_assoc}
use Rattle.canon_env.proofs.env.Env.add_import.Goals as goal

pub returns : goal.returns
returns c =
    let import = c.args.known.now.import.now in
    let shown = shown_view c.args.known.now.shown.now in
    let all = shown_rows import.qualifier import.home Everything shown in
    on_ok_weaker c.add_exposed.result
    (λ more rows h.
    subst (IsEnvOf c.add_exposed.new.self) (join_assoc rows all (shown_rows [] import.home (exposing_view import.exposes) shown))
    (more (join rows all) (c.in_ok-add.ensures Everything rows c.requires.all h)))
    c.add_exposed.ensures
