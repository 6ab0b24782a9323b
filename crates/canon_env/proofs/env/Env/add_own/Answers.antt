-- A module's own names stand without a qualifier, as if all of them were exposed.
use Rattle.std.proofs.Common.{subst}
use Rattle.std.proofs.lemmas.Result.{on_ok_weaker}
use Rattle.canon_env.specs.Imports.{Everything}
use Rattle.canon_env.specs.Shown.{shown_view}
use Rattle.canon_env.specs.Env.{IsEnvOf, join, shown_rows}
use Rattle.canon_env.proofs.env.Env.add_own.Goals as goal

pub returns : goal.returns
returns c =
    on_ok_weaker c.add.result
    (λ more rows h.
    subst (λ q. IsEnvOf c.add.new.self (join rows (shown_rows q c.args.home.now Everything (shown_view c.args.shown.now))))
    c.in_ok-none.ensures
    (more Everything rows c.open.ensures h))
    c.add.ensures
