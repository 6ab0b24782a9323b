-- What the step left, in a box: `done_boxed`.
use Rattle.std.proofs.Common.{◌≡◌, sym, subst}
use Rattle.canon_env.specs.Env.{Rows, IsEnvOf}
use Rattle.canon_env.specs.Shown.{shown_view}
use Rattle.canon_env.specs.Naming.{IsWorld}
use Rattle.canon_env.specs.declared.env.World as env
use Rattle.canon_type.specs.declared.declaring.Declared.{Declared}
use Rattle.canon_type.specs.DeclaredTypes.{module_world}
use Rattle.canon_type.proofs.Outcome.{done_boxed}
use Rattle.canon_type.proofs.declaring.finished.Goals as goal

pub returns-clause-shown : goal.returns-clause-shown
returns-clause-shown c =
    done_boxed (λ b. b.value) (λ (d : Declared). d.shown ≡ c.args.shown) c.boxed.result c.when_done.result
    c.name_own-done.result c.name_own-done.new.declared c.boxed.ensures c.when_done.ensures
    c.name_own-done.ensures.shown (λ e. e)

pub returns-clause-world : goal.returns-clause-world
returns-clause-world c =
    done_boxed (λ b. b.value)
    (λ (d : Declared). (rows : Rows) → IsEnvOf c.args.expansion.value.world.imported rows →
    IsWorld d.world (module_world c.args.home.now rows (shown_view c.args.shown)))
    c.boxed.result c.when_done.result c.name_own-done.result c.name_own-done.new.declared c.boxed.ensures
    c.when_done.ensures c.name_own-done.ensures.world
    (λ e rows is. e rows (subst (λ (w : env.World). IsEnvOf w.imported rows) (sym c.world_of-world.ensures) is))
