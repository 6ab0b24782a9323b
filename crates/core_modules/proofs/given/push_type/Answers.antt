-- The type that is shared: `shared_next`.
use Rattle.std.proofs.Common.{[], ap, ◌∙◌}
use Rattle.elm_canon.specs.Unions.{Declared}
use Rattle.core_modules.specs.Opaque.{opaque}
use Rattle.core_modules.proofs.Shared.{then_ok, shared_next}
use Rattle.core_modules.proofs.given.push_type.Goals as goal

pub returns : goal.returns
returns c =
    let home = c.args.home.now in
    let parameters = c.args.parameters.items in
    then_ok c.push_shared.result (λ p. shared_next _ _ p.0 _ _ p.1
    (c.opaque_type.ensures ∙ ap (λ u. opaque c.in_ok-name.name u parameters) c.in_ok-union.ensures
    ∙ ap (λ x. opaque x (Declared home x []) parameters) c.in_ok-name.ensures) p.2) c.push_shared.ensures
