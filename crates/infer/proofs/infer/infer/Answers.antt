use Rattle.std.proofs.Common.{◌≡◌, sym, ◌∙◌}
use Rattle.std.proofs.lemmas.Result.{IfOk-weaker}
use Rattle.elm_canon.specs.View.{module_view}
use Rattle.elm_type.specs.Types.{Name}
use Rattle.type_items.specs.Inferred.{Inferred}
use Rattle.type_items.specs.Modules.{known_in}
use Rattle.type_items.specs.Scopes.{Known}
use Rattle.infer_steps.specs.View.{known_view}
use Rattle.infer.specs.Modules.{root}
use Rattle.infer.specs.Types.{schemes_of}
use Rattle.infer.specs.declared.types.Types.{Types}
use Rattle.infer.proofs.infer.infer.Goals as goal

pub infer_knowing-requires-clause-written : goal.infer_knowing-requires-clause-written
infer_knowing-requires-clause-written c m x s e =
    c.known_law.ensures.own (module_view c.args.module.now) (known_view c.args.env) c.requires.module.declared
    c.requires.env m x s (sym (c.in_ok-add_own_types.ensures m x) ∙ e)

pub infer_knowing-requires-clause-known : goal.infer_knowing-requires-clause-known
infer_knowing-requires-clause-known c = (known_view c.args.env, c.in_ok-add_own_types.ensures)

pub returns-clause-inferred : goal.returns-clause-inferred
returns-clause-inferred c =
    let module_ = module_view c.args.module.now in
    let env : Known = known_view c.args.env in
    IfOk-weaker c.infer_knowing.result
    (λ (types : Types). (e : Known)
    → ((m x : Name) → known_view c.add_own_types.new.known m x ≡ known_in module_ e m x)
    → Inferred module_ e root (schemes_of types))
    (λ (types : Types). Inferred module_ env root (schemes_of types))
    (λ types each. each env c.in_ok-add_own_types.ensures) c.infer_knowing.ensures.inferred

pub returns-clause-refused : goal.returns-clause-refused
returns-clause-refused c f e =
    c.infer_knowing.ensures.refused f e (known_view c.args.env) c.in_ok-add_own_types.ensures
