use Rattle.std.proofs.Common.{◌≡◌, sym, ap, ◌∙◌, subst}
use Rattle.std.proofs.lemmas.Result.{IfOk-weaker}
use Rattle.elm_canon.specs.View.{module_view}
use Rattle.elm_type.specs.Types.{Name}
use Rattle.type_items.specs.Inferred.{Inferred}
use Rattle.type_items.specs.Modules.{known_in}
use Rattle.type_items.specs.Scopes.{Known}
use Rattle.infer_steps.specs.Codes.{Code}
use Rattle.infer_steps.specs.Ready.{AreWritten}
use Rattle.infer_steps.specs.View.{code_of, known_view}
use Rattle.infer.specs.Modules.{root}
use Rattle.infer.specs.Types.{schemes_of}
use Rattle.infer.specs.declared.types.Types.{Types}
use Rattle.infer.proofs.Beginning.{first_code}
use Rattle.infer.proofs.infer.infer_knowing.Goals as goal

pub infer_module-requires-clause-names : goal.infer_module-requires-clause-names
infer_module-requires-clause-names c =
    c.new-scope.ensures ∙ ap (λ (code : Code). first_code code.known) (sym c.new-scope.ensures)

pub infer_module-requires-clause-written : goal.infer_module-requires-clause-written
infer_module-requires-clause-written c =
    subst AreWritten (ap (λ (code : Code). code.known) (sym c.new-scope.ensures)) c.requires.written

pub infer_module-requires-clause-known : goal.infer_module-requires-clause-known
infer_module-requires-clause-known c = (
  c.requires.known.0,
  λ m x. ap (λ (code : Code). code.known m x) c.new-scope.ensures ∙ c.requires.known.1 m x,
)

pub returns-clause-inferred : goal.returns-clause-inferred
returns-clause-inferred c =
    let module_ = module_view c.args.module.now in
    IfOk-weaker c.infer_module.result
    (λ (types : Types). (env : Known)
    → ((m x : Name) → (code_of c.new-scope.result).known m x ≡ known_in module_ env m x)
    → Inferred module_ env root (schemes_of types))
    (λ (types : Types). (env : Known) → ((m x : Name) → known_view c.args.known m x ≡ known_in module_ env m x)
    → Inferred module_ env root (schemes_of types))
    (λ types each env known. each env (λ m x. ap (λ (code : Code). code.known m x) c.new-scope.ensures ∙ known m x))
    c.infer_module.ensures.inferred

pub returns-clause-refused : goal.returns-clause-refused
returns-clause-refused c f e env known =
    c.infer_module.ensures.refused f e env
    (λ m x. ap (λ (code : Code). code.known m x) c.new-scope.ensures ∙ known m x)
