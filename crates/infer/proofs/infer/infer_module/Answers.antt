use Rattle.std.proofs.Common.{◌≡◌, Err, length, refl, sym, ap, ◌∙◌}
use Rattle.std.specs.Map.{lookup}
use Rattle.std.proofs.lemmas.Result.{IfOk-weaker}
use Rattle.elm_canon.specs.Names.{same_ref}
use Rattle.elm_canon.specs.View.{module_view}
use Rattle.elm_canon.specs.declared.reference.Ref.{Ref}
use Rattle.elm_type.specs.Types.{Name, Scheme}
use Rattle.type_items.specs.Inferred.{Inferred}
use Rattle.type_items.specs.Modules.{known_in, module_items}
use Rattle.type_items.specs.Scopes.{Known}
use Rattle.type_constructs.specs.TypeModulesGroups as modules
use Rattle.infer_steps.specs.Ready.{IsWritten}
use Rattle.infer_steps.specs.View.{code_of, here}
use Rattle.infer.specs.Middle.{Middle}
use Rattle.infer.specs.Modules.{SchemesWritten, root}
use Rattle.infer.specs.Told.{told_views}
use Rattle.infer.specs.Types.{schemes_of}
use Rattle.infer.specs.declared.infer.Stop.TheVariants as stop
use Rattle.infer.specs.declared.types.Types.{Types}
use Rattle.infer.proofs.Beginning.{can_begin, goes_down, names_once, started}
use Rattle.infer.proofs.Ending.{all_inferred}
use Rattle.infer.proofs.Looking.{of_found}
use Rattle.infer.proofs.infer.infer_module.Goals as goal

pub tell_module-requires-clause-can : goal.tell_module-requires-clause-can
tell_module-requires-clause-can c =
    let code = code_of c.args.scope.now in
    can_begin code.known code (here c.enter.new.self) c.requires.names
    (goes_down (here c.args.state.now) (here c.enter.new.self) c.requires.state c.in_ok-enter.ensures)
    c.requires.written

pub returns-in-Ok-clause-inferred : goal.returns-in-Ok-clause-inferred
returns-in-Ok-clause-inferred c =
    let module_ = module_view c.args.module.now in
    let k = length (modules.groups_of module_) in
    let code = code_of c.tell_module.new.scope in
    let state = here c.tell_module.new.state in
    let told = told_views c.in-Ok.told.items in
    IfOk-weaker c.table.result
    (λ (types : Types). (x : Ref) → schemes_of types x ≡ lookup (same_ref x) told)
    (λ (types : Types). (env : Known)
    → ((m x : Name) → (code_of c.args.scope.now).known m x ≡ known_in module_ env m x)
    → Inferred module_ env root (schemes_of types))
    (λ types is env known. all_inferred c.module_law.ensures.ends module_ env k code state told (schemes_of types)
    c.in-Ok.ensures.whole
    (c.in-Ok.ensures.told env (started module_ env c.requires.module (code_of c.args.scope.now) (here c.args.state.now)
    (here c.enter.new.self) c.requires.names known c.requires.state c.in_ok-enter.ensures)) refl
    (names_once module_ c.requires.module) is)
    c.table.ensures.types

pub returns-in-Ok-clause-written : goal.returns-in-Ok-clause-written
returns-in-Ok-clause-written c =
    let module_ = module_view c.args.module.now in
    let env = c.requires.known.0 in
    let k = length (modules.groups_of module_) in
    let told = told_views c.in-Ok.told.items in
    let mid : Middle module_ env k (code_of c.tell_module.new.scope) (here c.tell_module.new.state) told =
    c.in-Ok.ensures.told env (started module_ env c.requires.module (code_of c.args.scope.now) (here c.args.state.now)
    (here c.enter.new.self) c.requires.names c.requires.known.1 c.requires.state c.in_ok-enter.ensures) in
    IfOk-weaker c.table.result
    (λ (types : Types). (x : Ref) → schemes_of types x ≡ lookup (same_ref x) told)
    (λ (types : Types). SchemesWritten (schemes_of types))
    (λ types is x s e. of_found (λ (s : Scheme). IsWritten s.kinds s) (same_ref x) told s mid.written (sym (is x) ∙ e))
    c.table.ensures.types

pub returns-in-Ok-clause-refused : goal.returns-in-Ok-clause-refused
returns-in-Ok-clause-refused c f e env known = absurd (c.table.ensures.never f e)

pub stop_of-requires : goal.stop_of-requires
stop_of-requires c b is = record {
  items = module_items (module_view c.args.module.now) c.requires.known.0 root;
  fails =
      c.in-Err.ensures.stopped b (ap (λ x. Err x) is) c.requires.known.0
      (started (module_view c.args.module.now) c.requires.known.0 c.requires.module (code_of c.args.scope.now)
      (here c.args.state.now) (here c.enter.new.self) c.requires.names c.requires.known.1 c.requires.state
      c.in_ok-enter.ensures);
}

pub returns-in-Err-clause-refused : goal.returns-in-Err-clause-refused
returns-in-Err-clause-refused c f e env known =
    let is : c.stop_of.result ≡ stop.Refused f = cc in
    record {
      bad =
          c.stop_of.ensures f is (module_items (module_view c.args.module.now) env root)
          (λ b w. c.in-Err.ensures.stopped b (ap (λ x. Err x) w) env
          (started (module_view c.args.module.now) env c.requires.module (code_of c.args.scope.now)
          (here c.args.state.now) (here c.enter.new.self) c.requires.names known c.requires.state
          c.in_ok-enter.ensures));
    }
