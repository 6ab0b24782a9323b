use Rattle.std.proofs.Common.{◌≡◌, List, length, map, flat_map, sym, ap, ◌∙◌, subst}
use Rattle.std.specs.declared.alloc.Global.{Global}
use Rattle.std.specs.declared.vec.Vec.{Vec}
use Rattle.std.proofs.lemmas.Result.{IfOk-weaker}
use Rattle.elm_canon.specs.Tree.{Group, Module as PlainModule}
use Rattle.elm_canon.specs.View.{declaration_view, group_view, module_view}
use Rattle.type_items.specs.Scopes.{Known}
use Rattle.type_store.specs.Shape.{IsStore}
use Rattle.type_constructs.specs.TypeModulesGroups as modules
use Rattle.infer_steps.specs.View.{code_of, here}
use Rattle.infer_parts.specs.Steps.{CanWalk}
use Rattle.infer.specs.Middle.{Middle, Starts}
use Rattle.infer.specs.Modules.{groups_in, written_groups}
use Rattle.infer.specs.Told.{told_views}
use Rattle.infer.specs.declared.told.Told.{Told}
use Rattle.infer.proofs.Beginning.{begins_once, begins_simple, begins_titled}
use Rattle.infer.proofs.infer.tell_module.Goals as goal

pub infer_definitions-requires-clause-simple : goal.infer_definitions-requires-clause-simple
infer_definitions-requires-clause-simple c =
    begins_simple (module_view c.args.module.now) c.requires.module (map (λ g. group_view g.now) c.deref-3.result.now)
    (ap (map (λ g. group_view g.now)) c.deref-3.ensures.value ∙ c.in_ok-groups.ensures
    ∙ ap (λ l. flat_map groups_in (map declaration_view l)) c.deref.ensures.value)

pub infer_definitions-requires-clause-titled : goal.infer_definitions-requires-clause-titled
infer_definitions-requires-clause-titled c =
    begins_titled (module_view c.args.module.now) c.requires.module (map (λ g. group_view g.now) c.deref-3.result.now)
    (ap (map (λ g. group_view g.now)) c.deref-3.ensures.value ∙ c.in_ok-groups.ensures
    ∙ ap (λ l. flat_map groups_in (map declaration_view l)) c.deref.ensures.value)

pub infer_definitions-requires-clause-once : goal.infer_definitions-requires-clause-once
infer_definitions-requires-clause-once c =
    begins_once (module_view c.args.module.now) c.requires.module (map (λ g. group_view g.now) c.deref-3.result.now)
    (ap (map (λ g. group_view g.now)) c.deref-3.ensures.value ∙ c.in_ok-groups.ensures
    ∙ ap (λ l. flat_map groups_in (map declaration_view l)) c.deref.ensures.value)

pub returns-clause-whole : goal.returns-clause-whole
returns-clause-whole c =
    let code = code_of c.infer_definitions.new.scope in
    let new = here c.infer_definitions.new.state in
    IfOk-weaker c.infer_definitions.result (λ (told : Vec Told Global). CanWalk code new)
    (λ (told : Vec Told Global). IsStore new.store) (λ told can. can.ready.whole) c.infer_definitions.ensures.can

pub returns-clause-told : goal.returns-clause-told
returns-clause-told c =
    let module_ = module_view c.args.module.now in
    let gs : List Group = map (λ g. group_view g.now) c.deref-3.result.now in
    let code = code_of c.args.scope.now in
    let old = here c.args.state.now in
    let after = code_of c.infer_definitions.new.scope in
    let new = here c.infer_definitions.new.state in
    let same : gs ≡ written_groups module_ =
    ap (map (λ g. group_view g.now)) c.deref-3.ensures.value ∙ c.in_ok-groups.ensures
    ∙ ap (λ l. flat_map groups_in (map declaration_view l)) c.deref.ensures.value in
    IfOk-weaker c.infer_definitions.result
    (λ (told : Vec Told Global). (m : PlainModule) (env : Known) → Starts m env gs code old
    → Middle m env (length (modules.groups_of m)) after new (told_views told.items))
    (λ (told : Vec Told Global). (env : Known) → Starts module_ env (written_groups module_) code old
    → Middle module_ env (length (modules.groups_of module_)) after new (told_views told.items))
    (λ told each env starts. each module_ env (subst (λ l. Starts module_ env l code old) (sym same) starts))
    c.infer_definitions.ensures.told

pub returns-clause-stopped : goal.returns-clause-stopped
returns-clause-stopped c b e env starts =
    let module_ = module_view c.args.module.now in
    let gs : List Group = map (λ g. group_view g.now) c.deref-3.result.now in
    let same : gs ≡ written_groups module_ =
    ap (map (λ g. group_view g.now)) c.deref-3.ensures.value ∙ c.in_ok-groups.ensures
    ∙ ap (λ l. flat_map groups_in (map declaration_view l)) c.deref.ensures.value in
    c.infer_definitions.ensures.stopped b e module_ env
    (subst (λ l. Starts module_ env l (code_of c.args.scope.now) (here c.args.state.now)) (sym same) starts)
