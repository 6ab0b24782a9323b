use Rattle.std.proofs.Common.{◌≡◌, List, Err, map, length, sym, ap, subst}
use Rattle.std.specs.declared.alloc.Global.{Global}
use Rattle.std.specs.declared.vec.Vec.{Vec}
use Rattle.std.proofs.lemmas.Result.{IfOk-weaker}
use Rattle.elm_canon.specs.Tree.{Group, Module as PlainModule}
use Rattle.elm_canon.specs.View.{group_view}
use Rattle.type_items.specs.Scopes.{Known as PlainKnown}
use Rattle.type_constructs.specs.TypeModulesGroups as modules
use Rattle.infer_steps.specs.View.{bad_view, code_of, here}
use Rattle.infer_steps.specs.declared.bad.InferError.TheVariants as error
use Rattle.infer_exprs.proofs.Titles.{once_of}
use Rattle.infer_order.specs.Order.{AreDefinitions, ordered}
use Rattle.infer.specs.Middle.{Begun, Middle, Starts}
use Rattle.infer.specs.Told.{told_views}
use Rattle.infer.specs.declared.told.Told.{Told}
use Rattle.infer.proofs.Ending.{begun, names_stop}
use Rattle.infer.proofs.groups.infer_definitions.Goals as goal

pub declare-requires-clause-once : goal.declare-requires-clause-once
declare-requires-clause-once c =
    let gs : List Group = map (λ g. group_view g.now) c.args.groups.now in
    once_of gs c.deref.result.now (ordered gs)
    (subst (λ xs. AreDefinitions gs xs (ordered gs)) (sym c.deref.ensures.value) c.requires.order.definitions)
    c.requires.once

pub returns-in-Err-clause-stopped : goal.returns-in-Err-clause-stopped
returns-in-Err-clause-stopped c b e module_ env starts =
    let gs : List Group = map (λ g. group_view g.now) c.args.groups.now in
    let is : c.in-Err.error ≡ error.Bad b = cc in
    names_stop module_ env gs (code_of c.args.scope.now) (here c.args.state.now) (here c.declare.new.state) (bad_view b)
    starts
    (c.in-Err.ensures.refused b (ap (λ x. Err x) is) gs (ordered gs)
    (subst (λ xs. AreDefinitions gs xs (ordered gs)) (sym c.deref.ensures.value) c.requires.order.definitions))

pub returns-clause-told : goal.returns-clause-told
returns-clause-told c =
    let gs : List Group = map (λ g. group_view g.now) c.args.groups.now in
    let code = code_of c.args.scope.now in
    let after = code_of c.declare.new.scope in
    let old = here c.args.state.now in
    let new = here c.declare.new.state in
    IfOk-weaker c.infer_groups.result
    (λ (told : Vec Told Global). (module_ : PlainModule) (env : PlainKnown) → Begun module_ env gs after new
    → Middle module_ env (length (modules.groups_of module_)) (code_of c.infer_groups.new.scope)
    (here c.infer_groups.new.state) (told_views told.items))
    (λ (told : Vec Told Global). (module_ : PlainModule) (env : PlainKnown) → Starts module_ env gs code old
    → Middle module_ env (length (modules.groups_of module_)) (code_of c.infer_groups.new.scope)
    (here c.infer_groups.new.state) (told_views told.items))
    (λ told each module_ env starts. each module_ env
    (begun c.module_law.ensures.begins c.inference_law.ensures.on module_ env gs code after old new starts
    (c.in-Ok.ensures.declared gs (ordered gs)
    (subst (λ xs. AreDefinitions gs xs (ordered gs)) (sym c.deref.ensures.value) c.requires.order.definitions))))
    c.infer_groups.ensures.told

pub returns-clause-stopped : goal.returns-clause-stopped
returns-clause-stopped c b e module_ env starts =
    let gs : List Group = map (λ g. group_view g.now) c.args.groups.now in
    c.infer_groups.ensures.stopped b e module_ env
    (begun c.module_law.ensures.begins c.inference_law.ensures.on module_ env gs (code_of c.args.scope.now)
    (code_of c.declare.new.scope) (here c.args.state.now) (here c.declare.new.state) starts
    (c.in-Ok.ensures.declared gs (ordered gs)
    (subst (λ xs. AreDefinitions gs xs (ordered gs)) (sym c.deref.ensures.value) c.requires.order.definitions)))
