-- One module more: `new_name`. At the end: `all_before`.
use Rattle.std.proofs.Common.{[], ◌∷◌, ◌++◌, map, sym, ap, subst, ◌∙◌, append_assoc, arith}
use Rattle.core_modules.specs.Library as core
use Rattle.import_graph.specs.ModuleWalkView.{module_view}
use Rattle.project_parts.specs.Modules.{AreCoreModules, names_in}
use Rattle.project_parts.proofs.Adding.{new_name, all_before}
use Rattle.project_parts.proofs.loading.core_library.Goals as goal

pub loop-one-init : goal.loop-one-init
loop-one-init c = (
  [],
  c.empty-library.ensures,
  ap (map core.module_view) c.into_iter-one-iterator.ensures.into_iter_gives.0 ∙ c.in_ok-all.ensures,
)

pub loop-one-preserved : goal.loop-one-preserved
loop-one-preserved c =
    let inv = c.loop-one.invariant in
    let given = core.module_view c.in-Some.one in
    let rest = map core.module_view c.next.new.self.rest.items in
    let whole = ap (λ r. inv.0 ++ map core.module_view r) (sym c.in-Some.ensures.steps.0) ∙ inv.2 in (
      inv.0 ++ given ∷ [],
      c.in_ok-push.ensures inv.0 inv.1 (new_name inv.0 given rest whole),
      append_assoc inv.0 (given ∷ []) rest ∙ whole,
    )

pub returns-clause-modules : goal.returns-clause-modules
returns-clause-modules c =
    let inv = c.loop-one.invariant in
    let left = c.loop-one.one-iterator.rest in
    let whole = all_before inv.0 left.items (omega (arith, left.ok, c.in-None.ensures.steps.0)) inv.2 in
    subst (λ b. AreCoreModules [] b (map module_view c.loop-one.library.modules.items)) whole inv.1.modules

pub returns-clause-names : goal.returns-clause-names
returns-clause-names c =
    let inv = c.loop-one.invariant in
    let left = c.loop-one.one-iterator.rest in
    let whole = all_before inv.0 left.items (omega (arith, left.ok, c.in-None.ensures.steps.0)) inv.2 in
    inv.1.names ∙ ap names_in whole
