use Rattle.std.proofs.Common.{◌≡◌, map, sym, ap, ◌∙◌, subst, arith}
use Rattle.std.proofs.lemmas.Result.{IfOk-weaker}
use Rattle.elm_canon.specs.View.{module_view}
use Rattle.canon_env.specs.Shown.{shown_view}
use Rattle.canon_module.specs.declared.module.Resolved.{Resolved}
use Rattle.canon_env.specs.Order.{IsInOrder}
use Rattle.pattern_check.specs.Faults as patterns
use Rattle.infer.specs.Types.{schemes_of}
use Rattle.module_made.specs.Made.{Bad, fault_in}
use Rattle.module_compile.specs.ModulePhasesView.{around_view}
use Rattle.module_compile.specs.Typing.{AfterNames}
use Rattle.module_compile.proofs.Outcome.{of_both}
use Rattle.module_compile.proofs.After.{uncovered_after, fine_after}
use Rattle.module_compile.proofs.compiling.covered.Goals as goal

pub returns-then-len-ne0-clause-made : goal.returns-then-len-ne0-clause-made
returns-then-len-ne0-clause-made c =
    let a = around_view c.args.imports.now in
    let path = c.args.path.now in
    let m = module_view c.args.resolved.value.module in
    let s = shown_view c.args.resolved.value.shown in
    let found = c.in_ok-found.found.items in
    let order : IsInOrder (patterns.module_faults m) found =
    subst (λ (r : Resolved). IsInOrder (patterns.module_faults (module_view r.module)) found) c.deref.ensures
    c.in_ok-found.ensures in
    of_both _ _ _ c.bad.result c.faults_of.result
    (λ v fs is told.
    subst (AfterNames a path m s)
    (sym (is ∙ ap Bad (told ∙ ap (map (fault_in path)) c.deref-then-len-ne0.ensures.value)))
    (uncovered_after a path m s (schemes_of c.args.told.now.types) c.requires.typed
    c.requires.written found
    (λ e. omega (arith, c.if-len-ne0.true, c.len.ensures, e)) order))
    c.bad.ensures.made c.faults_of.ensures

pub returns-clause-made : goal.returns-clause-made
returns-clause-made c =
    let a = around_view c.args.imports.now in
    let path = c.args.path.now in
    let m = module_view c.args.resolved.value.module in
    let s = shown_view c.args.resolved.value.shown in
    let found = c.in_ok-found.found.items in
    let order : IsInOrder (patterns.module_faults m) found =
    subst (λ (r : Resolved). IsInOrder (patterns.module_faults (module_view r.module)) found) c.deref.ensures
    c.in_ok-found.ensures in
    IfOk-weaker c.good.result _ _
    (λ v is.
    subst (AfterNames a path m s) (sym is)
    (fine_after a path m s (schemes_of c.args.told.now.types) c.requires.typed
    c.requires.written found
    (omega (arith, c.if-len-ne0.false, c.len.ensures)) order))
    c.good.ensures.made
