use Rattle.std.proofs.Common.{◌≡◌, [], ◌∷◌, sym, ap, ◌∙◌, subst}
use Rattle.elm_canon.specs.View.{module_view}
use Rattle.canon_env.specs.Shown.{shown_view}
use Rattle.canon_module.specs.declared.module.Resolved.{Resolved}
use Rattle.module_made.specs.Made.{Bad, fault_in, type_finding}
use Rattle.module_compile.specs.ModulePhasesView.{around_view}
use Rattle.module_compile.specs.declared.typing.Typed.TheVariants.{Fault}
use Rattle.module_compile.specs.Typing.{TellsTypes, AfterNames}
use Rattle.module_compile.proofs.Outcome.{of_both}
use Rattle.module_compile.proofs.After.{mistyped_after}
use Rattle.module_compile.proofs.compiling.compiled.Goals as goal

pub returns-in-Fault-clause-made : goal.returns-in-Fault-clause-made
returns-in-Fault-clause-made c =
    let a = around_view c.args.imports.now in
    let path = c.args.path.now in
    let m = module_view c.args.resolved.value.module in
    let s = shown_view c.args.resolved.value.shown in
    let said = c.in-Fault.said in
    let tells : TellsTypes a m c.in_ok-told.field-0 =
    subst (λ (r : Resolved). TellsTypes a (module_view r.module) c.in_ok-told.field-0) c.deref.ensures
    c.in_ok-told.ensures in
    let refused : TellsTypes a m (Fault said) = subst (TellsTypes a m) c.in-Fault.is tells in
    of_both _ _ _ c.bad.result c.type_faults.result
    (λ v fs is faults.
    subst (AfterNames a path m s)
    (sym (is ∙ ap Bad (faults
    ∙ ap (λ t. fault_in path (type_finding said.code said.position t) ∷ []) c.deref-in-Fault.ensures.value)))
    (mistyped_after a path m s said.code said.position said.text.items refused))
    c.bad.ensures.made c.type_faults.ensures
