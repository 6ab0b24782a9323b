use Rattle.std.proofs.Common.{List, ℕ, None, Bor, option_map, sym, ap, ◌∙◌, subst}
use Rattle.module_made.specs.Made.{Made, Bad, too_long}
use Rattle.module_compile.specs.ModulePhasesView.{around_view}
use Rattle.module_compile.specs.View.{made_view}
use Rattle.module_compile.proofs.Outcome.{of_both}
use Rattle.module_compile.proofs.compiling.compile.Goals as goal

pub returns-in-None-clause-made : goal.returns-in-None-clause-made
returns-in-None-clause-made c =
    let a = around_view c.args.imports.now in
    let path = c.args.path.now in
    of_both _ _ _ c.bad.result c.too_large.result
    (λ v fs is told.
    subst (λ text. Made a path (option_map (λ (t : Bor (List ℕ)). t.now) text) (made_view v)) (sym c.in-None.is)
    (subst (Made a path None) (sym (is ∙ ap Bad told)) too_long))
    c.bad.ensures.made c.too_large.ensures
