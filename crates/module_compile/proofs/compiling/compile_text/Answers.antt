use Rattle.std.proofs.Common.{subst, arith}
use Rattle.elm_canon.specs.View.{module_view}
use Rattle.canon_env.specs.Shown.{shown_view}
use Rattle.module_compile.specs.Phases.{Resolves, Tells}
use Rattle.module_compile.specs.ModulePhasesView.{around_view}
use Rattle.module_compile.proofs.After.{all_sound}
use Rattle.module_compile.proofs.compiling.compile_text.Goals as goal

pub compiled-requires-clause-sound : goal.compiled-requires-clause-sound
compiled-requires-clause-sound c =
    let a = around_view c.args.imports.now in
    let text = c.args.text.now in
    let m = module_view c.in-Named.resolved.value.module in
    let s = shown_view c.in-Named.resolved.value.shown in
    let r : Resolves a text m s =
    subst (Tells a c.args.path.now text) c.in-Named.is c.in_ok-resolved.ensures in
    all_sound a text m s r
    (λ told written. c.offer_law.ensures a text r.written m told (c.sound_law.ensures c.args.imports.now) r.is_named
    (omega (arith, c.requires)) written)
