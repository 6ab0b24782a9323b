use Rattle.std.proofs.Common.{◌≡◌, [], List, Some, map, length, subst, sym, ap, ◌∙◌, arith}
use Rattle.elm_base.specs.declared.fault.Fault.{Fault}
use Rattle.elm_canon.specs.View.{module_view}
use Rattle.canon_module.specs.declared.module.Resolved.{Resolved}
use Rattle.canon_env.specs.Order.{IsInOrder}
use Rattle.module_made.specs.Made.{Made, Bad, fault_in, lacking}
use Rattle.module_compile.specs.ModulePhasesView.{around_view}
use Rattle.module_compile.proofs.Verdicts.{incomplete_by, none_listed}
use Rattle.module_compile.proofs.phases.whole.Goals as goal

pub returns-then-len-ne0 : goal.returns-then-len-ne0
returns-then-len-ne0 c =
    let a = around_view c.args.imports.now in
    let path = c.args.path.now in
    let found = c.in_ok-lacks.lacks.items in
    let ordered : IsInOrder (lacking a (module_view c.args.resolved.value.module)) found =
    subst (λ (r : Resolved). IsInOrder (lacking a (module_view r.module)) found) c.deref.ensures
    c.in_ok-lacks.ensures in
    let same : c.in_ok-faults_of.field-0.items ≡ map (fault_in path) found =
    c.in_ok-faults_of.ensures ∙ ap (map (fault_in path)) c.deref-then-len-ne0.ensures.value in
    subst (λ (fs : List Fault). Made a path (Some c.args.text.now) (Bad fs)) (sym same)
    (incomplete_by a path c.args.text.now c.requires.written (module_view c.args.resolved.value.module) found
    c.requires.means c.requires.named ordered (λ e. omega (arith, c.len.ensures, c.if-len-ne0.true)))

pub returns : goal.returns
returns c =
    let a = around_view c.args.imports.now in
    let found = c.in_ok-lacks.lacks.items in
    let ordered : IsInOrder (lacking a (module_view c.args.resolved.value.module)) found =
    subst (λ (r : Resolved). IsInOrder (lacking a (module_view r.module)) found) c.deref.ensures
    c.in_ok-lacks.ensures in
    record {
      written = c.requires.written;
      is_named = record {
        means = c.requires.means;
        named = c.requires.named;
        whole =
            none_listed (lacking a (module_view c.args.resolved.value.module)) found ordered
            (omega (arith, c.len.ensures, c.if-len-ne0.false));
      };
      shows = c.requires.shows;
    }
