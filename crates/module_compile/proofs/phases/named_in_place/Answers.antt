use Rattle.std.proofs.Common.{◌≡◌, List, Some, map, length, subst, sym, ap, ◌∙◌, arith}
use Rattle.elm_base.specs.declared.fault.Fault.{Fault}
use Rattle.elm_canon.specs.View.{module_view}
use Rattle.canon_module.specs.declared.module.Resolved.{Resolved}
use Rattle.elm_tree.specs.Turns.{tokens_view}
use Rattle.module_made.specs.Made.{Made, Bad, Means, fault_in, name_faults}
use Rattle.module_compile.specs.Settings.{parsed_view}
use Rattle.module_compile.specs.ModulePhasesView.{around_view}
use Rattle.module_compile.proofs.Verdicts.{misnamed_by, none_listed}
use Rattle.module_compile.proofs.phases.named_in_place.Goals as goal

pub returns-then-len-ne0 : goal.returns-then-len-ne0
returns-then-len-ne0 c =
    let a = around_view c.args.imports.now in
    let t = parsed_view c.args.parsed.now in
    let r = c.in_ok-resolved.resolved.value in
    let path = c.args.path.now in
    let means : Means a c.args.text.now t (module_view r.module) = record {
      spelled = (tokens_view c.args.parsed.now.tokens.items, c.requires.text);
      found = c.requires.found;
      module_is = c.in_ok-resolved.ensures.module_is;
    } in
    let same : c.in_ok-faults_of.field-0.items ≡ map (fault_in path) r.faults.items =
    c.in_ok-faults_of.ensures
    ∙ ap (map (fault_in path)) (c.deref-then-len-ne0-2.ensures.value
    ∙ ap (λ (x : Resolved). x.faults.items) c.deref-then-len-ne0.ensures) in
    subst (λ (fs : List Fault). Made a path (Some c.args.text.now) (Bad fs)) (sym same)
    (misnamed_by a path c.args.text.now t (module_view r.module) r.faults.items means c.in_ok-resolved.ensures.faults
    (λ e. omega (arith, c.len.ensures, c.if-len-ne0.true, ap (λ (x : Resolved). length x.faults.items) c.deref.ensures)))

pub whole-requires : goal.whole-requires
whole-requires c =
    let a = around_view c.args.imports.now in
    let t = parsed_view c.args.parsed.now in
    let r = c.in_ok-resolved.resolved.value in
    record {
      written = t;
      means = record {
        spelled = (tokens_view c.args.parsed.now.tokens.items, c.requires.text);
        found = c.requires.found;
        module_is = c.in_ok-resolved.ensures.module_is;
      };
      named =
          none_listed (name_faults a t (module_view r.module)) r.faults.items c.in_ok-resolved.ensures.faults
          (omega (
            arith,
            c.len.ensures,
            c.if-len-ne0.false,
            ap (λ (x : Resolved). length x.faults.items) c.deref.ensures,
          ));
      shows = c.in_ok-resolved.ensures.shown;
    }
