use Rattle.std.proofs.Common.{◌++◌, map, take, sym, ap, ◌∙◌, append_assoc, arith}
use Rattle.std.specs.Prelude.{flat_map}
use Rattle.elm_tree.specs.Turns.{tokens_view}
use Rattle.elm_tree.specs.View as tree_view
use Rattle.canon_env.proofs.Filtering.{flat_next}
use Rattle.module_made.specs.Around.{import_faults}
use Rattle.module_compile.specs.Parts.{found_view}
use Rattle.module_compile.proofs.imports.Imports.push_import_faults.Goals as goal

pub loop-import-preserved : goal.loop-import-preserved
loop-import-preserved c =
    let view = tree_view.import_view (tokens_view c.args.tokens.now) in
    let faults = import_faults (found_view c.args.self.now.found) in
    let imports = c.args.imports.now in
    let i = c.loop-import.import-index in
    let x = c.import-item.result in
    let before = flat_map faults (map view (take i imports)) in
    c.in_ok-push_import_fault.ensures
    ∙ ap (λ fs. fs ++ faults (view x)) c.loop-import.invariant
    ∙ append_assoc c.args.findings.now.items before (faults (view x))
    ∙ ap (λ fs. c.args.findings.now.items ++ fs)
    (sym (flat_next faults view imports i x (omega arith) c.import-item.is))
