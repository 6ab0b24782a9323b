-- What the modules compile to is the outcome: a text, which `write_text` returns, or faults.
use Rattle.std.proofs.Common.{ℕ, List, map, string_bytes, sym, ap, ◌∙◌, subst}
use Rattle.std.proofs.lemmas.Result.{IfOk-weaker}
use Rattle.import_graph.specs.Entries.{NamesEntry}
use Rattle.import_graph.specs.ModuleGraphView.{graph_modules}
use Rattle.import_graph.specs.ModuleWalkView.{module_view}
use Rattle.project_parts.specs.Modules.{parts_of}
use Rattle.project_parts.specs.Outcomes.{IsCompiled}
use Rattle.project_file.specs.Paths.{normal_path}
use Rattle.elm_make.specs.Outcome.{outcome_of}
use Rattle.elm_make.proofs.project.build_graph.Goals as goal

pub returns-in-Text-clause-outcome : goal.returns-in-Text-clause-outcome
returns-in-Text-clause-outcome g c =
    let path = normal_path c.args.entry.now in
    let parts = parts_of (map module_view c.args.library.now.modules.items) (graph_modules c.args.graph.now)
    c.args.graph.now.order.items in
    let compiled = subst (λ ds. (name : List ℕ) → NamesEntry path (map string_bytes ds) name
    → IsCompiled parts name (outcome_of c.in_ok-finished.finished)) c.deref.ensures.value c.in_ok-finished.ensures in
    IfOk-weaker c.write_text.result _ _ (λ built e.
    subst (λ o. (name : List ℕ) → NamesEntry path (map string_bytes c.args.project.now.directories.items) name
    → IsCompiled parts name o) (ap outcome_of c.in-Text.is ∙ sym e) compiled) c.write_text.ensures.text

pub returns-in_ok-faulty-in-Faulty-clause-outcome : goal.returns-in_ok-faulty-in-Faulty-clause-outcome
returns-in_ok-faulty-in-Faulty-clause-outcome g c =
    let path = normal_path c.args.entry.now in
    let parts = parts_of (map module_view c.args.library.now.modules.items) (graph_modules c.args.graph.now)
    c.args.graph.now.order.items in
    let compiled = subst (λ ds. (name : List ℕ) → NamesEntry path (map string_bytes ds) name
    → IsCompiled parts name (outcome_of c.in_ok-finished.finished)) c.deref.ensures.value c.in_ok-finished.ensures in
    subst (λ o. (name : List ℕ) → NamesEntry path (map string_bytes c.args.project.now.directories.items) name
    → IsCompiled parts name o) (ap outcome_of c.in-Faulty.is ∙ sym c.in_ok-faulty-in-Faulty.ensures.outcome) compiled
