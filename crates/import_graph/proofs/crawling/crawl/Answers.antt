-- With modules: `are_modules`. With an error: `refused_for`, `ended`.
use Rattle.std.proofs.Common.{◌≡◌, ◌≤◌, ℕ, List, length, map, IfSome, sym, subst, arith}
use Rattle.std.proofs.lemmas.List.{length-map}
use Rattle.std.proofs.lemmas.Option.{IfSome_then}
use Rattle.std.proofs.lemmas.Result.{IfOk-weaker, IfErr-weaker}
use Rattle.elm_base.specs.declared.fault.Fault.{Fault}
use Rattle.import_graph.specs.Order.{IsRing}
use Rattle.import_graph.specs.Modules.{Module}
use Rattle.import_graph.specs.Plain.{IsPlain}
use Rattle.import_graph.specs.ModuleWalkView.{setting, module_view}
use Rattle.project_file.specs.View.{directories_of}
use Rattle.import_graph.specs.Faults.{IsRefused, no_entry, too_many, in_a_ring, ring_fault}
use Rattle.import_graph.specs.Graph.{uses_of}
use Rattle.import_graph.specs.ModuleGraphView.{graph_modules, IsOf}
use Rattle.import_graph.proofs.Ends.{are_modules, all_given, entry_given, refused_for, ended}
use Rattle.import_graph.proofs.crawling.crawl.Goals as goal

pub returns-in-Ok-clause-modules : goal.returns-in-Ok-clause-modules
returns-in-Ok-clause-modules g c =
    let given = map module_view c.in-Ok.modules.items in
    let few : length given ≤ 4096 = omega (arith, length-map c.in-Ok.modules.items module_view, c.in-Ok.modules.ok, c.in-Ok.ensures.count) in
    IfOk-weaker c.graph_of.result _ _
    (λ graph is. IfSome_then (g.F.Files.tree c.args.files.now) c.in-Ok.ensures.reached
    (λ tree r. are_modules g.R.Reader.has_imports (setting tree c.args.project.now c.args.core.now.keys) given (graph_modules graph) is c.args.entry.now few r))
    c.graph_of.ensures.modules

pub returns-in-Ok-clause-plain : goal.returns-in-Ok-clause-plain
returns-in-Ok-clause-plain g c =
    IfOk-weaker c.graph_of.result _ _
    (λ graph is. all_given (map module_view c.in-Ok.modules.items) (graph_modules graph) is
    (IsPlain c.args.core.now.keys) c.in-Ok.ensures.plain)
    c.graph_of.ensures.modules

pub returns-in-Ok-clause-entry : goal.returns-in-Ok-clause-entry
returns-in-Ok-clause-entry g c =
    IfOk-weaker c.graph_of.result _ _
    (λ graph is. entry_given (map module_view c.in-Ok.modules.items) (graph_modules graph) is
    (directories_of c.args.project.now) c.args.entry.now c.in-Ok.ensures.entry)
    c.graph_of.ensures.modules

pub returns-in-Ok-clause-error : goal.returns-in-Ok-clause-error
returns-in-Ok-clause-error g c =
    let given = map module_view c.in-Ok.modules.items in
    let few : length given ≤ 4096 = omega (arith, length-map c.in-Ok.modules.items module_view, c.in-Ok.modules.ok, c.in-Ok.ensures.count) in
    IfErr-weaker c.graph_of.result _ _
    (λ e r. refused_for
    (λ (fault : Fault). IfSome (g.F.Files.tree c.args.files.now) (λ tree. IsRefused g.R.Reader.has_imports (setting tree c.args.project.now c.args.core.now.keys) c.args.entry.now fault))
    (g.F.Files.faults c.args.files.now) (g.F.Files.faults c.reach.new.files) e
    (λ (fault : Fault). (ms : List Module) × (ring : List ℕ) × IsOf given ms × IsRing (uses_of ms) ring × (fault ≡ ring_fault ms ring)) r
    (λ f h. IfSome_then (g.F.Files.tree c.args.files.now) c.in-Ok.ensures.reached (λ tree a.
    let s = setting tree c.args.project.now c.args.core.now.keys in
    subst (IsRefused g.R.Reader.has_imports s c.args.entry.now) (sym h.4)
    (in_a_ring (are_modules g.R.Reader.has_imports s given h.0 h.2 c.args.entry.now few a) h.3)))
    c.in-Ok.ensures.no_fault)
    c.graph_of.ensures.ring

pub returns-in-Err-clause-error : goal.returns-in-Err-clause-error
returns-in-Err-clause-error g c =
    ended
    (λ (fault : Fault). IfSome (g.F.Files.tree c.args.files.now) (λ tree. IsRefused g.R.Reader.has_imports (setting tree c.args.project.now c.args.core.now.keys) c.args.entry.now fault))
    (g.F.Files.faults c.args.files.now) (g.F.Files.faults c.reach.new.files) c.in-Err.error c.end_of.result c.args.entry.now _ _ c.in-Err.ensures.error c.end_of.ensures
    (λ p. IfSome_then (g.F.Files.tree c.args.files.now) p (λ tree n. no_entry n)) (λ q. IfSome_then (g.F.Files.tree c.args.files.now) q (λ tree t. too_many t.1 t.2))
