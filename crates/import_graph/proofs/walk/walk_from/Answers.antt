-- The walk at its beginning, at a further module and at its end: `begins`, `are_reached`; its errors: `reason_on`.
use Rattle.std.proofs.Common.{◌+◌, ap, ◌∙◌, subst, refl, arith, length}
use Rattle.std.specs.Prelude.{IfSome}
use Rattle.std.proofs.lemmas.List.{length-map}
use Rattle.std.proofs.lemmas.Option.{IfSome_then}
use Rattle.elm_files.specs.Tree.{Tree}
use Rattle.import_graph.specs.Modules.{Source, AreTooMany}
use Rattle.import_graph.specs.ModuleWalkView.{setting, source_view, module_view}
use Rattle.import_graph.specs.Walk.{IsWalk, IsWalked}
use Rattle.import_graph.proofs.Meeting.{both, anyhow}
use Rattle.import_graph.proofs.Plain.{plain_begins, first_begins}
use Rattle.import_graph.proofs.Reaching.{begins, are_reached}
use Rattle.import_graph.proofs.Reasons.{reason_on}
use Rattle.import_graph.proofs.walk.walk_from.Goals as goal

pub loop-index-init : goal.loop-index-init
loop-index-init g c = record {
  walked = anyhow (g.F.Files.tree c.args.files.now) (λ t. begins g.R.Reader.has_imports (setting t c.args.project.now c.args.core.now.keys) c.in_ok-walk.walk c.args.first
      c.in_ok-walk.ensures.entry c.in_ok-walk.ensures.modules c.in_ok-walk.ensures.known);
  plain = plain_begins c.args.core.now.keys c.in_ok-walk.walk c.args.first c.requires.plain c.in_ok-walk.ensures.modules
      c.in_ok-walk.ensures.known;
  first = first_begins c.in_ok-walk.walk c.args.first c.in_ok-walk.ensures.modules;
  few = omega (arith, c.in_ok-walk.walk.modules.ok, ap length c.in_ok-walk.ensures.modules);
  tree = refl;
  faults = refl;
}

pub loop-index-preserved : goal.loop-index-preserved
loop-index-preserved g c =
    let H = g.R.Reader.has_imports in
    let s = λ (t : Tree). setting t c.args.project.now c.args.core.now.keys in
    let now = c.loop-index.walk in
    let next = c.step.new.self in
    let index = c.loop-index.index in
    record {
      walked = both (g.F.Files.tree c.args.files.now) c.loop-index.invariant.walked
          (subst (λ o. IfSome o (λ t. (m : Source) → IsWalked H (s t) m now index → IsWalked H (s t) m next (index + 1))) c.loop-index.invariant.tree c.in_default.ensures.walked)
          (λ t w f. f (source_view c.args.first) w);
      plain = c.in_default.ensures.plain c.loop-index.invariant.plain;
      first = c.in_default.ensures.sources (source_view c.args.first) c.loop-index.invariant.first;
      few = c.in_default.ensures.few;
      tree = c.step.ensures.tree ∙ c.loop-index.invariant.tree;
      faults = c.in_default.ensures.no_fault ∙ c.loop-index.invariant.faults;
    }

pub returns-in-Err-clause-error : goal.returns-in-Err-clause-error
returns-in-Err-clause-error g c =
    let H = g.R.Reader.has_imports in
    let s = λ (t : Tree). setting t c.args.project.now c.args.core.now.keys in
    let now = c.loop-index.walk in
    let told = g.F.Files.tree c.args.files.now in
    reason_on c.in-Err.error ⊥ _ (IfSome told (λ t. AreTooMany H (s t) (source_view c.args.first))) (g.F.Files.faults c.args.files.now) (g.F.Files.faults c.loop-index.files) (g.F.Files.faults c.step.new.files)
    c.in-Err.ensures.error c.loop-index.invariant.faults (λ q.
    both told c.loop-index.invariant.walked
    (subst (λ o. IfSome o (λ t. (m : Source) → IsWalk H (s t) m now → AreTooMany H (s t) m)) c.loop-index.invariant.tree q)
    (λ t w f. f (source_view c.args.first) w.walk))

pub returns-clause-reached : goal.returns-clause-reached
returns-clause-reached g c =
    let H = g.R.Reader.has_imports in
    let s = λ (t : Tree). setting t c.args.project.now c.args.core.now.keys in
    let now = c.loop-index.walk in
    IfSome_then (g.F.Files.tree c.args.files.now) c.loop-index.invariant.walked (λ t w.
    are_reached H (s t) (source_view c.args.first) now w.walk c.loop-index.index w.read
    (omega (arith, c.loop-index-test.false, c.loop-index.invariant.few, now.modules.ok, length-map now.modules.items module_view)))
