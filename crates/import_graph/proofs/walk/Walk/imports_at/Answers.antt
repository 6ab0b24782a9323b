-- The imports of one module are met, one after the other: `loop_walk`, `one_done`, `met_done`, `read_at`.
use Rattle.std.proofs.Common.{◌≡◌, ◌∷◌, [], ◌++◌, map, sym, ap, ◌∙◌, subst, refl, arith}
use Rattle.std.specs.Prelude.{IfSome}
use Rattle.std.specs.List.{All}
use Rattle.std.proofs.lemmas.List.{length-map}
use Rattle.std.proofs.lemmas.Option.{IfSome_then}
use Rattle.elm_files.specs.Tree.{Tree}
use Rattle.import_graph.specs.Modules.{Imports}
use Rattle.import_graph.specs.Plain.{IsPlainImport}
use Rattle.import_graph.specs.ModuleWalkView.{setting, import_view, source_view, module_view}
use Rattle.import_graph.specs.Walk.{IsWalk, IsPlainWalk, Meets, AreMet}
use Rattle.import_graph.specs.declared.walk.Import.{Import}
use Rattle.import_graph.proofs.Meeting.{both, words_left, words_done, Right, loop_walk, one_done, met_on, met_done, grows_on}
use Rattle.import_graph.proofs.Plain.{plain_more}
use Rattle.import_graph.proofs.Reaching.{are_many}
use Rattle.import_graph.proofs.Stepping.{are_imported, read_at}
use Rattle.import_graph.proofs.walk.Walk.imports_at.Goals as goal

pub returns-then-len-gt-MAX_MODULES-clause-error : goal.returns-then-len-gt-MAX_MODULES-clause-error
returns-then-len-gt-MAX_MODULES-clause-error g c =
    let H = g.R.Reader.has_imports in
    let told = g.F.Files.tree c.args.files.now in
    let s = λ (t : Tree). setting t c.args.project.now c.args.core.now.keys in
    let now = c.loop-import.self in
    let next = c.meet.new.self in
    let name = c.in-Some.import.name in
    let all = words_left c.into_iter-import-iterator.result.rest.items in
    let same : words_left c.in_ok-written.written.items ≡ all = sym (ap words_left c.into_iter-import-iterator.ensures.into_iter_gives.0) in
    let has : Imports H (source_view c.index.result.now) all = subst (Imports H (source_view c.index.result.now)) same c.in_ok-written.ensures.found in
    let step : IfSome told (λ t. Meets (s t) now next name) = subst (λ o. IfSome o (λ t. Meets (s t) now next name)) c.loop-import.invariant.tree c.in_ok-found.ensures.step in (
      both told c.loop-import.invariant.walk step (λ t inv meets m w.
          let by = are_imported H (s t) m c.args.self.now c.args.index c.index.result.now all w (omega (arith, c.requires.within, c.args.self.now.modules.ok)) c.index.ensures has in
          let r = loop_walk H (s t) m now next c.loop-import.imports.items c.loop-import.import-iterator.rest.items c.next.new.self.rest.items c.in-Some.import all c.in_ok-found.found
          (inv m w by) by c.loop-import.invariant.words c.in-Some.ensures.steps.0 meets c.in_ok-found.ensures.met in
          are_many H (s t) m next r.0 (omega (arith, c.if-len-gt-MAX_MODULES.true, c.len-in-loop-import.ensures, next.modules.ok, length-map next.modules.items module_view))),
      c.in_ok-found.ensures.no_fault ∙ c.loop-import.invariant.faults,
    )

pub loop-import-preserved : goal.loop-import-preserved
loop-import-preserved g c =
    let H = g.R.Reader.has_imports in
    let core = c.args.core.now.keys in
    let told = g.F.Files.tree c.args.files.now in
    let s = λ (t : Tree). setting t c.args.project.now c.args.core.now.keys in
    let now = c.loop-import.self in
    let next = c.meet.new.self in
    let name = c.in-Some.import.name in
    let done = c.loop-import.imports.items in
    let left = c.loop-import.import-iterator.rest.items in
    let rest = c.next.new.self.rest.items in
    let all = words_left c.into_iter-import-iterator.result.rest.items in
    let i : Import = record { name = name; place = c.in-Some.import.place; found = c.in_ok-found.found } in
    let pushed : c.push.new.self.items ≡ done ++ i ∷ [] = c.in_ok-push.ensures.items in
    let inv = c.loop-import.invariant in
    let step : IfSome told (λ t. Meets (s t) now next name) = subst (λ o. IfSome o (λ t. Meets (s t) now next name)) inv.tree c.in_ok-found.ensures.step in
    record {
      words = subst (λ is. words_done is ++ words_left rest ≡ all) (sym pushed) (one_done done i left rest c.in-Some.import all inv.words c.in-Some.ensures.steps.0 refl);
      met = subst (λ is. AreMet next (words_done is)) (sym pushed) (met_done next done i c.in_ok-found.found (met_on c.in_ok-found.ensures.grows (words_done done) inv.met) c.in_ok-found.ensures.met);
      walk = both told inv.walk step (λ t h meets m w by. subst (λ is. IsWalk H (s t) m next × Right (s t) is) (sym pushed)
          (loop_walk H (s t) m now next done left rest c.in-Some.import all c.in_ok-found.found (h m w by) by inv.words c.in-Some.ensures.steps.0 meets c.in_ok-found.ensures.met));
      plain = subst (λ is. IsPlainWalk core c.args.self.now → IsPlainWalk core next × All (IsPlainImport core) (map import_view is)) (sym pushed)
          (plain_more core c.args.self.now now next done i inv.plain c.in_ok-found.ensures.plain c.in_ok-found.ensures.met);
      grows = grows_on inv.grows c.in_ok-found.ensures.grows;
      few = omega (arith, c.if-len-gt-MAX_MODULES.false, c.len-in-loop-import.ensures);
      tree = c.meet.ensures.tree ∙ inv.tree;
      faults = c.in_ok-found.ensures.no_fault ∙ inv.faults;
    }

pub returns-clause-read : goal.returns-clause-read
returns-clause-read g c =
    let H = g.R.Reader.has_imports in
    let s = λ (t : Tree). setting t c.args.project.now c.args.core.now.keys in
    let all = words_left c.into_iter-import-iterator.result.rest.items in
    let same : words_left c.in_ok-written.written.items ≡ all = sym (ap words_left c.into_iter-import-iterator.ensures.into_iter_gives.0) in
    let has : Imports H (source_view c.index.result.now) all = subst (Imports H (source_view c.index.result.now)) same c.in_ok-written.ensures.found in
    let left = c.loop-import.import-iterator.rest in
    IfSome_then (g.F.Files.tree c.args.files.now) c.loop-import.invariant.walk (λ t inv m w.
    let by = are_imported H (s t) m c.args.self.now c.args.index c.index.result.now all w (omega (arith, c.requires.within, c.args.self.now.modules.ok)) c.index.ensures has in
    read_at H (s t) c.args.self.now c.loop-import.self c.args.index c.index.result.now c.loop-import.imports.items left.items all
    (omega (arith, c.requires.within, c.args.self.now.modules.ok)) c.index.ensures has (λ others o. c.in_ok-written.ensures.only others o ∙ same)
    c.loop-import.invariant.words (omega (arith, left.ok, c.in-None.ensures.steps.0)) c.loop-import.invariant.met (inv m w by).1)

pub returns-clause-walk : goal.returns-clause-walk
returns-clause-walk g c =
    let H = g.R.Reader.has_imports in
    let s = λ (t : Tree). setting t c.args.project.now c.args.core.now.keys in
    let all = words_left c.into_iter-import-iterator.result.rest.items in
    let same : words_left c.in_ok-written.written.items ≡ all = sym (ap words_left c.into_iter-import-iterator.ensures.into_iter_gives.0) in
    let has : Imports H (source_view c.index.result.now) all = subst (Imports H (source_view c.index.result.now)) same c.in_ok-written.ensures.found in
    IfSome_then (g.F.Files.tree c.args.files.now) c.loop-import.invariant.walk (λ t inv m w.
    (inv m w (are_imported H (s t) m c.args.self.now c.args.index c.index.result.now all w (omega (arith, c.requires.within, c.args.self.now.modules.ok)) c.index.ensures has)).0)
