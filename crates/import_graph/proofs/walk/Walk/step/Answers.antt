-- The module at a place is read, if there is one: `one_read`, `none_there`.
use Rattle.std.proofs.Common.{◌<◌, refl, arith, length}
use Rattle.elm_files.specs.Tree.{Tree}
use Rattle.import_graph.specs.ModuleWalkView.{setting, with_imports, module_view}
use Rattle.std.proofs.lemmas.List.{length-map}
use Rattle.import_graph.proofs.Lists.{item_at}
use Rattle.import_graph.proofs.Meeting.{both, anyhow}
use Rattle.import_graph.proofs.Plain.{plain_put, sources_put}
use Rattle.import_graph.proofs.Stepping.{one_read, none_there, grows_within}
use Rattle.import_graph.proofs.walk.Walk.step.Goals as goal

pub returns-then-index-len-clause-walked : goal.returns-then-index-len-clause-walked
returns-then-index-len-clause-walked g c =
    anyhow (g.F.Files.tree c.args.files.now) (λ t m w.
    none_there g.R.Reader.has_imports (setting t c.args.project.now c.args.core.now.keys) m c.args.self.now c.args.index (omega (arith, c.if-index-len.true, c.len.ensures, c.args.self.now.modules.ok)) w)

pub put_imports-requires : goal.put_imports-requires
put_imports-requires g c =
    grows_within c.args.self.now c.imports_at.new.self c.args.index c.in_ok-imports.ensures.grows (omega (arith, c.if-index-len.false, c.len.ensures, c.args.self.now.modules.ok))

pub returns-clause-walked : goal.returns-clause-walked
returns-clause-walked g c =
    let H = g.R.Reader.has_imports in
    let s = λ (t : Tree). setting t c.args.project.now c.args.core.now.keys in
    let old = c.args.self.now in
    let now = c.imports_at.new.self in
    let within : c.args.index < length old.modules.items = omega (arith, c.if-index-len.false, c.len.ensures, old.modules.ok) in
    let there = item_at now.modules.items c.args.index (grows_within old now c.args.index c.in_ok-imports.ensures.grows within) in
    let before = there.0 in
    both (g.F.Files.tree c.args.files.now) c.in_ok-imports.ensures.read c.in_ok-imports.ensures.walk (λ t read walk m w.
    one_read H (s t) m old now (record { entry = now.entry; modules = c.put_imports.new.modules; known = now.known }) c.args.index before (with_imports before c.in_ok-imports.imports)
    w (walk m w.walk) c.in_ok-imports.ensures.grows (omega (arith, within, length-map old.modules.items module_view)) (read m w.walk)
    there.1 (c.put_imports.ensures.written before there.1) refl refl refl)

pub returns-clause-plain : goal.returns-clause-plain
returns-clause-plain g c =
    let old = c.args.self.now in
    let now = c.imports_at.new.self in
    let within : c.args.index < length old.modules.items =
    omega (arith, c.if-index-len.false, c.len.ensures, old.modules.ok) in
    let there = item_at now.modules.items c.args.index
    (grows_within old now c.args.index c.in_ok-imports.ensures.grows within) in
    plain_put c.args.core.now.keys old now
    (record { entry = now.entry; modules = c.put_imports.new.modules; known = now.known }) c.args.index there.0
    c.in_ok-imports.imports
    (record { there = there.1; put = c.put_imports.ensures.written there.0 there.1; known = refl })
    c.in_ok-imports.ensures.plain

pub returns-clause-sources : goal.returns-clause-sources
returns-clause-sources g c =
    let old = c.args.self.now in
    let now = c.imports_at.new.self in
    let within : c.args.index < length old.modules.items =
    omega (arith, c.if-index-len.false, c.len.ensures, old.modules.ok) in
    let there = item_at now.modules.items c.args.index
    (grows_within old now c.args.index c.in_ok-imports.ensures.grows within) in
    sources_put old now (record { entry = now.entry; modules = c.put_imports.new.modules; known = now.known })
    c.args.index there.0 c.in_ok-imports.imports c.in_ok-imports.ensures.grows
    (record { there = there.1; put = c.put_imports.ensures.written there.0 there.1; known = refl })
