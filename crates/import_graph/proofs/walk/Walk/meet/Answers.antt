-- What the walk had stays: `grows_first`.
use Rattle.std.proofs.Common.{Some, if◌then◌else◌, sym, ap, ◌∙◌}
use Rattle.std.specs.Str.{bytes_eq}
use Rattle.import_graph.specs.ModuleWalkView.{located_view}
use Rattle.import_graph.specs.Walk.{known_at, added}
use Rattle.import_graph.proofs.Plain.{plain_met}
use Rattle.import_graph.proofs.Walking.{grows_first}
use Rattle.import_graph.proofs.walk.Walk.meet.Goals as goal

pub returns-clause-grows : goal.returns-clause-grows
returns-clause-grows g c =
    grows_first c.args.self.now (record { entry = c.add.new.self.entry; modules = c.add.new.self.modules; known = c.note.new.self }) c.args.name.now c.in_ok-found.found
    (added c.args.self.now.entry c.args.name.now (located_view c.in_ok-located.located)) (sym c.find.ensures ∙ c.in_default.is)
    (λ y. c.in_ok-note.ensures y ∙ ap (λ k. if bytes_eq c.args.name.now y then Some c.in_ok-found.found else known_at k y) c.in_ok-found.ensures.known) c.in_ok-found.ensures.modules

pub returns-clause-plain : goal.returns-clause-plain
returns-clause-plain g c =
    plain_met c.args.core.now.keys c.args.self.now
    (record { entry = c.add.new.self.entry; modules = c.add.new.self.modules; known = c.note.new.self })
    c.args.name.now c.in_ok-found.found (located_view c.in_ok-located.located) c.in_ok-located.ensures.plain
    c.in_ok-found.ensures.found
    (λ y. c.in_ok-note.ensures y
    ∙ ap (λ k. if bytes_eq c.args.name.now y then Some c.in_ok-found.found else known_at k y)
    c.in_ok-found.ensures.known)
    c.in_ok-found.ensures.modules
