-- Where the project has a name: `told_place`, `no_place`.
use Rattle.std.proofs.Common.{map, string_bytes, sym, ap, ◌∙◌, subst}
use Rattle.std.specs.Str.{IsUtf8}
use Rattle.std.proofs.lemmas.Option.{IfSome_then}
use Rattle.std.proofs.lemmas.Result.{IfOk-weaker}
use Rattle.import_graph.specs.Places.{place_view}
use Rattle.project_file.specs.View.{directories_of}
use Rattle.import_graph.proofs.Locating.{told_place, no_place}
use Rattle.import_graph.proofs.Meeting.{anyhow}
use Rattle.import_graph.proofs.Plain.{plain_place}
use Rattle.import_graph.proofs.found.place.Goals as goal

pub returns-in-Ok-clause-place : goal.returns-in-Ok-clause-place
returns-in-Ok-clause-place g c =
    IfOk-weaker c.find.result _ _ (λ p h. IfSome_then (g.F.Files.tree c.args.files.now) h (λ tree e.
    told_place c.args.name.now c.in-Ok.text.now (map string_bytes c.deref.result.now) (directories_of c.args.project.now) tree (place_view p) (ap (map string_bytes) c.deref.ensures.value)
    (c.in-Ok.ensures.cases.0 ∙ c.as_bytes.ensures) (subst IsUtf8 c.as_bytes.ensures c.in-Ok.ensures.cases.1) e)) c.find.ensures.place

pub returns-in-Err-clause-place : goal.returns-in-Err-clause-place
returns-in-Err-clause-place g c =
    anyhow (g.F.Files.tree c.args.files.now) (λ tree.
    no_place c.args.name.now (directories_of c.args.project.now) tree (λ u. c.in-Err.ensures.cases.0 (subst IsUtf8 (sym c.as_bytes.ensures) u)))

pub returns-in-Ok-clause-plain : goal.returns-in-Ok-clause-plain
returns-in-Ok-clause-plain g c =
    IfOk-weaker c.find.result _ _
    (λ p f. plain_place c.args.name.now (place_view p) (subst IsUtf8 c.as_bytes.ensures c.in-Ok.ensures.cases.1) f)
    c.find.ensures.fits
