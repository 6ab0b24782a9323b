-- The path of the output is refused (`absolute_stops`, `other_stops`), or the build goes on (`output_goes_on`).
use Rattle.std.proofs.Common.{◌≡◌, [], ◌∷◌, true, false, rules}
use Rattle.elm_base.specs.declared.fault.Code.TheVariants.{BadOutput}
use Rattle.project_parts.specs.Outcomes.{Clean, start_fault, is_output}
use Rattle.project_file.specs.Paths.{normal_path, is_absolute}
use Rattle.elm_make.proofs.Building.{absolute_stops, other_stops, output_goes_on, stopped_holds}
use Rattle.elm_make.proofs.project.build_checked.Goals as goal

pub returns-then-is_absolute-clause-outcome : goal.returns-then-is_absolute-clause-outcome
returns-then-is_absolute-clause-outcome g c =
    let told = g.F.Files.tree c.args.files.now in
    let entry = c.args.entry.now in
    let output = c.args.output.now in
    let e : is_absolute output ≡ true = search rules in
    stopped_holds told entry (λ tree. Clean tree entry output) (start_fault BadOutput output ∷ [])
    c.in_ok-stopped.field-0 (absolute_stops told entry output e)
    c.in_ok-stopped.ensures

pub returns-then-not-is_output-clause-outcome : goal.returns-then-not-is_output-clause-outcome
returns-then-not-is_output-clause-outcome g c =
    let told = g.F.Files.tree c.args.files.now in
    let entry = c.args.entry.now in
    let output = c.args.output.now in
    let e : is_absolute output ≡ false = search rules in
    let f : is_output (normal_path output) ≡ false = search rules in
    stopped_holds told entry (λ tree. Clean tree entry output) (start_fault BadOutput (normal_path output) ∷ [])
    c.in_ok-stopped-2.field-0 (other_stops told entry output e f)
    (search rules)

pub returns-clause-outcome : goal.returns-clause-outcome
returns-clause-outcome g c =
    let output = c.args.output.now in
    let e : is_absolute output ≡ false = search rules in
    let f : is_output (normal_path output) ≡ true = search rules in
    output_goes_on (g.F.Files.tree c.args.files.now) c.args.entry.now output e f c.build_project.result
    c.build_project.ensures.outcome
