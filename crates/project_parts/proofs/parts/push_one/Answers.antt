-- What stands at the number.
use Rattle.std.proofs.Common.{◌++◌, List, ℕ, map, sym, ap, ◌∙◌, append-nil}
use Rattle.std.specs.Prelude.{option_map, option_to_list}
use Rattle.std.proofs.lemmas.List.{map-append}
use Rattle.std.proofs.lemmas.Option.{slice_get-map}
use Rattle.import_graph.specs.ModuleWalkView.{module_view}
use Rattle.import_graph.specs.declared.walk.Module.{Module}
use Rattle.project_parts.specs.Modules.{project_part}
use Rattle.project_parts.specs.View.{part_view}
use Rattle.project_parts.proofs.Placing.{image}
use Rattle.project_parts.proofs.parts.push_one.Goals as goal

pub returns-in_ok-push-in-Some : goal.returns-in_ok-push-in-Some
returns-in_ok-push-in-Some c =
    let old = c.args.parts.now.items in
    let m = c.in-Some.module in
    ap (map part_view) c.in_ok-push-in-Some.ensures.items
    ∙ map-append part_view old _
    ∙ ap (λ o. map part_view old ++ map project_part (option_to_list o))
    (sym (image (λ (e : List ℕ × Module). module_view e.1) c.args.graph.now.modules.entries c.args.number
    (c.in-Some.field-0-0.now, m.now) (sym c.in-Some.ensures.entry)))

pub returns-in-None : goal.returns-in-None
returns-in-None c =
    let old = c.args.parts.now.items in
    let f = λ (e : List ℕ × Module). module_view e.1 in
    let entries = c.args.graph.now.modules.entries in
    sym (append-nil (map part_view old))
    ∙ ap (λ o. map part_view old ++ map project_part (option_to_list o))
    (sym (slice_get-map f entries c.args.number ∙ ap (option_map f) (sym c.in-None.ensures.entry)))
