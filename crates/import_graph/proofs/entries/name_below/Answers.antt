-- What stands below a directory is a text, and so is the name of a module there: `below_is`, `module_name`.
use Rattle.std.proofs.Common.{◌≡◌, Some, sym, ap, ◌∙◌}
use Rattle.std.specs.Prelude.{option_map}
use Rattle.std.proofs.lemmas.Option.{IfSome_then}
use Rattle.std.proofs.lemmas.Result.{IfOk-weaker}
use Rattle.project_file.specs.Paths.{below}
use Rattle.import_graph.proofs.Texts.{below_is, module_name}
use Rattle.import_graph.proofs.entries.name_below.Goals as goal

pub returns-in-Some-clause-text : goal.returns-in-Some-clause-text
returns-in-Some-clause-text c =
    let rest = c.in-Some.rest.now in
    let e : below c.args.directory.now c.args.path.now ≡ Some rest =
    sym c.below.ensures ∙ ap (option_map (λ r. r.now)) c.in-Some.is in
    IfOk-weaker c.name_of_path.result _ _
    (λ answer f. IfSome_then answer f (λ name n.
    module_name rest name (below_is c.args.directory.now c.args.path.now rest c.utf8.path e) n))
    c.name_of_path.ensures.found
