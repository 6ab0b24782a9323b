use Rattle.std.proofs.Common.{◌≡◌, map, ap, ◌∙◌}
use Rattle.import_graph.specs.ModuleWalkView.{import_view}
use Rattle.module_made.specs.Around.{found_in}
use Rattle.module_compile.specs.Parts.{found_view, interfaces_view, around_of}
use Rattle.module_compile.specs.ModulePhasesView.{around_view}
use Rattle.module_compile.proofs.Surroundings.{empty_view, bare_is}
use Rattle.module_compile.proofs.pushing.bare.Goals as goal

pub returns : goal.returns
unfolding around_view
returns c =
    let found = found_view c.in_ok-found_by.field-0 in
    let interfaces = interfaces_view c.new.result in
    let same : c.name.inside.bytes.items ≡ c.args.name = cc in
    ap (λ n. around_of c.args.is_core n found interfaces) same
    ∙ bare_is c.args.is_core c.args.name found (found_in (map import_view c.args.found.now)) interfaces
    c.in_ok-found_by.ensures (empty_view c.new.result c.new.ensures.empty)
