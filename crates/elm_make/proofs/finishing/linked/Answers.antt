use Rattle.std.proofs.Common.{map, length}
use Rattle.std.proofs.lemmas.List.{length-map}
use Rattle.elm_make.specs.ProjectCompileView.{value_view}
use Rattle.project_parts.specs.View.{part_view}
use Rattle.elm_make.proofs.Ended.{entry_within}
use Rattle.elm_make.proofs.finishing.linked.Goals as goal

pub linked_from-requires-clause-within : goal.linked_from-requires-clause-within
linked_from-requires-clause-within c =
    entry_within (map part_view c.args.parts.now) (map value_view c.args.values.now) c.in_ok-good.field-0 c.in-Some.good
    c.deref.result.now (length c.args.parts.now) c.args.entry c.requires.values (length-map c.args.parts.now part_view)
    c.requires.within c.in_ok-good.ensures c.in-Some.is c.deref.ensures.value
