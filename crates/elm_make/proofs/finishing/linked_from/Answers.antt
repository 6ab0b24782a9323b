use Rattle.std.proofs.Common.{map, arith}
use Rattle.std.proofs.lemmas.List.{length-map}
use Rattle.link.specs.View as linked
use Rattle.elm_make.proofs.Ended.{text_linked}
use Rattle.elm_make.proofs.finishing.linked_from.Goals as goal

pub returns-in-Ok : goal.returns-in-Ok
returns-in-Ok c =
    text_linked c.link_law.ensures (map linked.part_view c.args.parts.now) c.args.entry c.in-Ok.bytes.items
    c.requires.sources (omega (arith, c.requires.within, length-map c.args.parts.now linked.part_view))
    c.in-Ok.ensures.output
