use Rattle.std.proofs.Common.{map}
use Rattle.std.specs.Str.{bytes_eq}
use Rattle.std.proofs.lemmas.Iterator.Adapters.{position_from-zero}
use Rattle.project_parts.specs.Modules.{name_of}
use Rattle.project_parts.specs.View.{part_view}
use Rattle.elm_make.proofs.entry.number_of.Goals as goal

pub loop-number-init : goal.loop-number-init
loop-number-init c = position_from-zero (bytes_eq c.args.name.now) (map name_of (map part_view c.args.parts.now))
