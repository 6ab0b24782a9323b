-- Where a return position stands.
use Rattle.js_emit.specs.Names.{made_names}
use Rattle.js_emit.specs.Loops as spec
use Rattle.emit_exprs.specs.declared.loops.Loop.{Loop}
use Rattle.emit_exprs.specs.declared.loops.Loop.TheVariants as place

abbrev pub loop_view : Loop → spec.Loop
loop_view place.Outside = spec.Outside
loop_view (place.Inside f first count) = spec.Inside f (made_names first count)
