-- The flags, by the type that they have. There is none where the flags are of type ().
use Rattle.std.specs.Prelude.{Option, Some, None}
use Rattle.elm_canon.specs.View.{payload_view}
use Rattle.elm_canon.specs.declared.tree.Payload.{Payload}
use Rattle.elm_meaning.specs.Run.{Flags, AnyFlags, FlagsOf}

abbrev pub flags_view : Option Payload → Flags
flags_view None = AnyFlags
flags_view (Some t) = FlagsOf (payload_view t)
