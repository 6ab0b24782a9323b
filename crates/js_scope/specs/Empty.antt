-- Lists that have nothing yet, and the reader at its end.
use Rattle.std.specs.Prelude.{Bool, true, false}
use Rattle.js_tree.specs.Postorder.{Items, NoItem, Members, NoMember}
use Rattle.js_tree.specs.Automaton.{State, Finished}

abbrev pub is_no_item : Items → Bool
is_no_item NoItem = true
is_no_item _ = false

abbrev pub is_no_member : Members → Bool
is_no_member NoMember = true
is_no_member _ = false

abbrev pub is_finished : State → Bool
is_finished (Finished p) = true
is_finished _ = false
