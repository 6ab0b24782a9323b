-- The text that a run prints: a line for each send, for each input of the wrong shape, and for an end before every
-- input was given.
use Rattle.std.specs.Prelude.{ℕ, List, [], ◌∷◌, ◌++◌, Bool, true, false, codes, encode_utf8_all}
use Rattle.std.specs.Char.Utf16.{utf16_lossy_chars}
use Rattle.wire_value.specs.Wire.{Wire}
use Rattle.wire_value.specs.Text.{wire_text, text_text}
use Rattle.runs.specs.Trace.{Event, Sent, TurnedAway, Last, Ready, FlagsRefused, Crashed, OutOfFuel, Unsafe, Stuck}
use Rattle.runs.specs.Trace.{Trace, Ends, Then}

-- the name of a port in UTF-8, with U+FFFD for a lone surrogate, as an engine prints it (WHATWG Encoding, 8.2, UTF-8
-- encode)
abbrev pub port_text : List ℕ → List ℕ
port_text port = encode_utf8_all (utf16_lossy_chars port)

-- PORT JSON
abbrev pub send_line : List ℕ → Wire → List ℕ
send_line port value = port_text port ++ codes " " ++ wire_text value ++ codes "\n"

abbrev pub refused_line : List ℕ → List ℕ
refused_line port = codes "! refused " ++ port_text port ++ codes "\n"

abbrev pub event_line : Event → List ℕ
event_line (Sent port value) = send_line port value
event_line (TurnedAway port) = refused_line port

-- the line that ends a run; none if every input was given
abbrev pub last_line : Last → List ℕ
last_line Ready = []
last_line FlagsRefused = codes "! refused flags\n"
last_line (Crashed text) = codes "! crash " ++ text_text text ++ codes "\n"
last_line OutOfFuel = codes "! out of fuel\n"
last_line Unsafe = codes "! unsafe\n"
last_line Stuck = codes "! stuck\n"

abbrev pub told_text : Trace → List ℕ
told_text (Ends last) = last_line last
told_text (Then event trace) = event_line event ++ told_text trace

abbrev pub is_ready_end : Last → Bool
is_ready_end Ready = true
is_ready_end _ = false

-- every input was given
abbrev pub is_ready : Trace → Bool
is_ready (Ends last) = is_ready_end last
is_ready (Then event trace) = is_ready trace

-- the lines of sends
abbrev pub sends_text : List (List ℕ × Wire) → List ℕ
sends_text [] = []
sends_text (send ∷ sends) = send_line send.0 send.1 ++ sends_text sends
