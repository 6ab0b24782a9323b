-- What bytes spell, by whether they are UTF-8.
use Rattle.std.proofs.Common.{◌≡◌, ℕ, List, Bool, true, false, if◌then◌else◌, Option, Some, None, option_and_then, refl}
use Rattle.std.proofs.Common.{sym, ap, ◌∙◌}
use Rattle.std.proofs.lemmas.Str.{IsUtf8-from_is_utf8, is_utf8-from_IsUtf8}
use Rattle.std.specs.Str.{IsUtf8, is_utf8}
use Rattle.serde_json.specs.Data.{Data}
use Rattle.serde_json.specs.Read.{read}
use Rattle.wire_value.specs.Wire.{Wire}
use Rattle.wire_value.specs.FromJson.{from_json, from_bytes}

pub bytes_read : (bytes : List ℕ) (d : Data) → IsUtf8 bytes → read bytes ≡ Some d → from_json d ≡ from_bytes bytes
bytes_read bytes d text is =
    sym (ap (option_and_then from_json) is) ∙ sym (ap (λ (b : Bool). if b then option_and_then from_json (read bytes) else None) (is_utf8-from_IsUtf8 bytes text))

abbrev pub none : Option Wire
none = None

refused : (bytes : List ℕ) (b : Bool) → is_utf8 bytes ≡ b → (IsUtf8 bytes → read bytes ≡ None) → none ≡ (if b then option_and_then from_json (read bytes) else None)
refused bytes true e refuses = sym (ap (option_and_then from_json) (refuses (IsUtf8-from_is_utf8 bytes e)))
refused bytes false e refuses = refl

pub bytes_refused : (bytes : List ℕ) → (IsUtf8 bytes → read bytes ≡ None) → none ≡ from_bytes bytes
bytes_refused bytes refuses = refused bytes (is_utf8 bytes) refl refuses
