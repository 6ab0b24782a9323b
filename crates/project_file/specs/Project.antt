-- What the file elm.json says of an application. (Elm guide, elm.json.)
use Rattle.std.specs.Prelude.{ℕ, List, [], ◌∷◌, ◌++◌, Bool, true, false, not, ◌&&◌, if◌then◌else◌, Option, Some, None}
use Rattle.std.specs.Prelude.{option_and_then, length, nat_le, map, codes}
use Rattle.std.specs.List.{list_any}
use Rattle.std.specs.Str.{bytes_eq, is_utf8}
use Rattle.elm_base.specs.declared.fault.Code.{Code}
use Rattle.elm_base.specs.declared.fault.Code.TheVariants.{NotJson, NotApplication, OtherVersion}
use Rattle.serde_json.specs.Data.{Data, null, boolean, number, string, array, object, Items, no_items, item}
use Rattle.serde_json.specs.Read.{read}
use Rattle.serde_json.specs.Find.{get, as_array, as_str}
use Rattle.project_file.specs.Paths.{normal_path, is_absolute}

-- the source directories of an application, or why the file describes none
pub data Told : Type 0 where
  directories : List (List ℕ) → Told
  fault : Code → Told

-- the value is this text
abbrev pub is_text : List ℕ → Option (List ℕ) → Bool
is_text text None = false
is_text text (Some found) = bytes_eq found text

abbrev pub has_type : Data → Bool
has_type d = is_text (codes "application") (option_and_then as_str (get (codes "type") d))

-- a source directory is a text, and no absolute path
abbrev pub is_directory : Option (List ℕ) → Bool
is_directory None = false
is_directory (Some path) = not (is_absolute path)

abbrev pub all_directories : Items → Bool
all_directories no_items = true
all_directories (item d ds) = is_directory (as_str d) && all_directories ds

-- a list of source directories, and not the empty one
abbrev pub are_directories : Option Items → Bool
are_directories None = false
are_directories (Some no_items) = false
are_directories (Some (item d ds)) = all_directories (item d ds)

abbrev pub written_directories : Data → Option Items
written_directories d = option_and_then as_array (get (codes "source-directories") d)

-- the version may be missing, or be another text; it is no other value
abbrev pub version_fault : Option Data → Option Code
version_fault None = Some OtherVersion
version_fault (Some null) = Some NotApplication
version_fault (Some (boolean b)) = Some NotApplication
version_fault (Some (number n)) = Some NotApplication
version_fault (Some (string text)) = if bytes_eq text (codes "0.19.1") then None else Some OtherVersion
version_fault (Some (array ds)) = Some NotApplication
version_fault (Some (object ms)) = Some NotApplication

-- why a value describes no application of this version, if it does not; other members may say anything
abbrev pub fault_in : Data → Option Code
fault_in d =
    if has_type d && are_directories (written_directories d) then version_fault (get (codes "elm-version") d)
    else Some NotApplication

abbrev pub text_before : Option (List ℕ) → List (List ℕ) → List (List ℕ)
text_before None texts = texts
text_before (Some text) texts = text ∷ texts

-- the texts among the items
abbrev pub texts_in : Items → List (List ℕ)
texts_in no_items = []
texts_in (item d ds) = text_before (as_str d) (texts_in ds)

-- the paths that are neither among those before nor among earlier ones
abbrev pub each_once : List (List ℕ) → List (List ℕ) → List (List ℕ)
each_once before [] = []
each_once before (path ∷ paths) =
    if list_any (bytes_eq path) before then each_once before paths else path ∷ each_once (before ++ path ∷ []) paths

-- the source directories in written order, each once
abbrev pub directories_in : Option Items → List (List ℕ)
directories_in None = []
directories_in (Some ds) = each_once [] (map normal_path (texts_in ds))

abbrev pub told_unless : Option Code → Data → Told
told_unless None d = directories (directories_in (written_directories d))
told_unless (Some code) d = fault code

abbrev pub told_by : Option Data → Told
told_by None = fault NotJson
told_by (Some d) = told_unless (fault_in d) d

-- what a file of these bytes tells: a text in UTF-8 of at most 1048576 bytes, as serde_json reads it
abbrev pub project_of : List ℕ → Told
project_of bytes = if nat_le (length bytes) 1048576 && is_utf8 bytes then told_by (read bytes) else fault NotJson
