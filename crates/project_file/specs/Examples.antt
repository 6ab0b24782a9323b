-- Paths and files `elm.json`, worked out.
use Rattle.std.specs.Prelude.{◌≡◌, ℕ, List, [], ◌∷◌, Some, None, codes}
use Rattle.elm_base.specs.declared.fault.Code.{Code}
use Rattle.elm_base.specs.declared.fault.Code.TheVariants.{NotJson, NotApplication, OtherVersion}
use Rattle.project_file.specs.Paths.{normal_path, below, path_of}
use Rattle.project_file.specs.Project.{directories, fault, project_of}

abbrev pub Normal : Type 0
Normal = normal_path (codes "./src//Main.elm") ≡ codes "src/Main.elm"

abbrev pub Below : Type 0
Below = below (codes "src") (codes "src/A/B.elm") ≡ Some (codes "A/B.elm")

abbrev pub NotBelow : Type 0
NotBelow = below (codes "src") (codes "srcs/A.elm") ≡ None

abbrev pub OfModule : Type 0
OfModule = path_of (codes "A.B") ≡ codes "A/B.elm"

-- the file tells these source directories
abbrev pub Tells : List ℕ → List (List ℕ) → Type 0
Tells text paths = project_of text ≡ directories paths

-- the file has this fault
abbrev pub Fails : List ℕ → Code → Type 0
Fails text code = project_of text ≡ fault code

-- two source directories, of which one stands twice
abbrev pub Once : Type 0
Once =
    Tells (codes "{\"type\":\"application\",\"source-directories\":[\"src\",\"lib\",\"./src/\"],\"elm-version\":\"0.19.1\"}")
    (codes "src" ∷ codes "lib" ∷ [])

-- the folder of the file itself, and another member
abbrev pub OfFolder : Type 0
OfFolder =
    Tells (codes "{\"type\":\"application\",\"source-directories\":[\".\"],\"elm-version\":\"0.19.1\",\"dependencies\":{}}")
    ([] ∷ [])

abbrev pub NoVersion : Type 0
NoVersion = Fails (codes "{\"type\":\"application\",\"source-directories\":[\"src\"]}") OtherVersion

abbrev pub WrongVersion : Type 0
WrongVersion =
    Fails (codes "{\"type\":\"application\",\"source-directories\":[\"src\"],\"elm-version\":\"0.19.0\"}") OtherVersion

abbrev pub VersionNoText : Type 0
VersionNoText =
    Fails (codes "{\"type\":\"application\",\"source-directories\":[\"src\"],\"elm-version\":19}") NotApplication

abbrev pub OtherType : Type 0
OtherType =
    Fails (codes "{\"type\":\"package\",\"source-directories\":[\"src\"],\"elm-version\":\"0.19.1\"}") NotApplication

-- the fault of the form goes before that of the version
abbrev pub NoType : Type 0
NoType = Fails (codes "{\"source-directories\":[\"src\"]}") NotApplication

abbrev pub Absolute : Type 0
Absolute =
    Fails (codes "{\"type\":\"application\",\"source-directories\":[\"src\",\"/lib\"],\"elm-version\":\"0.19.1\"}") NotApplication

abbrev pub NoDirectories : Type 0
NoDirectories =
    Fails (codes "{\"type\":\"application\",\"source-directories\":[],\"elm-version\":\"0.19.1\"}") NotApplication

abbrev pub NoText : Type 0
NoText =
    Fails (codes "{\"type\":\"application\",\"source-directories\":[\"src\",7],\"elm-version\":\"0.19.1\"}") NotApplication

abbrev pub NoObject : Type 0
NoObject = Fails (codes "[]") NotApplication

abbrev pub Unread : Type 0
Unread = Fails (codes "{\"type\":\"application\"") NotJson
