-- The faults of imports: an import exposes what its module does not show. (Elm guide: modules.) An operator is exposed
-- by the module that it is of, and by no other.
use Rattle.std.specs.Prelude.{◌≡◌, ℕ, List, [], ◌∷◌, Bool, ◌&&◌, ◌||◌, if◌then◌else◌, map, flat_map, codes}
use Rattle.std.specs.List.{list_any}
use Rattle.std.specs.Str.{bytes_eq}
use Rattle.indexmap.specs.IndexSet.{contains}
use Rattle.elm_base.specs.declared.fault.Code.{Code}
use Rattle.elm_base.specs.declared.fault.Code.TheVariants.{ImportExposing}
use Rattle.elm_tree.specs.Tree.{Word, Exposed, OneValue, OneType, OpenType, OneOperator, Exposing, Everything, These}
use Rattle.elm_tree.specs.Tree.{Import}
use Rattle.elm_lexer.specs.Tokens.{Token}
use Rattle.elm_tree.specs.View as tree
use Rattle.elm_tree.specs.Regroup.{operator_rows}
use Rattle.elm_canon.specs.Names.{Name, same_name}
use Rattle.canon_env.specs.Shown.{Shown, shown_view}
use Rattle.canon_env.specs.Imports.{name_of, exposed_of}
use Rattle.canon_env.specs.declared.import.Exposed as names
use Rattle.canon_env.specs.declared.finding.Finding.{Finding}
use Rattle.canon_env.specs.declared.exposing.ShownNames.{ShownNames}
use Rattle.canon_env.specs.declared.exposing.Written as written

-- a fault at a word, told by the word
abbrev pub finding : Code → Word → Finding
finding code w = record { code = code; place = w.place; detail = w.text }

abbrev pub is_among : Name → List Name → Bool
is_among x xs = list_any (same_name x) xs

-- an operator of the language is of Basics, but :: is of List
abbrev pub is_operator : List ℕ → Bool
is_operator op = list_any (λ r. bytes_eq op r.text) operator_rows

abbrev pub operator_home : List ℕ → Name
operator_home op = if bytes_eq op (codes "::") then codes "List" else codes "Basics"

abbrev pub shows_union : Shown → Name → Bool
shows_union s x = is_among x (map (λ u. u.name) s.unions)

abbrev pub shows_alias : Shown → Name → Bool
shows_alias s x = is_among x (map (λ a. a.name) s.aliases)

abbrev pub exposed_word : Exposed → Word
exposed_word (OneValue w) = w
exposed_word (OneType w) = w
exposed_word (OpenType w) = w
exposed_word (OneOperator w) = w

-- whether the module shows what is exposed of it by a name, or an operator by its text
abbrev pub shows_named : Name → Shown → List ℕ → names.Exposed → Bool
shows_named home s text (names.Exposed.Value x) = is_among x s.values
shows_named home s text (names.Exposed.Type x) = shows_union s x || shows_alias s x
shows_named home s text (names.Exposed.OpenType x) = shows_union s x
shows_named home s text (names.Exposed.Operator x) = is_operator text && same_name home (operator_home text)

abbrev pub shows : Name → Shown → Exposed → Bool
shows home s e = shows_named home s (exposed_word e).text (exposed_of e)

abbrev pub entry_faults : Name → Shown → Exposed → List Finding
entry_faults home s e = if shows home s e then [] else finding ImportExposing (exposed_word e) ∷ []

abbrev pub entries_of : Exposing → List Exposed
entries_of Everything = []
entries_of (These es) = es

-- in the order in which they are written
abbrev pub exposing_faults : Name → Shown → Exposing → List Finding
exposing_faults home s e = flat_map (entry_faults home s) (entries_of e)

-- an import beside what its module shows
pub record Written : Type 0 where
  pub import : Import
  pub shown : Shown

abbrev pub import_faults : Written → List Finding
import_faults w = exposing_faults (name_of w.import.name) w.shown w.import.exposes

-- ---- what the program keeps

abbrev pub written_view : List Token → written.Written → Written
written_view tokens w = record { import = tree.import_view tokens w.import.now; shown = shown_view w.shown.now }

-- the names that a module shows
pub record IsNamesOf (names : ShownNames) (s : Shown) : Type 0 where
  pub values : (x : Name) → contains same_name names.values x ≡ is_among x s.values
  pub unions : (x : Name) → contains same_name names.unions x ≡ shows_union s x
  pub aliases : (x : Name) → contains same_name names.aliases x ≡ shows_alias s x
