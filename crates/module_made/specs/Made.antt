-- What a module compiles to, by its name, its text, where its imports stand and what they offer. There are five phases:
-- text, imports, names, types and patterns. The first that has faults ends it. (Elm guide: modules.) After names the
-- module must have what the compiler takes for granted of the core library. The path of the file stands in faults
-- alone.
use Rattle.std.specs.Prelude.{◌≡◌, ℕ, List, [], ◌∷◌, Option, Some, None, map, codes}
use Rattle.std.specs.List.{AllByRecursion}
use Rattle.elm_base.specs.declared.position.Pos.{Pos}
use Rattle.elm_base.specs.declared.fault.Code.{Code}
use Rattle.elm_base.specs.declared.fault.Code.TheVariants.{FileTooLarge}
use Rattle.elm_base.specs.declared.fault.Fault.{Fault}
use Rattle.elm_canon.specs.Names.{Name}
use Rattle.elm_canon.specs.Tree.{Module}
use Rattle.elm_canon.specs.declared.reference.Ref.{Ref}
use Rattle.elm_lexer.specs.Tokens as lexed
use Rattle.elm_lexer.specs.Tokens.{Token}
use Rattle.elm_parser.specs.Parsed.{IsText, HasTextFault}
use Rattle.elm_tree.specs.Tree as tree
use Rattle.elm_type.specs.Types.{Leaf, Free, Fixed, Scheme, variables}
use Rattle.canon_env.specs.declared.finding.Finding.{Finding}
use Rattle.canon_module.specs.Resolve as names
use Rattle.canon_module.specs.Resolve.{IsModule, module_shows}
use Rattle.canon_env.specs.Order.{IsInOrder}
use Rattle.canon_env.specs.Sites.{utf8}
use Rattle.link.specs.Fragments.{Fragment}
use Rattle.link.specs.Made.{fragment_of}
use Rattle.interface.specs.Interface.{Interface}
use Rattle.pattern_check.specs.Faults as patterns
use Rattle.type_items.specs.Items.{Place}
use Rattle.type_items.specs.Inferred.{Schemes, Inferred, Refused}
use Rattle.link.specs.Cores.{cores_of, without_cores}
use Rattle.module_offers.specs.Offers.{known_by, main_type, module_interface}
use Rattle.module_offers.specs.Faults.{operator_faults}
use Rattle.module_made.specs.Around.{Around, start, setting_of, head_faults}

-- what a module compiles to: what it offers and its fragment, or its faults. One whose imports are not all good is
-- blocked, and nothing is said of it
pub data Value : Type 0 where
  Good : Interface → Fragment → Value
  Bad : List Fault → Value
  Blocked : Value

-- ---- faults of a file

abbrev pub fault_in : List ℕ → Finding → Fault
fault_in path f =
    record { code = f.code; path = path; region = record { start = f.place; end = f.place }; detail = f.detail }

abbrev pub bad : List ℕ → List Finding → Value
bad path fs = Bad (map (fault_in path) fs)

abbrev pub too_large : Finding
too_large = record { code = FileTooLarge; place = start; detail = [] }

abbrev pub text_finding : lexed.Fault → Finding
text_finding f =
    record { code = f.code; place = record { row = f.place.row; column = f.place.column }; detail = f.detail }

-- the detail is written in UTF-16
abbrev pub type_finding : Code → Pos → Name → Finding
type_finding code place detail = record { code = code; place = place; detail = utf8 detail }

-- ---- the phases

-- the text spells this module
abbrev pub Spells : List ℕ → tree.Module → Type 0
Spells text t = (tokens : List Token) × IsText text tokens t

-- and means this one, with its imports in their places
pub record Means (a : Around) (text : List ℕ) (t : tree.Module) (m : Module) : Type 0 where
  pub spelled : Spells text t
  pub found : head_faults a t.head ≡ []
  pub module_is : IsModule (setting_of a t) t.declarations m

abbrev pub name_faults : Around → tree.Module → Module → List Finding
name_faults a t m = names.module_faults (setting_of a t) t m

-- what it lacks of what the compiler takes for granted of the core library
abbrev pub lacking : Around → Module → List Finding
lacking a m = operator_faults (a.interfaces (codes "Basics")) (a.interfaces (codes "List")) m

-- without a fault in its names, and without lack
pub record IsNamed (a : Around) (text : List ℕ) (t : tree.Module) (m : Module) : Type 0 where
  pub means : Means a text t m
  pub named : name_faults a t m ≡ []
  pub whole : lacking a m ≡ []

-- where the definitions of a module stand in its tree of types: below a first place, where no constant of it stands
abbrev pub root : Place
root = 0 ∷ []

abbrev pub IsVariable : Leaf ℕ → Type 0
IsVariable (Free i) = Unit {0}
IsVariable (Fixed r) = ⊥

-- and these are the types of its definitions, which name no constants of annotations
pub record IsTyped (a : Around) (text : List ℕ) (t : tree.Module) (m : Module) (told : Schemes) : Type 0 where
  pub is_named : IsNamed a text t m
  pub typed : Inferred m (known_by a.interfaces) root told
  pub closed : (x : Ref) (s : Scheme) → told x ≡ Some s → AllByRecursion IsVariable (variables s.type)

abbrev pub good : Around → tree.Module → Module → Schemes → Value
good a t m told =
    Good (module_interface (module_shows (setting_of a t) t m) m told)
    (fragment_of (cores_of m) (without_cores m) (main_type m told))

-- by its text, of which there is none where it is too long
pub data Made (a : Around) (path : List ℕ) : Option (List ℕ) → Value → Type 0 where
  too_long : Made a path None (bad path (too_large ∷ []))
  unread : {text : List ℕ} {f : lexed.Fault} → HasTextFault text f
      → Made a path (Some text) (bad path (text_finding f ∷ []))
  misplaced : {text : List ℕ} {t : tree.Module} {f : Finding} {fs : List Finding} → Spells text t
      → IsInOrder (head_faults a t.head) (f ∷ fs) → Made a path (Some text) (bad path (f ∷ fs))
  misnamed : {text : List ℕ} {t : tree.Module} {m : Module} {f : Finding} {fs : List Finding} → Means a text t m
      → IsInOrder (name_faults a t m) (f ∷ fs) → Made a path (Some text) (bad path (f ∷ fs))
  incomplete : {text : List ℕ} {t : tree.Module} {m : Module} {f : Finding} {fs : List Finding} → Means a text t m
      → name_faults a t m ≡ [] → IsInOrder (lacking a m) (f ∷ fs) → Made a path (Some text) (bad path (f ∷ fs))
  mistyped : {text : List ℕ} {t : tree.Module} {m : Module} {code : Code} {place : Pos} {detail : Name}
      → IsNamed a text t m → Refused m (known_by a.interfaces) root code place detail
      → Made a path (Some text) (bad path (type_finding code place detail ∷ []))
  uncovered : {text : List ℕ} {t : tree.Module} {m : Module} {told : Schemes} {f : Finding} {fs : List Finding}
      → IsTyped a text t m told → IsInOrder (patterns.module_faults m) (f ∷ fs)
      → Made a path (Some text) (bad path (f ∷ fs))
  fine : {text : List ℕ} {t : tree.Module} {m : Module} {told : Schemes} → IsTyped a text t m told
      → patterns.module_faults m ≡ [] → Made a path (Some text) (good a t m told)
