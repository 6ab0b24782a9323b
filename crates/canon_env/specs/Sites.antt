-- Sites: what a module's text says that can be wrong, each with what is in scope there; and the faults at each, one
-- condition for each code. No condition speaks of another site or of an order. (Elm guide: modules, types, pattern
-- matching; Elm 0.19.1: names.)
use Rattle.std.specs.Prelude.{ℕ, List, [], ◌∷◌, ◌++◌, Bool, true, false, not, ◌&&◌, ◌||◌, if◌then◌else◌, Option}
use Rattle.std.specs.Prelude.{Some, None, is_some, map, flat_map, nat_eq}
use Rattle.elm_base.specs.declared.fault.Code.{Code}
use Rattle.elm_base.specs.declared.fault.Code.TheVariants.{Shadowing, UnknownType, TypeArity, UnknownValue}
use Rattle.elm_base.specs.declared.fault.Code.TheVariants.{UnknownConstructor, ConstructorArity, DuplicateField}
use Rattle.elm_base.specs.declared.fault.Code.TheVariants.{DuplicateBinding, Ambiguous, BadExtension, RecursiveValue}
use Rattle.elm_base.specs.declared.fault.Code.TheVariants.{UnknownOperator}
use Rattle.std.specs.Str.{encode_utf8_all}
use Rattle.std.specs.Char.Utf16.{utf16_lossy_chars}
use Rattle.elm_canon.specs.Names.{Name}
use Rattle.elm_canon.specs.Tree.{Annotations}
use Rattle.elm_tree.specs.Tree.{Pos, Word, Long, written}
use Rattle.canon_env.specs.Imports.{name_of}
use Rattle.canon_env.specs.Exposing.{is_among, is_operator}
use Rattle.canon_env.specs.Exposing as exposing_part
use Rattle.canon_env.specs.Found.{Found, Nothing, One, Several, find}
use Rattle.canon_env.specs.Shown.{TypeMeaning, MakerMeaning, OfUnion, OfRecord}
use Rattle.canon_env.specs.declared.found.Meant.{Meant}
use Rattle.canon_env.specs.declared.finding.Finding.{Finding}
use Rattle.canon_env.specs.Naming.{World, own_name, value_found, type_found, maker_found}
use Rattle.canon_env.specs.Locals.{Locals}
use Rattle.canon_env.specs.Expanding.{has_arity, bad_of_alias, least_of}

-- a definition of a block: whether it is a function, where it begins, and its name, or the first of those that it binds
pub record Defined : Type 0 where
  pub is_function : Bool
  pub place : Pos
  pub name : List ℕ

pub data Site : Type 0 where
  -- a value, a constructor, an operator, a type with its arguments
  ValueUse : Locals → Long → Site
  MakerUse : Long → Site
  OperatorUse : Word → Site
  TypeUse : Long → Annotations → Site
  -- a constructor with so many patterns
  MakerMatch : Long → ℕ → Site
  -- a local name is bound where these are in scope
  Binding : Locals → Word → Site
  -- the names of one pattern list or `let`, and those of the fields of one record
  BoundTogether : List Word → Site
  FieldsTogether : List Word → Site
  -- a definition, and whether it reaches itself by uses
  Reaching : Bool → Defined → Site

-- ---- meanings of uses

pub data ValueMeaning : Type 0 where
  LocalValue : Pos → ValueMeaning
  Elsewhere : Found (Unit {0}) → ValueMeaning

-- a name without a qualifier is a local one first
abbrev pub local_or : Option Pos → Found (Unit {0}) → ValueMeaning
local_or None found = Elsewhere found
local_or (Some place) found = LocalValue place

abbrev pub is_unqualified : Long → Bool
is_unqualified x = is_empty x.qualifier
  where
    is_empty : List ℕ → Bool
    is_empty [] = true
    is_empty (c ∷ cs) = false

abbrev pub value_meaning : World → Locals → Long → ValueMeaning
value_meaning w locals x = local_or (if is_unqualified x then locals (own_name x) else None) (value_found w x)

-- ---- faults

-- the words whose name stands before
abbrev pub repeats_from : List Name → List Word → List Word
repeats_from before [] = []
repeats_from before (w ∷ ws) =
    if is_among (name_of w) before then w ∷ repeats_from (name_of w ∷ before) ws else repeats_from (name_of w ∷ before) ws

abbrev pub repeats : List Word → List Word
repeats ws = repeats_from [] ws

abbrev pub at_word : Code → Word → Finding
at_word code w = exposing_part.finding code w

abbrev pub finding : Code → Pos → List ℕ → Finding
finding code place detail = record { code = code; place = place; detail = detail }

abbrev pub at_long : Code → Long → Finding
at_long code x = finding code x.place (written x)

-- in UTF-8
abbrev pub utf8 : Name → List ℕ
utf8 x = encode_utf8_all (utf16_lossy_chars x)

-- nothing has that name, or imports give it two meanings
abbrev pub unless_one : {A : Type 0} → Code → Long → Found A → (A → List Finding) → List Finding
unless_one unknown x Nothing more = at_long unknown x ∷ []
unless_one unknown x Several more = at_long Ambiguous x ∷ []
unless_one unknown x (One r) more = more r.meaning

abbrev pub value_faults : Long → ValueMeaning → List Finding
value_faults x (LocalValue place) = []
value_faults x (Elsewhere found) = unless_one UnknownValue x found (λ _. [])

-- a type has as many arguments as parameters; what its alias extends may be extended
abbrev pub extension_faults : Long → List Name → List Finding
extension_faults x [] = []
extension_faults x (f ∷ fs) = finding BadExtension x.place (utf8 (least_of f fs)) ∷ []

abbrev pub type_faults : Long → Annotations → TypeMeaning → List Finding
type_faults x ts m = if has_arity m ts then extension_faults x (bad_of_alias m ts m.body) else (at_long TypeArity x ∷ [])

-- a pattern has all fields of a constructor; the function of a record's alias is none
abbrev pub match_faults : Long → ℕ → MakerMeaning → List Finding
match_faults x n (OfUnion u c) = if nat_eq n c.arity then [] else (at_long ConstructorArity x ∷ [])
match_faults x n (OfRecord fields) = at_long UnknownConstructor x ∷ []

-- a definition that is not a function may not reach itself
abbrev pub recursion_faults : Bool → Defined → List Finding
recursion_faults reaches d =
    if reaches && not d.is_function then finding RecursiveValue d.place d.name ∷ [] else []

abbrev pub is_found : {A : Type 0} → Found A → Bool
is_found Nothing = false
is_found (One m) = true
is_found Several = true

-- a local name, or one of the module's own, which are written without a qualifier
abbrev pub is_in_scope : World → Locals → Name → Bool
is_in_scope w locals x = is_some (locals x) || is_found (find w.own.values [] x)

-- the faults at a site
unfoldable pub faults_at : World → Site → List Finding
faults_at w (ValueUse locals x) = value_faults x (value_meaning w locals x)
faults_at w (MakerUse x) = unless_one UnknownConstructor x (maker_found w x) (λ _. [])
faults_at w (OperatorUse op) = if is_operator op.text then [] else (at_word UnknownOperator op ∷ [])
faults_at w (TypeUse x ts) = unless_one UnknownType x (type_found w x) (type_faults x ts)
faults_at w (MakerMatch x n) = unless_one UnknownConstructor x (maker_found w x) (match_faults x n)
faults_at w (Binding locals x) = if is_in_scope w locals (name_of x) then (at_word Shadowing x ∷ []) else []
faults_at w (BoundTogether names) = map (at_word DuplicateBinding) (repeats names)
faults_at w (FieldsTogether names) = map (at_word DuplicateField) (repeats names)
faults_at w (Reaching reaches d) = recursion_faults reaches d
