-- What the type of a program's `main` says. (Elm guide: JavaScript interop; elm/core 1.0.5: Platform.)
use Rattle.std.specs.Prelude.{ℕ, List, Bool, true, false, if◌then◌else◌, Option, Some, None, codes}
use Rattle.elm_canon.specs.Tree.{Payload}
use Rattle.elm_canon.specs.View.{payload_view}
use Rattle.elm_canon.specs.declared.tree.Payload as tree
use Rattle.elm_meaning.specs.Run.{Flags, AnyFlags, FlagsOf}
use Rattle.elm_type.specs.Types.{ElmType, Made, NoType, MoreType, Leaf, Kind, Scheme}
use Rattle.elm_type.specs.declared.head.Head.TheVariants as head
use Rattle.elm_type.specs.Text.{type_text, utf8}
use Rattle.canon_type.specs.Ports.{is_type}
use Rattle.port_payload.specs.EntryTypePayloads.{flags_payload}
use Rattle.port_payload.specs.declared.entry.EntryType as program

-- a program with these flags; a program that there can be no flags for, by the text of their type; no program, by the
-- text of the type
pub data EntryType : Type 0 where
  IsProgram : Flags → EntryType
  HasFlags : List ℕ → EntryType
  IsNoProgram : List ℕ → EntryType

abbrev pub text_of : List Kind → ElmType (Leaf ℕ) → List ℕ
text_of ks t = utf8 (type_text (record { type = t; kinds = ks }))

abbrev pub is_unit : ElmType (Leaf ℕ) → Bool
is_unit (Made head.Tuple NoType) = true
is_unit _ = false

-- the flags of Program flags model msg
abbrev pub flags_in : ElmType (Leaf ℕ) → Option (ElmType (Leaf ℕ))
flags_in (Made (head.Named m x) (MoreType flags (MoreType model (MoreType msg NoType)))) =
    if is_type (codes "Platform") (codes "Program") m x then Some flags else None
flags_in _ = None

abbrev pub with_payload : List ℕ → Option Payload → EntryType
with_payload text None = HasFlags text
with_payload text (Some p) = IsProgram (FlagsOf p)

-- flags of type () are read from everything
abbrev pub with_flags : List Kind → ElmType (Leaf ℕ) → EntryType
with_flags ks t = if is_unit t then IsProgram AnyFlags else with_payload (text_of ks t) (flags_payload t)

abbrev pub entry_by : Scheme → Option (ElmType (Leaf ℕ)) → EntryType
entry_by s None = IsNoProgram (text_of s.kinds s.type)
entry_by s (Some t) = with_flags s.kinds t

unfoldable pub entry_type : Scheme → EntryType
entry_type s = entry_by s (flags_in s.type)

-- ---- of the program

abbrev pub flags_view : Option tree.Payload → Flags
flags_view None = AnyFlags
flags_view (Some p) = FlagsOf (payload_view p)

abbrev pub entry_view : program.EntryType → EntryType
entry_view (program.EntryType.Program flags) = IsProgram (flags_view flags)
entry_view (program.EntryType.BadFlags text) = HasFlags text.items
entry_view (program.EntryType.NoProgram text) = IsNoProgram text.items
