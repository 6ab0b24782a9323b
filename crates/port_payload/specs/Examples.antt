-- The types of a few programs, worked out.
use Rattle.std.specs.Prelude.{◌≡◌, ℕ, [], ◌∷◌, codes}
use Rattle.elm_canon.specs.Tree.{TextPayload, RecordPayload, IntPayload, MorePayloadField, NoPayloadField}
use Rattle.elm_canon.specs.Tree.{MaybePayload}
use Rattle.elm_meaning.specs.Run.{AnyFlags, FlagsOf}
use Rattle.elm_type.specs.Types.{ElmType, Record, MoreField, NoField, Closed, Leaf, Free, Scheme, variable, named}
use Rattle.elm_type.specs.Types.{tuple}
use Rattle.elm_type.specs.Types.{function, int_type, string_type}
use Rattle.port_payload.specs.Entry.{entry_type, text_of, IsProgram, HasFlags, IsNoProgram}

abbrev pub scheme : ElmType (Leaf ℕ) → Scheme
scheme t = record { type = t; kinds = [] }

abbrev pub a : ElmType (Leaf ℕ)
a = variable (Free 0)

abbrev pub b : ElmType (Leaf ℕ)
b = variable (Free 1)

abbrev pub program : ElmType (Leaf ℕ) → Scheme
program flags = scheme (named (codes "Platform") (codes "Program") (flags ∷ a ∷ b ∷ []))

-- Program () model msg
abbrev pub Unit_flags : Type 0
Unit_flags = entry_type (program (tuple [])) ≡ IsProgram AnyFlags

-- Program { x : Maybe Int, y : String } model msg
abbrev pub Record_flags : Type 0
Record_flags =
    entry_type (program (Record (MoreField (codes "x") (named (codes "Maybe") (codes "Maybe") (int_type ∷ []))
    (MoreField (codes "y") string_type NoField)) Closed))
    ≡ IsProgram (FlagsOf (RecordPayload (MorePayloadField (codes "x") (MaybePayload IntPayload)
    (MorePayloadField (codes "y") TextPayload NoPayloadField))))

-- Program (a -> b) model msg
abbrev pub Function_flags : Type 0
Function_flags = entry_type (program (function a b)) ≡ HasFlags (text_of [] (function a b))

-- Program flags model msg
abbrev pub Variable_flags : Type 0
Variable_flags = entry_type (program b) ≡ HasFlags (text_of [] b)

abbrev pub No_program : Type 0
No_program = entry_type (scheme (function int_type a)) ≡ IsNoProgram (text_of [] (function int_type a))
