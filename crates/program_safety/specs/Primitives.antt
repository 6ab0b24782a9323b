-- The types that the core's modules give the functions of the fixed JavaScript text.
use Rattle.std.specs.Prelude.{ℕ, List, [], ◌∷◌}
use Rattle.elm_meaning.specs.Functions.{Primitive, Core}
use Rattle.elm_meaning.specs.Functions as primitives
use Rattle.elm_type.specs.Types.{ElmType, Leaf, Free, Scheme, Kind, variable, functions, any_kind, int_type, char_type}
use Rattle.elm_type.specs.Types.{string_type}
use Rattle.elm_type.specs.Classes.{Ground}
use Rattle.elm_type.specs.declared.class.Class.TheVariants.{Comparable}
use Rattle.typed_values.specs.Frames.{Frame, Stands, Chosen, ground_instance}
use Rattle.typed_values.specs.World.{World, Among, Knows}

-- a type without variables
abbrev pub plain : List (ElmType (Leaf ℕ)) → ElmType (Leaf ℕ) → Scheme
plain ts t = record { type = functions ts t; kinds = [] }

abbrev pub of_kind : Kind → List (ElmType (Leaf ℕ)) → ElmType (Leaf ℕ) → Scheme
of_kind k ts t = record { type = functions ts t; kinds = k ∷ [] }

abbrev pub comparable : Kind
comparable = record { class = Comparable; lacks = [] }

-- a type of each: of two of them, which two modules have, two
abbrev pub types_of_primitive : Primitive → List Scheme
types_of_primitive primitives.Crash = of_kind any_kind (string_type ∷ []) (variable (Free 0)) ∷ []
types_of_primitive primitives.BitNot = plain (int_type ∷ []) int_type ∷ []
types_of_primitive primitives.FromInt = plain (int_type ∷ []) string_type ∷ []
types_of_primitive primitives.Length = plain (string_type ∷ []) int_type ∷ []
types_of_primitive primitives.UnitAt =
    plain (int_type ∷ string_type ∷ []) int_type ∷ plain (int_type ∷ char_type ∷ []) int_type ∷ []
types_of_primitive primitives.FromUnit = plain (int_type ∷ []) string_type ∷ []
types_of_primitive primitives.Slice = plain (int_type ∷ int_type ∷ string_type ∷ []) string_type ∷ []
types_of_primitive primitives.Find = plain (string_type ∷ int_type ∷ string_type ∷ []) int_type ∷ []
types_of_primitive primitives.Same = plain (char_type ∷ []) string_type ∷ plain (string_type ∷ []) char_type ∷ []
types_of_primitive primitives.Compare =
    of_kind comparable (variable (Free 0) ∷ variable (Free 0) ∷ []) int_type ∷ []
types_of_primitive _ = plain (int_type ∷ int_type ∷ []) int_type ∷ []

-- Each instance of these types is one that the function has.
abbrev pub PrimitivesHaveTheirTypes : Type 0
PrimitivesHaveTheirTypes =
    (w : World) (p : Primitive) (s : Scheme) → Among s (types_of_primitive p)
    → (f : Frame) (choice : ℕ → Ground) → Stands f → Chosen s choice → Knows w (Core p) [] (ground_instance choice f s)
