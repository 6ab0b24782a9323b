-- The program that a link makes of the modules of a build: the functions that no text can say have their types, and
-- what is bound before a module is of other modules, or one of these functions.
use Rattle.std.specs.Prelude.{◌≡◌, List, [], ◌∷◌, Bool, true, ◌⊎◌}
use Rattle.elm_canon.specs.declared.reference.Ref.{Ref}
use Rattle.typed_values.specs.World.{World}
use Rattle.program_safety.specs.Parts.{ArePrimitives, IsNotOf, IsEarlier, bound_with, primitive_names}
use Rattle.type_items.specs.Scopes.{Known}
use Rattle.build_safety.specs.Compiled.{Compiled, AreModules}
use Rattle.build_safety.specs.Told.{told}
use Rattle.build_safety.specs.Placed.{Piece, piece_part}
use Rattle.build_safety.specs.LinkedPieces.{linked_pieces, linked_program}

abbrev pub IsElsewhere : Known → (Ref → Bool) → Piece → Type 0
IsElsewhere known bound p =
    (y : Ref) → bound y ≡ true → IsNotOf p.0.resolved.whole.name y ⊎ IsEarlier known (piece_part p) y

-- of each piece, after those before it
abbrev pub AreElsewhere : Known → (Ref → Bool) → List Piece → Type 0
AreElsewhere known bound [] = Unit {0}
AreElsewhere known bound (p ∷ ps) = IsElsewhere known bound p × AreElsewhere known (bound_with p.1 bound) ps

abbrev pub LinksHavePrimitives : Type 0
LinksHavePrimitives =
    (w : World) (cs : List Compiled) (entry : Compiled) → AreModules cs
    → ArePrimitives w (told cs) (linked_program cs entry).primitives

abbrev pub LinksAreElsewhere : Type 0
LinksAreElsewhere =
    (cs : List Compiled) (entry : Compiled) → AreModules cs
    → AreElsewhere (told cs) (primitive_names (linked_program cs entry).primitives)
    (linked_pieces cs entry.resolved.whole.name)
