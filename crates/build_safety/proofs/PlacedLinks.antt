-- What a link takes of each module is placed in the world of the program: `links_placed`.
use Rattle.std.proofs.Common.{◌≡◌, ℕ, ◌+◌, List, [], ◌∷◌, ◌++◌, length, Bool, refl, ◌∙◌, append_assoc}
use Rattle.elm_canon.specs.declared.reference.Ref.{Ref}
use Rattle.link.specs.Reached.{kept}
use Rattle.link.specs.Programs.{declarations_in}
use Rattle.type_items.specs.Modules.{known_in}
use Rattle.typed_values.specs.World.{World, KnownIn}
use Rattle.program_safety.specs.Parts.{bound_with, primitive_names}
use Rattle.build_safety.specs.Compiled.{Compiled}
use Rattle.build_safety.specs.Told.{told}
use Rattle.build_safety.specs.Placed.{ArePlaced}
use Rattle.build_safety.specs.BuildWorlds.{world}
use Rattle.build_safety.proofs.WorldKnown.{modules_known}
use Rattle.build_safety.specs.LinkedPieces.{items, pieces, linked_program, AreLinked}
use Rattle.build_safety.proofs.LinkedPieces.{links_have_pieces}
use Rattle.build_safety.specs.LinkedPrimitives.{AreElsewhere}
use Rattle.build_safety.proofs.LinkedPrimitives.{elsewhere_law}
use Rattle.build_safety.specs.PlacedLinks.{AreGiven, AreSimple, LinksArePlaced}

module _ (w : World) (cs : List Compiled)
    (known : (before : List Compiled) (c : Compiled) (after : List Compiled) → before ++ c ∷ after ≡ cs
    → KnownIn w (known_in c.resolved.whole (told cs))) (test : ℕ → Bool) where
  -- of the modules from one on
  placed_from : (n : ℕ) (before after : List Compiled) (bound : Ref → Bool) → before ++ after ≡ cs →
      AreLinked bound (pieces test n after) → AreElsewhere (told cs) bound (pieces test n after) →
      AreGiven w cs (pieces test n after) → AreSimple w (pieces test n after) →
      ArePlaced w cs bound (pieces test n after)
  placed_from n before [] bound e linked elsewhere given simple = tt
  placed_from n before (c ∷ after) bound e linked elsewhere given simple = (
    record {
      known = known before c after e;
      some = linked.0.some;
      elsewhere = elsewhere.0;
      given = given.0;
      simple = simple.0;
      used = linked.0.used;
    },
    placed_from (n + length (items c)) (before ++ c ∷ []) after
        (bound_with (declarations_in (kept test n (items c))) bound) (append_assoc before (c ∷ []) after ∙ e) linked.1
        elsewhere.1 given.1 simple.1,
  )

pub links_placed : LinksArePlaced
links_placed cs entry outs ins all named given simple =
    placed_from (world cs outs ins) cs (modules_known cs outs ins all).each _ 0 [] cs
    (primitive_names (linked_program cs entry).primitives) refl (links_have_pieces cs entry all named).linked
    (elsewhere_law cs entry all) given simple
