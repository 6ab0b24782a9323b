-- Each instance of the types of a function of the fixed JavaScript text is one that it has.
use Rattle.std.proofs.Common.{◌≡◌, ℕ, [], ◌∷◌, true, inl, inr, refl, sym, subst}
use Rattle.elm_meaning.specs.Functions.{Primitive, Core}
use Rattle.elm_meaning.specs.Functions as primitives
use Rattle.elm_type.specs.Types.{Free, Scheme, variable, int_type, char_type, string_type, any_kind}
use Rattle.elm_type.specs.Classes.{Ground, meets}
use Rattle.elm_type.specs.Rows.{substitute}
use Rattle.elm_type.specs.declared.class.Class.TheVariants.{Comparable}
use Rattle.typed_values.specs.Frames.{Frame, Stands, Chosen, ground_instance, instance_leaf}
use Rattle.typed_values.specs.World.{World, Among, Knows, IsPrimitive}
use Rattle.typed_values.proofs.Keeping.{and_left}
use Rattle.typed_values.proofs.Rows.{extend_none}
use Rattle.program_safety.specs.Primitives.{plain, of_kind, comparable, PrimitivesHaveTheirTypes}

abbrev Has : World → Primitive → Scheme → Type 0
Has w p s = (f : Frame) (choice : ℕ → Ground) → Stands f → Chosen s choice → Knows w (Core p) [] (ground_instance choice f s)

one : (P : Scheme → Type 0) (a : Scheme) → P a → (s : Scheme) → Among s (a ∷ []) → P s
one P a h s (inl e) = subst P (sym e) h
one P a h s (inr e) = absurd e

two : (P : Scheme → Type 0) (a b : Scheme) → P a → P b → (s : Scheme) → Among s (a ∷ b ∷ []) → P s
two P a b h k s (inl e) = subst P (sym e) h
two P a b h k s (inr e) = one P b k s e

ints : (w : World) (p : Primitive) → IsPrimitive p (int_type ∷ int_type ∷ []) int_type → Has w p (plain (int_type ∷ int_type ∷ []) int_type)
ints w p is f choice stands chosen = record { next = int_type; later = int_type ∷ []; result = int_type; takes = is; is = refl }

pub each_knows : PrimitivesHaveTheirTypes
each_knows w primitives.Crash =
    one (Has w primitives.Crash) (of_kind any_kind (string_type ∷ []) (variable (Free 0)))
    (λ f choice stands chosen. record { next = string_type; later = []; result = substitute (instance_leaf choice f) (variable (Free 0)); takes = refl; is = refl })
each_knows w primitives.BitNot =
    one (Has w primitives.BitNot) (plain (int_type ∷ []) int_type)
    (λ f choice stands chosen. record { next = int_type; later = []; result = int_type; takes = (refl, refl); is = refl })
each_knows w primitives.FromInt =
    one (Has w primitives.FromInt) (plain (int_type ∷ []) string_type)
    (λ f choice stands chosen. record { next = int_type; later = []; result = string_type; takes = (refl, refl); is = refl })
each_knows w primitives.Length =
    one (Has w primitives.Length) (plain (string_type ∷ []) int_type)
    (λ f choice stands chosen. record { next = string_type; later = []; result = int_type; takes = (refl, refl); is = refl })
each_knows w primitives.UnitAt =
    two (Has w primitives.UnitAt) (plain (int_type ∷ string_type ∷ []) int_type) (plain (int_type ∷ char_type ∷ []) int_type)
    (λ f choice stands chosen. record { next = int_type; later = string_type ∷ []; result = int_type; takes = (inl refl, refl); is = refl })
    (λ f choice stands chosen. record { next = int_type; later = char_type ∷ []; result = int_type; takes = (inr refl, refl); is = refl })
each_knows w primitives.FromUnit =
    one (Has w primitives.FromUnit) (plain (int_type ∷ []) string_type)
    (λ f choice stands chosen. record { next = int_type; later = []; result = string_type; takes = (refl, refl); is = refl })
each_knows w primitives.Slice =
    one (Has w primitives.Slice) (plain (int_type ∷ int_type ∷ string_type ∷ []) string_type)
    (λ f choice stands chosen. record { next = int_type; later = int_type ∷ string_type ∷ []; result = string_type; takes = (refl, refl); is = refl })
each_knows w primitives.Find =
    one (Has w primitives.Find) (plain (string_type ∷ int_type ∷ string_type ∷ []) int_type)
    (λ f choice stands chosen. record { next = string_type; later = int_type ∷ string_type ∷ []; result = int_type; takes = (refl, refl); is = refl })
each_knows w primitives.Same =
    two (Has w primitives.Same) (plain (char_type ∷ []) string_type) (plain (string_type ∷ []) char_type)
    (λ f choice stands chosen. record { next = char_type; later = []; result = string_type; takes = inl (refl, refl); is = refl })
    (λ f choice stands chosen. record { next = string_type; later = []; result = char_type; takes = inr (refl, refl); is = refl })
each_knows w primitives.Compare =
    one (Has w primitives.Compare) (of_kind comparable (variable (Free 0) ∷ variable (Free 0) ∷ []) int_type) (λ f choice stands chosen.
    record {
      next = substitute (instance_leaf choice f) (variable (Free 0));
      later = substitute (instance_leaf choice f) (variable (Free 0)) ∷ [];
      result = int_type;
      takes = (
        substitute (instance_leaf choice f) (variable (Free 0)),
        refl,
        subst (λ t. meets Comparable t ≡ true) (sym (extend_none (choice 0))) (and_left (meets Comparable (choice 0)) true (chosen.kinds 0)),
        refl,
      );
      is = refl;
    })
each_knows w primitives.Remainder = one (Has w primitives.Remainder) (plain (int_type ∷ int_type ∷ []) int_type) (ints w primitives.Remainder (refl, refl))
each_knows w primitives.Modulo = one (Has w primitives.Modulo) (plain (int_type ∷ int_type ∷ []) int_type) (ints w primitives.Modulo (refl, refl))
each_knows w primitives.BitAnd = one (Has w primitives.BitAnd) (plain (int_type ∷ int_type ∷ []) int_type) (ints w primitives.BitAnd (refl, refl))
each_knows w primitives.BitOr = one (Has w primitives.BitOr) (plain (int_type ∷ int_type ∷ []) int_type) (ints w primitives.BitOr (refl, refl))
each_knows w primitives.BitXor = one (Has w primitives.BitXor) (plain (int_type ∷ int_type ∷ []) int_type) (ints w primitives.BitXor (refl, refl))
each_knows w primitives.ShiftLeft = one (Has w primitives.ShiftLeft) (plain (int_type ∷ int_type ∷ []) int_type) (ints w primitives.ShiftLeft (refl, refl))
each_knows w primitives.ShiftRight = one (Has w primitives.ShiftRight) (plain (int_type ∷ int_type ∷ []) int_type) (ints w primitives.ShiftRight (refl, refl))
each_knows w primitives.ShiftRightZero = one (Has w primitives.ShiftRightZero) (plain (int_type ∷ int_type ∷ []) int_type) (ints w primitives.ShiftRightZero (refl, refl))
