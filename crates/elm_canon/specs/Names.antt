-- Names, and what they mean. A name is the list of its UTF-16 units.
use Rattle.std.specs.Prelude.{ℕ, List, Bool, false, ◌&&◌}
use Rattle.std.specs.Cmp.Lexicographic.{pointwise}
use Rattle.std.specs.Prelude.{nat_eq}
use Rattle.elm_canon.specs.declared.reference.Ref.{Ref}
use Rattle.elm_canon.specs.declared.reference.Ref.TheVariants.{Local, Top}

abbrev pub Name : Type 0
Name = List ℕ

abbrev pub same_name : Name → Name → Bool
same_name = pointwise nat_eq

-- whether two names mean the same thing
abbrev pub same_ref : Ref → Ref → Bool
same_ref (Local x) (Local y) = same_name x y
same_ref (Local x) (Top n y) = false
same_ref (Top m x) (Local y) = false
same_ref (Top m x) (Top n y) = same_name m n && same_name x y
