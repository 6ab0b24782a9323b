-- A name is the same as itself.
use Rattle.std.proofs.Common.{◌≡◌, true, refl, ap, ◌∙◌}
use Rattle.std.specs.Prelude.{◌&&◌}
use Rattle.std.proofs.lemmas.Slice.Eq.{bytes_eq-Decides}
use Rattle.elm_canon.specs.Names.{Name, same_name, same_ref}
use Rattle.elm_canon.specs.declared.reference.Ref.{Ref}
use Rattle.elm_canon.specs.declared.reference.Ref.TheVariants.{Local, Top}

pub name_itself : (x : Name) → same_name x x ≡ true
name_itself x = (bytes_eq-Decides x x).1 refl

pub ref_itself : (r : Ref) → same_ref r r ≡ true
ref_itself (Local x) = name_itself x
ref_itself (Top m x) = ap (λ b. b && same_name x x) (name_itself m) ∙ name_itself x
