-- A module of a program whose types were inferred is a part of it as the law of programs asks, where it is placed there.
use Rattle.std.specs.Prelude.{◌≡◌, Bool, true, ◌⊎◌}
use Rattle.elm_canon.specs.declared.reference.Ref.{Ref}
use Rattle.type_items.specs.Scopes.{Known}
use Rattle.type_items.specs.Modules.{known_in}
use Rattle.type_items.specs.Solutions.{Values}
use Rattle.type_items.specs.Uses.{used_groups}
use Rattle.typed_values.specs.World.{World, KnownIn}
use Rattle.typed_values.specs.Simple.{Without, SimpleGroups}
use Rattle.type_safety.specs.Modules.{groups_in, AreTyped}
use Rattle.program_safety.specs.Parts.{Part, AreSome, IsNotOf, IsEarlier, bound_with, none_but, IsPart}
use Rattle.program_safety.specs.Told.{IsInferred}
use Rattle.told_modules.specs.Names.{HaveNames}

-- What the link and the unions of the program give of it: it has some of the module's declarations, which use what is
-- bound before them or by them; what was bound before is of other modules, or a function of the fixed JavaScript text;
-- and its constructors and patterns are those of the program's unions.
pub record IsPlaced (w : World) (told : Known) (before : Ref → Bool) (t : Part) : Type 0 where
  pub known : KnownIn w (known_in t.module_ told)
  pub some : AreSome t.declared t.module_.declarations
  pub elsewhere : (y : Ref) → before y ≡ true → IsNotOf t.module_.name y ⊎ IsEarlier told t y
  pub given : AreTyped w (known_in t.module_ told) t.declared
  pub simple : SimpleGroups w (groups_in t.declared)
  pub used : Without (none_but (bound_with t.declared before)) (used_groups (groups_in t.declared))

-- with the types that solve what the module asks
abbrev pub InferredAreParts : Type 0
InferredAreParts =
    (w : World) (told : Known) (before : Ref → Bool) (t : Part) → IsInferred told t
    → HaveNames t.module_.name t.declared t.module_.declarations → IsPlaced w told before t
    → (values : Values) × IsPart w told before (record t { values = values })
