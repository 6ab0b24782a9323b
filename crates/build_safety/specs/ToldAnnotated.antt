-- Names with an annotation in a module whose types were inferred.
use Rattle.std.specs.Prelude.{◌≡◌, true, Some}
use Rattle.elm_canon.specs.declared.reference.Ref.{Ref}
use Rattle.elm_canon.specs.Tree.{Annotation}
use Rattle.elm_canon.specs.Proper.{among}
use Rattle.elm_type.specs.Schemes.{rename}
use Rattle.type_items.specs.Annotations.{annotation_scheme}
use Rattle.type_items.specs.Definitions.{Definition}
use Rattle.type_items.specs.Expressions.{definitions}
use Rattle.type_items.specs.Inferred.{Schemes, Inferred}
use Rattle.type_items.specs.Modules.{module_definitions}
use Rattle.type_items.specs.Scopes.{Known, Instance, entry_of}
use Rattle.typed_values.specs.World.{Among}
use Rattle.typed_values.specs.Simple.{AreApart}
use Rattle.type_safety.specs.Modules.{groups_in, AreTitled, scope_after}
use Rattle.program_safety.specs.Parts.{Part}

-- the module has its annotation's scheme for it, and inference tells that
pub record IsAnnotated (told : Known) (t : Part) (schemes : Schemes) (y : Ref) (a : Annotation) : Type 0 where
  pub entry : entry_of (scope_after t.module_ told t.place) y ≡ Some (Instance (annotation_scheme a))
  pub scheme : schemes y ≡ Some (rename (annotation_scheme a))

abbrev pub AnnotatedAreTold : Type 0
AnnotatedAreTold =
    (told : Known) (t : Part) (schemes : Schemes) (d : Definition) (a : Annotation) (y : Ref)
    → Inferred t.module_ told t.place schemes → AreTitled (groups_in t.module_.declarations)
    → AreApart (definitions (groups_in t.module_.declarations)) → Among d (module_definitions t.module_)
    → among y d.names ≡ true → d.annotation ≡ Some a → IsAnnotated told t schemes y a
