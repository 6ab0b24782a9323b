-- What was told stays told, where more is told.
use Rattle.std.proofs.Common.{ℕ, List, [], ◌∷◌, Option, Some, None}
use Rattle.std.specs.List.{AllByRecursion, Contains}
use Rattle.elm_canon.specs.declared.reference.Ref.{Ref}
use Rattle.elm_canon.specs.Tree.{Annotation}
use Rattle.elm_type.specs.Types.{Scheme}
use Rattle.elm_type.specs.Schemes.{rename}
use Rattle.type_items.specs.Items.{Place, child, Wanted}
use Rattle.type_items.specs.Scopes.{Entries, Known, one_type}
use Rattle.type_items.specs.Annotations.{annotation_scheme}
use Rattle.type_items.specs.Definitions.{Definition, group_types}
use Rattle.type_items.specs.Inferred.{first_annotation}
use Rattle.type_constructs.specs.Lasting.{Telling}
use Rattle.infer.specs.Modules.{root}
use Rattle.infer.specs.Told.{Typed}
use Rattle.infer.specs.Middle.{HasTelling, NameIsTold, GroupHas, GroupsHave}

module _ (ts ts' : List Telling) (ms ms' : List Typed) (more : (t : Telling) → Contains ts t → Contains ts' t)
    (also : (m : Typed) → Contains ms m → Contains ms' m) where
  one_still : (x : Ref) (us : List Wanted) → AllByRecursion (HasTelling ts ms x) us
      → AllByRecursion (HasTelling ts' ms' x) us
  one_still x [] h = tt
  one_still x (u ∷ us) h = (
    record {
      telling = h.0.telling;
      there = more h.0.telling h.0.there;
      type = h.0.type;
      listed = also (x, rename h.0.telling.1) h.0.listed;
    },
    one_still x us h.1,
  )

  pub names_still : (es : Entries) → AllByRecursion (NameIsTold ts ms) es → AllByRecursion (NameIsTold ts' ms') es
  names_still [] h = tt
  names_still (e ∷ es) h = (one_still e.0 (one_type e.1) h.0, names_still es h.1)

  written_still : (s : Scheme) (xs : List Ref) → AllByRecursion (λ x. Contains ms (x, s)) xs
      → AllByRecursion (λ x. Contains ms' (x, s)) xs
  written_still s [] h = tt
  written_still s (x ∷ xs) h = (also (x, s) h.0, written_still s xs h.1)

  definitions_still : (s : Scheme) (ds : List Definition)
      → AllByRecursion (λ (d : Definition). AllByRecursion (λ x. Contains ms (x, s)) d.names) ds
      → AllByRecursion (λ (d : Definition). AllByRecursion (λ x. Contains ms' (x, s)) d.names) ds
  definitions_still s [] h = tt
  definitions_still s (d ∷ ds) h = (written_still s d.names h.0, definitions_still s ds h.1)

  pub group_still : (known : Known) (q : Place) (o : Option Annotation) (ds : List Definition)
      → GroupHas ts ms known q o ds → GroupHas ts' ms' known q o ds
  group_still known q None ds h = names_still (group_types ds known q) h
  group_still known q (Some a) ds h = definitions_still (rename (annotation_scheme a)) ds h

  pub groups_still : (known : Known) (gs : List (ℕ × List Definition)) → GroupsHave ts ms known gs
      → GroupsHave ts' ms' known gs
  groups_still known [] h = tt
  groups_still known (g ∷ gs) h =
      (group_still known (child root g.0) (first_annotation g.1) g.1 h.0, groups_still known gs h.1)
