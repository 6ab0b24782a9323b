-- Types that can be written into a store.
use Rattle.std.proofs.Common.{◌≡◌, List, [], ◌∷◌, Bool, true, false, cond, Option, Some, None, map, refl}
use Rattle.std.proofs.Common.{subst}
use Rattle.std.specs.Prelude.{option_map}
use Rattle.std.specs.List.{AllByRecursion}
use Rattle.std.specs.Map.{lookup}
use Rattle.std.specs.Str.{bytes_eq}
use Rattle.elm_canon.specs.Names.{same_name}
use Rattle.elm_canon.specs.Tree.{Annotation}
use Rattle.elm_type.specs.Types.{Scheme}
use Rattle.type_items.specs.Annotations.{annotation_scheme, annotation_type, kind_of, variables_of}
use Rattle.type_items.specs.Modules.{Annotated, declared}
use Rattle.infer_steps.specs.Ready.{IsWritten}
use Rattle.infer_types.specs.Fixing.{IsAnnotation, numbered}
use Rattle.infer_types.specs.Once.{FieldsOnce}
use Rattle.infer_types.specs.Top.{KeptIsScheme, KeptIsWritten}
use Rattle.infer.specs.Known.{offered}
use Rattle.infer.specs.Laws.{OwnAreWritten, NoneAreWritten, OfferedAreWritten}
use Rattle.infer.proofs.InferKnownLooking.{of_found}

abbrev Writes : Scheme → Type 0
Writes s = IsWritten s.kinds s

module _ (kept : KeptIsScheme) (written : KeptIsWritten) where
  pub annotation_written : (t : Annotation) → FieldsOnce t → IsWritten (annotation_scheme t).kinds (annotation_scheme t)
  annotation_written t once =
      let xs = variables_of t in
      let ks = map (kind_of t) xs in
      let u = annotation_type (numbered xs) t in
      let is : IsAnnotation t xs ks u = record { names = refl; kinds = refl; type = refl; once = once } in
      subst Writes (kept t xs ks u is) (written t xs ks u is)

  all_written : (ds : List Annotated) → AllByRecursion (λ (d : Annotated). FieldsOnce d.1) ds
      → AllByRecursion (λ (d : Annotated). Writes (annotation_scheme d.1)) ds
  all_written [] h = tt
  all_written (d ∷ ds) h = (annotation_written d.1 h.0, all_written ds h.1)

  pub own_written : OwnAreWritten
  own_written module_ env once others m x s e = by (bytes_eq m module_.name) e
    where
      found : (o : Option Annotation) → lookup (bytes_eq x) (declared module_) ≡ o
          → option_map annotation_scheme o ≡ Some s → Writes s
      found None h e = absurd cc
      found (Some t) h e =
          let same : annotation_scheme t ≡ s = cc in
          subst Writes same
          (of_found (bytes_eq x) (λ (t : Annotation). Writes (annotation_scheme t)) (declared module_) t
          (all_written (declared module_) once) h)

      by : (b : Bool) → cond b (option_map annotation_scheme (lookup (bytes_eq x) (declared module_)))
          (env m x) ≡ Some s
          → Writes s
      by true e = found (lookup (bytes_eq x) (declared module_)) refl e
      by false e = others m x s e

pub none_written : NoneAreWritten
none_written m x s e = absurd cc

pub offered_written : OfferedAreWritten
offered_written home i env written others m x s e = by (same_name home m) e
  where
    by : (b : Bool) → cond b (lookup (bytes_eq x) (offered home i)) (env m x) ≡ Some s → Writes s
    by true e = of_found (bytes_eq x) Writes (offered home i) s written e
    by false e = others m x s e
