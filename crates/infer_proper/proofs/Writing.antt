-- Types that can be written into a store: what interfaces tell, and schemes in order.
use Rattle.std.proofs.Common.{◌≡◌, Option, Some, None, refl, sym, ◌∙◌, subst}
use Rattle.std.specs.List.{AllByRecursion}
use Rattle.std.specs.Str.{bytes_eq}
use Rattle.std.proofs.lemmas.List.{length-map}
use Rattle.elm_canon.specs.Tree.{Annotation}
use Rattle.elm_type.specs.Types.{Scheme, variables}
use Rattle.elm_type.specs.Schemes.{rename}
use Rattle.interface.specs.Interface.{Interface}
use Rattle.elm_type.specs.Order.{kind_in_order, scheme_in_order}
use Rattle.type_items.proofs.Lacked.{same_formed}
use Rattle.type_items.specs.Annotations.{annotation_scheme}
use Rattle.infer_steps.specs.Ready.{IsBelow, IsWritten, AreWritten}
use Rattle.infer_types.specs.Once.{FieldsOnce}
use Rattle.infer_types.proofs.Topmost.{kept_is_scheme, kept_is_written}
use Rattle.infer.proofs.InferKnownLooking.{of_found}
use Rattle.infer.proofs.Writing.{annotation_written}
use Rattle.infer.proofs.InferModulesWritten.{written_renamed}
use Rattle.module_offers.specs.Offers.{Interfaces, offered_types, type_in, known_by}
use Rattle.infer_proper.specs.Sound.{AreSound}

abbrev pub Writes : Scheme → Type 0
Writes s = IsWritten s.kinds s

pub known_written : (interfaces : Interfaces) → AreSound interfaces → AreWritten (known_by interfaces)
known_written interfaces sound m x s e = by (interfaces m) refl e
  where
    by : (o : Option Interface) → interfaces m ≡ o → type_in m o x ≡ Some s → Writes s
    by None h e = absurd cc
    by (Some i) h e = of_found (bytes_eq x) Writes (offered_types m i) s (sound m i h).written e

pub ordered_written : (s : Scheme) → Writes s → Writes (scheme_in_order s)
ordered_written s w = record {
  below = subst (λ n. AllByRecursion (IsBelow n) (variables s.type)) (sym (length-map s.kinds kind_in_order)) w.below;
  formed = same_formed s.kinds s.type ∙ w.formed;
}

-- the scheme of an annotation, and that with its variables in order
pub annotated_written : (t : Annotation) → FieldsOnce t → Writes (annotation_scheme t)
annotated_written t once = annotation_written kept_is_scheme kept_is_written t once

pub renamed_written : (t : Annotation) → FieldsOnce t → Writes (rename (annotation_scheme t))
renamed_written t once = written_renamed (annotation_scheme t) (annotated_written t once)
