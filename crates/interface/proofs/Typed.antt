-- Types of declarations are read by the types of their steps.
use Rattle.std.proofs.Common.{◌≡◌, ℕ, List, Option, Some, None, refl}
use Rattle.elm_canon.specs.Tree.{Annotation, annotations_of}
use Rattle.interface.specs.declared.step.Step.{Step}
use Rattle.interface.specs.Formats.{◌>>=◌}
use Rattle.interface.specs.Steps.{built, only_one}
use Rattle.interface.specs.Text.{steps_format, annotation_format, annotations_format}
use Rattle.interface.specs.Reading.{types_read}

abbrev with_rest : {B : Type 0} → List ℕ → B → Option (B × List ℕ)
with_rest rest b = Some (b, rest)

regrouped : {B : Type 0} (make : List Annotation → Option B) (o : Option (List Annotation)) (rest : List ℕ)
    → ((o >>= make) >>= with_rest rest) ≡ ((o >>= with_rest rest) >>= λ (x : List Annotation × List ℕ). make x.0 >>= with_rest x.1)
regrouped make None rest = refl
regrouped make (Some ts) rest = refl

read_by_types : {B : Type 0} (make : List Annotation → Option B) (r : Option (List Step × List ℕ))
    → (r >>= λ (a : List Step × List ℕ). (built a.0 >>= make) >>= with_rest a.1)
    ≡ ((r >>= λ (a : List Step × List ℕ). built a.0 >>= with_rest a.1) >>= λ (x : List Annotation × List ℕ). make x.0 >>= with_rest x.1)
read_by_types make None = refl
read_by_types make (Some a) = regrouped make (built a.0) a.1

pub annotation_read : (bs : List ℕ) → annotation_format.get bs ≡ (types_read bs >>= λ x. only_one x.0 >>= λ t. Some (t, x.1))
unfolding annotation_format types_read
annotation_read bs = read_by_types only_one (steps_format.get bs)

pub annotations_read : (bs : List ℕ) → annotations_format.get bs ≡ (types_read bs >>= λ x. Some (annotations_of x.0, x.1))
unfolding annotations_format types_read
annotations_read bs = read_by_types (λ (ts : List Annotation). Some (annotations_of ts)) (steps_format.get bs)
