-- Annotations that stand inside no others: what they declare.
use Rattle.std.specs.Prelude.{◌≡◌, ℕ, List, []}
use Rattle.elm_canon.specs.Tree.{Annotation}
use Rattle.elm_type.specs.Types.{Name, ElmType, Leaf, Kind, Scheme}
use Rattle.type_items.specs.Annotations.{scheme_inside, annotation_scheme}
use Rattle.type_walks.specs.Links.{Links}
use Rattle.infer_steps.specs.Ready.{IsWritten}
use Rattle.infer_steps.specs.Means.{IsDeclared}
use Rattle.infer_types.specs.Fixing.{IsAnnotation}

-- the scheme as it is kept
abbrev pub kept : List Kind → ElmType (Leaf ℕ) → Scheme
kept ks u = record { type = u; kinds = ks }

-- it is the scheme of the annotation
abbrev pub KeptIsScheme : Type 0
KeptIsScheme =
    (t : Annotation) (xs : List Name) (ks : List Kind) (u : ElmType (Leaf ℕ)) → IsAnnotation t xs ks u
    → kept ks u ≡ annotation_scheme t

-- it can be written into a store
abbrev pub KeptIsWritten : Type 0
KeptIsWritten =
    (t : Annotation) (xs : List Name) (ks : List Kind) (u : ElmType (Leaf ℕ)) → IsAnnotation t xs ks u
    → IsWritten ks (kept ks u)

-- a name with the annotation has its instances
abbrev pub KeptIsDeclared : Type 0
KeptIsDeclared =
    (links : Links) (t : Annotation) (xs : List Name) (ks : List Kind) (u : ElmType (Leaf ℕ)) → IsAnnotation t xs ks u
    → IsDeclared links (record { scheme = kept ks u; outer = [] }) (scheme_inside [] t)
