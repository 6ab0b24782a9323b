-- What is said of a bad item, from what the store tells of its variables.
use Rattle.std.specs.Prelude.{◌≡◌, ℕ, [], ◌∷◌, ◌++◌, length, Option, codes}
use Rattle.elm_base.specs.declared.position.Pos.{Pos}
use Rattle.elm_base.specs.declared.fault.Code.{Code}
use Rattle.elm_base.specs.declared.fault.Code.TheVariants.{TypeMismatch, TypeTooLarge}
use Rattle.elm_type.specs.Types.{Name, ElmType, Made, Leaf, Scheme, tuple, types_of}
use Rattle.elm_type.specs.Schemes.{rename}
use Rattle.elm_type.specs.declared.head.Head.TheVariants as head
use Rattle.elm_type.specs.Used.{stem}
use Rattle.type_items.specs.Faults.{part_text}
use Rattle.type_store.specs.Store.{Store}
use Rattle.type_store.specs.Solutions.{Values, Fit, AgreeBelow}
use Rattle.type_store.specs.Shape.{IsStore}
use Rattle.type_walks.specs.Links.{Live, Later}
use Rattle.type_walks.specs.Told.{Told}
use Rattle.type_constructs.specs.Failing.{Same, InClass, Lacks, Keeps, Large, Bad}

-- the store tells the scheme of the variable
pub record Tells (s : Store) (v : ℕ) (scheme : Scheme) : Type 0 where
  pub place : ℕ → ℕ
  pub number : ℕ → Option ℕ
  pub told : Told s v scheme place number

-- a store with one variable more, the tuple of two others
pub record Pairs (s : Store) (v w : ℕ) (s' : Store) (pair : ℕ) : Type 0 where
  pub later : Later s s'
  pub live : Live 0 s' pair
  pub back : (σ : Values) → Fit σ s'
      → Fit σ s × (σ.types pair ≡ Made head.Tuple (types_of (σ.types v ∷ σ.types w ∷ [])))
  pub on : (σ : Values) → Fit σ s → (τ : Values) × Fit τ s' × AgreeBelow (length s) σ τ

-- LEFT /= RIGHT, of two variables: the scheme of their tuple says how the type variables of both are named
pub record SaysPair (s : Store) (v w : ℕ) (text : Name) : Type 0 where
  pub after : Store
  pub pair : ℕ
  pub pairs : Pairs s v w after pair
  pub whole : IsStore after
  pub scheme : Scheme
  pub told : Tells after pair scheme
  pub left : ElmType (Leaf ℕ)
  pub right : ElmType (Leaf ℕ)
  pub parts : (rename scheme).type ≡ tuple (left ∷ right ∷ [])
  pub says : text ≡ part_text (rename scheme) left ++ codes " /= " ++ part_text (rename scheme) right

-- TYPE is not CLASS
pub record SaysClass (s : Store) (v : ℕ) (class : Name) (text : Name) : Type 0 where
  pub scheme : Scheme
  pub told : Tells s v scheme
  pub says : text ≡ part_text (rename scheme) (rename scheme).type ++ codes " is not " ++ class

-- a bad item of this store, with its code, its place and its text
abbrev pub Explains : Store → Bad → Code → Pos → Name → Type 0
Explains s (Same here v w) code pos text = (code ≡ TypeMismatch) × (pos ≡ here) × SaysPair s v w text
Explains s (InClass here v c) code pos text = (code ≡ TypeMismatch) × (pos ≡ here) × SaysClass s v (stem c) text
Explains s (Lacks here v x) code pos text =
    (code ≡ TypeMismatch) × (pos ≡ here) × (text ≡ codes "field " ++ x ++ codes " twice")
Explains s (Keeps here x) code pos text = (code ≡ TypeMismatch) × (pos ≡ here) × (text ≡ x ++ codes " escapes")
Explains s (Large here v) code pos text = (code ≡ TypeTooLarge) × (pos ≡ here) × (text ≡ [])
