-- The type of an annotation over the constants of annotations around.
use Rattle.std.proofs.Common.{◌≡◌, ℕ, zero, suc, ◌+◌, ◌<◌, List, [], ◌∷◌, ◌++◌, length, map, take, get_or, true, Option}
use Rattle.std.proofs.Common.{Some, None, refl, sym, ap, ◌∙◌, subst, arith, append-nil}
use Rattle.std.specs.Prelude.{unwrap_or}
use Rattle.std.specs.List.{AllByRecursion, AllZip, flat_map}
use Rattle.std.specs.Map.{lookup}
use Rattle.std.specs.Str.{bytes_eq}
use Rattle.std.proofs.lemmas.List.{length-map, take_more}
use Rattle.elm_base.specs.declared.position.Pos.{Pos}
use Rattle.elm_canon.specs.Tree.{Annotation}
use Rattle.elm_type.specs.Types.{Name, ElmType, Made, Record, NoField, int_type, variable, variables, Rigid, Leaf, Free}
use Rattle.elm_type.specs.Types.{Kind, kind_at}
use Rattle.elm_type.specs.Rows.{extend, substitute}
use Rattle.elm_type.specs.Ground.{contains}
use Rattle.type_items.specs.Items.{Place, Wanted, at, kind_items}
use Rattle.type_items.specs.Scopes.{Constants}
use Rattle.type_items.specs.Annotations.{written as names_written, variables_of, kind_of, number_of, annotation_type}
use Rattle.type_items.specs.Annotations.{constant_or, fixed_variable, fixed_type, annotation_items}
use Rattle.type_items.specs.Definitions.{constant_items}
use Rattle.type_items.specs.Principal.{is_formed}
use Rattle.type_store.specs.Store.{Store}
use Rattle.type_walks.specs.Regions.{none}
use Rattle.type_walks.specs.Links.{Links, Live, Has}
use Rattle.type_walks.specs.Walks.{Walk}
use Rattle.type_constructs.specs.Failing.{Bad, Fails}
use Rattle.type_constructs.proofs.Parts.{zip_both}
use Rattle.type_walks.specs.TypeStepsLaws.{Lacking}
use Rattle.infer_steps.specs.Codes.{Code, State}
use Rattle.infer_steps.specs.Ready.{IsBelow}
use Rattle.infer_steps.specs.Means.{MeansConstant}
use Rattle.infer_steps.proofs.Stepping.{follows_on}
use Rattle.infer_steps.proofs.Lacking.{both_walks}
use Rattle.infer_types.specs.Writing.{leaf_type, written, CanWrite, Writes}
use Rattle.infer_types.specs.Asking.{MeansConstants, items_of, AsksAround, RefusesAround}
use Rattle.infer_types.specs.Fixing.{IsAnnotation, Annotated, HasConstant, Fixes, NotFixed}
use Rattle.infer_types.proofs.Typing.{type_put, type_below, type_formed, covers, all_there}
use Rattle.infer_types.proofs.Numbering.{number_below, number_at, among, kind_lacks}

-- ---- what can be written

module _ (t : Annotation) (xs : List Name) (ks : List Kind) (type : ElmType (Leaf ℕ)) (is : IsAnnotation t xs ks type)
  where
    abbrev number : Name → ℕ
    number a = number_of a (variables_of t)

    pub as_many : length ks ≡ length xs
    as_many = ap length is.kinds ∙ (length-map (variables_of t) (kind_of t) ∙ ap length (sym is.names))

    many_kinds : length (variables_of t) ≡ length ks
    many_kinds = ap length (sym is.names) ∙ sym as_many

    pub below : AllByRecursion (IsBelow (length ks)) (variables type)
    below =
        subst (λ u. AllByRecursion (IsBelow (length ks)) (variables u)) (sym is.type)
        (type_below number (length ks) t is.once
        (all_there (λ a. number a < length ks) (names_written t)
        (λ a e. (let l = number_below a (variables_of t) (among a t e) in omega (arith, l, many_kinds)))))

    pub formed : is_formed ks type ≡ true
    formed =
        ap (is_formed ks) is.type
        ∙ (ap (λ ls. is_formed ls (annotation_type (λ a. variable (Free (number a))) t)) is.kinds
        ∙ type_formed number (map (kind_of t) (variables_of t)) t is.once
        (covers (λ a k. contains k (kind_at (map (kind_of t) (variables_of t)) (number a)).lacks ≡ true) t
        (λ a k e. kind_lacks t a k e)))

-- the variables of the store lack the fields that are beside their names
pub leaves_lack : (code : Code) (s : Store) (xs : List Name) (vs : List ℕ) (ks : List Kind)
    → AllZip (λ x v. code.constants x ≡ Some v) xs vs
    → AllZip (λ x (k : Kind). (v : ℕ) → code.constants x ≡ Some v → Lacking s v k.lacks) xs ks → AllZip
    (λ v (k : Kind). Lacking s v k.lacks) vs ks
leaves_lack code s [] [] [] h l = tt
leaves_lack code s [] [] (k ∷ ks) h l = l
leaves_lack code s [] (v ∷ vs) ks h l = absurd h
leaves_lack code s (x ∷ xs) [] ks h l = absurd h
leaves_lack code s (x ∷ xs) (v ∷ vs) [] h l = l
leaves_lack code s (x ∷ xs) (v ∷ vs) (k ∷ ks) h l = (l.0 v h.0, leaves_lack code s xs vs ks h.1 l.1)

pub leaves_live : (code : Code) (d : ℕ) (s : Store) (xs : List Name) (vs : List ℕ)
    → ((x : Name) (v : ℕ) → code.constants x ≡ Some v → Live d s v)
    → AllZip (λ x v. code.constants x ≡ Some v) xs vs → AllByRecursion (Live d s) vs
leaves_live code d s [] [] live h = tt
leaves_live code d s [] (v ∷ vs) live h = absurd h
leaves_live code d s (x ∷ xs) [] live h = tt
leaves_live code d s (x ∷ xs) (v ∷ vs) live h = (live x v h.0, leaves_live code d s xs vs live h.1)

-- ---- which types they have

module _ (code : Code) (links : Links) (around : Constants) (q : Place) (means : MeansConstants code links around) where
  constant_has : (v : ℕ) (o : Option Rigid) → MeansConstant links (Some v) o → Has links v (constant_or o (at q))
  constant_has v None h = absurd h
  constant_has v (Some r) h = h

  pub leaves_have : (xs : List Name) (vs : List ℕ) → AllZip (λ x v. code.constants x ≡ Some v) xs vs
      → AllZip (Has links) vs (map (fixed_variable around q) xs)
  leaves_have [] [] h = tt
  leaves_have [] (v ∷ vs) h = absurd h
  leaves_have (x ∷ xs) [] h = absurd h
  leaves_have (x ∷ xs) (v ∷ vs) h = (
    constant_has v (lookup (bytes_eq x) around)
        (subst (λ o. MeansConstant links o (lookup (bytes_eq x) around)) h.0 (means x)),
    leaves_have xs vs h.1,
  )

  constant_asks : (pos : Pos) (v : ℕ) (o : Option Rigid) (k : Kind) → MeansConstant links (Some v) o
      → constant_items pos o k ≡ kind_items pos (constant_or o (at q)) k
  constant_asks pos v None k h = absurd h
  constant_asks pos v (Some r) k h = refl

  pub same_items : (pos : Pos) (t : Annotation) (xs : List Name) → AllByRecursion (HasConstant code) xs
      → items_of pos around xs (map (kind_of t) xs) ≡ flat_map
      (λ a. kind_items pos (fixed_variable around q a) (kind_of t a)) xs
  same_items pos t [] h = refl
  same_items pos t (x ∷ xs) h =
      ap (λ l. l ++ items_of pos around xs (map (kind_of t) xs))
      (constant_asks pos h.0.0 (lookup (bytes_eq x) around) (kind_of t x)
      (subst (λ o. MeansConstant links o (lookup (bytes_eq x) around)) h.0.1 (means x)))
      ∙ ap (λ l. kind_items pos (fixed_variable around q x) (kind_of t x) ++ l) (same_items pos t xs h.1)

extend_none : (t : Wanted) → extend NoField t ≡ t
extend_none (Made h ts) = refl
extend_none (Record fs end) = refl

-- the type over the constants
pub same_type : (around : Constants) (q : Place) (t : Annotation) (xs : List Name) (ks : List Kind)
    (type : ElmType (Leaf ℕ)) → IsAnnotation t xs ks type
    → written (map (fixed_variable around q) xs) type ≡ fixed_type around q t
same_type around q t xs ks type is =
    ap (written (map (fixed_variable around q) xs)) is.type
    ∙ (ap (λ ys. written (map (fixed_variable around q) ys)
    (annotation_type (λ a. variable (Free (number_of a (variables_of t)))) t)) is.names
    ∙ type_put (leaf_type (map (fixed_variable around q) (variables_of t)))
    (λ a. variable (Free (number_of a (variables_of t)))) (fixed_variable around q) t is.once
    (all_there (λ a. substitute (leaf_type (map (fixed_variable around q) (variables_of t)))
    (variable (Free (number_of a (variables_of t)))) ≡ fixed_variable around q a)
    (names_written t) (λ a e.
    extend_none (leaf_type (map (fixed_variable around q) (variables_of t)) (Free (number_of a (variables_of t))))
    ∙ ap (λ o. unwrap_or o int_type) (number_at (fixed_variable around q) a (variables_of t) (among a t e)))))

-- ---- both

module _ (code : Code) (pos : Pos) (t : Annotation) (xs : List Name) (ks : List Kind) (type : ElmType (Leaf ℕ))
    (is : IsAnnotation t xs ks type)
    (constants : AllByRecursion (HasConstant code) xs) where
  items_are : (links : Links) (around : Constants) (q : Place) → MeansConstants code links around
      → items_of pos around xs ks ≡ annotation_items pos t (fixed_variable around q)
  items_are links around q means =
      ap (items_of pos around xs) (is.kinds ∙ ap (map (kind_of t)) (sym is.names))
      ∙ (same_items code links around q means pos t xs constants
      ∙ ap (flat_map (λ a. kind_items pos (fixed_variable around q a) (kind_of t a))) is.names)

  module _ (old u new : State) (vs : List ℕ) (v : ℕ) (asks : AsksAround code old u pos xs ks)
      (leaves : AllZip (λ x w. code.constants x ≡ Some w) xs vs)
      (made : Writes vs type u new v) where
    pub fixes : Fixes code pos t old new v
    fixes = record {
      follows = follows_on old u new asks.follows made.follows;
      live = made.live;
      typed = λ a links around q e live means. (
          let w = asks.walk a links around e live means in
          let x = made.typed a links (map (fixed_variable around q) xs) (e ∙ sym asks.follows.depth) (w.live live)
          (leaves_have code links around q means xs vs leaves) in
          record {
            after = x.after;
            walk =
                subst (λ l. Walk a none l old.store links new.store x.after)
                (append-nil (items_of pos around xs ks) ∙ items_are links around q means)
                (both_walks a (items_of pos around xs ks) [] old.store u.store new.store links links x.after live w
                x.walk);
            tells = x.tells;
            has = subst (Has x.after v) (same_type around q t xs ks type is) x.has;
          });
    }

  pub not_fixed : (old new : State) (bad : Bad) → RefusesAround code old new pos xs ks bad
      → NotFixed code pos t old new bad
  not_fixed old new bad refuses = record {
    fails = λ a links around q Q rest e live means.
        subst (λ l. Fails a old.store links Q (l ++ rest) bad new.store) (items_are links around q means)
        (refuses.fails a links around Q rest e live means);
  }

pub can_fix : (code : Code) (s : Store) (xs : List Name) (vs : List ℕ) (ks : List Kind) (type : ElmType (Leaf ℕ))
    → (w : Annotated xs ks type)
    → AllZip (λ x v. code.constants x ≡ Some v) xs vs → AllZip
    (λ x (k : Kind). (v : ℕ) → code.constants x ≡ Some v → Lacking s v k.lacks) xs ks
    → CanWrite s vs type
can_fix code s xs vs ks type w leaves lacking = record {
  kinds = ks;
  below = below w.annotation xs ks type w.is;
  formed = formed w.annotation xs ks type w.is;
  lacks = leaves_lack code s xs vs ks leaves lacking;
}

-- ---- in a loop

pub one_more_leaf : (code : Code) (xs : List Name) (i : ℕ) (x : Name) (vs : List ℕ) (v : ℕ) → i < length xs
    → x ≡ get_or xs i x
    → AllZip (λ y w. code.constants y ≡ Some w) (take i xs) vs → code.constants x ≡ Some v
    → AllZip (λ y w. code.constants y ≡ Some w) (take (i + 1) xs) (vs ++ v ∷ [])
one_more_leaf code xs i x vs v l is all one =
    subst (λ ys. AllZip (λ y w. code.constants y ≡ Some w) ys (vs ++ v ∷ []))
    (sym (take_more xs i x l ∙ ap (λ y. take i xs ++ y ∷ []) (sym is)))
    (zip_both (λ y w. code.constants y ≡ Some w) (take i xs) (x ∷ []) vs (v ∷ []) all (one, tt))

pub has_at : (code : Code) (xs : List Name) (i : ℕ) (x : Name) → i < length xs → x ≡ get_or xs i x
    → AllByRecursion (HasConstant code) xs → HasConstant code x
has_at code [] i x l is h = absurd (omega (arith, l))
has_at code (y ∷ xs) zero x l is h = subst (HasConstant code) (sym is) h.0
has_at code (y ∷ xs) (suc i) x l is h = has_at code xs i x (omega (arith, l)) is h.1

pub not_none : (code : Code) (x : Name) → HasConstant code x → code.constants x ≡ None → ⊥
not_none code x h none = (let both : Some h.0 ≡ None = sym h.1 ∙ none in cc)
