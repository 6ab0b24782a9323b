-- Types of constructors.
use Rattle.std.proofs.Common.{◌≡◌, ℕ, zero, suc, ◌+◌, ◌≤◌, List, [], ◌∷◌, ◌++◌, Option, Some, None, map, take, length}
use Rattle.std.proofs.Common.{refl, flat_map, sym}
use Rattle.std.proofs.Common.{ap, ◌∙◌, arith}
use Rattle.std.proofs.lemmas.List.{append_assoc, flat_map_more, map-append}
use Rattle.std.specs.Prelude.{slice_get}
use Rattle.std.specs.List.{zip}
use Rattle.elm_canon.specs.Unions.{alternatives}
use Rattle.elm_canon.specs.declared.unions.Alternative.{Alternative}
use Rattle.elm_canon.specs.Names.{Name}
use Rattle.elm_canon.specs.Tree as plain
use Rattle.elm_canon.specs.Tree.{annotations_of, field_types_of}
use Rattle.elm_canon.specs.View as view
use Rattle.elm_canon.specs.View.{function_type}
use Rattle.type_items.specs.Modules.{Annotated, function_to, field_types, record_maker, union_type}
use Rattle.type_items.specs.Modules.{union_makers}
use Rattle.infer.specs.Known.{Typed, as_scheme, maker_at}

after_first : (t : plain.Annotation) (ts : List plain.Annotation) (made : plain.Annotation)
    → view.function_to t (ts ++ made ∷ []) ≡ plain.FunctionType t (function_to (annotations_of ts) made)
after_first t [] made = refl
after_first t (u ∷ us) made = ap (plain.FunctionType t) (after_first u us made)

-- a function of parameters, with what it makes as the last type
pub made_last : (ts : List plain.Annotation) (made : plain.Annotation)
    → function_type (ts ++ made ∷ []) ≡ function_to (annotations_of ts) made
made_last [] made = refl
made_last (t ∷ ts) made = after_first t ts made

-- the types of fields in written order
pub fields_in_order : (fs : List (Name × plain.Annotation))
    → field_types (field_types_of fs) ≡ annotations_of (map (λ (f : Name × plain.Annotation). f.1) fs)
fields_in_order [] = refl
fields_in_order (f ∷ fs) = ap (plain.MoreAnnotation f.1) (fields_in_order fs)

-- a function is no record
pub two_or_more : (x : Name) (ts : List plain.Annotation) → 2 ≤ length ts → record_maker x (function_type ts) ≡ []
two_or_more x [] h = absurd (omega arith)
two_or_more x (t ∷ []) h = absurd (omega arith)
two_or_more x (t ∷ u ∷ us) h = refl

-- ---- constructors in turn

-- constructors of what a union makes, with the types of their fields
abbrev pub makers_of : plain.Annotation → List (Name × plain.Annotations) → List Annotated
makers_of made cs = map (λ c. (c.0, function_to c.1 made)) cs

take_none : {Z : Type 0} (zs : List Z) → take 0 zs ≡ []
take_none [] = refl
take_none (z ∷ zs) = refl

module _ {X Y : Type 0} where
  abbrev paired : X → Option Y → List (X × Y)
  paired x None = []
  paired x (Some y) = (x, y) ∷ []

  zip_more : (xs : List X) (ys : List Y) (k : ℕ) (x : X) → slice_get xs k ≡ Some x
      → take (suc k) (zip xs ys) ≡ take k (zip xs ys) ++ paired x (slice_get ys k)
  zip_more [] ys k x e = absurd cc
  zip_more (a ∷ xs) [] zero x e = refl
  zip_more (a ∷ xs) [] (suc k) x e = refl
  zip_more (a ∷ xs) (b ∷ ys) zero x e =
      let same : a ≡ x = cc in
      ap (λ l. (a, b) ∷ l) (take_none (zip xs ys)) ∙ ap (λ z. (z, b) ∷ []) same
  zip_more (a ∷ xs) (b ∷ ys) (suc k) x e = ap (λ l. (a, b) ∷ l) (zip_more xs ys k x e)

  pub zip_all : (xs : List X) (ys : List Y) → take (length xs) (zip xs ys) ≡ zip xs ys
  zip_all [] ys = refl
  zip_all (x ∷ xs) [] = refl
  zip_all (x ∷ xs) (y ∷ ys) = ap (λ l. (x, y) ∷ l) (zip_all xs ys)

made_at : (made : plain.Annotation) (x : Name) (o : Option plain.Annotations)
    → makers_of made (paired x o) ≡ maker_at made x o
made_at made x None = refl
made_at made x (Some ts) = refl

pub map_both : {X Y : Type 0} (f : X → Y) (xs ys : List X) → map f (xs ++ ys) ≡ map f xs ++ map f ys
map_both f [] ys = refl
map_both f (x ∷ xs) ys = ap (λ l. f x ∷ l) (map_both f xs ys)

-- one more
pub makers_more : (made : plain.Annotation) (xs : List Name) (ys : List plain.Annotations) (k : ℕ) (x : Name)
    → slice_get xs k ≡ Some x
    → makers_of made (take (k + 1) (zip xs ys))
    ≡ makers_of made (take k (zip xs ys)) ++ maker_at made x (slice_get ys k)
makers_more made xs ys k x e =
    let next : k + 1 ≡ suc k = omega arith in
    ap (λ n. makers_of made (take n (zip xs ys))) next
    ∙ (ap (makers_of made) (zip_more xs ys k x e)
    ∙ (map_both (λ (c : Name × plain.Annotations). (c.0, function_to c.1 made)) (take k (zip xs ys))
    (paired x (slice_get ys k))
    ∙ ap (λ l. makers_of made (take k (zip xs ys)) ++ l) (made_at made x (slice_get ys k))))

by_names : (made : plain.Annotation) (cs : List Alternative) (ys : List plain.Annotations)
    → makers_of made (zip (map (λ (c : Alternative). c.name) cs) ys)
    ≡ map (λ (c : Alternative × plain.Annotations). (c.0.name, function_to c.1 made)) (zip cs ys)
by_names made [] ys = refl
by_names made (c ∷ cs) [] = refl
by_names made (c ∷ cs) (y ∷ ys) = ap (λ l. (c.name, function_to y made) ∷ l) (by_names made cs ys)

-- all of them
pub makers_all : (home : Name) (u : plain.UnionDeclaration) (xs : List Name)
    → xs ≡ map (λ (c : Alternative). c.name) (alternatives u.union)
    → makers_of (union_type home u) (take (length xs) (zip xs u.fields)) ≡ union_makers home u
makers_all home u xs e =
    ap (makers_of (union_type home u)) (zip_all xs u.fields)
    ∙ (ap (λ l. makers_of (union_type home u) (zip l u.fields)) e
    ∙ by_names (union_type home u) (alternatives u.union) u.fields)

-- ---- what is declared, one after another

-- what one more declares comes last
pub made_next : {X : Type 0} (f : X → List Annotated) (xs : List X) (x : X) (old : List Typed)
    → (old ++ map as_scheme (flat_map f xs)) ++ map as_scheme (f x)
    ≡ old ++ map as_scheme (flat_map f (xs ++ x ∷ []))
made_next f xs x old =
    append_assoc old (map as_scheme (flat_map f xs)) (map as_scheme (f x))
    ∙ ap (λ l. old ++ l) (sym (map-append as_scheme (flat_map f xs) (f x))
    ∙ ap (map as_scheme) (flat_map_more f [] xs x))

pub listed_next : {X : Type 0} (f : X → Annotated) (xs : List X) (x : X) (old : List Typed)
    → (old ++ map as_scheme (map f xs)) ++ as_scheme (f x) ∷ [] ≡ old ++ map as_scheme (map f (xs ++ x ∷ []))
listed_next f xs x old =
    append_assoc old (map as_scheme (map f xs)) (as_scheme (f x) ∷ [])
    ∙ ap (λ l. old ++ l) (sym (map-append as_scheme (map f xs) (f x ∷ []))
    ∙ ap (map as_scheme) (sym (map-append f xs (x ∷ []))))
