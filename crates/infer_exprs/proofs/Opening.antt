-- The variables of an annotation inside its definition: each has a variable of the store.
use Rattle.std.proofs.Common.{◌≡◌, ℕ, List, [], ◌∷◌, length, map, filter, Bool, true, false, cond, Option}
use Rattle.std.proofs.Common.{Some, None, refl, sym, ap, ◌∙◌, arith}
use Rattle.std.specs.Prelude.{◌||◌, is_none}
use Rattle.std.specs.List.{AllByRecursion}
use Rattle.std.specs.Str.{bytes_eq}
use Rattle.std.proofs.lemmas.Slice.Eq.{bytes_eq-Decides}
use Rattle.elm_canon.specs.Tree.{Annotation}
use Rattle.elm_type.specs.Types.{Name, Kind}
use Rattle.elm_type.specs.View.{kind_view}
use Rattle.elm_type.specs.Ground.{contains}
use Rattle.type_items.specs.Items.{Place}
use Rattle.type_items.specs.Annotations.{variables_of, kind_of}
use Rattle.type_schemes.specs.Constants.{Own}
use Rattle.type_constructs.specs.TypeDefinitionsAnnotated.{owned}
use Rattle.infer_steps.specs.Codes.{Code}
use Rattle.infer_types.specs.Fixing.{HasConstant}
use Rattle.infer_types.specs.Own.{own_of, own_view}
use Rattle.infer_types.specs.declared.own.OwnVariable.{OwnVariable}
use Rattle.infer_types.proofs.Typing.{all_there}
use Rattle.infer_groups.specs.Annotated.{own_names, with_owned, inside_of}
use Rattle.infer_groups.specs.Given.{AreOwnOf}

-- ---- the code's scope inside

abbrev pub HasValue : Option ℕ → Type 0
HasValue o = (v : ℕ) × (o ≡ Some v)

one_more : (b : Bool) (v : ℕ) (o : Option ℕ) → HasValue o → HasValue (cond b (Some v) o)
one_more true v o h = (v, refl)
one_more false v o h = h

still_has : (os : List Own) (code : Code) (x : Name) → HasConstant code x → HasConstant (with_owned os code) x
still_has [] code x h = h
still_has (o ∷ os) code x h =
    one_more (bytes_eq x o.rigid.name) o.slot ((with_owned os code).constants x) (still_has os code x h)

module _ (code : Code) (t : Annotation) (p : Place) where
  owned_has : (xs : List Name) (vs : List ℕ) (x : Name) → length vs ≡ length xs → contains x xs ≡ true
      → HasConstant (with_owned (owned p t xs vs) code) x
  owned_has [] vs x e h = absurd cc
  owned_has (y ∷ xs) [] x e h = absurd (omega (arith, e))
  owned_has (y ∷ xs) (v ∷ vs) x e h =
      go (bytes_eq x y) h (owned_has xs vs x (omega (arith, e)))
    where
      go : (b : Bool) → (b || contains x xs) ≡ true
          → (contains x xs ≡ true → HasConstant (with_owned (owned p t xs vs) code) x)
          → HasValue (cond b (Some v) ((with_owned (owned p t xs vs) code).constants x))
      go true g again = (v, refl)
      go false g again = again g

  kept : (xs : List Name) (x : Name) → is_none (code.constants x) ≡ true → contains x xs ≡ true
      → contains x (filter (λ y. is_none (code.constants y)) xs) ≡ true
  kept [] x none_ h = h
  kept (y ∷ xs) x none_ h = go (bytes_eq x y) refl h (kept xs x none_)
    where
      rest : List Name
      rest = filter (λ z. is_none (code.constants z)) xs

      more : (b : Bool) → contains x rest ≡ true → contains x (cond b (y ∷ rest) rest) ≡ true
      more true g = or_true (bytes_eq x y) g
        where
          or_true : (c : Bool) → contains x rest ≡ true → (c || contains x rest) ≡ true
          or_true true k = refl
          or_true false k = k
      more false g = g

      go : (b : Bool) → bytes_eq x y ≡ b → (b || contains x xs) ≡ true
          → (contains x xs ≡ true → contains x rest ≡ true)
          → contains x (cond (is_none (code.constants y)) (y ∷ rest) rest) ≡ true
      go true e g again =
          let same : x ≡ y = (bytes_eq-Decides x y).0 e in
          let here : is_none (code.constants y) ≡ true = ap (λ z. is_none (code.constants z)) (sym same) ∙ none_ in
          ap (λ b. contains x (cond b (y ∷ rest) rest)) here ∙ ap (λ b. b || contains x rest) e
      go false e g again = more (is_none (code.constants y)) (again g)

  pub has_each : (vs : List ℕ) → length vs ≡ length (own_names code t)
      → AllByRecursion (HasConstant (inside_of code t p vs)) (variables_of t)
  has_each vs many =
      all_there (HasConstant (inside_of code t p vs)) (variables_of t) (λ x h. by x h (code.constants x) refl)
    where
      by : (x : Name) → contains x (variables_of t) ≡ true → (o : Option ℕ) → code.constants x ≡ o
          → HasConstant (inside_of code t p vs) x
      by x h None e =
          owned_has (own_names code t) vs x many (kept (variables_of t) x (ap is_none e) h)
      by x h (Some v) e = still_has (owned p t (own_names code t) vs) code x (v, e)

-- ---- its own variables

own_pairs : (code : Code) (t : Annotation) (xs : List Name) → own_of code xs (map (kind_of t) xs)
    ≡ map (λ x. (x, kind_of t x)) (filter (λ x. is_none (code.constants x)) xs)
own_pairs code t [] = refl
own_pairs code t (x ∷ xs) = go (is_none (code.constants x)) (own_pairs code t xs)
  where
    pairs : List Name → List (Name × Kind)
    pairs ys = map (λ y. (y, kind_of t y)) ys

    rest : List Name
    rest = filter (λ y. is_none (code.constants y)) xs

    go : (b : Bool) → own_of code xs (map (kind_of t) xs) ≡ pairs rest
        → cond b ((x, kind_of t x) ∷ own_of code xs (map (kind_of t) xs)) (own_of code xs (map (kind_of t) xs))
        ≡ pairs (cond b (x ∷ rest) rest)
    go true again = ap (λ l. (x, kind_of t x) ∷ l) again
    go false again = again

firsts : (t : Annotation) (xs : List Name) → map (λ (y : Name × Kind). y.0) (map (λ x. (x, kind_of t x)) xs) ≡ xs
firsts t [] = refl
firsts t (x ∷ xs) = ap (λ l. x ∷ l) (firsts t xs)

seconds : (t : Annotation) (xs : List Name)
    → map (λ (y : Name × Kind). y.1) (map (λ x. (x, kind_of t x)) xs) ≡ map (kind_of t) xs
seconds t [] = refl
seconds t (x ∷ xs) = ap (λ l. kind_of t x ∷ l) (seconds t xs)

view_names : (os : List OwnVariable) → map (λ (y : Name × Kind). y.0) (map own_view os) ≡ map (λ o. o.name) os
view_names [] = refl
view_names (o ∷ os) = ap (λ l. o.name ∷ l) (view_names os)

view_kinds : (os : List OwnVariable)
    → map (λ (y : Name × Kind). y.1) (map own_view os) ≡ map (λ o. kind_view o.kind) os
view_kinds [] = refl
view_kinds (o ∷ os) = ap (λ l. kind_view o.kind ∷ l) (view_kinds os)

-- as they are kept
pub own_is : (code : Code) (t : Annotation) (os : List OwnVariable) (ys xs : List Name) (ls ks : List Kind)
    → map own_view os ≡ own_of code ys ls → ys ≡ variables_of t → ls ≡ map (kind_of t) (variables_of t)
    → xs ≡ map (λ o. o.name) os → ks ≡ map (λ o. kind_view o.kind) os → AreOwnOf code t xs ks
own_is code t os ys xs ls ks own names kinds first second = record {
  names = named;
  kinds =
      second ∙ sym (view_kinds os) ∙ ap (map (λ (y : Name × Kind). y.1)) pairs ∙ seconds t (own_names code t)
      ∙ ap (map (kind_of t)) (sym named);
}
  where
    pairs : map own_view os ≡ map (λ x. (x, kind_of t x)) (own_names code t)
    pairs =
        own ∙ ap (λ zs. own_of code zs ls) names ∙ ap (own_of code (variables_of t)) kinds
        ∙ own_pairs code t (variables_of t)

    named : xs ≡ own_names code t
    named = first ∙ sym (view_names os) ∙ ap (map (λ (y : Name × Kind). y.0)) pairs ∙ firsts t (own_names code t)
