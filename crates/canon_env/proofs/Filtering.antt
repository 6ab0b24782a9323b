-- Lists and filters, one item after the other.
use Rattle.std.proofs.Common.{◌≡◌, ℕ, ◌+◌, ◌<◌, List, [], ◌∷◌, ◌++◌, Bool, ◌||◌, length, map, take, get_or, sym, ap}
use Rattle.std.proofs.Common.{◌∙◌, append-nil}
use Rattle.std.proofs.Math.Bool.{or-false}
use Rattle.std.proofs.lemmas.List.{take_more, map-append}
use Rattle.std.proofs.lemmas.List.Folds.{list_any-append}
use Rattle.std.specs.List.{list_any, flat_map}
use Rattle.std.proofs.lemmas.Grind.{flat_map-append}
use Rattle.canon_env.specs.Imports.{These, names_value, names_type, opens_type}
use Rattle.canon_env.specs.Filter.{Filters, FiltersMore}
use Rattle.canon_env.specs.declared.import.Exposed.{Exposed}
use Rattle.canon_env.specs.declared.filter.Filter.{Filter}

-- the items before one, and that one
pub take_next : {X : Type 0} → (xs : List X) (i : ℕ) (x : X) → i < length xs → x ≡ get_or xs i x →
    take (i + 1) xs ≡ take i xs ++ x ∷ []
take_next xs i x lt is = take_more xs i x lt ∙ ap (λ y. take i xs ++ y ∷ []) (sym is)

pub map_next : {X Y : Type 0} → (f : X → Y) (xs : List X) (i : ℕ) (x : X) → i < length xs → x ≡ get_or xs i x →
    map f (take (i + 1) xs) ≡ map f (take i xs) ++ f x ∷ []
map_next f xs i x lt is = ap (map f) (take_next xs i x lt is) ∙ map-append f (take i xs) (x ∷ [])

-- one item more, of which f makes y
pub pushed : {X Y : Type 0} → (f : X → Y) (old new : List X) (x : X) (l : List Y) (y : Y) → new ≡ old ++ x ∷ [] →
    map f old ≡ l → f x ≡ y → map f new ≡ l ++ y ∷ []
pushed f old new x l y e h g =
    ap (map f) e ∙ map-append f old (x ∷ []) ∙ ap (λ a. a ++ f x ∷ []) h ∙ ap (λ b. l ++ b ∷ []) g

pub map_map_next : {X Y Z : Type 0} → (g : Y → Z) (f : X → Y) (xs : List X) (i : ℕ) (x : X) → i < length xs →
    x ≡ get_or xs i x → map g (map f (take (i + 1) xs)) ≡ map g (map f (take i xs)) ++ g (f x) ∷ []
map_map_next g f xs i x lt is =
    ap (map g) (map_next f xs i x lt is) ∙ map-append g (map f (take i xs)) (f x ∷ [])

pub any_next : {X : Type 0} → (p : X → Bool) (xs : List X) (x : X) → (list_any p xs || p x) ≡ list_any p (xs ++ x ∷ [])
any_next p xs x = sym (list_any-append p xs (x ∷ []) ∙ ap (λ b. list_any p xs || b) (or-false (p x)))

pub filters_next : (old new : Filter) (es : List Exposed) (e : Exposed) → Filters old (These es) →
    FiltersMore old new e → Filters new (These (es ++ e ∷ []))
filters_next old new es e h more = record {
  values = λ x. more.values x ∙ ap (λ b. b || names_value x e) (h.values x) ∙ any_next (names_value x) es e;
  types = λ x. more.types x ∙ ap (λ b. b || names_type x e) (h.types x) ∙ any_next (names_type x) es e;
  makers = λ x. more.makers x ∙ ap (λ b. b || opens_type x e) (h.makers x) ∙ any_next (opens_type x) es e;
}

-- one item more, of which g makes what f makes a list of
pub flat_next : {X Y Z : Type 0} → (f : Y → List Z) (g : X → Y) (xs : List X) (i : ℕ) (x : X) → i < length xs →
    x ≡ get_or xs i x → flat_map f (map g (take (i + 1) xs)) ≡ flat_map f (map g (take i xs)) ++ f (g x)
flat_next f g xs i x lt is =
    ap (flat_map f) (map_next g xs i x lt is) ∙ flat_map-append f (map g (take i xs)) (g x ∷ [])
    ∙ ap (λ l. flat_map f (map g (take i xs)) ++ l) (append-nil (f (g x)))
