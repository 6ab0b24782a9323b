-- Names that stand twice, one word after the other.
use Rattle.std.proofs.Common.{◌≡◌, ℕ, ◌+◌, ◌<◌, length, take, get_or, List, [], ◌∷◌, ◌++◌, Bool, true, false, ◌||◌, if◌then◌else◌, map, refl, sym, ap, ◌∙◌}
use Rattle.std.proofs.Common.{append_assoc}
use Rattle.std.proofs.lemmas.List.{take_more, map-append}
use Rattle.elm_canon.specs.Names.{Name}
use Rattle.elm_tree.specs.Tree.{Word}
use Rattle.canon_env.specs.Imports.{name_of}
use Rattle.canon_env.specs.Exposing.{is_among}
use Rattle.canon_env.specs.Sites.{repeats_from, repeats}
use Rattle.canon_env.specs.Repeats.{repeat_of, seen_after}

-- the items before one, and that one
pub map_at : {X Y : Type 0} → (f : X → Y) (xs : List X) (i : ℕ) (d : X) → i < length xs →
    map f (take (i + 1) xs) ≡ map f (take i xs) ++ f (get_or xs i d) ∷ []
map_at f xs i d lt = ap (map f) (take_more xs i d lt) ∙ map-append f (take i xs) (get_or xs i d ∷ [])

pub or_swaps : (a b : Bool) → (a || b) ≡ (b || a)
or_swaps true true = refl
or_swaps true false = refl
or_swaps false true = refl
or_swaps false false = refl

pub seen_after-append : (before : List Name) (ws : List Word) (w : Word) →
    seen_after before (ws ++ w ∷ []) ≡ name_of w ∷ seen_after before ws
seen_after-append before [] w = refl
seen_after-append before (v ∷ vs) w = seen_after-append (name_of v ∷ before) vs w

repeats_from-cons : (before : List Name) (w : Word) (ws : List Word) →
    repeats_from before (w ∷ ws) ≡ repeat_of before w ++ repeats_from (name_of w ∷ before) ws
repeats_from-cons before w ws = by (is_among (name_of w) before)
  where
    by : (b : Bool) →
        (if b then w ∷ repeats_from (name_of w ∷ before) ws else repeats_from (name_of w ∷ before) ws)
        ≡ (if b then w ∷ [] else []) ++ repeats_from (name_of w ∷ before) ws
    by true = refl
    by false = refl

pub repeats_from-append : (before : List Name) (ws : List Word) (w : Word) →
    repeats_from before (ws ++ w ∷ []) ≡ repeats_from before ws ++ repeat_of (seen_after before ws) w
repeats_from-append before [] w = refl
repeats_from-append before (v ∷ vs) w =
    repeats_from-cons before v (vs ++ w ∷ [])
    ∙ ap (λ z. repeat_of before v ++ z) (repeats_from-append (name_of v ∷ before) vs w)
    ∙ sym (append_assoc (repeat_of before v) (repeats_from (name_of v ∷ before) vs)
    (repeat_of (seen_after (name_of v ∷ before) vs) w))
    ∙ ap (λ z. z ++ repeat_of (seen_after (name_of v ∷ before) vs) w) (sym (repeats_from-cons before v vs))

-- one word more
pub faults_next : {F : Type 0} → (f : Word → F) → (old mid new : List F) (ws : List Word) (w : Word) →
    mid ≡ old ++ map f (repeats ws) → new ≡ mid ++ map f (repeat_of (seen_after [] ws) w) →
    new ≡ old ++ map f (repeats (ws ++ w ∷ []))
faults_next f old mid new ws w a b =
    b ∙ ap (λ z. z ++ map f (repeat_of (seen_after [] ws) w)) a
    ∙ append_assoc old (map f (repeats ws)) (map f (repeat_of (seen_after [] ws) w))
    ∙ ap (λ z. old ++ z) (sym (map-append f (repeats ws) (repeat_of (seen_after [] ws) w)))
    ∙ ap (λ z. old ++ map f z) (sym (repeats_from-append [] ws w))
