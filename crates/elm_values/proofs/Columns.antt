-- What a stack holds, as the views of its values.
use Rattle.std.proofs.Common.{◌≡◌, List, [], ◌∷◌, map, reverse, Vec, Global, refl, sym, ap, ap₂, ◌∙◌}
use Rattle.elm_values.specs.Stack.{head_or, held, items_of, tail}

pub map_tail : {A B : Type 0} (f : A → B) (xs : List A) → map f (tail xs) ≡ tail (map f xs)
map_tail f [] = refl
map_tail f (x ∷ xs) = refl

pub held_head : {A B : Type 0} (f : A → B) (d : A) (xs : List A) → f (head_or d xs) ≡ head_or (f d) (map f xs)
held_head f d [] = refl
held_head f d (x ∷ xs) = refl

-- the view of what is taken, and of what stays
pub seen_head : {A B : Type 0} (f : A → B) {d x : A} {e : B} (xs : List A) → x ≡ head_or d xs → f d ≡ e →
    f x ≡ head_or e (map f xs)
seen_head f {d = d} xs h k = ap f h ∙ (held_head f d xs ∙ ap (λ z. head_or z (map f xs)) k)

pub seen_tail : {A B : Type 0} (f : A → B) (xs : List A) {ys : List A} → ys ≡ tail xs → map f ys ≡ tail (map f xs)
seen_tail f xs h = ap (map f) h ∙ map_tail f xs

-- a value that stays
pub seen_kept : {A B : Type 0} (f : A → B) {d : A} {e : B} (xs : List A) {ys : List A} → ys ≡ head_or d xs ∷ tail xs → f d ≡ e →
    map f ys ≡ head_or e (map f xs) ∷ tail (map f xs)
seen_kept f xs h k = ap (map f) h ∙ ap₂ (λ z zs. z ∷ zs) (seen_head f xs refl k) (map_tail f xs)

-- a value that goes in front of others
pub seen_moved : {A B : Type 0} (f : A → B) {d : A} {e : B} (xs : List A) {ys zs : List A} → zs ≡ head_or d xs ∷ ys → f d ≡ e →
    map f zs ≡ head_or e (map f xs) ∷ map f ys
seen_moved f xs {ys = ys} h k = ap (map f) h ∙ ap (λ z. z ∷ map f ys) (seen_head f xs refl k)

-- lists on a stack
each_seen : {A B : Type 0} (f : A → B) (ls : List (Vec A Global)) →
    map (λ (xs : Vec A Global). held f xs.items) ls ≡ map (map f) (map (λ (xs : Vec A Global). reverse xs.items) ls)
each_seen f [] = refl
each_seen f (xs ∷ ls) = ap (λ z. held f xs.items ∷ z) (each_seen f ls)

lists_seen : {A B : Type 0} (f : A → B) (ls : List (Vec A Global)) →
    map (λ (xs : Vec A Global). held f xs.items) (reverse ls) ≡ map (map f) (items_of ls)
lists_seen f ls = each_seen f (reverse ls)

-- the last list with an item in front
pub seen_in : {A B : Type 0} (f : A → B) {x : A} {y : B} (ls news : List (Vec A Global)) →
    items_of news ≡ (x ∷ head_or [] (items_of ls)) ∷ tail (items_of ls) → f x ≡ y →
    map (λ (xs : Vec A Global). held f xs.items) (reverse news)
    ≡ (y ∷ head_or [] (map (λ (xs : Vec A Global). held f xs.items) (reverse ls)))
    ∷ tail (map (λ (xs : Vec A Global). held f xs.items) (reverse ls))
seen_in f {x = x} {y = y} ls news h k =
    lists_seen f news ∙
    (ap (map (map f)) h ∙
    (ap₂ (λ z zs. (f x ∷ z) ∷ zs) (held_head (map f) [] (items_of ls)) (map_tail (map f) (items_of ls)) ∙
    ap₂ (λ z zs. (z ∷ head_or [] zs) ∷ tail zs) k (sym (lists_seen f ls))))

-- an empty list
pub seen_empty : {A B : Type 0} (f : A → B) (ls news : List (Vec A Global)) → items_of news ≡ [] ∷ items_of ls →
    map (λ (xs : Vec A Global). held f xs.items) (reverse news)
    ≡ [] ∷ map (λ (xs : Vec A Global). held f xs.items) (reverse ls)
seen_empty f ls news h =
    lists_seen f news ∙ (ap (map (map f)) h ∙ ap (λ z. [] ∷ z) (sym (lists_seen f ls)))
