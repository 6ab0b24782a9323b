-- What a table has of names.
use Rattle.std.proofs.Common.{◌≡◌, ℕ, ◌+◌, ◌<◌, List, [], ◌∷◌, ◌++◌, length, map, take, get_or, Bool, true, false}
use Rattle.std.proofs.Common.{Option, Some, None, refl, sym, ap, ◌∙◌}
use Rattle.std.specs.Prelude.{◌&&◌, if◌then◌else◌}
use Rattle.std.specs.declared.alloc.Global.{Global}
use Rattle.std.specs.declared.vec.Vec.{Vec}
use Rattle.std.proofs.lemmas.List.{take_more, map-append}
use Rattle.std.proofs.lemmas.Slice.Eq.{bytes_eq-Decides}
use Rattle.indexmap.specs.IndexMap.{get}
use Rattle.elm_canon.specs.Names.{Name, same_name, same_ref}
use Rattle.elm_canon.specs.declared.reference.Ref.{Ref}
use Rattle.elm_canon.specs.declared.reference.Ref.TheVariants.{Local, Top}
use Rattle.infer_order.specs.Keys.{same_pair}
use Rattle.infer_order.specs.Owners.{Numbers, items_of, numbers_of, put, put_all}
use Rattle.infer_order.specs.declared.owners.Owners.{Owners}

pub take_next : {X : Type 0} → (xs : List X) (i : ℕ) (x : X) → i < length xs → x ≡ get_or xs i x
    → take (i + 1) xs ≡ take i xs ++ x ∷ []
take_next xs i x lt is = take_more xs i x lt ∙ ap (λ y. take i xs ++ y ∷ []) (sym is)

pub map_next : {X Y : Type 0} → (f : X → Y) (xs : List X) (i : ℕ) (x : X) → i < length xs → x ≡ get_or xs i x →
    map f (take (i + 1) xs) ≡ map f (take i xs) ++ f x ∷ []
map_next f xs i x lt is =
    ap (map f) (take_more xs i x lt ∙ ap (λ y. take i xs ++ y ∷ []) (sym is)) ∙ map-append f (take i xs) (x ∷ [])

-- ---- names

pub one_name : (x y : Name) → same_name x y ≡ true → x ≡ y
one_name x y e = (bytes_eq-Decides x y).0 e

pub same_itself : (x : Name) → same_name x x ≡ true
same_itself x = (bytes_eq-Decides x x).1 refl

pub same_back : (x y : Name) → same_name x y ≡ same_name y x
same_back x y = go (same_name x y) (same_name y x) refl refl
  where
    go : (a b : Bool) → same_name x y ≡ a → same_name y x ≡ b → a ≡ b
    go true true e f = refl
    go false false e f = refl
    go true false e f =
        absurd (let s : x ≡ y = one_name x y e in let t : same_name y x ≡ true = ap (λ z. same_name z x) (sym s) ∙
        same_itself x in cc)
    go false true e f =
        absurd (let s : y ≡ x = one_name y x f in let t : same_name x y ≡ true = ap (λ z. same_name z y) (sym s) ∙
        same_itself y in cc)

pub pair_back : (a b c d : Name) → (same_name a b && same_name c d) ≡ (same_name b a && same_name d c)
pair_back a b c d = ap (λ z. z && same_name c d) (same_back a b) ∙ ap (λ z. same_name b a && z) (same_back c d)

-- ---- one number more

abbrev chosen_of : Bool → Vec ℕ Global → Option (Vec ℕ Global) → Option (Vec ℕ Global)
chosen_of b v o = if b then Some v else (if b then None else o)

chosen : (b : Bool) (v : Vec ℕ Global) (o : Option (Vec ℕ Global)) (of : List ℕ) (n : ℕ)
    → (b ≡ true → v.items ≡ of ++ n ∷ []) → items_of o ≡ of
    → items_of (chosen_of b v o) ≡ (if b then of ++ n ∷ [] else of)
chosen true v o of n e f = e refl
chosen false v o of n e f = f

pub local_put : (old new : Owners) (x k : Name) (n : ℕ) (v : Vec ℕ Global) → k ≡ x
    → v.items ≡ items_of (get same_name old.locals x) ++ n ∷ []
    → ((y : Name) → get same_name new.locals y ≡
    (if same_name k y then Some v else (if same_name x y then None else get same_name old.locals y)))
    → new.tops ≡ old.tops → (y : Ref) → numbers_of new y ≡ put (Local x) n (numbers_of old) y
unfolding numbers_of
local_put old new x k n v same has table tops (Local y) =
    ap items_of (table y ∙ ap (λ z. if same_name z y then Some v else
    (if same_name x y then None else get same_name old.locals y)) same)
    ∙ chosen (same_name x y) v (get same_name old.locals y) (items_of (get same_name old.locals y)) n
    (λ e. has ∙ ap (λ z. items_of (get same_name old.locals z) ++ n ∷ []) (one_name x y e)) refl
    ∙ ap (λ b. if b then items_of (get same_name old.locals y) ++ n ∷ [] else items_of (get same_name old.locals y))
    (same_back x y)
local_put old new x k n v same has table tops (Top m y) = ap (λ t. items_of (get same_pair t (m, y))) tops

and_left : (a b : Bool) → (a && b) ≡ true → a ≡ true
and_left true b e = refl
and_left false b e = e

and_right : (a b : Bool) → (a && b) ≡ true → b ≡ true
and_right true b e = e
and_right false b e = absurd cc

one_pair : (p q : Name × Name) → same_pair p q ≡ true → p ≡ q
one_pair p q e = λ i. (
  one_name p.0 q.0 (and_left (same_name p.0 q.0) (same_name p.1 q.1) e) i,
  one_name p.1 q.1 (and_right (same_name p.0 q.0) (same_name p.1 q.1) e) i,
)

pub top_put : (old new : Owners) (m x : Name) (k : Name × Name) (n : ℕ) (v : Vec ℕ Global) → k ≡ (m, x)
    → v.items ≡ items_of (get same_pair old.tops (m, x)) ++ n ∷ []
    → ((y : Name × Name) → get same_pair new.tops y ≡
    (if same_pair k y then Some v else (if same_pair (m, x) y then None else get same_pair old.tops y)))
    → new.locals ≡ old.locals → (y : Ref) → numbers_of new y ≡ put (Top m x) n (numbers_of old) y
unfolding numbers_of
top_put old new m x k n v same has table locals (Local y) = ap (λ t. items_of (get same_name t y)) locals
top_put old new m x k n v same has table locals (Top l y) =
    ap items_of (table (l, y) ∙ ap (λ z. if same_pair z (l, y) then Some v else
    (if same_pair (m, x) (l, y) then None else get same_pair old.tops (l, y))) same)
    ∙ chosen (same_pair (m, x) (l, y)) v (get same_pair old.tops (l, y)) (items_of (get same_pair old.tops (l, y))) n
    (λ e. has ∙ ap (λ z. items_of (get same_pair old.tops z) ++ n ∷ []) (one_pair (m, x) (l, y) e)) refl
    ∙ ap (λ b. if b then items_of (get same_pair old.tops (l, y)) ++ n ∷ [] else items_of
    (get same_pair old.tops (l, y))) (pair_back m l x y)

pub put_same : (x : Ref) (n : ℕ) (f g : Numbers) (y : Ref) → f y ≡ g y → put x n f y ≡ put x n g y
put_same x n f g y e = ap (λ (l : List ℕ). if same_ref y x then l ++ n ∷ [] else l) e

pub put_all_more : (xs : List Ref) (x : Ref) (n : ℕ) (of : Numbers) (y : Ref)
    → put_all (xs ++ x ∷ []) n of y ≡ put x n (put_all xs n of) y
put_all_more [] x n of y = refl
put_all_more (z ∷ xs) x n of y = put_all_more xs x n (put z n of) y
