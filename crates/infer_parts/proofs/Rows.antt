-- Parts that a loop goes through.
use Rattle.std.proofs.Common.{◌≡◌, ℕ, suc, ◌+◌, ◌<◌, ◌≤◌, List, [], ◌∷◌, ◌++◌, length, map, take, drop, get_or}
use Rattle.std.proofs.Common.{sym, ap, ◌∙◌, subst, arith}
use Rattle.std.proofs.Math.Seq.{drop-cons, take-length}
use Rattle.std.proofs.lemmas.List.{take_more, map-append, length-map, length-take-le, take-append-drop}
use Rattle.elm_canon.specs.Tree.{exprs_of}
use Rattle.std.specs.List.{AllByRecursion}
use Rattle.elm_canon.specs.View.{expr_view, link_view}
use Rattle.elm_canon.specs.declared.tree.Link.{Link}
use Rattle.elm_canon.specs.declared.tree.Expr.{Expr as Stored}
use Rattle.infer_parts.specs.Formed.{Formed, AllFormed}
use Rattle.infer_parts.specs.Linked.{FormedLink, FormedLinks}
use Rattle.infer_parts.proofs.Forming.{formed_front}

-- what was seen grows by the next one
pub seen_next : {X Y : Type 0} (view : X → Y) (xs : List X) (i : ℕ) (x : X) → i < length xs → x ≡ get_or xs i x
    → map view (take (i + 1) xs) ≡ map view (take i xs) ++ view x ∷ []
seen_next view xs i x lt is =
    ap (map view) (take_more xs i x lt ∙ ap (λ y. take i xs ++ y ∷ []) (sym is)) ∙ map-append view (take i xs) (x ∷ [])

pub seen_all : {X : Type 0} (i : ℕ) (xs : List X) → i ≡ length xs → take i xs ≡ xs
seen_all i xs e = ap (λ n. take n xs) e ∙ take-length xs

-- and what is left begins with it
pub drop_next : {X Y : Type 0} (view : X → Y) (xs : List X) (i : ℕ) (x : X) → i < length xs → x ≡ get_or xs i x
    → map view (drop i xs) ≡ view x ∷ map view (drop (i + 1) xs)
drop_next view xs i x lt is =
    let e : suc i ≡ i + 1 = omega arith in
    ap (map view) (drop-cons xs i x lt ∙ ap (λ y. y ∷ drop (suc i) xs) (sym is) ∙ ap (λ j. x ∷ drop j xs) e)

-- all of them, by what was seen, the next one and what is left
pub seen_split : {X Y : Type 0} (view : X → Y) (xs : List X) (i : ℕ) (x : X) → i < length xs → x ≡ get_or xs i x
    → map view xs ≡ map view (take i xs) ++ view x ∷ map view (drop (i + 1) xs)
seen_split view xs i x lt is =
    sym (ap (map view) (take-append-drop i xs)) ∙ (map-append view (take i xs) (drop i xs)
    ∙ ap (λ l. map view (take i xs) ++ l) (drop_next view xs i x lt is))

pub seen_count : {X Y : Type 0} (view : X → Y) (xs : List X) (i : ℕ) → i ≤ length xs → length (map view (take i xs)) ≡ i
seen_count view xs i le = length-map (take i xs) view ∙ length-take-le i xs le

-- each of them is formed
pub item_formed : (xs : List Stored) (i : ℕ) (x : Stored) → i < length xs → x ≡ get_or xs i x
    → AllFormed (exprs_of (map expr_view xs))
    → Formed (expr_view x)
item_formed xs i x lt is all =
    (formed_front (map expr_view (take i xs)) (expr_view x ∷ map expr_view (drop (i + 1) xs))
    (subst (λ l. AllFormed (exprs_of l)) (seen_split expr_view xs i x lt is) all)).1.0

all_mid : {X : Type 0} (P : X → Type 0) (xs : List X) (x : X) (ys : List X) → AllByRecursion P (xs ++ x ∷ ys) → P x
all_mid P [] x ys h = h.0
all_mid P (y ∷ xs) x ys h = all_mid P xs x ys h.1

pub link_formed : (xs : List Link) (i : ℕ) (x : Link) → i < length xs → x ≡ get_or xs i x
    → FormedLinks (map link_view xs) → FormedLink (link_view x)
link_formed xs i x lt is all =
    all_mid FormedLink (map link_view (take i xs)) (link_view x) (map link_view (drop (i + 1) xs))
    (subst (AllByRecursion FormedLink) (seen_split link_view xs i x lt is) all)
