-- The tests of a column in turn.
use Rattle.std.proofs.Common.{◌≡◌, ℕ, suc, ◌+◌, ◌<◌, ◌≤◌, List, [], ◌∷◌, length, drop, get_or, Bool, true, false}
use Rattle.std.proofs.Common.{refl, ap, ◌∙◌, arith, drop-cons, if◌then◌else◌}
use Rattle.std.proofs.lemmas.List.{length-drop, drop_all, length-map}
use Rattle.js_tree.specs.Tree.{Js, JConditional}
use Rattle.js_emit.specs.Matrix.{Test}
use Rattle.js_emit.specs.Choice.{test_js, chain}
use Rattle.decision_tree.specs.Views.{test_view, tests_view, path_view}
use Rattle.decision_tree.specs.declared.test.Test as declared
use Rattle.decision_tree.specs.declared.split.Chain.{Chain}
use Rattle.decision_tree.specs.Run.{chain_js, chosen_js, rest_js, advanced}
use Rattle.decision_tree.proofs.Lists.{map_at}

-- none is left
pub chain_end : (choose : Test → Js) (path : Js) (whole : Bool) (rest : Js) (ts : List Test) (i : ℕ) → length ts ≤ i
    → chain choose path whole rest (drop i ts) ≡ rest
chain_end choose path whole rest ts i h = ap (chain choose path whole rest) (drop_all i ts h)

split : (ts : List Test) (i : ℕ) (t : Test) → i < length ts → get_or ts i t ≡ t → drop i ts ≡ t ∷ drop (i + 1) ts
split ts i t h at =
    let next : suc i ≡ i + 1 = omega arith in
    drop-cons ts i t h ∙ (ap (λ z. z ∷ drop (suc i) ts) at ∙ ap (λ n. t ∷ drop n ts) next)

-- the last has no test
pub chain_last : (choose : Test → Js) (path : Js) (whole : Bool) (rest : Js) (ts : List Test) (i : ℕ) (t : Test)
    → i < length ts → get_or ts i t ≡ t → whole ≡ true → i + 1 ≡ length ts
    → chain choose path whole rest (drop i ts) ≡ choose t
chain_last choose path whole rest ts i t h at w e =
    ap (chain choose path whole rest) (split ts i t h at
    ∙ ap (λ zs. t ∷ zs) (drop_all (i + 1) ts (omega (arith, e))))
    ∙ ap (λ z. if z then choose t else JConditional (test_js t path) (choose t) rest) w

one_of : (choose : Test → Js) (path : Js) (whole : Bool) (rest : Js) (t : Test) (us : List Test)
    → (whole ≡ true → length us ≡ 0 → ⊥)
    → chain choose path whole rest (t ∷ us) ≡ JConditional (test_js t path) (choose t) (chain choose path whole rest us)
one_of choose path true rest t [] h = absurd (h refl refl)
one_of choose path false rest t [] h = refl
one_of choose path whole rest t (u ∷ us) h = refl

pub chain_next : (choose : Test → Js) (path : Js) (whole : Bool) (rest : Js) (ts : List Test) (i : ℕ) (t : Test)
    → i < length ts → get_or ts i t ≡ t → (whole ≡ true → i + 1 ≡ length ts → ⊥)
    → chain choose path whole rest (drop i ts)
    ≡ JConditional (test_js t path) (choose t) (chain choose path whole rest (drop (i + 1) ts))
chain_next choose path whole rest ts i t h at other =
    ap (chain choose path whole rest) (split ts i t h at)
    ∙ one_of choose path whole rest t (drop (i + 1) ts)
    (λ w none. other w (omega (arith, h, none, length-drop (i + 1) ts)))

-- ---- of the program's chains

pub at_end : (subject : ℕ) (c : Chain) → length c.tests.items ≤ c.next → chain_js subject c ≡ rest_js subject c
at_end subject c h =
    chain_end (chosen_js subject c) (path_view subject c.path) c.is_whole (rest_js subject c) (tests_view c.tests.items)
    c.next (omega (arith, h, length-map c.tests.items test_view))

pub at_last : (subject : ℕ) (c : Chain) (t : declared.Test) → c.next < length c.tests.items
    → get_or c.tests.items c.next t ≡ t → c.is_whole ≡ true → c.next + 1 ≡ length c.tests.items
    → chain_js subject c ≡ chosen_js subject c (test_view t)
at_last subject c t h at w e =
    chain_last (chosen_js subject c) (path_view subject c.path) c.is_whole (rest_js subject c)
    (tests_view c.tests.items)
    c.next (test_view t) (omega (arith, h, length-map c.tests.items test_view))
    (map_at test_view c.tests.items c.next t (test_view t) h at) w
    (omega (arith, e, length-map c.tests.items test_view))

pub at_next : (subject : ℕ) (c : Chain) (t : declared.Test) → c.next < length c.tests.items
    → get_or c.tests.items c.next t ≡ t → (c.is_whole ≡ true → c.next + 1 ≡ length c.tests.items → ⊥)
    → chain_js subject c
    ≡ JConditional (test_js (test_view t) (path_view subject c.path)) (chosen_js subject c (test_view t))
    (chain_js subject (advanced c))
at_next subject c t h at other =
    chain_next (chosen_js subject c) (path_view subject c.path) c.is_whole (rest_js subject c)
    (tests_view c.tests.items)
    c.next (test_view t) (omega (arith, h, length-map c.tests.items test_view))
    (map_at test_view c.tests.items c.next t (test_view t) h at)
    (λ w e. other w (omega (arith, e, length-map c.tests.items test_view)))

pub chain_same : (choose : Test → Js) (rest : Js) (p q : Js) (v w : Bool) (ts us : List Test) → p ≡ q → v ≡ w → ts ≡ us
    → chain choose p v rest ts ≡ chain choose q w rest us
chain_same choose rest p q v w ts us ep ev et =
    ap (λ z. chain choose z v rest ts) ep ∙ (ap (λ z. chain choose q z rest ts) ev ∙ ap (chain choose q w rest) et)
