-- Places of numbers in an order that grows.
use Rattle.std.proofs.Common.{◌≡◌, ℕ, suc, ◌+◌, ◌<◌, ◌≤◌, ◌^◌, List, [], ◌∷◌, ◌++◌, length, map, take, drop, get_or}
use Rattle.std.proofs.Common.{Bool, true, false, cond, nat_eq, Some, None, refl, sym, ◌∙◌, ap, subst, arith, ◌||◌, not}
use Rattle.std.proofs.Common.{length-append, drop-cons, add-one}
use Rattle.std.specs.List.{list_any, position_or_len, flat_map}
use Rattle.std.specs.HashMap as hash
use Rattle.std.specs.HashMap.{HashMap}
use Rattle.std.proofs.lemmas.Bool.{eqb-true, eq-eqb, false≢true}
use Rattle.std.proofs.lemmas.Cmp.{nat_eq_equiv}
use Rattle.std.proofs.lemmas.Map.Keys.{IsDistinct-push}
use Rattle.std.proofs.lemmas.Map.Steps.{length-le_from_distinct_below}
use Rattle.std.proofs.lemmas.List.Folds.{list_any-append}
use Rattle.std.proofs.lemmas.List.{map-append}
use Rattle.std.proofs.lemmas.List.{take_more}
use Rattle.elm_type.specs.Types.{Leaf, Free, Fixed}
use Rattle.elm_type.specs.Numbers.{place_in, Numbered}
use Rattle.elm_type.specs.Schemes.{noted, in_order, placed}
use Rattle.elm_type.specs.Nodes.{leaves, renamed_node}
use Rattle.elm_type.specs.declared.node.Leaf.TheVariants as leaf
use Rattle.elm_type.specs.declared.node.Node.{Node}
use Rattle.elm_type.specs.declared.node.Node.TheVariants as node

not_true : (b : Bool) → (b ≡ true → ⊥) → b ≡ false
not_true true h = absurd (h refl)
not_true false h = refl

or_false : (b : Bool) → (b || false) ≡ true → b ≡ true
or_false true e = refl
or_false false e = e

absent_by : (b : Bool) (p : ℕ) → cond b (Some p) None ≡ None → b ≡ false
absent_by true p e = absurd cc
absent_by false p e = refl

-- a number without a place is not there
pub absent : (i : ℕ) (order : List ℕ) → place_in i order ≡ None → list_any (nat_eq i) order ≡ false
absent i order = absent_by (list_any (nat_eq i) order) (position_or_len (nat_eq i) order)

last_by : (b c : Bool) (p n : ℕ) → (b || c) ≡ false → (c ≡ false → p ≡ n) → cond (not b) (1 + p) 0 ≡ suc n
last_by true c p n e h = absurd cc
last_by false c p n e h = omega (arith, h e)

-- the place of the last
pub place_last : (i : ℕ) (order : List ℕ) → list_any (nat_eq i) order ≡ false → position_or_len (nat_eq i) (order ++ i ∷ []) ≡ length order
place_last i [] e = rw (eq-eqb i i refl) refl
place_last i (j ∷ js) e = last_by (nat_eq i j) (list_any (nat_eq i) js) (position_or_len (nat_eq i) (js ++ i ∷ [])) (length js) e (place_last i js)

stays_by : (b c : Bool) (p q : ℕ) → (b || c) ≡ true → (c ≡ true → p ≡ q) → cond (not b) (1 + p) 0 ≡ cond (not b) (1 + q) 0
stays_by true c p q e h = refl
stays_by false c p q e h = ap (λ n. 1 + n) (h e)

-- a place stays where the order grows
pub place_stays : (i : ℕ) (order more : List ℕ) → list_any (nat_eq i) order ≡ true → position_or_len (nat_eq i) (order ++ more) ≡ position_or_len (nat_eq i) order
place_stays i [] more e = absurd cc
place_stays i (j ∷ js) more e =
    stays_by (nat_eq i j) (list_any (nat_eq i) js) (position_or_len (nat_eq i) (js ++ more)) (position_or_len (nat_eq i) js) e (place_stays i js more)

-- the place of a number once one more is there
push_other : (q : ℕ) (order more : List ℕ) (b : Bool) → list_any (nat_eq q) order ≡ b → list_any (nat_eq q) more ≡ false →
    place_in q order ≡ place_in q (order ++ more)
push_other q order more true e f =
    ap (λ c. cond c (Some (position_or_len (nat_eq q) order)) None) e
    ∙ (ap Some (sym (place_stays q order more e))
    ∙ ap (λ c. cond c (Some (position_or_len (nat_eq q) (order ++ more))) None) (sym (list_any-append (nat_eq q) order more ∙ ap (λ c. c || list_any (nat_eq q) more) e)))
push_other q order more false e f =
    ap (λ c. cond c (Some (position_or_len (nat_eq q) order)) None) e
    ∙ ap (λ c. cond c (Some (position_or_len (nat_eq q) (order ++ more))) None) (sym (list_any-append (nat_eq q) order more ∙ (ap (λ c. c || list_any (nat_eq q) more) e ∙ f)))

push_itself : (i : ℕ) (order : List ℕ) → list_any (nat_eq i) order ≡ false → Some (length order) ≡ place_in i (order ++ i ∷ [])
push_itself i order e =
    ap Some (sym (place_last i order e))
    ∙ ap (λ c. cond c (Some (position_or_len (nat_eq i) (order ++ i ∷ []))) None)
    (sym (list_any-append (nat_eq i) order (i ∷ []) ∙ (ap (λ c. c || list_any (nat_eq i) (i ∷ [])) e ∙ ap (λ c. c || false) (eq-eqb i i refl))))

eqb_turned : (i q : ℕ) → nat_eq i q ≡ false → nat_eq q i ≡ false
eqb_turned i q e = not_true (nat_eq q i) (λ h. false≢true (sym e ∙ eq-eqb i q (sym (eqb-true q i h))))

push_place : (q i : ℕ) (order : List ℕ) (b : Bool) → nat_eq i q ≡ b → list_any (nat_eq i) order ≡ false →
    cond b (Some (length order)) (place_in q order) ≡ place_in q (order ++ i ∷ [])
push_place q i order true e f = subst (λ r. Some (length order) ≡ place_in r (order ++ i ∷ [])) (eqb-true i q e) (push_itself i order f)
push_place q i order false e f = push_other q order (i ∷ []) (list_any (nat_eq q) order) refl (ap (λ c. c || false) (eqb_turned i q e))

pushed_below : (i q : ℕ) (order : List ℕ) (b : Bool) → list_any (nat_eq q) order ≡ b → (list_any (nat_eq q) order ≡ true → q < 2 ^ 32) → i < 2 ^ 32 →
    list_any (nat_eq q) (order ++ i ∷ []) ≡ true → q < 2 ^ 32
pushed_below i q order true e below less h = below e
pushed_below i q order false e below less h =
    let g : (nat_eq q i || false) ≡ true = sym (list_any-append (nat_eq q) order (i ∷ []) ∙ ap (λ c. c || (nat_eq q i || false)) e) ∙ h in
    subst (λ (r : ℕ). r < 2 ^ 32) (sym (eqb-true q i (or_false (nat_eq q i) g))) less

-- one number more
pub numbered_push : {S : Type 0} (m n : HashMap ℕ ℕ S) (order : List ℕ) (i : ℕ) → Numbered m order → list_any (nat_eq i) order ≡ false → i < 2 ^ 32 →
    ((q : ℕ) → hash.get nat_eq n q ≡ cond (nat_eq i q) (Some (length order)) (hash.get nat_eq m q)) → Numbered n (order ++ i ∷ [])
numbered_push m n order i h e less u = record {
  has = λ q. u q ∙ (ap (cond (nat_eq i q) (Some (length order))) (h.has q) ∙ push_place q i order (nat_eq i q) refl e);
  distinct = IsDistinct-push nat_eq_equiv order i h.distinct e;
  below = λ q. pushed_below i q order (list_any (nat_eq q) order) refl (h.below q) less;
}

-- there is room for one more
pub room : {S : Type 0} (m : HashMap ℕ ℕ S) (order : List ℕ) (i : ℕ) → Numbered m order → list_any (nat_eq i) order ≡ false → i < 2 ^ 32 → length order < 2 ^ 32
room m order i h e less =
    let k : length (order ++ i ∷ []) ≤ 2 ^ 32 = length-le_from_distinct_below (order ++ i ∷ []) (2 ^ 32) (IsDistinct-push nat_eq_equiv order i h.distinct e)
    (λ q. pushed_below i q order (list_any (nat_eq q) order) refl (h.below q) less) in
    omega (arith, k, length-append order (i ∷ []))

-- ---- the way to the whole order

noted_has : (order : List ℕ) (i j : ℕ) (b : Bool) → list_any (nat_eq j) order ≡ b → list_any (nat_eq i) order ≡ true → list_any (nat_eq i) (cond b order (order ++ j ∷ [])) ≡ true
noted_has order i j true e h = h
noted_has order i j false e h = list_any-append (nat_eq i) order (j ∷ []) ∙ ap (λ c. c || (nat_eq i j || false)) h

noted_place : (order : List ℕ) (i j : ℕ) (b : Bool) → list_any (nat_eq i) order ≡ true → position_or_len (nat_eq i) (cond b order (order ++ j ∷ [])) ≡ position_or_len (nat_eq i) order
noted_place order i j true h = refl
noted_place order i j false h = place_stays i order (j ∷ []) h

-- a number that is there keeps its place
pub place_kept : (i : ℕ) (order : List ℕ) (xs : List (Leaf ℕ)) → list_any (nat_eq i) order ≡ true → position_or_len (nat_eq i) (in_order order xs) ≡ position_or_len (nat_eq i) order
place_kept i order [] h = refl
place_kept i order (Free j ∷ xs) h =
    place_kept i (noted order j) xs (noted_has order i j (list_any (nat_eq j) order) refl h) ∙ noted_place order i j (list_any (nat_eq j) order) h
place_kept i order (Fixed r ∷ xs) h = place_kept i order xs h

is_noted : (order : List ℕ) (i : ℕ) (b : Bool) → list_any (nat_eq i) order ≡ b → list_any (nat_eq i) (cond b order (order ++ i ∷ [])) ≡ true
is_noted order i true e = e
is_noted order i false e = list_any-append (nat_eq i) order (i ∷ []) ∙ (ap (λ c. c || (nat_eq i i || false)) e ∙ ap (λ c. c || false) (eq-eqb i i refl))

-- a node whose variable is there stays as the order grows
pub node_kept : (n : Node) (order : List ℕ) (xs : List (Leaf ℕ)) →
    renamed_node (placed (in_order order (leaves n))) n ≡ renamed_node (placed (in_order (in_order order (leaves n)) xs)) n
node_kept (node.Made h k) order xs = refl
node_kept (node.Record k) order xs = refl
node_kept (node.Field x) order xs = refl
node_kept (node.Open (leaf.Fixed r) k) order xs = refl
node_kept (node.Open (leaf.Free i) k) order xs = ap (λ j. node.Open (leaf.Free j) k) (sym (place_kept i (noted order i) xs (is_noted order i (list_any (nat_eq i) order) refl)))

pub in_order_append : (order : List ℕ) (xs ys : List (Leaf ℕ)) → in_order order (xs ++ ys) ≡ in_order (in_order order xs) ys
in_order_append order [] ys = refl
in_order_append order (Free i ∷ xs) ys = in_order_append (noted order i) xs ys
in_order_append order (Fixed r ∷ xs) ys = in_order_append order xs ys

-- one node more: the order is on its way
pub step_order : (ns : List Node) (i : ℕ) (n : Node) (old new whole : List ℕ) → i < length ns → n ≡ get_or ns i n → new ≡ in_order old (leaves n) →
    in_order old (flat_map leaves (drop i ns)) ≡ whole → in_order new (flat_map leaves (drop (i + 1) ns)) ≡ whole
step_order ns i n old new whole less is e h =
    let d : drop i ns ≡ n ∷ drop (i + 1) ns = drop-cons ns i n less ∙ (ap (λ m. m ∷ drop (suc i) ns) (sym is) ∙ ap (λ j. n ∷ drop j ns) (sym (add-one i))) in
    ap (λ o. in_order o (flat_map leaves (drop (i + 1) ns))) e
    ∙ (sym (in_order_append old (leaves n) (flat_map leaves (drop (i + 1) ns)))
    ∙ (ap (λ ms. in_order old (flat_map leaves ms)) (sym d) ∙ h))

-- and the node has its last place
pub step_nodes : (ns os ps : List Node) (i : ℕ) (n m : Node) (old new whole : List ℕ) → i < length ns → n ≡ get_or ns i n → new ≡ in_order old (leaves n) →
    in_order old (flat_map leaves (drop i ns)) ≡ whole → m ≡ renamed_node (placed new) n → os ≡ map (renamed_node (placed whole)) (take i ns) →
    ps ≡ os ++ m ∷ [] → ps ≡ map (renamed_node (placed whole)) (take (i + 1) ns)
step_nodes ns os ps i n m old new whole less is e h f g k =
    let w : in_order new (flat_map leaves (drop (i + 1) ns)) ≡ whole = step_order ns i n old new whole less is e h in
    let r : m ≡ renamed_node (placed whole) n =
    f ∙ (ap (λ o. renamed_node (placed o) n) e
    ∙ (node_kept n old (flat_map leaves (drop (i + 1) ns))
    ∙ (ap (λ o. renamed_node (placed (in_order o (flat_map leaves (drop (i + 1) ns)))) n) (sym e)
    ∙ ap (λ o. renamed_node (placed o) n) w))) in
    k ∙ (ap (λ qs. qs ++ m ∷ []) g
    ∙ (ap (λ q. map (renamed_node (placed whole)) (take i ns) ++ q ∷ []) r
    ∙ (sym (map-append (renamed_node (placed whole)) (take i ns) (n ∷ []))
    ∙ ap (map (renamed_node (placed whole))) (ap (λ q. take i ns ++ q ∷ []) is ∙ sym (take_more ns i n less)))))
