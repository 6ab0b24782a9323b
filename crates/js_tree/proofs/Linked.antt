-- Where trees begin, as nodes come.
use Rattle.std.proofs.Common.{◌≡◌, ℕ, zero, suc, ◌+◌, ◌<◌, ◌≤◌, List, [], ◌∷◌, ◌++◌, length, take, get_or, refl, sym}
use Rattle.std.proofs.Common.{ap, ◌∙◌, subst, arith, ◌⊎◌, inl, inr}
use Rattle.std.proofs.lemmas.List.{take_all, take-append-le, take_more, get_or_append_left, get_or_push}
use Rattle.js_tree.specs.declared.tree.Node as node
use Rattle.js_tree.specs.declared.tree.Node.{Node}
use Rattle.js_tree.specs.Postorder.{Tree, apply, arity, below, below_times, trees_of, build_on, trees_at}
use Rattle.js_tree.specs.Insides.{IsStart, AreLinked}

build_on-append : (ts : List Tree) (ns ms : List Node) → build_on ts (ns ++ ms) ≡ build_on (build_on ts ns) ms
build_on-append ts [] ms = refl
build_on-append ts (n ∷ ns) ms = build_on-append (apply n ts) ns ms

pub build_push : (ns : List Node) (n : Node) → trees_of (ns ++ n ∷ []) ≡ apply n (trees_of ns)
build_push ns n = build_on-append [] ns (n ∷ [])

-- one place on
pub trees_more : (ns : List Node) (i : ℕ) (d : Node) → i < length ns → trees_at ns (suc i) ≡ apply (get_or ns i d) (trees_at ns i)
trees_more ns i d h = let e : i + 1 ≡ suc i = omega arith in ap (λ k. trees_at ns k) (sym e) ∙ (ap trees_of (take_more ns i d h) ∙ build_push (take i ns) (get_or ns i d))

-- what a node takes lies below its tree
pub below_apply : (n : Node) (ts : List Tree) → below (apply n ts) ≡ below_times (arity n) ts
below_apply (node.Node.Int n) ts = refl
below_apply (node.Node.Bool b) ts = refl
below_apply (node.Node.Text us) ts = refl
below_apply (node.Node.Var x) ts = refl
below_apply node.Node.NoItem ts = refl
below_apply node.Node.NoField ts = refl
below_apply node.Node.NoStatement ts = refl
below_apply node.Node.Continue ts = refl
below_apply node.Node.NoLine ts = refl
below_apply (node.Node.Arrow p) ts = refl
below_apply node.Node.Block ts = refl
below_apply node.Node.Object ts = refl
below_apply (node.Node.Property k) ts = refl
below_apply node.Node.List ts = refl
below_apply (node.Node.Helper h) ts = refl
below_apply node.Node.Return ts = refl
below_apply node.Node.While ts = refl
below_apply node.Node.Call ts = refl
below_apply (node.Node.Binary op) ts = refl
below_apply node.Node.Item ts = refl
below_apply (node.Node.Field k) ts = refl
below_apply (node.Node.Const x) ts = refl
below_apply (node.Node.Let x) ts = refl
below_apply (node.Node.Assign x) ts = refl
below_apply node.Node.Ended ts = refl
below_apply (node.Node.Line x) ts = refl
below_apply node.Node.Conditional ts = refl
below_apply node.Node.If ts = refl
below_apply (node.Node.Program name outs) ts = refl

-- the whole, and what came before
pub trees_whole : (ns : List Node) (i : ℕ) → length ns ≤ i → trees_at ns i ≡ trees_of ns
trees_whole ns i h = ap trees_of (take_all i ns h)

pub trees_kept : (ns ms : List Node) (i : ℕ) → i ≤ length ns → trees_at (ns ++ ms) i ≡ trees_at ns i
trees_kept ns ms i h = ap trees_of (take-append-le i ns ms h)

length_push : {A : Type 0} (xs : List A) (x : A) → length (xs ++ x ∷ []) ≡ suc (length xs)
length_push [] x = refl
length_push (y ∷ xs) x = ap suc (length_push xs x)

split : (i n : ℕ) → i < suc n → (i < n) ⊎ (i ≡ n)
split zero zero h = inr refl
split zero (suc n) h = inl (omega arith)
split (suc i) zero h = absurd (omega arith)
split (suc i) (suc n) h = up (split i n (omega arith))
  where
    up : (i < n) ⊎ (i ≡ n) → (suc i < suc n) ⊎ (suc i ≡ suc n)
    up (inl p) = inl (omega arith)
    up (inr p) = inr (ap suc p)

-- one node more, whose tree begins below what it takes
pub linked_push : (ns : List Node) (starts : List ℕ) (n : Node) (start : ℕ) → AreLinked ns starts → trees_at ns start ≡ below_times (arity n) (trees_of ns) → start ≤ length ns
    → AreLinked (ns ++ n ∷ []) (starts ++ start ∷ [])
linked_push ns starts n start l e h = record {
  count = length_push starts start ∙ (ap suc l.count ∙ sym (length_push ns n));
  each = λ i b. by_split i (split i (length ns) (subst (λ k. i < k) (length_push ns n) b));
}
  where
    old : (i : ℕ) → i < length ns → IsStart (ns ++ n ∷ []) i (get_or (starts ++ start ∷ []) i 0)
    old i b =
        let s = l.each i b in
        let same : get_or (starts ++ start ∷ []) i 0 ≡ get_or starts i 0 = get_or_append_left starts (start ∷ []) 0 i (subst (λ k. i < k) (sym l.count) b) in
        subst (λ p. IsStart (ns ++ n ∷ []) i p) (sym same) (record {
          before = s.before;
          trees = trees_kept ns (n ∷ []) (get_or starts i 0) (let q = s.before in omega arith) ∙ (s.trees ∙ ap below (sym (trees_kept ns (n ∷ []) (suc i) (omega arith))));
        })

    last : IsStart (ns ++ n ∷ []) (length ns) (get_or (starts ++ start ∷ []) (length ns) 0)
    last = subst (λ p. IsStart (ns ++ n ∷ []) (length ns) p) (sym (get_or_push starts start 0 (length ns) l.count)) (record {
      before = h;
      trees = trees_kept ns (n ∷ []) start h ∙ (e ∙ (sym (below_apply n (trees_of ns)) ∙ ap below (sym (trees_whole (ns ++ n ∷ []) (suc (length ns)) (subst (λ k. k ≤ suc (length ns)) (sym (length_push ns n)) (omega arith)) ∙ build_push ns n))));
    })

    by_split : (i : ℕ) → (i < length ns) ⊎ (i ≡ length ns) → IsStart (ns ++ n ∷ []) i (get_or (starts ++ start ∷ []) i 0)
    by_split i (inl b) = old i b
    by_split i (inr q) = subst (λ k. IsStart (ns ++ n ∷ []) k (get_or (starts ++ start ∷ []) k 0)) (sym q) last

pub linked_none : AreLinked [] []
linked_none = record { count = refl; each = λ i b. absurd (omega arith) }

shorter : {A : Type 0} (xs : List A) (x : A) (n : ℕ) → length (xs ++ x ∷ []) ≡ suc n → length xs ≡ n
shorter xs x n e = let l : length (xs ++ x ∷ []) ≡ suc (length xs) = length_push xs x in omega arith

-- one node fewer
pub linked_pop : (ns : List Node) (starts : List ℕ) (n : Node) (start : ℕ) → AreLinked (ns ++ n ∷ []) (starts ++ start ∷ []) → AreLinked ns starts
linked_pop ns starts n start l = record {
  count = same;
  each = λ i b. earlier i b;
}
  where
    same : length starts ≡ length ns
    same = shorter starts start (length ns) (l.count ∙ length_push ns n)

    earlier : (i : ℕ) → i < length ns → IsStart ns i (get_or starts i 0)
    earlier i b =
        let s = l.each i (subst (λ k. i < k) (sym (length_push ns n)) (omega arith)) in
        let kept : get_or (starts ++ start ∷ []) i 0 ≡ get_or starts i 0 = get_or_append_left starts (start ∷ []) 0 i (subst (λ k. i < k) (sym same) b) in
        let inside : get_or starts i 0 ≤ i = subst (λ k. k ≤ i) kept s.before in
        record {
          before = inside;
          trees = sym (trees_kept ns (n ∷ []) (get_or starts i 0) (omega arith))
              ∙ (ap (λ k. trees_at (ns ++ n ∷ []) k) (sym kept) ∙ (s.trees ∙ ap below (trees_kept ns (n ∷ []) (suc i) (omega arith))));
        }
