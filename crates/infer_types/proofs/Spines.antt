-- Types of functions, by their nodes: the first parameter, and the parameters in turn.
use Rattle.std.proofs.Common.{◌≡◌, ℕ, zero, suc, ◌+◌, ◌-◌, ◌<◌, ◌≤◌, List, [], ◌∷◌, ◌++◌, length, map, take, drop}
use Rattle.std.proofs.Common.{true, false, Option, Some, None, refl, sym, ap, ◌∙◌, subst, arith, append-nil}
use Rattle.std.proofs.Common.{append_assoc}
use Rattle.std.proofs.Common.{length-append, length-drop}
use Rattle.std.specs.Prelude.{nat_eq}
use Rattle.std.proofs.lemmas.Bool.Decides.{nat_tests}
use Rattle.std.proofs.lemmas.List.{drop-drop}
use Rattle.elm_type.specs.Types.{ElmType, Closed, Over, Made, Record, NoType, MoreType, count, Leaf}
use Rattle.elm_type.specs.Spelling.{spell, type_of, AreSpelled}
use Rattle.elm_type.specs.declared.head.Head.TheVariants as head
use Rattle.elm_type.specs.declared.node.Node.{Node}
use Rattle.infer_types.specs.Functions.{parameters_in, first_length, begins_arrow}

-- ---- the first parameter

abbrev Measures : ℕ → List Node → Type 0
Measures n ns = (a : ElmType (Leaf ℕ)) (rest : List Node) → ns ≡ spell a ++ rest → n ≡ length (spell a)

three : (k : ℕ) → nat_eq (suc (suc (suc k))) 2 ≡ true → ⊥
three k e = let z : suc (suc (suc k)) ≡ 2 = grind (arith, nat_tests) in omega (arith, z)

arrow_yes : (t : ElmType (Leaf ℕ)) (n : ℕ) → begins_arrow (spell t) ≡ true → Measures n (drop 1 (spell t))
    → Some n ≡ first_length t
unfolding spell
arrow_yes (Made head.Function NoType) n e f = absurd cc
arrow_yes (Made head.Function (MoreType a NoType)) n e f = absurd cc
arrow_yes (Made head.Function (MoreType a (MoreType b NoType))) n e f = ap Some (f a (spell b ++ []) refl)
arrow_yes (Made head.Function (MoreType a (MoreType b (MoreType c ts)))) n e f = absurd (three (count ts) e)
arrow_yes (Made (head.Named m x) ts) n e f = absurd cc
arrow_yes (Made head.Tuple ts) n e f = absurd cc
arrow_yes (Record fs Closed) n e f = absurd cc
arrow_yes (Record fs (Over x)) n e f = absurd cc

arrow_no : (t : ElmType (Leaf ℕ)) → begins_arrow (spell t) ≡ false → None ≡ first_length t
unfolding spell
arrow_no (Made head.Function NoType) e = refl
arrow_no (Made head.Function (MoreType a NoType)) e = refl
arrow_no (Made head.Function (MoreType a (MoreType b NoType))) e = absurd cc
arrow_no (Made head.Function (MoreType a (MoreType b (MoreType c ts)))) e = refl
arrow_no (Made (head.Named m x) ts) e = refl
arrow_no (Made head.Tuple ts) e = refl
arrow_no (Record fs end) e = refl

pub is_first : (ns : List Node) (n : ℕ) → begins_arrow ns ≡ true → Measures n (drop 1 ns) → (t : ElmType (Leaf ℕ))
    → ns ≡ spell t → Some n ≡ first_length t
is_first ns n e f t is = arrow_yes t n (ap begins_arrow (sym is) ∙ e) (subst (λ ms. Measures n (drop 1 ms)) is f)

pub no_first : (ns : List Node) → begins_arrow ns ≡ false → (t : ElmType (Leaf ℕ)) → ns ≡ spell t
    → None ≡ first_length t
no_first ns e t is = arrow_no t (ap begins_arrow (sym is) ∙ e)

-- ---- the end of a list

take_whole : {X : Type 0} (xs : List X) → take (length xs) xs ≡ xs
take_whole [] = refl
take_whole (x ∷ xs) = ap (λ ys. x ∷ ys) (take_whole xs)

pub the_rest : {X : Type 0} (k : ℕ) (xs : List X) → take (length xs - k) (drop k xs) ≡ drop k xs
the_rest k xs = ap (λ n. take n (drop k xs)) (sym (length-drop k xs)) ∙ take_whole (drop k xs)

-- ---- the parameters in turn

abbrev pub lengths_of : List (ElmType (Leaf ℕ)) → List ℕ
lengths_of ts = map (λ u. length (spell u)) ts

none_in : (t : ElmType (Leaf ℕ)) → first_length t ≡ None → (n : ℕ) → parameters_in n t ≡ []
none_in t e zero = refl
none_in (Made head.Function NoType) e (suc n) = refl
none_in (Made head.Function (MoreType a NoType)) e (suc n) = refl
none_in (Made head.Function (MoreType a (MoreType b NoType))) e (suc n) = absurd cc
none_in (Made head.Function (MoreType a (MoreType b (MoreType c ts)))) e (suc n) = refl
none_in (Made (head.Named m x) ts) e (suc n) = refl
none_in (Made head.Tuple ts) e (suc n) = refl
none_in (Record fs end) e (suc n) = refl

pub record Arrow (t : ElmType (Leaf ℕ)) (n : ℕ) : Type 0 where
  pub first : ElmType (Leaf ℕ)
  pub others : ElmType (Leaf ℕ)
  pub is : t ≡ Made head.Function (MoreType first (MoreType others NoType))
  pub size : n ≡ length (spell first)

some_first : (m n : ℕ) → Some m ≡ Some n → n ≡ m
some_first m n e = ap (λ o. value_or o n) (sym e)
  where
    value_or : Option ℕ → ℕ → ℕ
    value_or None d = d
    value_or (Some x) d = x

one_in : (t : ElmType (Leaf ℕ)) (n : ℕ) → first_length t ≡ Some n → Arrow t n
one_in (Made head.Function NoType) n e = absurd cc
one_in (Made head.Function (MoreType a NoType)) n e = absurd cc
one_in (Made head.Function (MoreType a (MoreType b NoType))) n e =
    record { first = a; others = b; is = refl; size = some_first (length (spell a)) n e }
one_in (Made head.Function (MoreType a (MoreType b (MoreType c ts)))) n e = absurd cc
one_in (Made (head.Named m x) ts) n e = absurd cc
one_in (Made head.Tuple ts) n e = absurd cc
one_in (Record fs end) n e = absurd cc

-- so many parameters are passed, and the nodes from here on are those of the type that is left
pub record Cut (ns : List Node) (arity i start : ℕ) (lengths : List ℕ) : Type 0 where
  pub left : ElmType (Leaf ℕ)
  pub nodes : drop start ns ≡ spell left
  pub done : lengths ++ lengths_of (parameters_in (arity - i) left) ≡ lengths_of (parameters_in arity (type_of ns))

pub cut_first : (ns : List Node) (arity : ℕ) → AreSpelled ns → Cut ns arity 0 0 []
cut_first ns arity spelled = record {
  left = type_of ns;
  nodes = sym spelled;
  done = (let e : arity - 0 ≡ arity = omega arith in ap (λ k. lengths_of (parameters_in k (type_of ns))) e);
}

some_nodes : (t : ElmType (Leaf ℕ)) → 0 < length (spell t)
unfolding spell
some_nodes (Made h ts) = omega arith
some_nodes (Record fs end) = omega arith

pub cut_inside : (ns : List Node) (arity i start : ℕ) (lengths : List ℕ) → Cut ns arity i start lengths
    → start < length ns
cut_inside ns arity i start lengths cut = omega (arith, length-drop start ns, ap length cut.nodes, some_nodes cut.left)

pub cut_room : (ns : List Node) (arity i start n : ℕ) (lengths : List ℕ) (cut : Cut ns arity i start lengths)
    → Some n ≡ first_length cut.left
    → start + (n + 1) < length ns
unfolding spell
cut_room ns arity i start n lengths cut e =
    let arrow = one_in cut.left n (sym e) in
    let size = ap length cut.nodes ∙ ap (λ t. length (spell t)) arrow.is in
    omega (
      arith,
      length-drop start ns,
      size,
      length-append (spell arrow.first) (spell arrow.others ++ []),
      length-append (spell arrow.others) [],
      some_nodes arrow.others,
      arrow.size,
    )

past_first : {X : Type 0} (n : ℕ) (xs ys : List X) → n ≡ length xs → drop n (xs ++ ys) ≡ ys
past_first n [] ys e = ap (λ k. drop k ys) e
past_first zero (x ∷ xs) ys e = absurd (omega (arith, e))
past_first (suc n) (x ∷ xs) ys e = past_first n xs ys (omega (arith, e))

pub cut_next : (ns : List Node) (arity i start n : ℕ) (lengths : List ℕ) (cut : Cut ns arity i start lengths)
    → i < arity → Some n ≡ first_length cut.left
    → Cut ns arity (i + 1) (start + (n + 1)) (lengths ++ n ∷ [])
unfolding spell
cut_next ns arity i start n lengths cut l e =
    let arrow = one_in cut.left n (sym e) in
    let more : arity - i ≡ suc (arity - (i + 1)) = omega (arith, l) in
    let parameters : parameters_in (arity - i) cut.left ≡ arrow.first ∷ parameters_in (arity - (i + 1)) arrow.others =
    ap (λ k. parameters_in k cut.left) more ∙ ap (parameters_in (suc (arity - (i + 1)))) arrow.is in
    let one : suc n ≡ n + 1 = omega arith in
    record {
      left = arrow.others;
      nodes =
          sym (drop-drop (n + 1) start ns)
          ∙ (ap (drop (n + 1)) (cut.nodes ∙ ap spell arrow.is)
          ∙ (ap (λ k. drop k (spell (Made head.Function (MoreType arrow.first (MoreType arrow.others NoType)))))
          (sym one)
          ∙ (past_first n (spell arrow.first) (spell arrow.others ++ []) arrow.size ∙ append-nil
          (spell arrow.others))));
      done =
          append_assoc lengths (n ∷ []) (lengths_of (parameters_in (arity - (i + 1)) arrow.others))
          ∙ (ap (λ k. lengths ++ k ∷ lengths_of (parameters_in (arity - (i + 1)) arrow.others)) arrow.size
          ∙ (ap (λ ts. lengths ++ lengths_of ts) (sym parameters) ∙ cut.done));
    }

pub cut_none : (ns : List Node) (arity i start : ℕ) (lengths : List ℕ) (cut : Cut ns arity i start lengths)
    → None ≡ first_length cut.left
    → lengths ≡ lengths_of (parameters_in arity (type_of ns))
cut_none ns arity i start lengths cut e =
    sym (append-nil lengths) ∙ (ap (λ ts. lengths ++ lengths_of ts) (sym (none_in cut.left (sym e) (arity - i))) ∙
    cut.done)

pub cut_all : (ns : List Node) (arity i start : ℕ) (lengths : List ℕ) → arity ≤ i → Cut ns arity i start lengths
    → lengths ≡ lengths_of (parameters_in arity (type_of ns))
cut_all ns arity i start lengths l cut =
    let e : arity - i ≡ 0 = omega (arith, l) in
    sym (append-nil lengths) ∙ (ap (λ k. lengths ++ lengths_of (parameters_in k cut.left)) (sym e) ∙ cut.done)
