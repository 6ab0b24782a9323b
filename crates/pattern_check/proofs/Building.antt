-- Steps of making patterns of their parts.
use Rattle.std.proofs.Common.{◌≡◌, ℕ, zero, suc, ◌≤◌, List, [], ◌∷◌, ◌++◌, Option, Some, map, take, drop, refl, sym, ap, ◌∙◌}
use Rattle.std.proofs.Common.{arith}
use Rattle.std.specs.Prelude.{Vec}
use Rattle.std.specs.Global.{Global}
use Rattle.elm_canon.specs.Unions.{Union}
use Rattle.elm_canon.specs.declared.unions.Alternative.{Alternative}
use Rattle.elm_canon.specs.Tree as plain
use Rattle.elm_canon.specs.Tree.{patterns_of}
use Rattle.elm_canon.specs.View.{pattern_view}
use Rattle.elm_canon.specs.declared.tree.Pattern.{Pattern}
use Rattle.elm_canon.specs.declared.tree.Pattern.TheVariants as pattern
use Rattle.elm_canon.proofs.Views.{construct_pattern}
use Rattle.pattern_check.specs.Flat.{Part}
use Rattle.pattern_check.specs.Shapes.{arity_of}
use Rattle.pattern_check.specs.Starts.{start_view, part_view, parts_view}
use Rattle.pattern_check.specs.Built.{head_pattern, made, unlisted, stack_view}
use Rattle.pattern_check.specs.declared.start.Start.{Start}
use Rattle.pattern_check.proofs.Listing.{parts_push}

pub stack_push : (ps : List Pattern) (p : Pattern) (others : List plain.Pattern) →
    stack_view (ps ++ p ∷ []) others ≡ pattern_view p ∷ stack_view ps others
stack_push [] p others = refl
stack_push (q ∷ ps) p others = stack_push ps p (pattern_view q ∷ others)

unlisted_push : (ps : List Part) (p : Part) (base : List plain.Pattern) →
    unlisted (ps ++ p ∷ []) base ≡ unlisted ps (made p base)
unlisted_push [] p base = refl
unlisted_push (q ∷ ps) p base = ap (made q) (unlisted_push ps p base)

pub build_step : (old new : List (Option Start)) (part : Option Start) (stack stack2 : List Pattern) →
    old ≡ new ++ part ∷ [] → stack_view stack2 [] ≡ made (part_view part) (stack_view stack []) →
    unlisted (parts_view new) (stack_view stack2 []) ≡ unlisted (parts_view old) (stack_view stack [])
build_step old new part stack stack2 e h =
    ap (unlisted (parts_view new)) h
    ∙ sym (unlisted_push (parts_view new) (part_view part) (stack_view stack []))
    ∙ ap (λ z. unlisted z (stack_view stack [])) (sym (ap parts_view e ∙ parts_push new part))

pub map_push : (ps : List Pattern) (p : Pattern) → map pattern_view (ps ++ p ∷ []) ≡ map pattern_view ps ++ pattern_view p ∷ []
map_push [] p = refl
map_push (q ∷ ps) p = ap (λ z. pattern_view q ∷ z) (map_push ps p)

module _ {X : Type 0} where
  -- what is empty has an empty front
  pub no_front : (xs ys : List X) → xs ++ ys ≡ [] → xs ≡ []
  no_front [] ys e = refl
  no_front (x ∷ xs) ys e = absurd cc

  pub next_taken : (k : ℕ) (s : List X) (x : X) (r : List X) → drop k s ≡ x ∷ r →
      (take (suc k) s ≡ take k s ++ x ∷ []) × (drop (suc k) s ≡ r)
  next_taken zero [] x r e = absurd cc
  next_taken zero (y ∷ s) x r e = let f : y ≡ x = cc in let g : s ≡ r = cc in (ap (λ z. z ∷ []) f, g)
  next_taken (suc k) [] x r e = absurd cc
  next_taken (suc k) (y ∷ s) x r e = let h = next_taken k s x r e in (ap (λ z. y ∷ z) h.0, h.1)

  pub short : (k n : ℕ) (s : List X) → drop k s ≡ [] → k ≤ n → (take n s ≡ take k s) × (drop n s ≡ [])
  short zero zero s e l = (refl, e)
  short zero (suc n) [] e l = (refl, refl)
  short zero (suc n) (x ∷ s) e l = absurd cc
  short (suc k) zero s e l = absurd (omega (arith, l))
  short (suc k) (suc n) [] e l = (refl, refl)
  short (suc k) (suc n) (x ∷ s) e l = let h = short k n s e (omega (arith, l)) in (ap (λ z. x ∷ z) h.0, h.1)

pub construct_same : (u v : Union) (a b : Alternative) (ps : Vec Pattern Global) → u ≡ v → a ≡ b →
    pattern_view (pattern.Construct u a ps) ≡ plain.Construct v b (patterns_of (map pattern_view ps.items))
construct_same u v a b ps e f =
    construct_pattern u a ps ∙ ap (λ z. plain.Construct z a (patterns_of (map pattern_view ps.items))) e
    ∙ ap (λ z. plain.Construct v z (patterns_of (map pattern_view ps.items))) f

-- one more is taken
pub taken_step : (k m : ℕ) (all : List plain.Pattern) (old new out out2 : List Pattern) (p : Pattern) → m ≡ suc k →
    old ≡ new ++ p ∷ [] → out2 ≡ out ++ p ∷ [] → map pattern_view out ≡ take k all → stack_view old [] ≡ drop k all →
    (map pattern_view out2 ≡ take m all) × (stack_view new [] ≡ drop m all)
taken_step k m all old new out out2 p n e f t d =
    let h = next_taken k all (pattern_view p) (stack_view new [])
    (sym d ∙ ap (λ z. stack_view z []) e ∙ stack_push new p []) in (
      ap (map pattern_view) f ∙ map_push out p ∙ ap (λ z. z ++ pattern_view p ∷ []) t ∙ sym h.0 ∙ ap (λ z. take z all) (sym n),
      sym h.1 ∙ ap (λ z. drop z all) (sym n),
    )

-- a pattern is made of those on the top
pub made_step : (start : Start) (old left new fields : List Pattern) (p : Pattern) (n : ℕ) → n ≡ arity_of (start_view start) →
    map pattern_view fields ≡ take n (stack_view old []) → stack_view left [] ≡ drop n (stack_view old []) →
    pattern_view p ≡ head_pattern (start_view start) (map pattern_view fields) → new ≡ left ++ p ∷ [] →
    stack_view new [] ≡ made (part_view (Some start)) (stack_view old [])
made_step start old left new fields p n e t d h f =
    ap (λ z. stack_view z []) f ∙ stack_push left p []
    ∙ ap (λ z. z ∷ stack_view left []) (h ∙ ap (head_pattern (start_view start)) (t ∙ ap (λ z. take z (stack_view old [])) e))
    ∙ ap (λ z. head_pattern (start_view start) (take (arity_of (start_view start)) (stack_view old [])) ∷ z) (d ∙ ap (λ z. drop z (stack_view old [])) e)
