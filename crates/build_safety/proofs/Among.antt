-- A module of a build among the others.
use Rattle.std.proofs.Common.{◌≡◌, ℕ, zero, suc, List, [], ◌∷◌, ◌++◌, length, Bool, true, false, Some, refl, sym, ap}
use Rattle.std.proofs.Common.{◌∙◌, subst, append-nil, append_assoc}
use Rattle.std.specs.Prelude.{◌||◌, slice_get}
use Rattle.std.specs.List.{list_any}
use Rattle.std.proofs.lemmas.List.{map-append}
use Rattle.elm_canon.specs.Names.{Name, same_name}
use Rattle.elm_canon.specs.Declarations.{ProperDeclarations}
use Rattle.project_proper.specs.Resolved.{Resolved, IsNext, AreNext, HomesApart, AreResolved, scope_after}
use Rattle.project_proper.proofs.First.{nothing_good, Good, all_good, proper_next, new_before}
use Rattle.build_safety.specs.Compiled.{Compiled, resolved_of, IsCompiled, AreCompiled, AreModules}

pub get_left : {X : Type 0} (xs ys : List X) (i : ℕ) (x : X) → slice_get xs i ≡ Some x → slice_get (xs ++ ys) i ≡ Some x
get_left [] ys i x e = absurd cc
get_left (y ∷ xs) ys zero x e = e
get_left (y ∷ xs) ys (suc i) x e = get_left xs ys i x e

pub get_here : {X : Type 0} (xs ys : List X) (x : X) → slice_get (xs ++ x ∷ ys) (length xs) ≡ Some x
get_here [] ys x = refl
get_here (y ∷ xs) ys x = get_here xs ys x

-- ---- resolved modules

next_first : (before xs ys : List Resolved) → AreNext before (xs ++ ys) → AreNext before xs
next_first before [] ys h = tt
next_first before (x ∷ xs) ys h = (h.0, next_first (before ++ x ∷ []) xs ys h.1)

next_later : (before xs ys : List Resolved) → AreNext before (xs ++ ys) → AreNext (before ++ xs) ys
next_later before [] ys h = subst (λ bs. AreNext bs ys) (sym (append-nil before)) h
next_later before (x ∷ xs) ys h =
    subst (λ bs. AreNext bs ys) (append_assoc before (x ∷ []) xs) (next_later (before ++ x ∷ []) xs ys h.1)

or_first : (b c : Bool) → (b || c) ≡ false → b ≡ false
or_first true c e = absurd cc
or_first false c e = refl

or_second : (b c : Bool) → (b || c) ≡ false → c ≡ false
or_second true c e = absurd cc
or_second false c e = e

none_first : (x : Name) (xs ys : List Resolved) →
    list_any (λ (q : Resolved). same_name x q.setting.home) (xs ++ ys) ≡ false →
    list_any (λ (q : Resolved). same_name x q.setting.home) xs ≡ false
none_first x [] ys e = refl
none_first x (r ∷ xs) ys e =
    let a = or_first (same_name x r.setting.home) _ e in
    let b = none_first x xs ys (or_second (same_name x r.setting.home) _ e) in
    ap (λ c. c || list_any (λ (q : Resolved). same_name x q.setting.home) xs) a ∙ b

apart_first : (xs ys : List Resolved) → HomesApart (xs ++ ys) → HomesApart xs
apart_first [] ys h = tt
apart_first (r ∷ xs) ys h = (none_first r.setting.home xs ys h.0, apart_first xs ys h.1)

module _ (before : List Resolved) (r : Resolved) (after : List Resolved) (all : AreResolved (before ++ r ∷ after)) where
  good_before : Good before
  good_before =
      all_good before [] nothing_good (next_first [] before (r ∷ after) all.each) (apart_first before (r ∷ after) all.apart)

  pub next_here : IsNext before r
  next_here = (next_later [] before (r ∷ after) all.each).0

  -- its declarations are proper after those of the modules before it
  pub proper_here : ProperDeclarations (scope_after before) r.whole.declarations
  proper_here = proper_next before r good_before next_here (new_before before r after all.apart)

-- ---- compiled modules

compiled_later : (before xs ys : List Compiled) → AreCompiled before (xs ++ ys) → AreCompiled (before ++ xs) ys
compiled_later before [] ys h = subst (λ bs. AreCompiled bs ys) (sym (append-nil before)) h
compiled_later before (x ∷ xs) ys h =
    subst (λ bs. AreCompiled bs ys) (append_assoc before (x ∷ []) xs) (compiled_later (before ++ x ∷ []) xs ys h.1)

module _ (before : List Compiled) (c : Compiled) (after : List Compiled) (all : AreModules (before ++ c ∷ after)) where
  pub compiled_here : IsCompiled before c
  compiled_here = (compiled_later [] before (c ∷ after) all.compiled).0

  pub resolved_split : AreResolved (resolved_of before ++ c.resolved ∷ resolved_of after)
  resolved_split = subst AreResolved (map-append (λ (d : Compiled). d.resolved) before (c ∷ after)) all.resolved

  pub is_next : IsNext (resolved_of before) c.resolved
  is_next = next_here (resolved_of before) c.resolved (resolved_of after) resolved_split

  pub is_proper : ProperDeclarations (scope_after (resolved_of before)) c.resolved.whole.declarations
  is_proper = proper_here (resolved_of before) c.resolved (resolved_of after) resolved_split
