-- What is among the members of lists.
use Rattle.std.proofs.Common.{◌≡◌, List, [], ◌∷◌, ◌++◌, map, inl, inr, refl, sym, ap, ◌∙◌, subst}
use Rattle.std.specs.Prelude.{flat_map}
use Rattle.std.specs.List.{AllByRecursion}
use Rattle.typed_values.specs.World.{Among}
use Rattle.canon_proper.proofs.Quiet.{append_none}
use Rattle.build_safety.proofs.WorldExact.{among_left, among_right}

module _ {X Y : Type 0} where
  -- a member of mapped ones is one of a member
  pub picked : (f : X → Y) (xs : List X) (y : Y) → Among y (map f xs) → (x : X) × Among x xs × (f x ≡ y)
  picked f [] y a = absurd a
  picked f (x ∷ xs) y (inl e) = (x, inl refl, sym e)
  picked f (x ∷ xs) y (inr a) = let h = picked f xs y a in (h.0, inr h.1, h.2)

  pub mapped_there : (f : X → Y) (xs : List X) (x : X) → Among x xs → Among (f x) (map f xs)
  mapped_there f [] x a = absurd a
  mapped_there f (z ∷ xs) x (inl e) = inl (ap f e)
  mapped_there f (z ∷ xs) x (inr a) = inr (mapped_there f xs x a)

  pub flat_there : (f : X → List Y) (xs : List X) (x : X) (y : Y) → Among x xs → Among y (f x) →
      Among y (flat_map f xs)
  flat_there f [] x y a b = absurd a
  flat_there f (z ∷ xs) x y (inl e) b = among_left (f z) (flat_map f xs) y (subst (λ v. Among y (f v)) e b)
  flat_there f (z ∷ xs) x y (inr a) b = among_right (f z) (flat_map f xs) y (flat_there f xs x y a b)

  -- where nothing is made of all, nothing is of each
  pub none_of : (f : X → List Y) (xs : List X) (x : X) → flat_map f xs ≡ [] → Among x xs → f x ≡ []
  none_of f [] x e a = absurd a
  none_of f (z ∷ xs) x e (inl s) = ap f s ∙ (append_none (f z) (flat_map f xs) e).0
  none_of f (z ∷ xs) x e (inr a) = none_of f xs x (append_none (f z) (flat_map f xs) e).1 a

module _ {X : Type 0} (P : X → Type 0) where
  pub all_from : (xs : List X) → ((x : X) → Among x xs → P x) → AllByRecursion P xs
  all_from [] f = tt
  all_from (x ∷ xs) f = (f x (inl refl), all_from xs (λ y a. f y (inr a)))

  pub all_first : (xs ys : List X) → AllByRecursion P (xs ++ ys) → AllByRecursion P xs
  all_first [] ys h = tt
  all_first (x ∷ xs) ys h = (h.0, all_first xs ys h.1)

  pub all_second : (xs ys : List X) → AllByRecursion P (xs ++ ys) → AllByRecursion P ys
  all_second [] ys h = h
  all_second (x ∷ xs) ys h = all_second xs ys h.1
