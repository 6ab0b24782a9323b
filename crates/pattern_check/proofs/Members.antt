-- Members of lists.
use Rattle.std.proofs.Common.{◌≡◌, ℕ, zero, suc, ◌<◌, List, [], ◌∷◌, ◌++◌, ◌⊎◌, inl, inr, ⊎_elim, length, get_or, map}
use Rattle.std.proofs.Common.{refl, subst, arith}
use Rattle.std.specs.List.{Contains}

module _ {X : Type 0} where
  pub no_member : (x : X) → Contains [] x → ⊥
  no_member x h = omega (arith, h.1)

  pub first_member : (x : X) (xs : List X) → Contains (x ∷ xs) x
  first_member x xs = (0, omega arith, refl)

  pub later_member : (x y : X) (xs : List X) → Contains xs y → Contains (x ∷ xs) y
  later_member x y xs h = (suc h.0, omega (arith, h.1), h.2)

  pub member_cases : (x y : X) (xs : List X) → Contains (x ∷ xs) y → (x ≡ y) ⊎ Contains xs y
  member_cases x y xs h = at h.0 h.1 h.2
    where
      at : (k : ℕ) → k < length (x ∷ xs) → get_or (x ∷ xs) k y ≡ y → (x ≡ y) ⊎ Contains xs y
      at zero l e = inl e
      at (suc k) l e = inr (k, omega arith, e)

  pub member_left : (xs ys : List X) (x : X) → Contains xs x → Contains (xs ++ ys) x
  member_left [] ys x m = absurd (no_member x m)
  member_left (y ∷ xs) ys x m =
      ⊎_elim (λ e. subst (Contains (y ∷ (xs ++ ys))) e (first_member y (xs ++ ys)))
      (λ k. later_member y x (xs ++ ys) (member_left xs ys x k)) (member_cases y x xs m)

  pub member_right : (xs ys : List X) (x : X) → Contains ys x → Contains (xs ++ ys) x
  member_right [] ys x m = m
  member_right (y ∷ xs) ys x m = later_member y x (xs ++ ys) (member_right xs ys x m)

  pub joined_cases : (xs ys : List X) (x : X) → Contains (xs ++ ys) x → Contains xs x ⊎ Contains ys x
  joined_cases [] ys x m = inr m
  joined_cases (y ∷ xs) ys x m =
      ⊎_elim (λ e. inl (subst (Contains (y ∷ xs)) e (first_member y xs)))
      (λ k. ⊎_elim (λ l. inl (later_member y x xs l)) (λ r. inr r) (joined_cases xs ys x k))
      (member_cases y x (xs ++ ys) m)

  pub only_member : (x y : X) → Contains (x ∷ []) y → x ≡ y
  only_member x y m = ⊎_elim (λ e. e) (λ k. absurd (no_member y k)) (member_cases x y [] m)

module _ {X Y : Type 0} (f : X → Y) where
  pub map_member : (xs : List X) (y : Y) → Contains (map f xs) y → (x : X) × Contains xs x × (f x ≡ y)
  map_member [] y m = absurd (no_member y m)
  map_member (x ∷ xs) y m =
      ⊎_elim (λ e. (x, first_member x xs, e)) (λ k. let r = map_member xs y k in (r.0, later_member x r.0 xs r.1, r.2))
      (member_cases (f x) y (map f xs) m)

  pub member_map : (xs : List X) (x : X) → Contains xs x → Contains (map f xs) (f x)
  member_map [] x m = absurd (no_member x m)
  member_map (y ∷ xs) x m =
      ⊎_elim (λ e. subst (λ z. Contains (f y ∷ map f xs) (f z)) e (first_member (f y) (map f xs)))
      (λ k. later_member (f y) (f x) (map f xs) (member_map xs x k)) (member_cases y x xs m)
