-- By its interface a module shows no more than it exposes: `interface_within`.
use Rattle.std.proofs.Common.{◌≡◌, List, [], ◌∷◌, map, Bool, true, false, refl, sym, ap, ◌∙◌, subst, ⊎_elim, ◌⊎◌, inl}
use Rattle.std.proofs.Common.{inr}
use Rattle.std.specs.Prelude.{not, ◌||◌, if◌then◌else◌}
use Rattle.std.specs.List.{filter, list_any, Contains}
use Rattle.std.proofs.lemmas.Bool.{false≢true}
use Rattle.decl_groups.proofs.Basics.{first_member, later_member, member_cases}
use Rattle.decl_groups.proofs.Reaching.{or_cases}
use Rattle.elm_canon.specs.Names.{Name, same_name}
use Rattle.elm_tree.specs.Tree.{Declaration}
use Rattle.elm_canon.specs.Tree.{Module, UnionDeclaration, AliasDeclaration}
use Rattle.canon_env.proofs.Adding.{one_name}
use Rattle.canon_env.specs.Exposing.{is_among}
use Rattle.canon_env.specs.Shown.{Shown}
use Rattle.canon_module.specs.Resolve.{Setting, IsModule}
use Rattle.interface.specs.Interface.{Value, comes_before, inserted, in_order}
use Rattle.type_items.specs.Inferred.{Schemes}
use Rattle.module_offers.specs.Offers.{is_operator_function, shown_of, module_interface}
use Rattle.project_proper.proofs.Offered.{offered_shown}
use Rattle.project_proper.specs.Resolved.{ShowsWithin}

-- ---- in order

module _ {X : Type 0} (name : X → Name) where
  inserted_in : (x z : X) (ys : List X) → Contains (inserted name x ys) z → (x ≡ z) ⊎ Contains ys z
  inserted_in x z [] c = member_cases x z [] c
  inserted_in x z (y ∷ ys) c = by (comes_before (name y) (name x)) c (inserted_in x z ys)
    where
      later : (x ≡ z) ⊎ Contains ys z → (x ≡ z) ⊎ Contains (y ∷ ys) z
      later = ⊎_elim inl (λ k. inr (later_member y z ys k))

      first : y ≡ z → Contains (y ∷ ys) z
      first e = subst (λ w. Contains (y ∷ ys) w) e (first_member y ys)

      by : (b : Bool) → Contains (if b then y ∷ inserted name x ys else x ∷ y ∷ ys) z →
          (Contains (inserted name x ys) z → (x ≡ z) ⊎ Contains ys z) → (x ≡ z) ⊎ Contains (y ∷ ys) z
      by true c rest =
          ⊎_elim (λ e. inr (first e)) (λ k. later (rest k)) (member_cases y z (inserted name x ys) c)
      by false c rest = member_cases x z (y ∷ ys) c

  order_in : (z : X) (xs : List X) → Contains (in_order name xs) z → Contains xs z
  order_in z [] c = c
  order_in z (x ∷ xs) c =
      ⊎_elim (λ e. subst (λ w. Contains (x ∷ xs) w) e (first_member x xs))
      (λ k. later_member x z xs (order_in z xs k)) (inserted_in x z (in_order name xs) c)

-- ---- names that pass a test

kept : (test : Name → Bool) (x : Name) (xs : List Name) → is_among x (filter test xs) ≡ true →
    (is_among x xs ≡ true) × (test x ≡ true)
kept test x [] e = absurd (false≢true e)
kept test x (y ∷ xs) e = by (test y) refl e (kept test x xs)
  where
    more : (b : Bool) → (is_among x xs ≡ true) × (test x ≡ true) → ((b || is_among x xs) ≡ true) × (test x ≡ true)
    more true h = (refl, h.1)
    more false h = h

    here : (b : Bool) → same_name x y ≡ b → test y ≡ true → (b || is_among x (filter test xs)) ≡ true →
        (is_among x (filter test xs) ≡ true → (is_among x xs ≡ true) × (test x ≡ true)) →
        ((b || is_among x xs) ≡ true) × (test x ≡ true)
    here true s t e rest = (refl, ap test (one_name x y s) ∙ t)
    here false s t e rest = rest e

    by : (c : Bool) → test y ≡ c → is_among x (if c then y ∷ filter test xs else filter test xs) ≡ true →
        (is_among x (filter test xs) ≡ true → (is_among x xs ≡ true) × (test x ≡ true)) →
        (is_among x (y ∷ xs) ≡ true) × (test x ≡ true)
    by true t e rest = here (same_name x y) refl t e rest
    by false t e rest = more (same_name x y) (rest e)

-- ---- what is shown

module _ (s : Setting) (ds : List Declaration) (m : Module) (is : IsModule s ds m) (told : Schemes)
    (shown : Shown) where
  values_within : (x : Name) → is_among x (shown_of m.name (module_interface shown m told)).values ≡ true →
      is_among x shown.values ≡ true
  values_within x e =
      let k = kept (λ y. not (is_operator_function m.name y)) x
      (map (λ (v : Value). v.name) (module_interface shown m told).values) e in
      ⊎_elim (λ i. i) (λ i. absurd (false≢true (ap not (sym i) ∙ k.1)))
      (or_cases (list_any (same_name x) shown.values) (is_operator_function m.name x)
      (offered_shown s ds m is told shown x k.0))

  pub interface_within : ShowsWithin (shown_of m.name (module_interface shown m told)) shown
  unfolding module_interface
  interface_within = record {
    values = values_within;
    unions = λ u c. order_in (λ (v : UnionDeclaration). v.name) u shown.unions c;
    aliases = λ a c. order_in (λ (d : AliasDeclaration). d.name) a shown.aliases c;
  }
