-- What two tell of a title of a module has one form.
use Rattle.std.proofs.Common.{◌≡◌, ℕ, zero, suc, ◌+◌, List, [], ◌∷◌, ◌++◌, Option, Some, None, refl, sym, ap, ◌∙◌}
use Rattle.std.proofs.Common.{subst, arith, inl, inr}
use Rattle.std.specs.Prelude.{flat_map}
use Rattle.std.specs.List.{AllByRecursion, enumerate_from}
use Rattle.elm_canon.specs.declared.reference.Ref.{Ref}
use Rattle.elm_canon.specs.Tree.{Annotation, Module, Title}
use Rattle.elm_type.specs.Types.{Scheme}
use Rattle.elm_type.specs.Schemes.{rename}
use Rattle.type_items.specs.Items.{Place, child, Wanted, Item, at}
use Rattle.type_items.specs.Scopes.{Entry, Entries, Known, Scope, one_type}
use Rattle.type_items.specs.Annotations.{annotation_scheme}
use Rattle.type_items.specs.Definitions.{Definition, in_written_order, type_groups, group_types}
use Rattle.type_items.specs.Expressions.{titled}
use Rattle.type_items.specs.Modules.{known_in, module_definitions, module_items}
use Rattle.type_items.specs.Inferred.{Schemes, Inferred, NameHasScheme, GroupHasSchemes, first_annotation}
use Rattle.typed_values.specs.World.{Among}
use Rattle.type_safety.proofs.Stagings.{group_at}
use Rattle.type_safety.proofs.Orders.{written_among, group_covers}
use Rattle.elm_type.specs.Order.{scheme_in_order}
use Rattle.type_items.specs.Forms.{OneFormOf, GroupHasOneForm}
use Rattle.type_items.proofs.Told.{one_form_told}

-- both tell of the name, and the same
pub record ToldAlike (first second : Schemes) (x : Ref) : Type 0 where
  pub one : Scheme
  pub other : Scheme
  pub first_is : first x ≡ Some one
  pub second_is : second x ≡ Some other
  pub same : scheme_in_order one ≡ scheme_in_order other

-- ---- one of many

module _ {X : Type 0} (P : X → Type 0) where
  pub front : (xs ys : List X) → AllByRecursion P (xs ++ ys) → AllByRecursion P xs
  front [] ys h = tt
  front (x ∷ xs) ys h = (h.0, front xs ys h.1)

  pub back : (xs ys : List X) → AllByRecursion P (xs ++ ys) → AllByRecursion P ys
  back [] ys h = h
  back (x ∷ xs) ys h = back xs ys h.1

  pub of_member : (xs : List X) (x : X) → Among x xs → AllByRecursion P xs → P x
  of_member [] x m h = absurd m
  of_member (y ∷ ys) x (inl e) h = subst P (sym e) h.0
  of_member (y ∷ ys) x (inr k) h = of_member ys x k h.1

module _ (Q : ℕ × List Definition → Type 0) (d : Definition) where
  pub at_group : (Gs : List (List Definition)) (i k : ℕ) → AllByRecursion Q (enumerate_from i Gs)
      → Among d (group_at Gs k) → Q (i + k, group_at Gs k)
  at_group [] i k h m = absurd m
  at_group (G ∷ Gs) i zero h m = let e : i ≡ i + 0 = omega arith in subst (λ n. Q (n, G)) e h.0
  at_group (G ∷ Gs) i (suc k) h m =
      let e : i + 1 + k ≡ i + suc k = omega arith in
      subst (λ n. Q (n, group_at Gs k)) e (at_group Gs (i + 1) k h.1 m)

-- the names of a definition of a group have types of their own
module _ (P : Ref × Entry → Type 0) (known : Known) (q : Place) (d : Definition) where
  pub in_group : (G : List Definition) (i : ℕ) → Among d G
      → AllByRecursion P (flat_map (λ e. e.1.types known (child q e.0) (at (child q e.0))) (enumerate_from i G))
      → (j : ℕ) × AllByRecursion P (d.types known (child q j) (at (child q j)))
  in_group [] i m h = absurd m
  in_group (e ∷ G) i (inl same) h = (
    i,
    subst (λ z. AllByRecursion P (z.types known (child q i) (at (child q i)))) (sym same)
        (front P (e.types known (child q i) (at (child q i)))
        (flat_map (λ f. f.1.types known (child q f.0) (at (child q f.0))) (enumerate_from (i + 1) G)) h),
  )
  in_group (e ∷ G) i (inr m) h =
      in_group G (i + 1) m
      (back P (e.types known (child q i) (at (child q i)))
      (flat_map (λ f. f.1.types known (child q f.0) (at (child q f.0))) (enumerate_from (i + 1) G)) h)

-- ---- a title

module _ (p : Place) (is : List Item) (first second : Schemes) (known : Known) (q : Place) (title : Title)
    (uses : List Ref) (list : Scope → Place → Wanted → List Item) where
  abbrev d : Definition
  d = titled title uses list

  by_annotation : (G : List Definition) (o : Option Annotation) → Among d G → GroupHasSchemes p is first known q o G
      → GroupHasSchemes p is second known q o G → GroupHasOneForm first second known q o G
      → ToldAlike first second title.name
  by_annotation G None m a b f =
      let ha = in_group (NameHasScheme p is first) known q d G 0 m a in
      let hb = in_group (NameHasScheme p is second) known q d G 0 m b in
      let hf = in_group (λ n. AllByRecursion (λ t. OneFormOf first second n.0) (one_type n.1)) known q d G 0 m f in
      record {
        one = ha.1.0.0.scheme;
        other = hb.1.0.0.scheme;
        first_is = ha.1.0.0.is;
        second_is = hb.1.0.0.is;
        same = hf.1.0.0 ha.1.0.0.scheme hb.1.0.0.scheme ha.1.0.0.is hb.1.0.0.is;
      }
  by_annotation G (Some note) m a b f =
      let k = rename (annotation_scheme note) in
      record {
        one = k;
        other = k;
        first_is = (of_member (λ e. AllByRecursion (λ x. first x ≡ Some k) e.names) G d m a).0;
        second_is = (of_member (λ e. AllByRecursion (λ x. second x ≡ Some k) e.names) G d m b).0;
        same = refl;
      }

module _ (m : Module) (env : Known) (p : Place) (first second : Schemes) (a : Inferred m env p first)
    (b : Inferred m env p second) where
  pub told_alike : (title : Title) (uses : List Ref) (list : Scope → Place → Wanted → List Item)
      → Among (titled title uses list) (module_definitions m) → ToldAlike first second title.name
  told_alike title uses list among =
      let d = titled title uses list in
      let ds = in_written_order (module_definitions m) in
      let c = group_covers ds d (written_among d (module_definitions m) among) in
      let known = known_in m env in
      let is = module_items m env p in
      by_annotation p is first second known (child p (0 + c.0)) title uses list (group_at (type_groups ds) c.0)
      (first_annotation (group_at (type_groups ds) c.0)) c.1
      (at_group (λ g. GroupHasSchemes p is first known (child p g.0) (first_annotation g.1) g.1) d (type_groups ds) 0
      c.0
      a.types c.1)
      (at_group (λ g. GroupHasSchemes p is second known (child p g.0) (first_annotation g.1) g.1) d (type_groups ds) 0
      c.0
      b.types c.1)
      (at_group (λ g. GroupHasOneForm first second known (child p g.0) (first_annotation g.1) g.1) d (type_groups ds) 0
      c.0
      (one_form_told m env p first second a b) c.1)
