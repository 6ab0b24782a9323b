-- What is told of a module has one form.
use Rattle.std.proofs.Common.{◌≡◌, ℕ, List, [], ◌∷◌, Option, Some, None, sym, ap, ◌∙◌, subst}
use Rattle.std.specs.List.{AllByRecursion}
use Rattle.elm_canon.specs.declared.reference.Ref.{Ref}
use Rattle.elm_canon.specs.Tree.{Annotation}
use Rattle.elm_type.specs.Types.{Scheme}
use Rattle.type_items.specs.Items.{Place, child, Wanted, Item}
use Rattle.type_items.specs.Scopes.{Entries, Known, one_type}
use Rattle.type_items.specs.Definitions.{Definition, group_types}
use Rattle.type_items.specs.Modules.{module_items, known_in}
use Rattle.type_items.specs.Inferred.{Schemes, HasPrincipal, NameHasScheme, GroupHasSchemes, first_annotation}
use Rattle.elm_type.specs.Order.{scheme_in_order}
use Rattle.type_items.specs.Forms.{OneFormOf, GroupHasOneForm, OneFormTold}
use Rattle.type_items.proofs.Principal.{one_form_of}

-- one scheme is told
itself : (s v : Scheme) (told : Option Scheme) → told ≡ Some s → told ≡ Some v → s ≡ v
itself s v told a b = (let e : Some s ≡ Some v = sym a ∙ b in cc)

module _ (p : Place) (is : List Item) (first second : Schemes) where
  told_types : (x : Ref) (ts : List Wanted) → AllByRecursion (HasPrincipal p is (first x)) ts
      → AllByRecursion (HasPrincipal p is (second x)) ts → AllByRecursion (λ t. OneFormOf first second x) ts
  told_types x [] a b = tt
  told_types x (t ∷ ts) a b = (
    (λ s u e f.
        let m = one_form_of p is t a.0.scheme b.0.scheme a.0.principal b.0.principal a.0.ordered b.0.ordered in
        let s_is : a.0.scheme ≡ s = itself a.0.scheme s (first x) a.0.is e in
        let u_is : b.0.scheme ≡ u = itself b.0.scheme u (second x) b.0.is f in
        sym (ap scheme_in_order s_is) ∙ (m ∙ ap scheme_in_order u_is)),
    told_types x ts a.1 b.1,
  )

  told_names : (names : Entries) → AllByRecursion (NameHasScheme p is first) names
      → AllByRecursion (NameHasScheme p is second) names
      → AllByRecursion (λ n. AllByRecursion (λ t. OneFormOf first second n.0) (one_type n.1)) names
  told_names [] a b = tt
  told_names (n ∷ ns) a b = (told_types n.0 (one_type n.1) a.0 b.0, told_names ns a.1 b.1)

  given_names : (k : Scheme) (xs : List Ref) → AllByRecursion (λ x. first x ≡ Some k) xs
      → AllByRecursion (λ x. second x ≡ Some k) xs → AllByRecursion (OneFormOf first second) xs
  given_names k [] a b = tt
  given_names k (x ∷ xs) a b = (
    (λ s u e f. ap scheme_in_order (sym (itself k s (first x) a.0 e) ∙ itself k u (second x) b.0 f)),
    given_names k xs a.1 b.1,
  )

  given_definitions : (k : Scheme) (ds : List Definition)
      → AllByRecursion (λ d. AllByRecursion (λ x. first x ≡ Some k) d.names) ds
      → AllByRecursion (λ d. AllByRecursion (λ x. second x ≡ Some k) d.names) ds
      → AllByRecursion (λ d. AllByRecursion (OneFormOf first second) d.names) ds
  given_definitions k [] a b = tt
  given_definitions k (d ∷ ds) a b = (given_names k d.names a.0 b.0, given_definitions k ds a.1 b.1)

  told_group : (known : Known) (q : Place) (o : Option Annotation) (ds : List Definition)
      → GroupHasSchemes p is first known q o ds → GroupHasSchemes p is second known q o ds
      → GroupHasOneForm first second known q o ds
  told_group known q None ds a b = told_names (group_types ds known q) a b
  told_group known q (Some annotation) ds a b = given_definitions _ ds a b

  told_groups : (known : Known) (gs : List (ℕ × List Definition))
      → AllByRecursion (λ g. GroupHasSchemes p is first known (child p g.0) (first_annotation g.1) g.1) gs
      → AllByRecursion (λ g. GroupHasSchemes p is second known (child p g.0) (first_annotation g.1) g.1) gs
      → AllByRecursion (λ g. GroupHasOneForm first second known (child p g.0) (first_annotation g.1) g.1) gs
  told_groups known [] a b = tt
  told_groups known (g ∷ gs) a b =
      (told_group known (child p g.0) (first_annotation g.1) g.1 a.0 b.0, told_groups known gs a.1 b.1)

pub one_form_told : OneFormTold
one_form_told module_ env p first second a b =
    told_groups p (module_items module_ env p) first second (known_in module_ env) _ a.types b.types
