-- What is told of a module is determined.
use Rattle.std.proofs.Common.{◌≡◌, ℕ, List, [], ◌∷◌, map, Option, Some, None, sym, ap, ◌∙◌, subst}
use Rattle.std.specs.List.{AllByRecursion}
use Rattle.elm_canon.specs.declared.reference.Ref.{Ref}
use Rattle.elm_canon.specs.Tree.{Annotation}
use Rattle.elm_type.specs.Types.{Scheme}
use Rattle.type_items.specs.Items.{Place, child, Wanted, Item}
use Rattle.type_items.specs.Scopes.{Entries, Known, one_type}
use Rattle.type_items.specs.Definitions.{Definition, group_types}
use Rattle.type_items.specs.Modules.{module_items, known_in}
use Rattle.type_items.specs.Inferred.{Schemes, HasPrincipal, NameHasScheme, GroupHasSchemes, first_annotation}
use Rattle.type_items.specs.Uniqueness.{SameScheme}
use Rattle.type_items.specs.PrincipalTypesModules.{OneAnswer, OneRefusal, SameTold, GroupTellsTheSame, OneInference}
use Rattle.type_items.proofs.Ordered.{one_scheme}
use Rattle.type_items.proofs.Faults.{never_both, one_fault}

pub one_answer : OneAnswer
one_answer module_ env p schemes code pos detail h r = never_both p (module_items module_ env p) code pos detail h.typable r.bad

pub one_refusal : OneRefusal
one_refusal module_ env p code other pos place detail text a b =
    one_fault p (module_items module_ env p) code other pos place detail text a.bad b.bad

-- one scheme is told
itself : (s v : Scheme) (told : Option Scheme) → told ≡ Some s → told ≡ Some v → s ≡ v
itself s v told a b = (let e : Some s ≡ Some v = sym a ∙ b in cc)

same_itself : (s u : Scheme) → s ≡ u → SameScheme s u
same_itself s u e = record { type = ap (λ k. k.type) e; classes = ap (λ k. map (λ j. j.class) k.kinds) e }

module _ (p : Place) (is : List Item) (first second : Schemes) where
  told_types : (x : Ref) (ts : List Wanted) → AllByRecursion (HasPrincipal p is (first x)) ts → AllByRecursion (HasPrincipal p is (second x)) ts
      → AllByRecursion (λ t. SameTold first second x) ts
  told_types x [] a b = tt
  told_types x (t ∷ ts) a b = (
    (λ s u e f.
        let m = one_scheme p is t a.0.scheme b.0.scheme a.0.principal b.0.principal a.0.ordered b.0.ordered in
        let s_is : a.0.scheme ≡ s = itself a.0.scheme s (first x) a.0.is e in
        let u_is : b.0.scheme ≡ u = itself b.0.scheme u (second x) b.0.is f in
        subst (λ k. SameScheme s k) u_is (subst (λ k. SameScheme k b.0.scheme) s_is m)),
    told_types x ts a.1 b.1,
  )

  told_names : (names : Entries) → AllByRecursion (NameHasScheme p is first) names → AllByRecursion (NameHasScheme p is second) names
      → AllByRecursion (λ n. AllByRecursion (λ t. SameTold first second n.0) (one_type n.1)) names
  told_names [] a b = tt
  told_names (n ∷ ns) a b = (told_types n.0 (one_type n.1) a.0 b.0, told_names ns a.1 b.1)

  given_names : (k : Scheme) (xs : List Ref) → AllByRecursion (λ x. first x ≡ Some k) xs → AllByRecursion (λ x. second x ≡ Some k) xs
      → AllByRecursion (SameTold first second) xs
  given_names k [] a b = tt
  given_names k (x ∷ xs) a b = (
    (λ s u e f. same_itself s u (sym (itself k s (first x) a.0 e) ∙ itself k u (second x) b.0 f)),
    given_names k xs a.1 b.1,
  )

  given_definitions : (k : Scheme) (ds : List Definition) → AllByRecursion (λ d. AllByRecursion (λ x. first x ≡ Some k) d.names) ds
      → AllByRecursion (λ d. AllByRecursion (λ x. second x ≡ Some k) d.names) ds → AllByRecursion (λ d. AllByRecursion (SameTold first second) d.names) ds
  given_definitions k [] a b = tt
  given_definitions k (d ∷ ds) a b = (given_names k d.names a.0 b.0, given_definitions k ds a.1 b.1)

  told_group : (known : Known) (q : Place) (o : Option Annotation) (ds : List Definition) → GroupHasSchemes p is first known q o ds
      → GroupHasSchemes p is second known q o ds → GroupTellsTheSame first second known q o ds
  told_group known q None ds a b = told_names (group_types ds known q) a b
  told_group known q (Some annotation) ds a b = given_definitions _ ds a b

  told_groups : (known : Known) (gs : List (ℕ × List Definition))
      → AllByRecursion (λ g. GroupHasSchemes p is first known (child p g.0) (first_annotation g.1) g.1) gs
      → AllByRecursion (λ g. GroupHasSchemes p is second known (child p g.0) (first_annotation g.1) g.1) gs
      → AllByRecursion (λ g. GroupTellsTheSame first second known (child p g.0) (first_annotation g.1) g.1) gs
  told_groups known [] a b = tt
  told_groups known (g ∷ gs) a b =
      (told_group known (child p g.0) (first_annotation g.1) g.1 a.0 b.0, told_groups known gs a.1 b.1)

pub one_inference : OneInference
one_inference module_ env p first second a b =
    told_groups p (module_items module_ env p) first second (known_in module_ env) _ a.types b.types
