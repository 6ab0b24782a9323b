-- What a module offers of a name that it defines is the scheme that is told of it, in its one form: `offers_exact`.
use Rattle.std.proofs.Common.{◌≡◌, ℕ, List, [], ◌∷◌, ◌++◌, map, Bool, true, false, Option, Some, None, inl, inr, refl}
use Rattle.std.proofs.Common.{sym}
use Rattle.std.proofs.Common.{◌∙◌, subst, if◌then◌else◌}
use Rattle.std.specs.Prelude.{flat_map}
use Rattle.std.specs.List.{AllByRecursion}
use Rattle.std.specs.Map.{lookup}
use Rattle.std.specs.Str.{bytes_eq}
use Rattle.elm_tree.specs.Tree as tree
use Rattle.elm_canon.specs.Names.{Name}
use Rattle.elm_canon.specs.Tree as canon
use Rattle.elm_canon.specs.Tree.{Annotation, UnionDeclaration, AliasDeclaration, PortDeclaration, Module, Functions}
use Rattle.elm_canon.specs.Tree.{NoFunction, MoreFunction, Group, Declaration, Given, Define}
use Rattle.elm_canon.specs.declared.reference.Ref.{Ref}
use Rattle.elm_canon.specs.declared.reference.Ref.TheVariants.{Local, Top}
use Rattle.elm_canon.specs.Proper.{function_names, group_names}
use Rattle.elm_type.specs.Types.{Scheme}
use Rattle.canon_env.proofs.Adding.{one_name}
use Rattle.canon_env.specs.Imports.{exposes_type, exposes_makers}
use Rattle.canon_env.specs.Shown.{Shown}
use Rattle.canon_module.specs.Offers.{exposed_by}
use Rattle.canon_module.specs.Resolve.{Setting, IsModule, module_faults, module_shows}
use Rattle.module_proper.specs.Modules.{AreRead}
use Rattle.interface.specs.Interface.{Value, in_order}
use Rattle.elm_type.specs.Order.{scheme_in_order}
use Rattle.type_items.specs.Expressions.{definitions}
use Rattle.type_items.specs.Inferred.{Schemes}
use Rattle.type_items.specs.Modules.{Annotated, union_makers, alias_makers, declared}
use Rattle.typed_values.specs.Simple.{defines}
use Rattle.typed_values.specs.World.{Among}
use Rattle.type_safety.specs.Modules.{groups_in}
use Rattle.program_safety.specs.Parts.{IsOf}
use Rattle.module_offers.specs.Offers.{Typed, as_scheme, offered_types, value, defined_value, pattern_count}
use Rattle.module_offers.specs.Offers.{function_values, group_values, declared_values, port_value, module_values}
use Rattle.module_offers.specs.Offers.{is_offered, named_by, module_interface, type_in}
use Rattle.told_modules.proofs.Defined.{none_defined}
use Rattle.told_modules.proofs.Once.{declared_once}
use Rattle.told_modules.specs.Offers.{HaveNoFields}
use Rattle.told_modules.proofs.ToldOffersLists.{all_among, all_both, all_first, all_second, all_passed, all_ordered}
use Rattle.told_modules.proofs.ToldOffersLists.{all_flat, each_flat}
use Rattle.told_modules.proofs.Offers.{shown_makers}

-- what a declaration defines is of the module
abbrev pub OwnNames : Name → Declaration → Type 0
OwnNames home (Given r k) = Unit {0}
OwnNames home (Define g) = AllByRecursion (IsOf home) (group_names g)

module _ (m : Module) (schemes : Schemes) where
  abbrev is_defined : Name → Bool
  is_defined x = defines (definitions (groups_in m.declarations)) (Top m.name x)

  -- of a name that is defined, the scheme is the one form of the one that is told
  abbrev IsExact : Name → Scheme → Type 0
  IsExact x k = is_defined x ≡ true → (u : Scheme) × (schemes (Top m.name x) ≡ Some u) × (k ≡ scheme_in_order u)

  abbrev ExactValue : Value → Type 0
  ExactValue v = IsExact v.name v.scheme

  abbrev ExactType : Typed → Type 0
  ExactType e = IsExact e.0 e.1

  value_exact : (x : Name) (n : ℕ) (o : Option Scheme) → schemes (Top m.name x) ≡ o →
      AllByRecursion ExactValue (value x n o)
  value_exact x n None e = tt
  value_exact x n (Some s) e = ((λ d. (s, e, refl)), tt)

  module _ (own : (d : Declaration) → Among d m.declarations → OwnNames m.name d) where
    defined_exact : (r : Ref) (n : ℕ) → IsOf m.name r → AllByRecursion ExactValue (defined_value schemes r n)
    defined_exact (Local x) n o = tt
    defined_exact (Top k x) n o =
        subst (λ h. AllByRecursion ExactValue (value x n (schemes (Top h x)))) (sym o)
        (value_exact x n (schemes (Top m.name x)) refl)

    functions_exact : (fs : Functions) → AllByRecursion (IsOf m.name) (function_names fs) →
        AllByRecursion ExactValue (function_values schemes fs)
    functions_exact NoFunction h = tt
    functions_exact (MoreFunction title ps e fs) h =
        all_both ExactValue (defined_value schemes title.name (pattern_count ps)) (function_values schemes fs)
        (defined_exact title.name (pattern_count ps) h.0) (functions_exact fs h.1)

    group_exact : (g : Group) → AllByRecursion (IsOf m.name) (group_names g) →
        AllByRecursion ExactValue (group_values schemes g)
    group_exact (canon.Together fs) h = functions_exact fs h
    group_exact (canon.Constant title e) h = defined_exact title.name 0 h.0
    group_exact (canon.Destructure q e) h = tt

    declaration_exact : (d : Declaration) → OwnNames m.name d → AllByRecursion ExactValue (declared_values schemes d)
    declaration_exact (Given r k) h = tt
    declaration_exact (Define g) h = group_exact g h

    declarations_exact : (ds : List Declaration) → ((d : Declaration) → Among d ds → Among d m.declarations) →
        AllByRecursion ExactValue (flat_map (declared_values schemes) ds)
    declarations_exact [] h = tt
    declarations_exact (d ∷ ds) h =
        all_both ExactValue (declared_values schemes d) (flat_map (declared_values schemes) ds)
        (declaration_exact d (own d (h d (inl refl)))) (declarations_exact ds (λ e a. h e (inr a)))

  -- ---- constructors and ports are not defined

  module _ (found : (d : Annotated) → Among d (declared m) → lookup (bytes_eq d.0) (declared m) ≡ Some d.1)
      (none : (x : Name) (a : Annotation) → lookup (bytes_eq x) (declared m) ≡ Some a → is_defined x ≡ false) where
    not_defined : (d : Annotated) (k : Scheme) → Among d (declared m) → IsExact d.0 k
    not_defined d k a e = absurd (let f : true ≡ false = sym e ∙ none d.0 d.1 (found d a) in cc)

    abbrev IsDeclared : Annotated → Type 0
    IsDeclared d = Among d (declared m)

    ports_exact : (qs : List PortDeclaration) → AllByRecursion IsDeclared (map (λ q. (q.name, q.port_type)) qs) →
        AllByRecursion ExactValue (map port_value qs)
    ports_exact [] h = tt
    ports_exact (q ∷ qs) h = (not_defined (q.name, q.port_type) (port_value q).scheme h.0, ports_exact qs h.1)

    makers_exact : (ds : List Annotated) → AllByRecursion IsDeclared ds → AllByRecursion ExactType (map as_scheme ds)
    makers_exact [] h = tt
    makers_exact (d ∷ ds) h = (not_defined d (as_scheme d).1 h.0, makers_exact ds h.1)

  values_typed : (vs : List Value) → AllByRecursion ExactValue vs →
      AllByRecursion ExactType (map (λ v. (v.name, v.scheme)) vs)
  values_typed [] h = tt
  values_typed (v ∷ vs) h = (h.0, values_typed vs h.1)

  looked_up : (es : List Typed) → AllByRecursion ExactType es → (x : Name) (k : Scheme) →
      lookup (bytes_eq x) es ≡ Some k → IsExact x k
  looked_up [] h x k e = absurd cc
  looked_up (t ∷ es) h x k e = by (bytes_eq x t.0) refl e (looked_up es h.1 x k)
    where
      by : (b : Bool) → bytes_eq x t.0 ≡ b → (if b then Some t.1 else lookup (bytes_eq x) es) ≡ Some k →
          (lookup (bytes_eq x) es ≡ Some k → IsExact x k) → IsExact x k
      by true s f rest =
          let j : t.1 ≡ k = cc in
          subst (λ z. IsExact z k) (sym (one_name x t.0 s)) (subst (IsExact t.0) j h.0)
      by false s f rest = rest f

-- ---- the interface

module _ (s : Setting) (t : tree.Module) (m : Module) (is : IsModule s t.declarations m)
    (read : AreRead s.home t.declarations)
    (no_faults : module_faults s t m ≡ []) (given : HaveNoFields s.given) (schemes : Schemes)
    (own : (d : Declaration) → Among d m.declarations → OwnNames m.name d) where
  abbrev shown : Shown
  shown = module_shows s t m

  abbrev IsOwn : Annotated → Type 0
  IsOwn d = Among d (declared m)

  none : (x : Name) (a : Annotation) → lookup (bytes_eq x) (declared m) ≡ Some a → is_defined m schemes x ≡ false
  none x a e =
      subst (λ h. defines (definitions (groups_in m.declarations)) (Top h x) ≡ false) (sym is.name)
      (none_defined s t m is read no_faults x a e)

  found : (d : Annotated) → Among d (declared m) → lookup (bytes_eq d.0) (declared m) ≡ Some d.1
  found d a = declared_once s t m is read no_faults d a

  abbrev unions : List Annotated
  unions = flat_map (union_makers m.name) m.unions

  abbrev aliases : List Annotated
  aliases = flat_map alias_makers m.aliases

  abbrev ports : List Annotated
  ports = map (λ q. (q.name, q.port_type)) m.ports

  all_own : AllByRecursion IsOwn ((unions ++ aliases) ++ ports)
  all_own = all_among (declared m)

  values_exact : AllByRecursion (ExactValue m schemes) (module_values m schemes)
  values_exact =
      all_both (ExactValue m schemes) (flat_map (declared_values schemes) m.declarations) (map port_value m.ports)
      (declarations_exact m schemes own m.declarations (λ d a. a))
      (ports_exact m schemes found none m.ports (all_second IsOwn (unions ++ aliases) ports all_own))

  abbrev MakersOwn : UnionDeclaration → Type 0
  MakersOwn u = AllByRecursion IsOwn (union_makers m.name u)

  abbrev AliasOwn : AliasDeclaration → Type 0
  AliasOwn a = AllByRecursion IsOwn (alias_makers a)

  makers_own : AllByRecursion MakersOwn shown.unions
  makers_own =
      shown_makers IsOwn m.name (exposes_type (exposed_by t.head.header)) (exposes_makers (exposed_by t.head.header))
      s.given m.unions given (all_first IsOwn unions aliases (all_first IsOwn (unions ++ aliases) ports all_own))

  aliases_own : AllByRecursion AliasOwn shown.aliases
  aliases_own =
      all_passed AliasOwn (λ (a : AliasDeclaration). exposes_type (exposed_by t.head.header) a.name) m.aliases
      (each_flat IsOwn alias_makers m.aliases
      (all_second IsOwn unions aliases (all_first IsOwn (unions ++ aliases) ports all_own)))

  types_exact : AllByRecursion (ExactType m schemes) (offered_types m.name (module_interface shown m schemes))
  unfolding module_interface
  types_exact =
      let vs = named_by (is_offered m.name shown) (module_values m schemes) in
      let us = in_order (λ (u : UnionDeclaration). u.name) shown.unions in
      let as_ = in_order (λ (a : AliasDeclaration). a.name) shown.aliases in
      all_both (ExactType m schemes) (map (λ v. (v.name, v.scheme)) (in_order (λ v. v.name) vs))
      (map as_scheme (flat_map (union_makers m.name) us ++ flat_map alias_makers as_))
      (values_typed m schemes (in_order (λ v. v.name) vs)
      (all_ordered (ExactValue m schemes) (λ v. v.name) vs
      (all_passed (ExactValue m schemes) (λ (v : Value). is_offered m.name shown v.name) (module_values m schemes)
      values_exact)))
      (makers_exact m schemes found none (flat_map (union_makers m.name) us ++ flat_map alias_makers as_)
      (all_both IsOwn (flat_map (union_makers m.name) us) (flat_map alias_makers as_)
      (all_flat IsOwn (union_makers m.name) us
      (all_ordered MakersOwn (λ (u : UnionDeclaration). u.name) shown.unions makers_own))
      (all_flat IsOwn alias_makers as_
      (all_ordered AliasOwn (λ (a : AliasDeclaration). a.name) shown.aliases aliases_own))))

  pub offers_exact : (x : Name) (k : Scheme) → type_in m.name (Some (module_interface shown m schemes)) x ≡ Some k →
      IsExact m schemes x k
  offers_exact x k e = looked_up m schemes (offered_types m.name (module_interface shown m schemes)) types_exact x k e
