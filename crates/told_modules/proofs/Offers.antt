-- What a module offers has the types that it tells: `offers_told`.
use Rattle.std.proofs.Common.{◌≡◌, ℕ, List, [], ◌∷◌, ◌++◌, map, Bool, true, false, Option, Some, None, inl, inr, refl, sym}
use Rattle.std.proofs.Common.{ap, ◌∙◌, subst, if◌then◌else◌}
use Rattle.std.specs.Prelude.{◌||◌, flat_map, option_map}
use Rattle.std.specs.List.{AllByRecursion, filter, zip}
use Rattle.std.specs.Map.{lookup}
use Rattle.std.specs.Str.{bytes_eq}
use Rattle.elm_tree.specs.Tree as tree
use Rattle.elm_canon.specs.Names.{Name}
use Rattle.elm_canon.specs.Unions.{alternatives}
use Rattle.elm_canon.specs.Tree as canon
use Rattle.elm_canon.specs.Tree.{Annotation, Annotations, UnionDeclaration, AliasDeclaration, PortDeclaration, Module}
use Rattle.elm_canon.specs.Tree.{Functions, NoFunction, MoreFunction, Group, Declaration, Given, Define}
use Rattle.elm_canon.specs.declared.reference.Ref.{Ref}
use Rattle.elm_canon.specs.declared.reference.Ref.TheVariants.{Local, Top}
use Rattle.elm_canon.specs.declared.unions.Alternative.{Alternative}
use Rattle.elm_type.specs.Types.{Scheme}
use Rattle.canon_env.proofs.Adding.{one_name}
use Rattle.canon_env.specs.Imports.{name_of, exposes_type, exposes_makers}
use Rattle.canon_env.specs.Shown.{Shown}
use Rattle.canon_module.specs.Offers.{exposed_by, opaque, offered_by, unions_by}
use Rattle.canon_module.specs.Resolve.{Setting, IsModule, module_faults, module_shows}
use Rattle.canon_proper.proofs.Scopes.{name_itself, ref_itself}
use Rattle.elm_canon.specs.Proper.{among, IsIn}
use Rattle.module_proper.specs.Modules.{AreRead, tops}
use Rattle.module_proper.proofs.Numbers.{one_home, no_local}
use Rattle.interface.specs.Interface.{Value, in_order}
use Rattle.type_items.specs.Annotations.{annotation_scheme}
use Rattle.type_items.specs.Definitions.{Definition}
use Rattle.type_items.specs.Expressions.{definitions, group_definitions, function_definitions}
use Rattle.type_items.specs.Inferred.{Schemes}
use Rattle.type_items.specs.Modules.{Annotated, function_to, union_type, union_makers, alias_makers, declared, known_in}
use Rattle.type_items.specs.Scopes.{Known}
use Rattle.typed_values.specs.Simple.{defines}
use Rattle.typed_values.specs.World.{Among}
use Rattle.type_safety.specs.Modules.{groups_in}
use Rattle.program_safety.specs.Parts.{Part, HasInstances, IsOf}
use Rattle.program_safety.specs.Told.{IsToldAs}
use Rattle.program_safety.proofs.Told.{renamed_instances}
use Rattle.told_modules.proofs.Forms.{ordered_instances}
use Rattle.module_offers.specs.Offers.{Typed, as_scheme, offered_types, value, defined_value, pattern_count}
use Rattle.module_offers.specs.Offers.{function_values, group_values, declared_values, port_value, module_values}
use Rattle.module_offers.specs.Offers.{is_offered, named_by, module_interface}
use Rattle.told_modules.proofs.Defined.{none_defined, defined_is}
use Rattle.told_modules.proofs.Once.{declared_once, defined_in}
use Rattle.told_modules.specs.Offers.{HaveNoFields, OffersAreTold}
use Rattle.told_modules.proofs.ToldOffersLists.{all_implied, all_among, all_both, all_first, all_second, all_passed, all_ordered}
use Rattle.told_modules.proofs.ToldOffersLists.{all_mapped, all_flat, each_flat}

-- ---- what is defined

here : (y : Ref) (b : Bool) → (among y (y ∷ []) || b) ≡ true
here y b = ap (λ c. (if c then true else false) || b) (ref_itself y)

later : (b c : Bool) → c ≡ true → (b || c) ≡ true
later true c e = refl
later false c e = e

defined_left : (xs ys : List Definition) (y : Ref) → defines xs y ≡ true → defines (xs ++ ys) y ≡ true
defined_left [] ys y e = absurd cc
defined_left (x ∷ xs) ys y e = by (among y x.names) e (defined_left xs ys y)
  where
    by : (b : Bool) → (b || defines xs y) ≡ true → (defines xs y ≡ true → defines (xs ++ ys) y ≡ true) →
        (b || defines (xs ++ ys) y) ≡ true
    by true e rest = refl
    by false e rest = rest e

defined_right : (xs ys : List Definition) (y : Ref) → defines ys y ≡ true → defines (xs ++ ys) y ≡ true
defined_right [] ys y e = e
defined_right (x ∷ xs) ys y e = later (among y x.names) (defines (xs ++ ys) y) (defined_right xs ys y e)

same_instances : (s : Scheme) → HasInstances s s
same_instances s f choice stands chosen = (choice, chosen, refl)

-- ---- values

module _ (told : Known) (schemes : Schemes) (p : Part) where
  abbrev home : Name
  home = p.module_.name

  abbrev is_defined : Ref → Bool
  is_defined y = defines (definitions (groups_in p.module_.declarations)) y

  abbrev ToldValue : Value → Type 0
  ToldValue v = IsToldAs told schemes p v.name v.scheme

  abbrev ToldType : Typed → Type 0
  ToldType e = IsToldAs told schemes p e.0 e.1

  value_told : (x : Name) (n : ℕ) → is_defined (Top home x) ≡ true → (o : Option Scheme) →
      schemes (Top home x) ≡ o → AllByRecursion ToldValue (value x n o)
  value_told x n d None e = tt
  value_told x n d (Some s) e = (record { scheme = s; instances = ordered_instances s; is = inl (d, e) }, tt)

  module _ (own : (y : Ref) → is_defined y ≡ true → IsOf home y) where
    defined_told : (r : Ref) (n : ℕ) → is_defined r ≡ true → AllByRecursion ToldValue (defined_value schemes r n)
    defined_told (Local x) n d = tt
    defined_told (Top m x) n d =
        subst
        (λ k. is_defined (Top k x) ≡ true → AllByRecursion ToldValue (value x n (schemes (Top k x))))
        (sym (own (Top m x) d)) (λ e. value_told x n e (schemes (Top home x)) refl) d

    abbrev Defines : List Definition → Type 0
    Defines ds = (y : Ref) → defines ds y ≡ true → is_defined y ≡ true

    functions_told : (fs : Functions) → Defines (function_definitions fs) →
        AllByRecursion ToldValue (function_values schemes fs)
    functions_told NoFunction h = tt
    functions_told (MoreFunction title ps e fs) h =
        all_both ToldValue (defined_value schemes title.name (pattern_count ps)) (function_values schemes fs)
        (defined_told title.name (pattern_count ps)
        (h title.name (here title.name (defines (function_definitions fs) title.name))))
        (functions_told fs (λ y d. h y (later (among y (title.name ∷ [])) (defines (function_definitions fs) y) d)))

    group_told : (g : Group) → Defines (group_definitions g) → AllByRecursion ToldValue (group_values schemes g)
    group_told (canon.Together fs) h = functions_told fs h
    group_told (canon.Constant title e) h = defined_told title.name 0 (h title.name (here title.name false))
    group_told (canon.Destructure q e) h = tt

    declarations_told : (ds : List Declaration) → Defines (definitions (groups_in ds)) →
        AllByRecursion ToldValue (flat_map (declared_values schemes) ds)
    declarations_told [] h = tt
    declarations_told (Given r k ∷ ds) h = declarations_told ds h
    declarations_told (Define g ∷ ds) h =
        all_both ToldValue (group_values schemes g) (flat_map (declared_values schemes) ds)
        (group_told g (λ y d. h y (defined_left (group_definitions g) (definitions (groups_in ds)) y d)))
        (declarations_told ds (λ y d. h y (defined_right (group_definitions g) (definitions (groups_in ds)) y d)))

  -- ---- constructors and ports

  -- what the module knows of its own names
  known_own : (x : Name) (a : Annotation) → lookup (bytes_eq x) (declared p.module_) ≡ Some a →
      known_in p.module_ told home x ≡ Some (annotation_scheme a)
  known_own x a e =
      ap (λ b. if b then option_map annotation_scheme (lookup (bytes_eq x) (declared p.module_)) else told home x)
      (name_itself home)
      ∙ ap (option_map annotation_scheme) e

  module _ (found : (d : Annotated) → Among d (declared p.module_) →
      lookup (bytes_eq d.0) (declared p.module_) ≡ Some d.1)
      (none : (x : Name) (a : Annotation) → lookup (bytes_eq x) (declared p.module_) ≡ Some a →
      is_defined (Top home x) ≡ false) where
    maker_told : (d : Annotated) (k : Scheme) → HasInstances (annotation_scheme d.1) k →
        Among d (declared p.module_) → IsToldAs told schemes p d.0 k
    maker_told d k i a = record {
      scheme = annotation_scheme d.1;
      instances = i;
      is = inr (none d.0 d.1 (found d a), known_own d.0 d.1 (found d a));
    }

    abbrev IsDeclared : Annotated → Type 0
    IsDeclared d = Among d (declared p.module_)

    ports_told : (qs : List PortDeclaration) → AllByRecursion IsDeclared (map (λ q. (q.name, q.port_type)) qs) →
        AllByRecursion ToldValue (map port_value qs)
    ports_told [] h = tt
    ports_told (q ∷ qs) h = (
      maker_told (q.name, q.port_type) (port_value q).scheme (renamed_instances (annotation_scheme q.port_type)) h.0,
      ports_told qs h.1,
    )

    makers_told : (ds : List Annotated) → AllByRecursion IsDeclared ds → AllByRecursion ToldType (map as_scheme ds)
    makers_told [] h = tt
    makers_told (d ∷ ds) h =
        (maker_told d (annotation_scheme d.1) (same_instances (annotation_scheme d.1)) h.0, makers_told ds h.1)

  typed_values : (vs : List Value) → AllByRecursion ToldValue vs →
      AllByRecursion ToldType (map (λ v. (v.name, v.scheme)) vs)
  typed_values [] h = tt
  typed_values (v ∷ vs) h = (h.0, typed_values vs h.1)

  looked_up : (es : List Typed) → AllByRecursion ToldType es → (x : Name) (k : Scheme) →
      lookup (bytes_eq x) es ≡ Some k → IsToldAs told schemes p x k
  looked_up [] h x k e = absurd cc
  looked_up (t ∷ es) h x k e = by (bytes_eq x t.0) refl e (looked_up es h.1 x k)
    where
      by : (b : Bool) → bytes_eq x t.0 ≡ b → (if b then Some t.1 else lookup (bytes_eq x) es) ≡ Some k →
          (lookup (bytes_eq x) es ≡ Some k → IsToldAs told schemes p x k) → IsToldAs told schemes p x k
      by true s f rest =
          let j : t.1 ≡ k = cc in
          subst (λ z. IsToldAs told schemes p z k) (sym (one_name x t.0 s)) (subst (IsToldAs told schemes p t.0) j h.0)
      by false s f rest = rest f

-- ---- unions that are shown

module _ (P : Annotated → Type 0) (home : Name) where
  abbrev MakersAre : UnionDeclaration → Type 0
  MakersAre u = AllByRecursion P (union_makers home u)

  no_pairs : {A B : Type 0} (xs : List A) (ys : List B) → ys ≡ [] → zip xs ys ≡ []
  no_pairs [] ys e = refl
  no_pairs (x ∷ xs) [] e = refl
  no_pairs (x ∷ xs) (y ∷ ys) e = absurd cc

  no_fields : (u : UnionDeclaration) → u.fields ≡ [] → MakersAre u
  no_fields u e =
      subst
      (λ (ps : List (Alternative × Annotations)).
      AllByRecursion P (map (λ (c : Alternative × Annotations). (c.0.name, function_to c.1 (union_type home u))) ps))
      (sym (no_pairs (alternatives u.union) u.fields e)) tt

  one_offered : (opens : Name → Bool) (u : UnionDeclaration) → MakersAre u → MakersAre (offered_by opens u)
  one_offered opens u h = by (opens u.name)
    where
      by : (b : Bool) → MakersAre (if b then u else opaque u)
      by true = h
      by false = no_fields (opaque u) refl

  pub shown_makers : (shows opens : Name → Bool) (given us : List UnionDeclaration) → HaveNoFields given →
      AllByRecursion P (flat_map (union_makers home) us) →
      AllByRecursion MakersAre (unions_by shows opens (given ++ us))
  shown_makers shows opens given us none h =
      let all = all_both MakersAre given us (all_implied _ MakersAre no_fields given none)
      (each_flat P (union_makers home) us h) in
      let passed = filter (λ (u : UnionDeclaration). shows u.name) (given ++ us) in
      all_mapped MakersAre (offered_by opens) passed
      (all_implied MakersAre (λ u. MakersAre (offered_by opens u)) (one_offered opens) passed
      (all_passed MakersAre (λ (u : UnionDeclaration). shows u.name) (given ++ us) all))

-- ---- the interface

module _ (s : Setting) (t : tree.Module) (p : Part) (is : IsModule s t.declarations p.module_)
    (read : AreRead s.home t.declarations) (no_faults : module_faults s t p.module_ ≡ []) (given : HaveNoFields s.given)
    (told : Known) (schemes : Schemes) where
  abbrev m : Module
  m = p.module_

  abbrev shown : Shown
  shown = module_shows s t m

  abbrev IsOwn : Annotated → Type 0
  IsOwn d = Among d (declared m)

  own : (y : Ref) → defines (definitions (groups_in m.declarations)) y ≡ true → IsOf m.name y
  own y d = defined_is (IsOf m.name) s t.declarations m is named y d
    where
      named : (r : Ref) → IsIn r (tops s.home (map name_of (defined_in t.declarations))) → IsOf m.name r
      named (Local x) i = absurd (let e = no_local s.home x (map name_of (defined_in t.declarations)) in cc)
      named (Top k x) i = one_home k s.home x (map name_of (defined_in t.declarations)) i ∙ sym is.name

  none : (x : Name) (a : Annotation) → lookup (bytes_eq x) (declared m) ≡ Some a →
      defines (definitions (groups_in m.declarations)) (Top m.name x) ≡ false
  none x a e =
      subst (λ h. defines (definitions (groups_in m.declarations)) (Top h x) ≡ false) (sym is.name)
      (none_defined s t m is read no_faults x a e)

  found : (d : Annotated) → Among d (declared m) → lookup (bytes_eq d.0) (declared m) ≡ Some d.1
  found d a = declared_once s t m is read no_faults d a

  abbrev unions : List Annotated
  unions = flat_map (union_makers m.name) m.unions

  abbrev aliases : List Annotated
  aliases = flat_map alias_makers m.aliases

  abbrev ports : List Annotated
  ports = map (λ q. (q.name, q.port_type)) m.ports

  all_own : AllByRecursion IsOwn ((unions ++ aliases) ++ ports)
  all_own = all_among (declared m)

  own_ports : AllByRecursion IsOwn ports
  own_ports = all_second IsOwn (unions ++ aliases) ports all_own

  own_unions : AllByRecursion IsOwn unions
  own_unions = all_first IsOwn unions aliases (all_first IsOwn (unions ++ aliases) ports all_own)

  own_aliases : AllByRecursion IsOwn aliases
  own_aliases = all_second IsOwn unions aliases (all_first IsOwn (unions ++ aliases) ports all_own)

  values_told : AllByRecursion (ToldValue told schemes p) (module_values m schemes)
  values_told =
      all_both (ToldValue told schemes p) (flat_map (declared_values schemes) m.declarations) (map port_value m.ports)
      (declarations_told told schemes p own m.declarations (λ y d. d))
      (ports_told told schemes p found none m.ports own_ports)

  abbrev MakersOwn : UnionDeclaration → Type 0
  MakersOwn u = AllByRecursion IsOwn (union_makers m.name u)

  abbrev AliasOwn : AliasDeclaration → Type 0
  AliasOwn a = AllByRecursion IsOwn (alias_makers a)

  makers_own : AllByRecursion MakersOwn shown.unions
  makers_own =
      shown_makers IsOwn m.name (exposes_type (exposed_by t.head.header)) (exposes_makers (exposed_by t.head.header))
      s.given m.unions given own_unions

  aliases_own : AllByRecursion AliasOwn shown.aliases
  aliases_own =
      all_passed AliasOwn (λ (a : AliasDeclaration). exposes_type (exposed_by t.head.header) a.name) m.aliases
      (each_flat IsOwn alias_makers m.aliases own_aliases)

  types_told : AllByRecursion (ToldType told schemes p) (offered_types m.name (module_interface shown m schemes))
  unfolding module_interface
  types_told =
      let vs = named_by (is_offered m.name shown) (module_values m schemes) in
      let us = in_order (λ (u : UnionDeclaration). u.name) shown.unions in
      let as_ = in_order (λ (a : AliasDeclaration). a.name) shown.aliases in
      all_both (ToldType told schemes p) (map (λ v. (v.name, v.scheme)) (in_order (λ v. v.name) vs))
      (map as_scheme (flat_map (union_makers m.name) us ++ flat_map alias_makers as_))
      (typed_values told schemes p (in_order (λ v. v.name) vs)
      (all_ordered (ToldValue told schemes p) (λ v. v.name) vs
      (all_passed (ToldValue told schemes p) (λ (v : Value). is_offered m.name shown v.name) (module_values m schemes)
      values_told)))
      (makers_told told schemes p found none (flat_map (union_makers m.name) us ++ flat_map alias_makers as_)
      (all_both IsOwn (flat_map (union_makers m.name) us) (flat_map alias_makers as_)
      (all_flat IsOwn (union_makers m.name) us
      (all_ordered MakersOwn (λ (u : UnionDeclaration). u.name) shown.unions makers_own))
      (all_flat IsOwn alias_makers as_
      (all_ordered AliasOwn (λ (a : AliasDeclaration). a.name) shown.aliases aliases_own))))

pub offers_told : OffersAreTold
offers_told s t p is read none given told schemes x k e =
    looked_up told schemes p
    (offered_types p.module_.name (module_interface (module_shows s t p.module_) p.module_ schemes))
    (types_told s t p is read none given told schemes) x k e
