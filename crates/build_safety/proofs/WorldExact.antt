-- What a module offers of its constructors are the types that they are declared with: `offered_exact`.
use Rattle.std.proofs.Common.{◌≡◌, ℕ, ◌≤◌, ◌+◌, List, [], ◌∷◌, ◌++◌, map, Bool, true, false, Option, Some, None, inl, inr}
use Rattle.std.proofs.Common.{refl, sym, ap, ◌∙◌, subst, arith, if◌then◌else◌}
use Rattle.std.specs.Prelude.{◌||◌, flat_map}
use Rattle.std.specs.List.{AllByRecursion}
use Rattle.std.specs.Map.{lookup}
use Rattle.std.specs.Str.{bytes_eq}
use Rattle.std.proofs.lemmas.Bool.{false≢true}
use Rattle.elm_tree.specs.Tree as tree
use Rattle.elm_canon.specs.Names.{Name}
use Rattle.elm_canon.specs.Tree as canon
use Rattle.elm_canon.specs.Tree.{Annotation, UnionDeclaration, AliasDeclaration, PortDeclaration, Module}
use Rattle.elm_canon.specs.Tree.{Functions, NoFunction, MoreFunction, Group, Declaration, Given, Define}
use Rattle.elm_canon.specs.declared.reference.Ref.{Ref}
use Rattle.elm_canon.specs.declared.reference.Ref.TheVariants.{Local, Top}
use Rattle.elm_type.specs.Types.{Scheme}
use Rattle.canon_env.proofs.Adding.{one_name}
use Rattle.canon_env.specs.Imports.{name_of, exposes_type, exposes_makers}
use Rattle.canon_env.specs.Shown.{Shown}
use Rattle.canon_module.specs.Offers.{exposed_by}
use Rattle.canon_module.specs.Resolve.{Setting, IsModule, module_faults, module_shows}
use Rattle.canon_proper.proofs.Scopes.{name_itself, ref_itself}
use Rattle.elm_canon.specs.Proper.{among, IsIn}
use Rattle.module_proper.specs.Modules.{AreRead, tops}
use Rattle.module_proper.proofs.Numbers.{one_home, no_local}
use Rattle.interface.specs.Interface.{Value, in_order}
use Rattle.type_items.specs.Annotations.{annotation_scheme}
use Rattle.type_items.specs.Definitions.{Definition}
use Rattle.type_items.specs.Expressions.{definitions, group_definitions, function_definitions}
use Rattle.type_items.specs.Inferred.{Schemes}
use Rattle.type_items.specs.Modules.{Annotated, union_makers, alias_makers, declared}
use Rattle.typed_values.specs.Simple.{defines}
use Rattle.typed_values.specs.World.{Among}
use Rattle.type_safety.specs.Modules.{groups_in}
use Rattle.program_safety.specs.Parts.{IsOf}
use Rattle.module_offers.specs.Offers.{Typed, as_scheme, offered_types, value, defined_value, pattern_count}
use Rattle.module_offers.specs.Offers.{function_values, group_values, declared_values, port_value, module_values}
use Rattle.module_offers.specs.Offers.{is_offered, named_by, module_interface, type_in}
use Rattle.told_modules.proofs.Counts.{times, names, one_if}
use Rattle.told_modules.proofs.Defined.{none_defined, defined_is}
use Rattle.told_modules.proofs.Once.{declared_once, declared_times, defined_in, more_times}
use Rattle.told_modules.specs.Offers.{HaveNoFields}
use Rattle.told_modules.proofs.ToldOffersLists.{all_among, all_both, all_first, all_second, all_passed, all_ordered}
use Rattle.told_modules.proofs.ToldOffersLists.{all_flat, each_flat}
use Rattle.told_modules.proofs.Offers.{shown_makers}

-- ---- lists

here : (y : Ref) (b : Bool) → (among y (y ∷ []) || b) ≡ true
here y b = ap (λ c. (if c then true else false) || b) (ref_itself y)

later : (b c : Bool) → c ≡ true → (b || c) ≡ true
later true c e = refl
later false c e = e

defined_left : (xs ys : List Definition) (y : Ref) → defines xs y ≡ true → defines (xs ++ ys) y ≡ true
defined_left [] ys y e = absurd cc
defined_left (x ∷ xs) ys y e = by (among y x.names) e (defined_left xs ys y)
  where
    by : (b : Bool) → (b || defines xs y) ≡ true → (defines xs y ≡ true → defines (xs ++ ys) y ≡ true) →
        (b || defines (xs ++ ys) y) ≡ true
    by true e rest = refl
    by false e rest = rest e

defined_right : (xs ys : List Definition) (y : Ref) → defines ys y ≡ true → defines (xs ++ ys) y ≡ true
defined_right [] ys y e = e
defined_right (x ∷ xs) ys y e = later (among y x.names) (defines (xs ++ ys) y) (defined_right xs ys y e)

pub among_left : {X : Type 0} (xs ys : List X) (x : X) → Among x xs → Among x (xs ++ ys)
among_left [] ys x a = absurd a
among_left (z ∷ xs) ys x (inl e) = inl e
among_left (z ∷ xs) ys x (inr a) = inr (among_left xs ys x a)

pub among_right : {X : Type 0} (xs ys : List X) (x : X) → Among x ys → Among x (xs ++ ys)
among_right [] ys x a = a
among_right (z ∷ xs) ys x a = inr (among_right xs ys x a)

there : (ds : List Annotated) (d : Annotated) → Among d ds → 1 ≤ times d.0 (names ds)
there [] d a = absurd a
there (e ∷ ds) d (inl s) =
    let h : bytes_eq d.0 e.0 ≡ true = subst (λ (z : Annotated). bytes_eq d.0 z.0 ≡ true) s (name_itself d.0) in
    let k : one_if (bytes_eq d.0 e.0) ≡ 1 = ap one_if h in
    omega (arith, k)
there (e ∷ ds) d (inr a) = let h = there ds d a in omega (arith, h)

-- ---- the names of values

module _ (schemes : Schemes) (m : Module) (P : Name → Type 0) where
  abbrev is_defined : Ref → Bool
  is_defined y = defines (definitions (groups_in m.declarations)) y

  abbrev Passes : Value → Type 0
  Passes v = P v.name

  module _ (of_defined : (x : Name) → is_defined (Top m.name x) ≡ true → P x)
      (own : (y : Ref) → is_defined y ≡ true → IsOf m.name y) where
    one_value : (x : Name) (n : ℕ) → is_defined (Top m.name x) ≡ true → (o : Option Scheme) →
        AllByRecursion Passes (value x n o)
    one_value x n d None = tt
    one_value x n d (Some s) = (of_defined x d, tt)

    one_defined : (r : Ref) (n : ℕ) → is_defined r ≡ true → AllByRecursion Passes (defined_value schemes r n)
    one_defined (Local x) n d = tt
    one_defined (Top k x) n d =
        one_value x n (subst (λ h. is_defined (Top h x) ≡ true) (own (Top k x) d) d) (schemes (Top k x))

    abbrev Defines : List Definition → Type 0
    Defines ds = (y : Ref) → defines ds y ≡ true → is_defined y ≡ true

    functions_pass : (fs : Functions) → Defines (function_definitions fs) →
        AllByRecursion Passes (function_values schemes fs)
    functions_pass NoFunction h = tt
    functions_pass (MoreFunction title ps e fs) h =
        all_both Passes (defined_value schemes title.name (pattern_count ps)) (function_values schemes fs)
        (one_defined title.name (pattern_count ps)
        (h title.name (here title.name (defines (function_definitions fs) title.name))))
        (functions_pass fs (λ y d. h y (later (among y (title.name ∷ [])) (defines (function_definitions fs) y) d)))

    group_passes : (g : Group) → Defines (group_definitions g) → AllByRecursion Passes (group_values schemes g)
    group_passes (canon.Together fs) h = functions_pass fs h
    group_passes (canon.Constant title e) h = one_defined title.name 0 (h title.name (here title.name false))
    group_passes (canon.Destructure q e) h = tt

    declarations_pass : (ds : List Declaration) → Defines (definitions (groups_in ds)) →
        AllByRecursion Passes (flat_map (declared_values schemes) ds)
    declarations_pass [] h = tt
    declarations_pass (Given r k ∷ ds) h = declarations_pass ds h
    declarations_pass (Define g ∷ ds) h =
        all_both Passes (group_values schemes g) (flat_map (declared_values schemes) ds)
        (group_passes g (λ y d. h y (defined_left (group_definitions g) (definitions (groups_in ds)) y d)))
        (declarations_pass ds (λ y d. h y (defined_right (group_definitions g) (definitions (groups_in ds)) y d)))

  ports_pass : (qs : List PortDeclaration) →
      AllByRecursion (λ (d : Annotated). P d.0) (map (λ q. (q.name, q.port_type)) qs) →
      AllByRecursion Passes (map port_value qs)
  ports_pass [] h = tt
  ports_pass (q ∷ qs) h = (h.0, ports_pass qs h.1)

-- ---- the interface

module _ (s : Setting) (t : tree.Module) (m : Module) (is : IsModule s t.declarations m)
    (read : AreRead s.home t.declarations) (no_faults : module_faults s t m ≡ []) (given : HaveNoFields s.given)
    (schemes : Schemes) where
  abbrev shown : Shown
  shown = module_shows s t m

  abbrev makers : List Annotated
  makers = flat_map (union_makers m.name) m.unions ++ flat_map alias_makers m.aliases

  abbrev ports : List Annotated
  ports = map (λ q. (q.name, q.port_type)) m.ports

  abbrev NoMaker : Name → Type 0
  NoMaker x = (a : Annotation) → Among (x, a) makers → ⊥

  abbrev Exact : Typed → Type 0
  Exact e = (a : Annotation) → Among (e.0, a) makers → e.1 ≡ annotation_scheme a

  abbrev IsOwn : Annotated → Type 0
  IsOwn d = Among d (declared m)

  own : (y : Ref) → defines (definitions (groups_in m.declarations)) y ≡ true → IsOf m.name y
  own y d = defined_is (IsOf m.name) s t.declarations m is its_name y d
    where
      its_name : (r : Ref) → IsIn r (tops s.home (map name_of (defined_in t.declarations))) → IsOf m.name r
      its_name (Local x) i = absurd (let e = no_local s.home x (map name_of (defined_in t.declarations)) in cc)
      its_name (Top k x) i = one_home k s.home x (map name_of (defined_in t.declarations)) i ∙ sym is.name

  pub found : (d : Annotated) → Among d (declared m) → lookup (bytes_eq d.0) (declared m) ≡ Some d.1
  found d a = declared_once s t m is read no_faults d a

  pub undefined : (x : Name) (a : Annotation) → lookup (bytes_eq x) (declared m) ≡ Some a →
      defines (definitions (groups_in m.declarations)) (Top s.home x) ≡ false
  undefined x a e = none_defined s t m is read no_faults x a e

  defined_no_maker : (x : Name) → defines (definitions (groups_in m.declarations)) (Top m.name x) ≡ true → NoMaker x
  defined_no_maker x d a among_makers =
      false≢true (sym (undefined x a (found (x, a) (among_left makers ports (x, a) among_makers)))
      ∙ subst (λ h. defines (definitions (groups_in m.declarations)) (Top h x) ≡ true) is.name d)

  port_no_maker : (q : Annotated) → Among q ports → NoMaker q.0
  port_no_maker q b a among_makers =
      let x = there makers (q.0, a) among_makers in
      let y = there ports q b in
      let z = more_times q.0 makers ports in
      let k = declared_times s t m is read no_faults q.0 in
      omega (arith, x, y, z, k)

  all_ports : (qs : List Annotated) → AllByRecursion (λ d. Among d ports) qs →
      AllByRecursion (λ (d : Annotated). NoMaker d.0) qs
  all_ports [] h = tt
  all_ports (q ∷ qs) h = (port_no_maker q h.0, all_ports qs h.1)

  values_no_makers : AllByRecursion (λ (v : Value). NoMaker v.name) (module_values m schemes)
  values_no_makers =
      all_both (λ (v : Value). NoMaker v.name) (flat_map (declared_values schemes) m.declarations)
      (map port_value m.ports)
      (declarations_pass schemes m NoMaker defined_no_maker own m.declarations (λ y d. d))
      (ports_pass schemes m NoMaker m.ports (all_ports ports (all_among ports)))

  exact_values : (vs : List Value) → AllByRecursion (λ (v : Value). NoMaker v.name) vs →
      AllByRecursion Exact (map (λ v. (v.name, v.scheme)) vs)
  exact_values [] h = tt
  exact_values (v ∷ vs) h = ((λ a b. absurd (h.0 a b)), exact_values vs h.1)

  exact_makers : (ds : List Annotated) → AllByRecursion IsOwn ds → AllByRecursion Exact (map as_scheme ds)
  exact_makers [] h = tt
  exact_makers (d ∷ ds) h = ((λ a b. same a (found (d.0, a) (among_left makers ports (d.0, a) b))), exact_makers ds h.1)
    where
      same : (a : Annotation) → lookup (bytes_eq d.0) (declared m) ≡ Some a →
          annotation_scheme d.1 ≡ annotation_scheme a
      same a e = let k : Some d.1 ≡ Some a = sym (found d h.0) ∙ e in ap annotation_scheme (let j : d.1 ≡ a = cc in j)

  abbrev MakersOwn : UnionDeclaration → Type 0
  MakersOwn u = AllByRecursion IsOwn (union_makers m.name u)

  abbrev AliasOwn : AliasDeclaration → Type 0
  AliasOwn a = AllByRecursion IsOwn (alias_makers a)

  all_own : AllByRecursion IsOwn (makers ++ ports)
  all_own = all_among (declared m)

  own_makers : AllByRecursion IsOwn makers
  own_makers = all_first IsOwn makers ports all_own

  makers_own : AllByRecursion MakersOwn shown.unions
  makers_own =
      shown_makers IsOwn m.name (exposes_type (exposed_by t.head.header)) (exposes_makers (exposed_by t.head.header))
      s.given m.unions given
      (all_first IsOwn (flat_map (union_makers m.name) m.unions) (flat_map alias_makers m.aliases) own_makers)

  aliases_own : AllByRecursion AliasOwn shown.aliases
  aliases_own =
      all_passed AliasOwn (λ (a : AliasDeclaration). exposes_type (exposed_by t.head.header) a.name) m.aliases
      (each_flat IsOwn alias_makers m.aliases
      (all_second IsOwn (flat_map (union_makers m.name) m.unions) (flat_map alias_makers m.aliases) own_makers))

  types_exact : AllByRecursion Exact (offered_types m.name (module_interface shown m schemes))
  unfolding module_interface
  types_exact =
      let vs = named_by (is_offered m.name shown) (module_values m schemes) in
      let us = in_order (λ (u : UnionDeclaration). u.name) shown.unions in
      let as_ = in_order (λ (a : AliasDeclaration). a.name) shown.aliases in
      all_both Exact (map (λ v. (v.name, v.scheme)) (in_order (λ v. v.name) vs))
      (map as_scheme (flat_map (union_makers m.name) us ++ flat_map alias_makers as_))
      (exact_values (in_order (λ v. v.name) vs)
      (all_ordered (λ (v : Value). NoMaker v.name) (λ v. v.name) vs
      (all_passed (λ (v : Value). NoMaker v.name) (λ (v : Value). is_offered m.name shown v.name)
      (module_values m schemes) values_no_makers)))
      (exact_makers (flat_map (union_makers m.name) us ++ flat_map alias_makers as_)
      (all_both IsOwn (flat_map (union_makers m.name) us) (flat_map alias_makers as_)
      (all_flat IsOwn (union_makers m.name) us
      (all_ordered MakersOwn (λ (u : UnionDeclaration). u.name) shown.unions makers_own))
      (all_flat IsOwn alias_makers as_
      (all_ordered AliasOwn (λ (a : AliasDeclaration). a.name) shown.aliases aliases_own))))

  looked_up : (es : List Typed) → AllByRecursion Exact es → (x : Name) (k : Scheme) →
      lookup (bytes_eq x) es ≡ Some k → (a : Annotation) → Among (x, a) makers → k ≡ annotation_scheme a
  looked_up [] h x k e a b = absurd cc
  looked_up (e ∷ es) h x k f a b = by (bytes_eq x e.0) refl f (λ g. looked_up es h.1 x k g a b)
    where
      by : (c : Bool) → bytes_eq x e.0 ≡ c → (if c then Some e.1 else lookup (bytes_eq x) es) ≡ Some k →
          (lookup (bytes_eq x) es ≡ Some k → k ≡ annotation_scheme a) → k ≡ annotation_scheme a
      by true g i rest =
          let j : e.1 ≡ k = cc in
          sym j ∙ h.0 a (subst (λ z. Among (z, a) makers) (one_name x e.0 g) b)
      by false g i rest = rest i

  pub offered_exact : (x : Name) (k : Scheme) (a : Annotation) → Among (x, a) makers →
      type_in m.name (Some (module_interface shown m schemes)) x ≡ Some k → k ≡ annotation_scheme a
  offered_exact x k a b e =
      looked_up (offered_types m.name (module_interface shown m schemes)) types_exact x k e a b
