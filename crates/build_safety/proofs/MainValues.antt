-- The types of the values that a module offers, its `main` among them: `main_is`.
use Rattle.std.proofs.Common.{◌≡◌, ℕ, List, [], ◌∷◌, ◌++◌, map, Bool, true, false, Option, Some, None, ◌⊎◌}
use Rattle.std.proofs.Common.{inl, inr, codes, refl, sym, ap, ◌∙◌, subst, if◌then◌else◌}
use Rattle.std.specs.Prelude.{◌||◌, flat_map}
use Rattle.std.specs.List.{AllByRecursion}
use Rattle.elm_tree.specs.Tree as tree
use Rattle.elm_canon.specs.Names.{Name}
use Rattle.elm_canon.specs.Tree as canon
use Rattle.elm_canon.specs.Tree.{Annotation, PortDeclaration, Module, Functions, NoFunction, MoreFunction, Group}
use Rattle.elm_canon.specs.Tree.{Declaration, Given, Define}
use Rattle.elm_canon.specs.declared.reference.Ref.{Ref}
use Rattle.elm_canon.specs.declared.reference.Ref.TheVariants.{Local, Top}
use Rattle.elm_canon.specs.Proper.{among, IsIn}
use Rattle.elm_type.specs.Types.{Scheme}
use Rattle.elm_type.specs.Schemes.{rename}
use Rattle.canon_env.proofs.Adding.{one_name}
use Rattle.canon_env.specs.Imports.{name_of}
use Rattle.canon_module.specs.Resolve.{Setting, IsModule}
use Rattle.canon_proper.proofs.Scopes.{ref_itself}
use Rattle.module_proper.specs.Modules.{tops}
use Rattle.module_proper.proofs.Numbers.{one_home, no_local}
use Rattle.interface.specs.Interface.{Value}
use Rattle.elm_type.specs.Order.{scheme_in_order}
use Rattle.type_items.specs.Annotations.{annotation_scheme}
use Rattle.type_items.specs.Definitions.{Definition}
use Rattle.type_items.specs.Expressions.{definitions, group_definitions, function_definitions}
use Rattle.type_items.specs.Inferred.{Schemes}
use Rattle.type_items.specs.Modules.{Annotated, union_makers, alias_makers, declared}
use Rattle.typed_values.specs.Simple.{defines}
use Rattle.typed_values.specs.World.{Among}
use Rattle.type_safety.specs.Modules.{groups_in}
use Rattle.program_safety.specs.Parts.{IsOf}
use Rattle.module_offers.specs.Offers.{value, defined_value, pattern_count, function_values, group_values}
use Rattle.module_offers.specs.Offers.{declared_values, port_value, module_values, is_main, named_by, first_type}
use Rattle.module_offers.specs.Offers.{main_type}
use Rattle.told_modules.proofs.Defined.{defined_is}
use Rattle.told_modules.proofs.Once.{defined_in}
use Rattle.told_modules.proofs.ToldOffersLists.{all_among, all_both, all_second}

-- ---- what definitions define

here : (y : Ref) (b : Bool) → (among y (y ∷ []) || b) ≡ true
here y b = ap (λ c. (if c then true else false) || b) (ref_itself y)

later : (b c : Bool) → c ≡ true → (b || c) ≡ true
later true c e = refl
later false c e = e

defined_left : (xs ys : List Definition) (y : Ref) → defines xs y ≡ true → defines (xs ++ ys) y ≡ true
defined_left [] ys y e = absurd cc
defined_left (x ∷ xs) ys y e = by (among y x.names) e (defined_left xs ys y)
  where
    by : (b : Bool) → (b || defines xs y) ≡ true → (defines xs y ≡ true → defines (xs ++ ys) y ≡ true) →
        (b || defines (xs ++ ys) y) ≡ true
    by true e rest = refl
    by false e rest = rest e

defined_right : (xs ys : List Definition) (y : Ref) → defines ys y ≡ true → defines (xs ++ ys) y ≡ true
defined_right [] ys y e = e
defined_right (x ∷ xs) ys y e = later (among y x.names) (defines (xs ++ ys) y) (defined_right xs ys y e)

-- what a module defines is of the module
pub own_defined : (s : Setting) (ds : List tree.Declaration) (m : Module) → IsModule s ds m → (y : Ref) →
    defines (definitions (groups_in m.declarations)) y ≡ true → IsOf m.name y
own_defined s ds m is y d = defined_is (IsOf m.name) s ds m is its_name y d
  where
    its_name : (r : Ref) → IsIn r (tops s.home (map name_of (defined_in ds))) → IsOf m.name r
    its_name (Local x) i = absurd (let e = no_local s.home x (map name_of (defined_in ds)) in cc)
    its_name (Top k x) i = one_home k s.home x (map name_of (defined_in ds)) i ∙ sym is.name

-- ---- values

module _ (m : Module) (schemes : Schemes) where
  abbrev is_defined : Ref → Bool
  is_defined y = defines (definitions (groups_in m.declarations)) y

  -- a definition, with the scheme that is told, in its one form
  pub record IsDefined (x : Name) (k : Scheme) : Type 0 where
    pub defined : is_defined (Top m.name x) ≡ true
    pub scheme : Scheme
    pub told : schemes (Top m.name x) ≡ Some scheme
    pub is : k ≡ scheme_in_order scheme

  -- a port, with the scheme that is written
  pub record IsPort (x : Name) (k : Scheme) : Type 0 where
    pub written : Annotation
    pub declared_so : Among (x, written) (declared m)
    pub is : k ≡ rename (annotation_scheme written)

  abbrev pub IsOne : Name → Scheme → Type 0
  IsOne x k = IsDefined x k ⊎ IsPort x k

  abbrev IsValue : Value → Type 0
  IsValue v = IsOne v.name v.scheme

  module _ (own : (y : Ref) → is_defined y ≡ true → IsOf m.name y) where
    value_is : (x : Name) (n : ℕ) (o : Option Scheme) → schemes (Top m.name x) ≡ o →
        is_defined (Top m.name x) ≡ true → AllByRecursion IsValue (value x n o)
    value_is x n None e d = tt
    value_is x n (Some s) e d = (inl (record { defined = d; scheme = s; told = e; is = refl }), tt)

    one_defined : (r : Ref) (n : ℕ) → is_defined r ≡ true → AllByRecursion IsValue (defined_value schemes r n)
    one_defined (Local x) n d = tt
    one_defined (Top k x) n d =
        subst (λ h. AllByRecursion IsValue (value x n (schemes (Top h x)))) (sym (own (Top k x) d))
        (value_is x n (schemes (Top m.name x)) refl (subst (λ h. is_defined (Top h x) ≡ true) (own (Top k x) d) d))

    abbrev Defines : List Definition → Type 0
    Defines ds = (y : Ref) → defines ds y ≡ true → is_defined y ≡ true

    functions_are : (fs : Functions) → Defines (function_definitions fs) →
        AllByRecursion IsValue (function_values schemes fs)
    functions_are NoFunction h = tt
    functions_are (MoreFunction title ps e fs) h =
        all_both IsValue (defined_value schemes title.name (pattern_count ps)) (function_values schemes fs)
        (one_defined title.name (pattern_count ps)
        (h title.name (here title.name (defines (function_definitions fs) title.name))))
        (functions_are fs (λ y d. h y (later (among y (title.name ∷ [])) (defines (function_definitions fs) y) d)))

    group_is : (g : Group) → Defines (group_definitions g) → AllByRecursion IsValue (group_values schemes g)
    group_is (canon.Together fs) h = functions_are fs h
    group_is (canon.Constant title e) h = one_defined title.name 0 (h title.name (here title.name false))
    group_is (canon.Destructure q e) h = tt

    declarations_are : (ds : List Declaration) → Defines (definitions (groups_in ds)) →
        AllByRecursion IsValue (flat_map (declared_values schemes) ds)
    declarations_are [] h = tt
    declarations_are (Given r k ∷ ds) h = declarations_are ds h
    declarations_are (Define g ∷ ds) h =
        all_both IsValue (group_values schemes g) (flat_map (declared_values schemes) ds)
        (group_is g (λ y d. h y (defined_left (group_definitions g) (definitions (groups_in ds)) y d)))
        (declarations_are ds (λ y d. h y (defined_right (group_definitions g) (definitions (groups_in ds)) y d)))

    ports_are : (qs : List PortDeclaration) →
        AllByRecursion (λ (d : Annotated). Among d (declared m)) (map (λ q. (q.name, q.port_type)) qs) →
        AllByRecursion IsValue (map port_value qs)
    ports_are [] h = tt
    ports_are (q ∷ qs) h =
        (inr (record { written = q.port_type; declared_so = h.0; is = refl }), ports_are qs h.1)

    values_are : AllByRecursion IsValue (module_values m schemes)
    values_are =
        all_both IsValue (flat_map (declared_values schemes) m.declarations) (map port_value m.ports)
        (declarations_are m.declarations (λ y d. d))
        (ports_are m.ports
        (all_second (λ (d : Annotated). Among d (declared m))
        (flat_map (union_makers m.name) m.unions ++ flat_map alias_makers m.aliases)
        (map (λ q. (q.name, q.port_type)) m.ports) (all_among (declared m))))

    first_is : (vs : List Value) → AllByRecursion IsValue vs → (k : Scheme) →
        first_type (named_by is_main vs) ≡ Some k → IsOne (codes "main") k
    first_is [] h k e = absurd cc
    first_is (v ∷ vs) h k e = by (is_main v.name) refl e (first_is vs h.1 k)
      where
        by : (b : Bool) → is_main v.name ≡ b →
            first_type (if b then v ∷ named_by is_main vs else named_by is_main vs) ≡ Some k →
            (first_type (named_by is_main vs) ≡ Some k → IsOne (codes "main") k) → IsOne (codes "main") k
        by true n f rest =
            let g : v.scheme ≡ k = cc in
            subst (IsOne (codes "main")) g
            (subst (λ x. IsOne x v.scheme) (one_name v.name (codes "main") n) h.0)
        by false n f rest = rest f

    -- the type of `main` is that of a definition or of a port
    pub main_is : (k : Scheme) → main_type m schemes ≡ Some k → IsOne (codes "main") k
    main_is k e = first_is (module_values m schemes) values_are k e
