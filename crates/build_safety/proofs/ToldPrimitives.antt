-- The functions that no text can say, in the modules of a build: `primitives_are_told`.
use Rattle.std.proofs.Common.{◌≡◌, List, [], ◌∷◌, ◌++◌, Bool, true, false, Option, Some, None, inl, inr, refl, sym}
use Rattle.std.proofs.Common.{ap, ◌∙◌, subst, if◌then◌else◌, length}
use Rattle.std.specs.Prelude.{◌||◌, flat_map, option_map}
use Rattle.std.specs.List.{AllByRecursion}
use Rattle.std.specs.Map.{lookup}
use Rattle.std.specs.Option.{option_or}
use Rattle.std.specs.Str.{bytes_eq}
use Rattle.elm_canon.specs.Names.{Name}
use Rattle.elm_canon.specs.Tree.{Title, Functions, NoFunction, MoreFunction, Group, Together, Constant}
use Rattle.elm_canon.specs.Tree.{Destructure, Declaration, Given, Define, Module}
use Rattle.elm_canon.specs.declared.reference.Ref.{Ref}
use Rattle.elm_canon.specs.declared.reference.Ref.TheVariants.{Local, Top}
use Rattle.elm_meaning.specs.Functions.{Primitive}
use Rattle.elm_canon.specs.Proper.{among, function_names, group_names}
use Rattle.elm_type.specs.Types.{Scheme}
use Rattle.module_proper.specs.Laws.{Meets}
use Rattle.module_proper.proofs.Modules.{modules_meet}
use Rattle.elm_canon.specs.Mentions.{anything, IsOfModule, DeclarationMentions}
use Rattle.canon_module.specs.Resolve.{module_faults}
use Rattle.canon_proper.proofs.Quiet.{append_none}
use Rattle.canon_proper.proofs.Scopes.{ref_itself}
use Rattle.core_modules.specs.Facts.{core_faults, function_titles, titles_of}
use Rattle.link.specs.Cores.{core_of, named, primitive_of}
use Rattle.told_modules.specs.Facts.{HasFacts}
use Rattle.told_modules.proofs.Facts.{facts_hold}
use Rattle.elm_type.specs.Order.{scheme_in_order}
use Rattle.module_offers.specs.Faults.{operator_faults}
use Rattle.core_modules.specs.Faults.{port_faults}
use Rattle.type_items.specs.Annotations.{annotation_scheme}
use Rattle.type_items.specs.Definitions.{Definition}
use Rattle.type_items.specs.Expressions.{definitions}
use Rattle.type_items.specs.Inferred.{Inferred}
use Rattle.type_items.specs.Modules.{declared, definitions_in, module_definitions}
use Rattle.type_items.specs.Scopes.{Instance, entry_of}
use Rattle.type_items.specs.Solutions.{Values}
use Rattle.typed_values.specs.World.{World, Among}
use Rattle.typed_values.specs.Simple.{defines, AreApart}
use Rattle.type_safety.specs.Modules.{groups_in, AreTitled, scope_after}
use Rattle.type_safety.proofs.Modules.{declared_definitions}
use Rattle.program_safety.specs.Parts.{Part, IsOf, HasInstances, IsPrimitiveName, IsEarlier}
use Rattle.program_safety.proofs.Primitives.{each_knows}
use Rattle.module_offers.specs.Offers.{type_in, known_by}
use Rattle.module_made.specs.Made.{root}
use Rattle.build_safety.specs.ToldAnnotated.{IsAnnotated}
use Rattle.build_safety.specs.Compiled.{Compiled, home_of, interface_of, resolved_of, AreModules}
use Rattle.build_safety.specs.Told.{own, tells, told, part_of}
use Rattle.build_safety.proofs.Among.{get_here, compiled_here, is_next, is_proper}
use Rattle.build_safety.proofs.Told.{grows, told_at}
use Rattle.told_modules.proofs.Names.{names_apart}
use Rattle.project_proper.specs.Resolved.{scope_after as scope_before}
use Rattle.type_items.proofs.Modules.{same_types}
use Rattle.build_safety.specs.ToldPrimitives.{IsCore, PrimitivesAreTold}
use Rattle.build_safety.proofs.ToldAnnotated.{annotated}
use Rattle.build_safety.proofs.ToldOffers.{OwnNames, offers_exact}
use Rattle.build_safety.proofs.ToldRows.{IsRow, IsNamed, named_row}

all_meet : Meets anything
all_meet = record { tuples = λ n. tt; nil = tt; cons = tt }

-- ---- the declaration of such a function

record IsTitle (d : Declaration) (x : Ref) (p : Primitive) : Type 0 where
  title : Title
  titled : Among title (titles_of d)
  is : title.name ≡ x
  primitive : primitive_of x ≡ Some p
  definition : Definition
  defined : Among definition (definitions_in d)
  names : definition.names ≡ title.name ∷ []
  annotated_so : definition.annotation ≡ title.annotation

named_is : (r x : Ref) (p : Primitive) → named r ≡ Some (x, p) → (r ≡ x) × (primitive_of x ≡ Some p)
named_is r x p e = by (primitive_of r) refl e
  where
    by : (o : Option Primitive) → primitive_of r ≡ o → option_map {U = Ref × Primitive} (λ q. (r, q)) o ≡ Some (x, p) →
        (r ≡ x) × (primitive_of x ≡ Some p)
    by None f g = absurd cc
    by (Some q) f g =
        let both : ◌≡◌ {A = Ref × Primitive} (r, q) (x, p) = cc in
        let a : r ≡ x = ap (λ z. z.0) both in
        let b : q ≡ p = ap (λ z. z.1) both in
        (a, subst (λ z. primitive_of z ≡ Some p) a (f ∙ ap (λ z. Some z) b))

title_there : (d : Declaration) (x : Ref) (p : Primitive) → core_of d ≡ Some (x, p) → IsTitle d x p
title_there (Given r k) x p e = absurd cc
title_there (Define (Together NoFunction)) x p e = absurd cc
title_there (Define (Together (MoreFunction title ps b NoFunction))) x p e =
    let k = named_is title.name x p e in record {
      title = title;
      titled = inl refl;
      is = k.0;
      primitive = k.1;
      definition = _;
      defined = inl refl;
      names = refl;
      annotated_so = refl;
    }
title_there (Define (Together (MoreFunction title ps b (MoreFunction next qs f fs)))) x p e = absurd cc
title_there (Define (Constant title b)) x p e = absurd cc
title_there (Define (Destructure q b)) x p e = absurd cc

among_flat : {X Y : Type 0} (f : X → List Y) (xs : List X) (x : X) (y : Y) → Among x xs → Among y (f x) →
    Among y (flat_map f xs)
among_flat f [] x y a b = absurd a
among_flat {X} {Y} f (z ∷ xs) x y (inl e) b = left (f z) (subst (λ v. Among y (f v)) e b)
  where
    left : (ys : List Y) → Among y ys → Among y (ys ++ flat_map f xs)
    left [] h = absurd h
    left (v ∷ ys) (inl h) = inl h
    left (v ∷ ys) (inr h) = inr (left ys h)
among_flat {X} {Y} f (z ∷ xs) x y (inr a) b = right (f z) (among_flat f xs x y a b)
  where
    right : (ys : List Y) → Among y (flat_map f xs) → Among y (ys ++ flat_map f xs)
    right [] h = h
    right (v ∷ ys) h = inr (right ys h)

-- a definition defines its names
defines_it : (ds : List Definition) (d : Definition) (y : Ref) → Among d ds → among y d.names ≡ true →
    defines ds y ≡ true
defines_it [] d y a e = absurd a
defines_it (f ∷ fs) d y (inl h) e = ap (λ b. b || defines fs y) (subst (λ z. among y z.names ≡ true) h e)
defines_it (f ∷ fs) d y (inr h) e = by (among y f.names) (defines_it fs d y h e)
  where
    by : (b : Bool) → defines fs y ≡ true → (b || defines fs y) ≡ true
    by true g = refl
    by false g = g

one_there : {X : Type 0} (P : X → Type 0) (xs : List X) (x : X) → AllByRecursion P xs → Among x xs → P x
one_there P [] x h a = absurd a
one_there P (y ∷ ys) x h (inl e) = subst P (sym e) h.0
one_there P (y ∷ ys) x h (inr a) = one_there P ys x h.1 a

same_instances : (s : Scheme) → HasInstances s s
same_instances s f choice stands chosen = (choice, chosen, refl)

-- a title of a group is one of its names
title_named : (g : Group) (t : Title) (x : Ref) → Among t (titles_of (Define g)) → t.name ≡ x → Among x (group_names g)
title_named (Together fs) t x a e = by fs a
  where
    by : (fs : Functions) → Among t (function_titles fs) → Among x (function_names fs)
    by NoFunction h = absurd h
    by (MoreFunction title ps b fs) (inl h) = inl (sym e ∙ ap (λ z. z.name) h)
    by (MoreFunction title ps b fs) (inr h) = inr (by fs h)
title_named (Constant title b) t x (inl h) e = inl (sym e ∙ ap (λ z. z.name) h)
title_named (Constant title b) t x (inr h) e = absurd h
title_named (Destructure q b) t x a e = absurd a

-- the name of such a function is of the module
own_title : (home : Name) (x : Ref) (p : Primitive) (d : Declaration) → IsTitle d x p → OwnNames home d → IsOf home x
own_title home x p (Given r k) t h = absurd t.titled
own_title home x p (Define g) t h =
    one_there (IsOf home) (group_names g) x h (title_named g t.title x t.titled t.is)

-- ---- in a module of a build

module _ (before : List Compiled) (c : Compiled) (after : List Compiled) (all : AreModules (before ++ c ∷ after)) where
  abbrev cs : List Compiled
  cs = before ++ c ∷ after

  abbrev m : Module
  m = c.resolved.whole

  name_is : m.name ≡ home_of c
  name_is = (is_next before c after all).is.name

  no_faults : module_faults c.resolved.setting c.resolved.written m ≡ []
  no_faults =
      let is = compiled_here before c after all in
      subst (λ s. module_faults s c.resolved.written m ≡ []) (sym is.setting) is.typed.is_named.named

  -- it lacks nothing
  no_core_faults : core_faults m ≡ []
  unfolding operator_faults
  no_core_faults =
      (append_none _ (core_faults m)
      (append_none _ (port_faults m) (compiled_here before c after all).typed.is_named.whole).0).1

  facts : HasFacts m
  facts = facts_hold m no_core_faults

  mentions : AllByRecursion (λ d. DeclarationMentions anything anything (home_of c) d) m.declarations
  mentions =
      modules_meet anything anything c.resolved.setting c.resolved.written m all_meet (is_next before c after all).is
      (λ x home u k f. tt) (λ x home u k f. tt)

  inferred : Inferred m (told cs) root c.told
  inferred =
      same_types m (known_by c.around.interfaces) (told cs) root c.told (grows before c after all)
      (compiled_here before c after all).typed.typed

  names : AreTitled (groups_in m.declarations) × AreApart (definitions (groups_in m.declarations))
  names = names_apart m (scope_before (resolved_of before)) (is_proper before c after all)

  all_of : (rs : List Ref) → AllByRecursion (IsOfModule (home_of c)) rs → AllByRecursion (IsOf m.name) rs
  all_of [] h = tt
  all_of (Local x ∷ rs) h = absurd h.0
  all_of (Top k x ∷ rs) h = (h.0 ∙ sym name_is, all_of rs h.1)

  own_by : (d : Declaration) → DeclarationMentions anything anything (home_of c) d → OwnNames m.name d
  own_by (Given r k) h = tt
  own_by (Define g) h = all_of (group_names g) h.0

  own_names : (d : Declaration) → Among d m.declarations → OwnNames m.name d
  own_names d a =
      own_by d (one_there (λ d. DeclarationMentions anything anything (home_of c) d) m.declarations d mentions a)

  module _ (w : World) (values : Values) (ds : List Declaration) (x : Ref) (p : Primitive) (core : IsCore m x p) where
    abbrev part : Part
    part = part_of c values ds

    abbrev d : Declaration
    d = core.declaration

    t : IsTitle d x p
    t = title_there d x p core.is

    n : IsNamed x p
    n = named_row x p t.primitive

    abbrev r : IsRow n.home n.name p
    r = n.found

    -- its annotation is that of the table
    abbrev s : Scheme
    s = annotation_scheme r.row_.type

    annotation_is : t.title.annotation ≡ Some r.row_.type
    annotation_is =
        facts.functions d t.title r.row_ core.among t.titled r.among
        (t.is ∙ n.is ∙ ap (λ h. Top h n.name) (sym r.home_is) ∙ ap (λ y. Top r.row_.home y) (sym r.name_is))

    there : Among t.definition (module_definitions m)
    there = among_flat definitions_in m.declarations d t.definition core.among t.defined

    has_name : among x t.definition.names ≡ true
    has_name =
        subst (λ ns. among x ns ≡ true) (sym t.names)
        (subst (λ z. among x (z ∷ []) ≡ true) (sym t.is) (ap (λ b. if b then true else false) (ref_itself x)))

    so : IsAnnotated (told cs) part c.told x r.row_.type
    so = annotated (told cs) part c.told inferred names.0 names.1 t.definition r.row_.type x there has_name
        (t.annotated_so ∙ annotation_is)

    scheme_is : c.told x ≡ Some s
    scheme_is = so.scheme ∙ ap (λ z. Some z) r.renamed

    -- it is of the module
    home_is : n.home ≡ m.name
    home_is = subst (IsOf m.name) n.is (own_title m.name x p d t (own_names d core.among))

    is_defined : defines (definitions (groups_in m.declarations)) (Top m.name n.name) ≡ true
    is_defined =
        subst (λ z. defines (definitions (groups_in m.declarations)) (Top z n.name) ≡ true) home_is
        (subst (λ z. defines (definitions (groups_in m.declarations)) z ≡ true) n.is
        (subst (λ es. defines es x ≡ true) (declared_definitions m.declarations)
        (defines_it (module_definitions m) t.definition x there has_name)))

    top_is : x ≡ Top m.name n.name
    top_is = n.is ∙ ap (λ z. Top z n.name) home_is

    -- all modules are told this scheme
    own_is : own c n.name ≡ Some s
    own_is =
        ap (λ b. if b then c.told (Top (home_of c) n.name)
        else option_map annotation_scheme (lookup (bytes_eq n.name) (declared m)))
        (subst (λ z. defines (definitions (groups_in m.declarations)) (Top z n.name) ≡ true) name_is is_defined)
        ∙ subst (λ z. c.told z ≡ Some s) (top_is ∙ ap (λ z. Top z n.name) name_is) scheme_is

    tells_it : tells c n.name ≡ Some s
    tells_it = by (type_in (home_of c) (Some (interface_of c)) n.name) refl
      where
        by : (o : Option Scheme) → type_in (home_of c) (Some (interface_of c)) n.name ≡ o →
            option_or o (own c n.name) ≡ Some s
        by None e = own_is
        by (Some k) e =
            let q = offers_exact c.resolved.setting c.resolved.written m (is_next before c after all).is
            (is_next before c after all).read no_faults (compiled_here before c after all).given
            c.told own_names n.name k
            (subst (λ z. type_in z (Some (interface_of c)) n.name ≡ Some k) (sym name_is) e) is_defined in
            let u : Some q.0 ≡ Some s = sym q.1 ∙ subst (λ z. c.told z ≡ Some s) top_is scheme_is in
            let v : q.0 ≡ s = cc in
            ap (λ z. Some z) (q.2 ∙ ap scheme_in_order v ∙ r.ordered)

    told_is : told cs m.name n.name ≡ Some s
    told_is =
        subst (λ z. told cs z n.name ≡ Some s) (sym name_is)
        (told_at cs (length before) c all.resolved.apart (get_here before after c) n.name ∙ tells_it)

    pub is_primitive : IsPrimitiveName w (told cs) (x, p)
    is_primitive = record {
      home = m.name;
      name = n.name;
      scheme = s;
      name_is = top_is;
      told_is = told_is;
      knows = each_knows w p s r.typed;
    }

    pub is_earlier : IsEarlier (told cs) part x
    is_earlier =
        subst (IsEarlier (told cs) part) (sym top_is) (record {
          own = refl;
          scheme = s;
          told_is = told_is;
          inside = s;
          is = subst (λ z. entry_of (scope_after m (told cs) root) z ≡ Some (Instance s)) top_is so.entry;
          instances = same_instances s;
        })

pub primitives_are_told : PrimitivesAreTold
primitives_are_told w before c after values ds x p all core =
    (is_primitive before c after all w values ds x p core, is_earlier before c after all w values ds x p core)
