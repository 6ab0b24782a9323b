-- The annotations of a module without faults.
use Rattle.std.proofs.Common.{◌≡◌, ℕ, zero, suc, List, [], ◌∷◌, ◌++◌, map, Option, None, sym, subst}
use Rattle.std.specs.Prelude.{slice_index_or}
use Rattle.std.specs.List.{AllByRecursion, flat_map}
use Rattle.decl_groups.specs.InOrder.{ordered_groups}
use Rattle.elm_tree.specs.Tree as tree
use Rattle.elm_tree.specs.Tree.{TypeTree, ConstructorOf}
use Rattle.elm_canon.specs.Names.{Name}
use Rattle.elm_canon.specs.Tree as canon
use Rattle.elm_canon.specs.Tree.{Annotation, Annotations, NoAnnotation, MoreAnnotation, AliasDeclaration, Group}
use Rattle.elm_canon.specs.Tree.{Declaration, Given, Define}
use Rattle.elm_canon.specs.declared.unions.Alternative.{Alternative}
use Rattle.elm_canon.specs.declared.reference.Ref.TheVariants.{Top}
use Rattle.canon_env.specs.Imports.{name_of}
use Rattle.canon_env.specs.Shown.{Shown}
use Rattle.canon_env.specs.Naming.{World}
use Rattle.canon_env.specs.Locals.{no_locals, with_names}
use Rattle.canon_env.specs.Sites.{faults_at}
use Rattle.canon_env.specs.Patterns.{words_of_all, list_sites, patterns_of}
use Rattle.canon_env.specs.Types.{type_of, types_of, type_sites}
use Rattle.canon_type.specs.Written.{aliases_in, union_names_in}
use Rattle.canon_type.specs.Parameters.{parameter_faults}
use Rattle.canon_type.specs.Recursion.{recursion_faults}
use Rattle.canon_type.specs.Unions.{UnionTree, unions_in, union_of, fields_of, union_sites, constructor_sites}
use Rattle.canon_type.specs.Unions.{alternatives_of}
use Rattle.canon_type.specs.DeclaredTypes.{alias_sites, declared_sites, declared_faults}
use Rattle.canon_expr.specs.Binding.{is_function}
use Rattle.canon_expr.specs.Blocks.{NoMade, group_of, reaching_sites, title_of}
use Rattle.canon_expr.specs.Exprs.{expr_sites, definition_sites, meant}
use Rattle.canon_module.specs.Items.{Item, PortItem, ValueItem, item_of, items_of, annotation_by, made_by, grouped}
use Rattle.canon_module.specs.Items.{items_at, top_made, top_used}
use Rattle.canon_module.specs.Ports.{form_faults}
use Rattle.canon_type.specs.Ports.{port_form}
use Rattle.canon_module.specs.CanonValuesFaults.{declaration_faults, defined_top, value_faults}
use Rattle.canon_module.specs.Resolve.{Setting, IsModule, module_faults, heading_faults, declared_by, world_of}
use Rattle.canon_module.specs.Resolve.{makers_in, maker_of, record_maker, ports_in}
use Rattle.canon_proper.proofs.Quiet.{AreSound, append_none, sound_sites, sound_split}
use Rattle.module_proper.specs.Modules.{AreRead}
use Rattle.infer_types.specs.Once.{FieldsOnce, AllOnce}
use Rattle.infer_proper.specs.Annotations.{EachOf, IfWritten, InGroup, InDeclaration, InModule}
use Rattle.module_proper.specs.Records.{AliasesHaveRecords, ImportsHaveRecords, NamesHaveRecords}
use Rattle.module_proper.proofs.Aliases.{names_well, bodies_well, written_so}
use Rattle.infer_proper.proofs.Distinct.{records_once}
use Rattle.infer_proper.proofs.Written.{type_well, types_well}
use Rattle.infer_proper.proofs.Exprs.{MadeWell, AllMade, made_of_well, group_well, all_more, annotation_well}
use Rattle.infer_proper.proofs.Exprs.{expr_well}

-- ---- types

each_once : (ts : Annotations) → AllOnce ts → EachOf FieldsOnce ts
each_once NoAnnotation h = tt
each_once (MoreAnnotation t ts) h = (h.0, each_once ts h.1)

aliases_once : (ds : List AliasDeclaration) → AliasesHaveRecords ds → AllByRecursion (λ a. FieldsOnce a.body) ds
aliases_once [] h = tt
aliases_once (a ∷ ds) h = (records_once a.body h.0, aliases_once ds h.1)

module _ (w : World) (names : NamesHaveRecords w) where
  fields_once : (cs : List ConstructorOf) → AreSound w (flat_map (constructor_sites w) cs)
      → AllByRecursion (EachOf FieldsOnce) (map (fields_of w) cs)
  fields_once [] q = tt
  fields_once (c ∷ cs) q =
      let r = sound_split w (constructor_sites w c) (flat_map (constructor_sites w) cs) q in
      (each_once (types_of w c.fields) (types_well w names c.fields r.0), fields_once cs r.1)

  unions_once : (home : Name) (us : List UnionTree) → AreSound w (flat_map (union_sites w) us)
      → AllByRecursion (λ (u : canon.UnionDeclaration). AllByRecursion (EachOf FieldsOnce) u.fields)
      (map (union_of home w) us)
  unions_once home [] q = tt
  unions_once home (u ∷ us) q =
      let r = sound_split w (union_sites w u) (flat_map (union_sites w) us) q in
      (fields_once u.constructors r.0, unions_once home us r.1)

  -- ---- ports

  abbrev PortOnce : canon.PortDeclaration → Type 0
  PortOnce p = FieldsOnce p.port_type

  ports_once : (ds : List tree.Declaration) → flat_map (declaration_faults w) ds ≡ []
      → AllByRecursion PortOnce (flat_map (ports_in w) ds)
  ports_once [] none = tt
  ports_once (tree.Value d ∷ ds) none =
      ports_once ds
      (append_none (declaration_faults w (tree.Value d)) (flat_map (declaration_faults w) ds) none).1
  ports_once (tree.Port x t ∷ ds) none =
      let r = append_none (declaration_faults w (tree.Port x t)) (flat_map (declaration_faults w) ds) none in (
        type_well w names t
            (sound_sites w (type_sites w t)
            (append_none (flat_map (faults_at w) (type_sites w t)) (form_faults x (port_form (type_of w t))) r.0).0),
        ports_once ds r.1,
      )
  ports_once (tree.Union x ps cs ∷ ds) none = ports_once ds none
  ports_once (tree.Alias x ps t ∷ ds) none = ports_once ds none

  -- ---- values

  abbrev ItemWell : Item → Type 0
  ItemWell (PortItem r k) = Unit {0}
  ItemWell (ValueItem m) = MadeWell m

  abbrev AllItems : List Item → Type 0
  AllItems [] = Unit {0}
  AllItems (i ∷ is) = ItemWell i × AllItems is

  top_well : (before : Option Annotation) (d : tree.Definition) → IfWritten FieldsOnce before
      → AreSound w (definition_sites w no_locals d) → MadeWell (top_made w before d)
  top_well before (tree.Annotate x t) b q = tt
  top_well before (tree.Define x ps e) b q =
      let inner = with_names (words_of_all ps) no_locals in
      let r = sound_split w (list_sites no_locals ps) (expr_sites w inner e) q in
      made_of_well (is_function ps e) (title_of (Top w.name (name_of x)) x.place before) (patterns_of w ps)
      (meant w inner e) b (expr_well w names e inner r.1)
  top_well before (tree.Destructure p e) b q = tt

  item_well : (before : Option Annotation) (d : tree.Declaration) → IfWritten FieldsOnce before
      → declaration_faults w d ≡ [] → ItemWell (item_of w before d)
  item_well before (tree.Value d) b none = top_well before d b (sound_sites w (definition_sites w no_locals d) none)
  item_well before (tree.Port x t) b none = tt
  item_well before (tree.Union x ps cs) b none = tt
  item_well before (tree.Alias x ps t) b none = tt

  before_well : (d : tree.Declaration) → declaration_faults w d ≡ [] → IfWritten FieldsOnce (annotation_by w d)
  before_well (tree.Value d) none =
      annotation_well w names no_locals d (sound_sites w (definition_sites w no_locals d) none)
  before_well (tree.Port x t) none = tt
  before_well (tree.Union x ps cs) none = tt
  before_well (tree.Alias x ps t) none = tt

  items_well : (before : Option Annotation) (ds : List tree.Declaration) → IfWritten FieldsOnce before
      → flat_map (declaration_faults w) ds ≡ [] → AllItems (items_of w before ds)
  items_well before [] b none = tt
  items_well before (d ∷ ds) b none =
      let r = append_none (declaration_faults w d) (flat_map (declaration_faults w) ds) none in
      (item_well before d b r.0, items_well (annotation_by w d) ds (before_well d r.0) r.1)

  item_at : (items : List Item) → AllItems items → (i : ℕ) → ItemWell (slice_index_or items i (ValueItem NoMade))
  item_at [] h i = tt
  item_at (x ∷ items) h zero = h.0
  item_at (x ∷ items) h (suc i) = item_at items h.1 i

  made_items : (items : List Item) → AllItems items → AllMade (map made_by items)
  made_items [] h = tt
  made_items (PortItem r k ∷ items) h = (tt, made_items items h.1)
  made_items (ValueItem m ∷ items) h = (h.0, made_items items h.1)

  defined_well : (gs : List Group) → AllByRecursion (InGroup FieldsOnce) gs
      → AllByRecursion (InDeclaration FieldsOnce) (map Define gs)
  defined_well [] h = tt
  defined_well (g ∷ gs) h = (h.0, defined_well gs h.1)

  together_well : (items : List Item) → AllItems items
      → AllByRecursion (InDeclaration FieldsOnce) (map Define (group_of (map made_by items)))
  together_well items h =
      defined_well (group_of (map made_by items)) (group_well (map made_by items) (made_items items h))

  grouped_well : (items : List Item) → AllItems items → AllByRecursion (InDeclaration FieldsOnce) (grouped items)
  grouped_well [] h = together_well [] h
  grouped_well (PortItem r k ∷ []) h = (tt, tt)
  grouped_well (PortItem r k ∷ i ∷ is) h = together_well (PortItem r k ∷ i ∷ is) h
  grouped_well (ValueItem m ∷ is) h = together_well (ValueItem m ∷ is) h

  module _ (items : List Item) (all : AllItems items) where
    at_well : (places : List ℕ) → AllItems (items_at items places)
    at_well [] = tt
    at_well (i ∷ places) = (item_at items all i, at_well places)

    each_well : (each : List (List ℕ))
        → AllByRecursion (InDeclaration FieldsOnce) (flat_map (λ places. grouped (items_at items places)) each)
    each_well [] = tt
    each_well (places ∷ each) =
        all_more (InDeclaration FieldsOnce) (grouped (items_at items places))
        (flat_map (λ places. grouped (items_at items places)) each)
        (grouped_well (items_at items places) (at_well places)) (each_well each)

-- ---- constructors, which write none

makers_well : (home : Name) (cs : List Alternative) → AllByRecursion (InDeclaration FieldsOnce) (map (maker_of home) cs)
makers_well home [] = tt
makers_well home (c ∷ cs) = (tt, makers_well home cs)

record_well : (home : Name) (x : tree.Word) (t : TypeTree)
    → AllByRecursion (InDeclaration FieldsOnce) (record_maker home x t)
record_well home x (tree.TypeVariable a) = tt
record_well home x (tree.TypeName y ts) = tt
record_well home x (tree.FunctionType ts) = tt
record_well home x (tree.TupleType ts) = tt
record_well home x (tree.RecordType fs) = (tt, tt)
record_well home x (tree.ExtendedType a fs) = tt

all_makers_well : (home : Name) (ds : List tree.Declaration)
    → AllByRecursion (InDeclaration FieldsOnce) (flat_map (makers_in home) ds)
all_makers_well home [] = tt
all_makers_well home (tree.Value d ∷ ds) = all_makers_well home ds
all_makers_well home (tree.Port x t ∷ ds) = all_makers_well home ds
all_makers_well home (tree.Union x ps cs ∷ ds) =
    all_more (InDeclaration FieldsOnce) (map (maker_of home) (alternatives_of home (name_of x) cs))
    (flat_map (makers_in home) ds) (makers_well home (alternatives_of home (name_of x) cs)) (all_makers_well home ds)
all_makers_well home (tree.Alias x ps t ∷ ds) =
    all_more (InDeclaration FieldsOnce) (record_maker home x t) (flat_map (makers_in home) ds) (record_well home x t)
    (all_makers_well home ds)

-- ---- the module

module _ (s : Setting) (t : tree.Module) (m : canon.Module) (is : IsModule s t.declarations m)
    (read : AreRead s.home t.declarations) (imports : ImportsHaveRecords s.imports) (none : module_faults s t m ≡ [])
  where
    abbrev w : World
    w = world_of s t.declarations m

    abbrev declared : Shown
    declared = declared_by t.declarations m

    types_none : declared_faults w t.declarations ≡ []
    types_none =
        (append_none (heading_faults s t) (declared_faults w t.declarations)
        (append_none (heading_faults s t ++ declared_faults w t.declarations) (value_faults w t.declarations)
        none).0).1

    values_none : flat_map (declaration_faults w) t.declarations ≡ []
    values_none =
        (append_none (flat_map (declaration_faults w) t.declarations)
        (flat_map (faults_at w) (reaching_sites (top_used w t.declarations) (map defined_top t.declarations)))
        (append_none (heading_faults s t ++ declared_faults w t.declarations) (value_faults w t.declarations)
        none).1).0

    types_sound : AreSound w (flat_map (union_sites w) (unions_in t.declarations))
        × AreSound w (flat_map (alias_sites w) (aliases_in t.declarations))
    types_sound =
        sound_split w (flat_map (union_sites w) (unions_in t.declarations))
        (flat_map (alias_sites w) (aliases_in t.declarations))
        (sound_sites w (declared_sites w t.declarations)
        (append_none (flat_map parameter_faults t.declarations
        ++ recursion_faults (union_names_in t.declarations) (aliases_in t.declarations))
        (flat_map (faults_at w) (declared_sites w t.declarations)) types_none).1)

    names : NamesHaveRecords w
    names =
        names_well s.home s.imports t.declarations declared is.types imports
        (written_so w t.declarations read.spelled types_sound.1)

    pub module_once : InModule FieldsOnce m
    module_once = record {
      unions =
          subst (AllByRecursion (λ (u : canon.UnionDeclaration). AllByRecursion (EachOf FieldsOnce) u.fields))
          (sym is.types.unions) (unions_once w names s.home (unions_in t.declarations) types_sound.0);
      aliases =
          aliases_once m.aliases
          (bodies_well s.home s.imports t.declarations declared is.types imports
          (written_so w t.declarations read.spelled types_sound.1));
      ports =
          subst (AllByRecursion (λ (p : canon.PortDeclaration). FieldsOnce p.port_type)) (sym is.ports)
          (ports_once w names t.declarations values_none);
      declarations =
          subst (AllByRecursion (InDeclaration FieldsOnce)) (sym is.declarations)
          (all_more (InDeclaration FieldsOnce) (flat_map (makers_in s.home) t.declarations) _
          (all_makers_well s.home t.declarations)
          (each_well w names (items_of w None t.declarations)
          (items_well w names None t.declarations tt values_none) (ordered_groups (top_used w t.declarations))));
    }
