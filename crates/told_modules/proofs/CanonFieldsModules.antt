-- A resolved module has fields, where the updates that are written name some.
use Rattle.std.proofs.Common.{ℕ, zero, suc, List, [], ◌∷◌, map, sym, subst}
use Rattle.std.specs.Prelude.{Option, None, slice_index_or}
use Rattle.std.specs.List.{AllByRecursion, flat_map}
use Rattle.decl_groups.specs.InOrder.{ordered_groups}
use Rattle.elm_canon.specs.Names.{Name}
use Rattle.elm_canon.specs.Tree as canon
use Rattle.elm_canon.specs.Tree.{Annotation, Group}
use Rattle.elm_canon.specs.declared.unions.Alternative.{Alternative}
use Rattle.elm_canon.specs.declared.reference.Ref.TheVariants.{Top}
use Rattle.elm_tree.specs.Tree as tree
use Rattle.elm_tree.specs.Tree.{Declaration, Value, Port, Union, Alias, Annotate, Define, Destructure, Word, TypeTree}
use Rattle.canon_env.specs.Imports.{name_of}
use Rattle.canon_env.specs.Naming.{World}
use Rattle.canon_env.specs.Locals.{no_locals, with_names}
use Rattle.canon_env.specs.Patterns.{words_of_all, patterns_of}
use Rattle.canon_expr.specs.Binding.{is_function}
use Rattle.canon_expr.specs.Blocks.{NoMade, group_of, title_of}
use Rattle.canon_expr.specs.Exprs.{meant}
use Rattle.canon_module.specs.Items.{Item, PortItem, ValueItem, item_of, items_of, annotation_by, made_by, grouped}
use Rattle.canon_module.specs.Items.{items_at, top_used, value_groups}
use Rattle.canon_type.specs.Unions.{alternatives_of}
use Rattle.canon_module.specs.Resolve.{maker_of, record_maker, makers_in, world_of}
use Rattle.told_modules.specs.Resolved.{GroupHasFields, DeclarationHasFields}
use Rattle.elm_tree.specs.Written.{DeclarationUpdatesSome, DeclarationsUpdateSome}
use Rattle.told_modules.specs.Laws.{ModulesHaveFields}
use Rattle.told_modules.proofs.Parts.{all_both, patterns_have}
use Rattle.told_modules.proofs.Blocks.{MadeHasFields, define_has, group_has}
use Rattle.told_modules.proofs.Exprs.{expr_of}

abbrev AllHaveFields : List canon.Declaration → Type 0
AllHaveFields ds = AllByRecursion DeclarationHasFields ds

abbrev ItemHasFields : Item → Type 0
ItemHasFields (PortItem r k) = Unit {0}
ItemHasFields (ValueItem m) = MadeHasFields m

-- ---- groups

item_at : (items : List Item) → AllByRecursion ItemHasFields items → (i : ℕ)
    → ItemHasFields (slice_index_or items i (ValueItem NoMade))
item_at [] h i = tt
item_at (x ∷ items) h zero = h.0
item_at (x ∷ items) h (suc i) = item_at items h.1 i

items_there : (items : List Item) → AllByRecursion ItemHasFields items → (places : List ℕ)
    → AllByRecursion ItemHasFields (items_at items places)
items_there items h [] = tt
items_there items h (i ∷ places) = (item_at items h i, items_there items h places)

made_of_item : (i : Item) → ItemHasFields i → MadeHasFields (made_by i)
made_of_item (PortItem r k) h = tt
made_of_item (ValueItem m) h = h

all_made : (items : List Item) → AllByRecursion ItemHasFields items → AllByRecursion MadeHasFields (map made_by items)
all_made [] h = tt
all_made (i ∷ items) h = (made_of_item i h.0, all_made items h.1)

defined : (gs : List Group) → AllByRecursion GroupHasFields gs → AllHaveFields (map canon.Define gs)
defined [] h = tt
defined (g ∷ gs) h = (h.0, defined gs h.1)

made_group : (items : List Item) → AllByRecursion ItemHasFields items
    → AllHaveFields (map canon.Define (group_of (map made_by items)))
made_group items h =
    defined (group_of (map made_by items)) (group_has (map made_by items) (all_made items h))

grouped_have : (items : List Item) → AllByRecursion ItemHasFields items → AllHaveFields (grouped items)
grouped_have [] h = made_group [] h
grouped_have (PortItem r k ∷ []) h = (tt, tt)
grouped_have (ValueItem m ∷ []) h = made_group (ValueItem m ∷ []) h
grouped_have (PortItem r k ∷ i ∷ items) h = made_group (PortItem r k ∷ i ∷ items) h
grouped_have (ValueItem m ∷ i ∷ items) h = made_group (ValueItem m ∷ i ∷ items) h

groups_have : (items : List Item) → AllByRecursion ItemHasFields items → (lists : List (List ℕ))
    → AllHaveFields (flat_map (λ places. grouped (items_at items places)) lists)
groups_have items h [] = tt
groups_have items h (places ∷ lists) =
    all_both DeclarationHasFields (grouped (items_at items places))
    (flat_map (λ places. grouped (items_at items places)) lists)
    (grouped_have (items_at items places) (items_there items h places)) (groups_have items h lists)

-- ---- constructors

makers_of : (home : Name) (cs : List Alternative) → AllHaveFields (map (maker_of home) cs)
makers_of home [] = tt
makers_of home (c ∷ cs) = (tt, makers_of home cs)

record_has : (home : Name) (x : Word) (t : TypeTree) → AllHaveFields (record_maker home x t)
record_has home x (tree.RecordType fs) = (tt, tt)
record_has home x (tree.TypeVariable y) = tt
record_has home x (tree.TypeName y ts) = tt
record_has home x (tree.FunctionType ts) = tt
record_has home x (tree.TupleType ts) = tt
record_has home x (tree.ExtendedType y fs) = tt

maker_has : (home : Name) (d : Declaration) → AllHaveFields (makers_in home d)
maker_has home (Value d) = tt
maker_has home (Port x t) = tt
maker_has home (Union x ps cs) = makers_of home (alternatives_of home (name_of x) cs)
maker_has home (Alias x ps t) = record_has home x t

makers_have : (home : Name) (ds : List Declaration) → AllHaveFields (flat_map (makers_in home) ds)
makers_have home [] = tt
makers_have home (d ∷ ds) =
    all_both DeclarationHasFields (makers_in home d) (flat_map (makers_in home) ds) (maker_has home d)
    (makers_have home ds)

-- ---- values

module _ (w : World) where
  one_item : (before : Option Annotation) (d : Declaration) → DeclarationUpdatesSome d
      → ItemHasFields (item_of w before d)
  one_item before (Value (Annotate x t)) h = tt
  one_item before (Value (Define x ps e)) h =
      let inner = with_names (words_of_all ps) no_locals in
      define_has (is_function ps e) (title_of (Top w.name (name_of x)) x.place before) (patterns_of w ps)
      (meant w inner e) (patterns_have w ps) (expr_of w e inner h)
  one_item before (Value (Destructure p e)) h = tt
  one_item before (Port x t) h = tt
  one_item before (Union x ps cs) h = tt
  one_item before (Alias x ps t) h = tt

  each_item : (before : Option Annotation) (ds : List Declaration) → DeclarationsUpdateSome ds
      → AllByRecursion ItemHasFields (items_of w before ds)
  each_item before [] h = tt
  each_item before (d ∷ ds) h = (one_item before d h.0, each_item (annotation_by w d) ds h.1)

  values_have : (ds : List Declaration) → DeclarationsUpdateSome ds → AllHaveFields (value_groups w ds)
  values_have ds h = groups_have (items_of w None ds) (each_item None ds h) (ordered_groups (top_used w ds))

pub modules_have : ModulesHaveFields
modules_have s t m is h =
    let w = world_of s t.declarations m in
    subst AllHaveFields (sym is.declarations)
    (all_both DeclarationHasFields (flat_map (makers_in s.home) t.declarations) (value_groups w t.declarations)
    (makers_have s.home t.declarations) (values_have w t.declarations h))
