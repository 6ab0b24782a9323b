-- Modules without faults: each `let` in their values has names of its own.
use Rattle.std.proofs.Common.{◌≡◌, ℕ, zero, suc, List, [], ◌∷◌, ◌++◌, map, sym, subst}
use Rattle.std.specs.Prelude.{Option, None, slice_index_or}
use Rattle.std.specs.List.{AllByRecursion, flat_map}
use Rattle.decl_groups.specs.InOrder.{ordered_groups}
use Rattle.elm_canon.specs.Names.{Name}
use Rattle.elm_canon.specs.Tree as canon
use Rattle.elm_canon.specs.Tree.{Annotation, Group, groups_of}
use Rattle.elm_canon.specs.declared.unions.Alternative.{Alternative}
use Rattle.elm_canon.specs.declared.reference.Ref.TheVariants.{Top}
use Rattle.elm_tree.specs.Tree as tree
use Rattle.elm_tree.specs.Tree.{Declaration, Value, Port, Union, Alias, Annotate, Define, Destructure, Word, TypeTree}
use Rattle.canon_env.specs.Imports.{name_of}
use Rattle.canon_env.specs.Naming.{World}
use Rattle.canon_env.specs.Locals.{no_locals, with_names}
use Rattle.canon_env.specs.Patterns.{words_of_all, patterns_of, list_sites}
use Rattle.canon_expr.specs.Binding.{is_function}
use Rattle.canon_expr.specs.Blocks.{NoMade, group_of, title_of}
use Rattle.canon_expr.specs.Exprs.{expr_sites, definition_sites, meant}
use Rattle.canon_module.specs.Items.{Item, PortItem, ValueItem, item_of, items_of, annotation_by, made_by, grouped}
use Rattle.canon_module.specs.Items.{items_at, top_used, value_groups}
use Rattle.canon_module.specs.CanonValuesFaults.{declaration_faults, value_faults}
use Rattle.canon_type.specs.Unions.{alternatives_of}
use Rattle.canon_module.specs.Resolve.{Setting, IsModule, module_faults, maker_of, record_maker, makers_in, world_of}
use Rattle.canon_proper.proofs.Quiet.{append_none, sound_sites, sound_split}
use Rattle.elm_canon.specs.Apart.{GroupsApart}
use Rattle.module_proper.specs.Declarations.{DeclarationsApart}
use Rattle.module_proper.proofs.Clear.{outer_clear}
use Rattle.module_proper.proofs.CanonLetsBlocks.{ClearMade, group_is_clear}
use Rattle.module_proper.proofs.CanonLetsExprs.{define_clear, list_none, meant_clear}

abbrev ItemClear : Item → Type 0
ItemClear i = ClearMade no_locals (made_by i)

-- ---- declarations

module _ (w : World) where
  one_clear : (before : Option Annotation) (d : Declaration) → declaration_faults w d ≡ []
      → ItemClear (item_of w before d)
  one_clear before (Value (Annotate x t)) none_ = tt
  one_clear before (Value (Define x ps e)) none_ =
      let inner = with_names (words_of_all ps) no_locals in
      let r = sound_split w (list_sites no_locals ps) (expr_sites w inner e)
      (sound_sites w (definition_sites w no_locals (Define x ps e)) none_) in
      define_clear no_locals (is_function ps e) (title_of (Top w.name (name_of x)) x.place before) (patterns_of w ps)
      (meant w inner e) (list_none w no_locals ps r.0)
      (outer_clear (words_of_all ps) no_locals (meant w inner e) (meant_clear w e inner r.1))
  one_clear before (Value (Destructure p e)) none_ = tt
  one_clear before (Port x t) none_ = tt
  one_clear before (Union x ps cs) none_ = tt
  one_clear before (Alias x ps t) none_ = tt

  each_clear : (before : Option Annotation) (ds : List Declaration) → flat_map (declaration_faults w) ds ≡ []
      → AllByRecursion ItemClear (items_of w before ds)
  each_clear before [] none_ = tt
  each_clear before (d ∷ ds) none_ =
      let r = append_none (declaration_faults w d) (flat_map (declaration_faults w) ds) none_ in
      (one_clear before d r.0, each_clear (annotation_by w d) ds r.1)

-- ---- groups

item_at : (items : List Item) → AllByRecursion ItemClear items → (i : ℕ)
    → ItemClear (slice_index_or items i (ValueItem NoMade))
item_at [] h i = tt
item_at (x ∷ items) h zero = h.0
item_at (x ∷ items) h (suc i) = item_at items h.1 i

items_there : (items : List Item) → AllByRecursion ItemClear items → (places : List ℕ)
    → AllByRecursion ItemClear (items_at items places)
items_there items h [] = tt
items_there items h (i ∷ places) = (item_at items h i, items_there items h places)

all_made : (items : List Item) → AllByRecursion ItemClear items
    → AllByRecursion (ClearMade no_locals) (map made_by items)
all_made [] h = tt
all_made (i ∷ items) h = (h.0, all_made items h.1)

defined : (gs : List Group) → GroupsApart (groups_of gs) → DeclarationsApart (map canon.Define gs)
defined [] h = tt
defined (g ∷ gs) h = (h.0, defined gs h.1)

made_apart : (items : List Item) → AllByRecursion ItemClear items
    → DeclarationsApart (map canon.Define (group_of (map made_by items)))
made_apart items h =
    defined (group_of (map made_by items)) (group_is_clear no_locals (map made_by items) (all_made items h)).apart

grouped_apart : (items : List Item) → AllByRecursion ItemClear items → DeclarationsApart (grouped items)
grouped_apart [] h = made_apart [] h
grouped_apart (PortItem r k ∷ []) h = (tt, tt)
grouped_apart (ValueItem m ∷ []) h = made_apart (ValueItem m ∷ []) h
grouped_apart (PortItem r k ∷ i ∷ items) h = made_apart (PortItem r k ∷ i ∷ items) h
grouped_apart (ValueItem m ∷ i ∷ items) h = made_apart (ValueItem m ∷ i ∷ items) h

both_apart : (ds es : List canon.Declaration) → DeclarationsApart ds → DeclarationsApart es
    → DeclarationsApart (ds ++ es)
both_apart [] es h k = k
both_apart (d ∷ ds) es h k = (h.0, both_apart ds es h.1 k)

groups_apart : (items : List Item) → AllByRecursion ItemClear items → (lists : List (List ℕ))
    → DeclarationsApart (flat_map (λ places. grouped (items_at items places)) lists)
groups_apart items h [] = tt
groups_apart items h (places ∷ lists) =
    both_apart (grouped (items_at items places)) (flat_map (λ places. grouped (items_at items places)) lists)
    (grouped_apart (items_at items places) (items_there items h places)) (groups_apart items h lists)

pub values_apart : (w : World) (ds : List Declaration) → value_faults w ds ≡ [] → DeclarationsApart (value_groups w ds)
values_apart w ds none_ =
    groups_apart (items_of w None ds)
    (each_clear w None ds (append_none (flat_map (declaration_faults w) ds) _ none_).0)
    (ordered_groups (top_used w ds))

-- ---- the module

makers_of : (home : Name) (cs : List Alternative) → DeclarationsApart (map (maker_of home) cs)
makers_of home [] = tt
makers_of home (c ∷ cs) = (tt, makers_of home cs)

record_apart : (home : Name) (x : Word) (t : TypeTree) → DeclarationsApart (record_maker home x t)
record_apart home x (tree.RecordType fs) = (tt, tt)
record_apart home x (tree.TypeVariable y) = tt
record_apart home x (tree.TypeName y ts) = tt
record_apart home x (tree.FunctionType ts) = tt
record_apart home x (tree.TupleType ts) = tt
record_apart home x (tree.ExtendedType y fs) = tt

maker_apart : (home : Name) (d : Declaration) → DeclarationsApart (makers_in home d)
maker_apart home (Value d) = tt
maker_apart home (Port x t) = tt
maker_apart home (Union x ps cs) = makers_of home (alternatives_of home (name_of x) cs)
maker_apart home (Alias x ps t) = record_apart home x t

makers_apart : (home : Name) (ds : List Declaration) → DeclarationsApart (flat_map (makers_in home) ds)
makers_apart home [] = tt
makers_apart home (d ∷ ds) =
    both_apart (makers_in home d) (flat_map (makers_in home) ds) (maker_apart home d) (makers_apart home ds)

pub module_apart : (s : Setting) (t : tree.Module) (m : canon.Module) → IsModule s t.declarations m
    → module_faults s t m ≡ [] → DeclarationsApart m.declarations
module_apart s t m is none_ =
    subst DeclarationsApart (sym is.declarations)
    (both_apart (flat_map (makers_in s.home) t.declarations) (value_groups (world_of s t.declarations m) t.declarations)
    (makers_apart s.home t.declarations)
    (values_apart (world_of s t.declarations m) t.declarations (append_none _ _ none_).1))
