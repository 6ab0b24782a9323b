-- What the values and ports of a module mean, and the groups that they make. (Elm guide: modules, core language,
-- JavaScript interop.)
use Rattle.std.specs.Prelude.{ℕ, List, [], ◌∷◌, Option, None, map, flat_map, slice_index_or}
use Rattle.elm_canon.specs.Tree as canon
use Rattle.elm_canon.specs.Tree.{Annotation, Known, Given}
use Rattle.elm_canon.specs.Names.{Name}
use Rattle.elm_canon.specs.declared.reference.Ref.{Ref}
use Rattle.elm_canon.specs.declared.reference.Ref.TheVariants.{Top}
use Rattle.elm_tree.specs.Tree.{Definition, Annotate, Define, Destructure, Declaration, Value, Port, Union, Alias}
use Rattle.canon_env.specs.Imports.{name_of}
use Rattle.canon_env.specs.Naming.{World}
use Rattle.canon_env.specs.Locals.{no_locals, with_names}
use Rattle.canon_env.specs.Patterns.{words_of_all, patterns_of}
use Rattle.canon_expr.specs.Binding.{is_function}
use Rattle.canon_expr.specs.Blocks.{Made, NoMade, MadeFunction, MadeConstant, MadeParts, made_of, title_of, group_of}
use Rattle.decl_groups.specs.InOrder.{ordered_groups}
use Rattle.canon_expr.specs.Exprs.{annotation_of, meant}
use Rattle.canon_module.specs.Ports.{port_known}
use Rattle.canon_env.specs.Uses.{expr_uses}
use Rattle.canon_module.specs.TopUses.{value_names_each, used_numbers}

-- a declaration as it goes into a group: a port, or what a definition means. An annotation and a type mean nothing there
pub data Item : Type 0 where
  PortItem : Ref → Known → Item
  ValueItem : Made → Item

-- a definition of the module, with the annotation that stands before it. No pattern stands at the top
abbrev pub top_made : World → Option Annotation → Definition → Made
top_made w before (Annotate x t) = NoMade
top_made w before (Define x ps e) =
    made_of (is_function ps e) (title_of (Top w.name (name_of x)) x.place before) (patterns_of w ps)
    (meant w (with_names (words_of_all ps) no_locals) e)
top_made w before (Destructure p e) = NoMade

abbrev pub item_of : World → Option Annotation → Declaration → Item
item_of w before (Value d) = ValueItem (top_made w before d)
item_of w before (Port x t) = PortItem (Top w.name (name_of x)) (port_known w x t)
item_of w before (Union x ps cs) = ValueItem NoMade
item_of w before (Alias x ps t) = ValueItem NoMade

-- what stands before the declaration after it
abbrev pub annotation_by : World → Declaration → Option Annotation
annotation_by w (Value d) = annotation_of w d
annotation_by w (Port x t) = None
annotation_by w (Union x ps cs) = None
annotation_by w (Alias x ps t) = None

abbrev pub items_of : World → Option Annotation → List Declaration → List Item
items_of w before [] = []
items_of w before (d ∷ ds) = item_of w before d ∷ items_of w (annotation_by w d) ds

-- ---- which declarations a declaration uses, by what it means

abbrev pub made_uses : Made → List Ref
made_uses NoMade = []
made_uses (MadeFunction title ps e) = expr_uses e
made_uses (MadeConstant title e) = expr_uses e
made_uses (MadeParts p e) = expr_uses e

abbrev pub item_uses : Item → List Ref
item_uses (PortItem r k) = []
item_uses (ValueItem m) = made_uses m

-- by the names of values that each declares
abbrev pub used_in : Name → List (List Name) → Item → List ℕ
used_in home names i = used_numbers home names (item_uses i)

abbrev pub used_among : Name → List (List Name) → List Item → List (List ℕ)
used_among home names items = map (used_in home names) items

abbrev pub top_used : World → List Declaration → List (List ℕ)
top_used w ds = used_among w.name (value_names_each ds) (items_of w None ds)

-- ---- groups, each after those that it uses

-- a port is no definition
abbrev pub made_by : Item → Made
made_by (PortItem r k) = NoMade
made_by (ValueItem m) = m

-- a port is alone
abbrev pub grouped : List Item → List canon.Declaration
grouped (PortItem r k ∷ []) = Given r k ∷ []
grouped items = map canon.Define (group_of (map made_by items))

abbrev pub items_at : List Item → List ℕ → List Item
items_at items places = map (λ i. slice_index_or items i (ValueItem NoMade)) places

abbrev pub groups_of_items : List (List ℕ) → List Item → List canon.Declaration
groups_of_items uses items = flat_map (λ places. grouped (items_at items places)) (ordered_groups uses)

-- the groups of the values that a module declares, ports among them
abbrev pub value_groups : World → List Declaration → List canon.Declaration
value_groups w ds = groups_of_items (top_used w ds) (items_of w None ds)
