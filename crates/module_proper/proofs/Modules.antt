-- A resolved module mentions the constructors alone that its names mean.
use Rattle.std.proofs.Common.{ℕ, zero, suc, List, [], ◌∷◌, map, inl, inr, refl, sym, subst}
use Rattle.std.specs.Prelude.{Option, None, slice_index_or}
use Rattle.std.specs.List.{AllByRecursion, flat_map}
use Rattle.decl_groups.specs.InOrder.{ordered_groups}
use Rattle.elm_canon.specs.Names.{Name}
use Rattle.elm_canon.specs.Tree as canon
use Rattle.elm_canon.specs.Tree.{Annotation, Group}
use Rattle.elm_canon.specs.declared.unions.Alternative.{Alternative}
use Rattle.elm_canon.specs.declared.reference.Ref.TheVariants.{Top}
use Rattle.elm_tree.specs.Tree as tree
use Rattle.elm_tree.specs.Tree.{Declaration, Value, Port, Union, Alias, Annotate, Define, Destructure, Word, TypeTree}
use Rattle.canon_env.specs.Imports.{name_of}
use Rattle.canon_env.specs.Naming.{World}
use Rattle.canon_env.specs.Locals.{no_locals, with_names}
use Rattle.canon_env.specs.Patterns.{words_of_all, patterns_of}
use Rattle.canon_expr.specs.Binding.{is_function}
use Rattle.canon_expr.specs.Blocks.{NoMade, group_of, title_of}
use Rattle.canon_expr.specs.Exprs.{meant}
use Rattle.canon_module.specs.Items.{Item, PortItem, ValueItem, item_of, items_of, annotation_by, made_by, grouped}
use Rattle.canon_module.specs.Items.{items_at, top_used, value_groups}
use Rattle.canon_type.specs.Unions.{alternatives_of}
use Rattle.canon_module.specs.Resolve.{Setting, IsModule, maker_of, record_maker, makers_in, world_of}
use Rattle.elm_canon.specs.Mentions.{Condition, IsOfModule, DeclarationMentions, DeclarationsMention}
use Rattle.module_proper.specs.Laws.{Meets, AllMeet, IsMeant, ModulesMention}
use Rattle.module_proper.proofs.Parts.{all_both, patterns_take}
use Rattle.module_proper.proofs.Blocks.{MadeMentions, define_mentions, GroupIs, group_is}
use Rattle.module_proper.proofs.Exprs.{expr_mentions}

module _ (P B : Condition) (home : Name) where
  abbrev Own : List canon.Declaration → Type 0
  Own ds = DeclarationsMention P B home ds

  abbrev ItemMentions : Item → Type 0
  ItemMentions (PortItem r k) = IsOfModule home r
  ItemMentions (ValueItem m) = MadeMentions (IsOfModule home) P B m

  -- ---- groups

  item_at : (items : List Item) → AllByRecursion ItemMentions items → (i : ℕ)
      → ItemMentions (slice_index_or items i (ValueItem NoMade))
  item_at [] h i = tt
  item_at (x ∷ items) h zero = h.0
  item_at (x ∷ items) h (suc i) = item_at items h.1 i

  items_there : (items : List Item) → AllByRecursion ItemMentions items → (places : List ℕ)
      → AllByRecursion ItemMentions (items_at items places)
  items_there items h [] = tt
  items_there items h (i ∷ places) = (item_at items h i, items_there items h places)

  made_of_item : (i : Item) → ItemMentions i → MadeMentions (IsOfModule home) P B (made_by i)
  made_of_item (PortItem r k) h = tt
  made_of_item (ValueItem m) h = h

  all_made : (items : List Item) → AllByRecursion ItemMentions items
      → AllByRecursion (MadeMentions (IsOfModule home) P B) (map made_by items)
  all_made [] h = tt
  all_made (i ∷ items) h = (made_of_item i h.0, all_made items h.1)

  defined : (gs : List Group) → AllByRecursion (GroupIs (IsOfModule home) P B) gs → Own (map canon.Define gs)
  defined [] h = tt
  defined (g ∷ gs) h = (h.0, defined gs h.1)

  made_group : (items : List Item) → AllByRecursion ItemMentions items
      → Own (map canon.Define (group_of (map made_by items)))
  made_group items h =
      defined (group_of (map made_by items)) (group_is (IsOfModule home) P B (map made_by items) (all_made items h))

  grouped_is : (items : List Item) → AllByRecursion ItemMentions items → Own (grouped items)
  grouped_is [] h = made_group [] h
  grouped_is (PortItem r k ∷ []) h = (h.0, tt)
  grouped_is (ValueItem m ∷ []) h = made_group (ValueItem m ∷ []) h
  grouped_is (PortItem r k ∷ i ∷ items) h = made_group (PortItem r k ∷ i ∷ items) h
  grouped_is (ValueItem m ∷ i ∷ items) h = made_group (ValueItem m ∷ i ∷ items) h

  groups_are : (items : List Item) → AllByRecursion ItemMentions items → (lists : List (List ℕ))
      → Own (flat_map (λ places. grouped (items_at items places)) lists)
  groups_are items h [] = tt
  groups_are items h (places ∷ lists) =
      all_both (DeclarationMentions P B home) (grouped (items_at items places))
      (flat_map (λ places. grouped (items_at items places)) lists)
      (grouped_is (items_at items places) (items_there items h places)) (groups_are items h lists)

  -- ---- constructors

  makers_of : (cs : List Alternative) → Own (map (maker_of home) cs)
  makers_of [] = tt
  makers_of (c ∷ cs) = (refl, makers_of cs)

  record_own : (x : Word) (t : TypeTree) → Own (record_maker home x t)
  record_own x (tree.RecordType fs) = (refl, tt)
  record_own x (tree.TypeVariable y) = tt
  record_own x (tree.TypeName y ts) = tt
  record_own x (tree.FunctionType ts) = tt
  record_own x (tree.TupleType ts) = tt
  record_own x (tree.ExtendedType y fs) = tt

  maker_own : (d : Declaration) → Own (makers_in home d)
  maker_own (Value d) = tt
  maker_own (Port x t) = tt
  maker_own (Union x ps cs) = makers_of (alternatives_of home (name_of x) cs)
  maker_own (Alias x ps t) = record_own x t

  pub makers_own : (ds : List Declaration) → Own (flat_map (makers_in home) ds)
  makers_own [] = tt
  makers_own (d ∷ ds) =
      all_both (DeclarationMentions P B home) (makers_in home d) (flat_map (makers_in home) ds) (maker_own d)
      (makers_own ds)

-- ---- values

module _ (P B : Condition) (meets : Meets P) (w : World) (taken : AllMeet P w) (built : AllMeet B w) where
  one_item : (before : Option Annotation) (d : Declaration) → ItemMentions P B w.name (item_of w before d)
  one_item before (Value (Annotate x t)) = tt
  one_item before (Value (Define x ps e)) =
      define_mentions (IsOfModule w.name) P B (is_function ps e) (title_of (Top w.name (name_of x)) x.place before)
      (patterns_of w ps) (meant w (with_names (words_of_all ps) no_locals) e) refl (patterns_take P meets w taken ps)
      (expr_mentions P B meets w taken built e (with_names (words_of_all ps) no_locals))
  one_item before (Value (Destructure p e)) = tt
  one_item before (Port x t) = refl
  one_item before (Union x ps cs) = tt
  one_item before (Alias x ps t) = tt

  each_item : (before : Option Annotation) (ds : List Declaration)
      → AllByRecursion (ItemMentions P B w.name) (items_of w before ds)
  each_item before [] = tt
  each_item before (d ∷ ds) = (one_item before d, each_item (annotation_by w d) ds)

  pub values_mention : (ds : List Declaration) → DeclarationsMention P B w.name (value_groups w ds)
  values_mention ds = groups_are P B w.name (items_of w None ds) (each_item None ds) (ordered_groups (top_used w ds))

-- What a module takes apart meets what patterns ask, and what it builds meets what operations ask.
pub modules_meet : (P B : Condition) (s : Setting) (t : tree.Module) (m : canon.Module) → Meets P
    → IsModule s t.declarations m → AllMeet P (world_of s t.declarations m) → AllMeet B (world_of s t.declarations m)
    → DeclarationsMention P B s.home m.declarations
modules_meet P B s t m meets is taken built =
    let w = world_of s t.declarations m in
    subst (DeclarationsMention P B s.home) (sym is.declarations)
    (all_both (DeclarationMentions P B s.home) (flat_map (makers_in s.home) t.declarations)
    (value_groups w t.declarations) (makers_own P B s.home t.declarations)
    (values_mention P B meets w taken built t.declarations))

given_meet : (w : World) → Meets (IsMeant w)
given_meet w = record { tuples = λ n. inl refl; nil = inl (inl refl); cons = inl (inr refl) }

pub modules_mention : ModulesMention
modules_mention s t m is =
    let w = world_of s t.declarations m in
    modules_meet (IsMeant w) (IsMeant w) s t m (given_meet w) is (λ x home u c e. inr (x, home, e))
    (λ x home u c e. inr (x, home, e))
