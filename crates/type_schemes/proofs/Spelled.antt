-- The nodes of a type of the program, by its parts.
use Rattle.std.proofs.Common.{◌≡◌, ℕ, zero, suc, ◌+◌, List, [], ◌∷◌, ◌++◌, map, length, get_or, take, Bool, true}
use Rattle.std.proofs.Common.{false, cond, Option, Some, None, Vec, Global, refl, sym, ap, ◌∙◌, append_assoc}
use Rattle.std.proofs.Common.{append-nil, arith}
use Rattle.std.specs.List.{flat_map}
use Rattle.std.specs.declared.sync.Arc.{Arc}
use Rattle.std.proofs.lemmas.List.{length-map}
use Rattle.elm_canon.specs.Tree as plain
use Rattle.elm_canon.specs.Tree.{annotations_of, field_types_of}
use Rattle.elm_canon.specs.View.{NamedType, annotation_view, field_type_view, function_to, function_type, record_type}
use Rattle.elm_canon.specs.declared.tree.Annotation.{Annotation}
use Rattle.elm_canon.specs.declared.tree.Annotation.TheVariants as annotation
use Rattle.elm_canon.specs.declared.tree.FieldType.{FieldType}
use Rattle.elm_canon.proofs.Views.{variable_type, named_type, type_of_function, tuple_type, type_of_record, shared_type}
use Rattle.elm_canon.proofs.Views.{field_type}
use Rattle.elm_type.specs.Types.{Name, ElmType, Fields, NoField, MoreField, Leaf, count}
use Rattle.elm_type.specs.Types.{count_fields}
use Rattle.elm_type.specs.Rows.{name_lt, insert_field, insert_all}
use Rattle.elm_type.specs.Spelling.{spell, spell_all, spell_fields}
use Rattle.elm_type.specs.declared.head.Head.TheVariants as head
use Rattle.elm_type.specs.declared.node.Leaf.TheVariants as leaf
use Rattle.elm_type.specs.declared.node.Node.TheVariants as node
use Rattle.type_items.specs.Annotations.{number_of, annotation_type, annotation_types, annotation_fields}
use Rattle.type_store.proofs.Rows.{insert_all_insert}
use Rattle.type_schemes.specs.Names.{numbered, type_nodes, titled, title_nodes, parameter_nodes, record_start}
use Rattle.type_schemes.specs.Names.{put_in, in_order}
use Rattle.type_schemes.proofs.Arranging.{order_titled}

module _ (order : List Name) where
  abbrev of : Name → ElmType (Leaf ℕ)
  of = numbered order

  -- ---- parts

  count_parts : (ts : List plain.Annotation) → count (annotation_types of (annotations_of ts)) ≡ length ts
  count_parts [] = refl
  count_parts (t ∷ ts) = ap suc (count_parts ts)

  part_nodes : (ts : List plain.Annotation)
      → spell_all (annotation_types of (annotations_of ts)) ≡ flat_map (type_nodes order) ts
  unfolding type_nodes spell
  part_nodes [] = refl
  part_nodes (t ∷ ts) = ap (λ ns. spell (annotation_type of t) ++ ns) (part_nodes ts)

  -- ---- fields

  abbrev read : List NamedType → Fields (Leaf ℕ)
  read [] = NoField
  read (f ∷ fs) = MoreField f.0 (annotation_type of f.1) (read fs)

  put_read : (f : NamedType) (gs : List NamedType) → insert_field f.0 (annotation_type of f.1)
      (read gs) ≡ read (put_in f gs)
  put_read f [] = refl
  put_read f (g ∷ gs) = go (name_lt g.0 f.0) (put_read f gs)
    where
      go : (b : Bool) → insert_field f.0 (annotation_type of f.1) (read gs) ≡ read (put_in f gs)
          → cond b (MoreField g.0 (annotation_type of g.1) (insert_field f.0 (annotation_type of f.1) (read gs)))
          (MoreField f.0 (annotation_type of f.1) (MoreField g.0 (annotation_type of g.1) (read gs)))
          ≡ read (cond b (g ∷ put_in f gs) (f ∷ g ∷ gs))
      go true again = ap (MoreField g.0 (annotation_type of g.1)) again
      go false again = refl

  fields_read : (fs : List NamedType) → annotation_fields of (field_types_of fs) ≡ read (in_order fs)
  fields_read [] = refl
  fields_read (f ∷ fs) = ap (insert_field f.0 (annotation_type of f.1)) (fields_read fs) ∙ put_read f (in_order fs)

  -- to put them in order once more changes nothing
  fields_twice : (fs : List NamedType) → insert_all (annotation_fields of (field_types_of fs)) NoField ≡
      annotation_fields of (field_types_of fs)
  fields_twice [] = refl
  fields_twice (f ∷ fs) =
      insert_all_insert f.0 (annotation_type of f.1) (annotation_fields of (field_types_of fs)) NoField
      ∙ ap (insert_field f.0 (annotation_type of f.1)) (fields_twice fs)

  count_put : (f : NamedType) (gs : List NamedType) → length (put_in f gs) ≡ suc (length gs)
  count_put f [] = refl
  count_put f (g ∷ gs) = go (name_lt g.0 f.0) (count_put f gs)
    where
      go : (b : Bool) → length (put_in f gs) ≡ suc (length gs)
          → length (cond b (g ∷ put_in f gs) (f ∷ g ∷ gs)) ≡ suc (suc (length gs))
      go true again = ap suc again
      go false again = refl

  count_order : (fs : List NamedType) → length (in_order fs) ≡ length fs
  count_order [] = refl
  count_order (f ∷ fs) = count_put f (in_order fs) ∙ ap suc (count_order fs)

  count_read : (fs : List NamedType) → count_fields (read fs) ≡ length fs
  count_read [] = refl
  count_read (f ∷ fs) = ap suc (count_read fs)

  read_nodes : (fs : List NamedType) → spell_fields (read fs) ≡ flat_map title_nodes (map (titled order) fs)
  unfolding type_nodes spell
  read_nodes [] = refl
  read_nodes (f ∷ fs) = ap (λ ns. node.Field f.0 ∷ (spell (annotation_type of f.1) ++ ns)) (read_nodes fs)

  all_nodes : (fs : List NamedType) → spell_fields (read (in_order fs)) ≡ flat_map title_nodes
      (in_order (map (titled order) fs))
  all_nodes fs = read_nodes (in_order fs) ∙ ap (flat_map title_nodes) (order_titled order fs)

  record_spelled : (base : Option Name) (fs : List NamedType)
      → type_nodes order (record_type base fs) ≡ record_start order base (length fs) ∷ flat_map title_nodes
      (in_order (map (titled order) fs))
  unfolding type_nodes spell
  record_spelled None fs =
      ap (λ gs. node.Record (count_fields gs) ∷ spell_fields gs) (fields_read fs)
      ∙ (ap (λ n. node.Record n ∷ spell_fields (read (in_order fs))) (count_read (in_order fs) ∙ count_order fs)
      ∙ ap (λ ns. node.Record (length fs) ∷ ns) (all_nodes fs))
  record_spelled (Some a) fs =
      ap (λ gs. node.Open (leaf.Free (number_of a order)) (count_fields gs) ∷ spell_fields gs)
      (fields_twice fs ∙ fields_read fs)
      ∙ (ap (λ n. node.Open (leaf.Free (number_of a order)) n ∷ spell_fields (read (in_order fs)))
      (count_read (in_order fs) ∙ count_order fs)
      ∙ ap (λ ns. node.Open (leaf.Free (number_of a order)) (length fs) ∷ ns) (all_nodes fs))

  -- ---- types of the program

  pub variable_nodes : (x : Name) → type_nodes order (annotation_view (annotation.Variable x)) ≡ node.Open
      (leaf.Free (number_of x order)) 0 ∷ []
  unfolding type_nodes spell
  variable_nodes x = ap (λ t. spell (annotation_type of t)) (variable_type x)

  pub named_nodes : (m x : Name) (ts : Vec Annotation Global)
      → type_nodes order (annotation_view (annotation.Named m x ts)) ≡ node.Made (head.Named m x) (length ts.items) ∷
      flat_map (type_nodes order) (map annotation_view ts.items)
  unfolding type_nodes spell
  named_nodes m x ts =
      ap (λ t. spell (annotation_type of t)) (named_type m x ts)
      ∙ (ap (λ n. node.Made (head.Named m x) n ∷ spell_all
      (annotation_types of (annotations_of (map annotation_view ts.items))))
      (count_parts (map annotation_view ts.items) ∙ length-map ts.items annotation_view)
      ∙ ap (λ ns. node.Made (head.Named m x) (length ts.items) ∷ ns) (part_nodes (map annotation_view ts.items)))

  pub tuple_nodes : (ts : Vec Annotation Global)
      → type_nodes order (annotation_view (annotation.Tuple ts)) ≡ node.Made head.Tuple (length ts.items) ∷ flat_map
      (type_nodes order) (map annotation_view ts.items)
  unfolding type_nodes spell
  tuple_nodes ts =
      ap (λ t. spell (annotation_type of t)) (tuple_type ts)
      ∙ (ap (λ n. node.Made head.Tuple n ∷ spell_all
      (annotation_types of (annotations_of (map annotation_view ts.items))))
      (count_parts (map annotation_view ts.items) ∙ length-map ts.items annotation_view)
      ∙ ap (λ ns. node.Made head.Tuple (length ts.items) ∷ ns) (part_nodes (map annotation_view ts.items)))

  pub record_nodes : (base : Option Name) (fs : Vec FieldType Global)
      → type_nodes order (annotation_view (annotation.Record base fs))
      ≡ record_start order base (length fs.items) ∷ flat_map title_nodes
      (in_order (map (titled order) (map field_type_view fs.items)))
  record_nodes base fs =
      ap (type_nodes order) (type_of_record base fs)
      ∙ (record_spelled base (map field_type_view fs.items)
      ∙ ap (λ n. record_start order base n ∷ flat_map title_nodes
      (in_order (map (titled order) (map field_type_view fs.items)))) (length-map fs.items field_type_view))

  pub function_nodes : (ts : Vec Annotation Global)
      → type_nodes order (annotation_view (annotation.Function ts)) ≡ type_nodes order
      (function_type (map annotation_view ts.items))
  function_nodes ts = ap (type_nodes order) (type_of_function ts)

  pub shared_nodes : (t : Arc Annotation Global)
      → type_nodes order (annotation_view (annotation.Shared t)) ≡ type_nodes order (annotation_view t.value)
  shared_nodes t = ap (type_nodes order) (shared_type t)

  pub one_titled : (f : FieldType) → titled order (field_type_view f) ≡
      (f.name, type_nodes order (annotation_view f.field_type))
  one_titled f = ap (titled order) (field_type f)

  -- ---- functions

  pub no_function : type_nodes order (function_type []) ≡ node.Made head.Tuple 0 ∷ []
  unfolding type_nodes spell
  no_function = refl

  arrow : (t u : plain.Annotation) → type_nodes order (plain.FunctionType t u) ≡ parameter_nodes order t ++ type_nodes
      order u
  unfolding type_nodes spell
  arrow t u =
      ap (λ ns. node.Made head.Function 2 ∷ (spell (annotation_type of t) ++ ns))
      (append-nil (spell (annotation_type of u)))

  chain : (u : plain.Annotation) (ts : List plain.Annotation) (t : plain.Annotation)
      → type_nodes order (function_to u (ts ++ t ∷ [])) ≡ flat_map (parameter_nodes order) (u ∷ ts) ++ type_nodes order
      t
  chain u [] t = arrow u t ∙ ap (λ ns. ns ++ type_nodes order t) (sym (append-nil (parameter_nodes order u)))
  chain u (v ∷ ts) t =
      arrow u (function_to v (ts ++ t ∷ []))
      ∙ (ap (λ ns. parameter_nodes order u ++ ns) (chain v ts t)
      ∙ sym (append_assoc (parameter_nodes order u) (flat_map (parameter_nodes order) (v ∷ ts)) (type_nodes order t)))

  of_function : (ts : List plain.Annotation) (t : plain.Annotation)
      → type_nodes order (function_type (ts ++ t ∷ [])) ≡ flat_map (parameter_nodes order) ts ++ type_nodes order t
  of_function [] t = refl
  of_function (u ∷ ts) t = chain u ts t

  last_apart : (ts : List Annotation) (i : ℕ) (d : Annotation) → i + 1 ≡ length ts
      → map annotation_view ts ≡ map annotation_view (take i ts) ++ annotation_view (get_or ts i d) ∷ []
  last_apart [] i d e = absurd (omega arith)
  last_apart (t ∷ []) zero d e = refl
  last_apart (t ∷ u ∷ ts) zero d e = absurd (omega arith)
  last_apart (t ∷ ts) (suc i) d e =
      ap (λ (us : List plain.Annotation). annotation_view t ∷ us) (last_apart ts i d (omega arith))

  -- the parameters, and then the result
  pub whole_function : (ts : List Annotation) (i : ℕ) (t d : Annotation) → i + 1 ≡ length ts → t ≡ get_or ts i d
      → type_nodes order (function_type (map annotation_view ts)) ≡ flat_map (parameter_nodes order)
      (map annotation_view (take i ts)) ++ type_nodes order (annotation_view t)
  whole_function ts i t d e is =
      ap (λ (us : List plain.Annotation). type_nodes order (function_type us)) (last_apart ts i d e) ∙ of_function
      (map annotation_view (take i ts)) (annotation_view (get_or ts i d))
      ∙ ap (λ (u : Annotation). flat_map (parameter_nodes order) (map annotation_view (take i ts)) ++ type_nodes order
      (annotation_view u)) (sym is)
