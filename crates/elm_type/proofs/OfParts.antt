-- Types of their parts.
use Rattle.std.proofs.Common.{◌≡◌, ℕ, suc, List, [], ◌∷◌, ◌++◌, length, map, refl, sym, ◌∙◌, ap}
use Rattle.std.specs.List.{flat_map}
use Rattle.elm_type.specs.Types.{ElmType, ElmTypes, Fields, End, Made, Record, NoType, MoreType, NoField, MoreField}
use Rattle.elm_type.specs.Types.{count, count_fields, types_of, variable, Leaf}
use Rattle.elm_type.specs.Spelling.{leaf_of, record_node, spell, spell_all, spell_fields}
use Rattle.elm_type.specs.declared.node.Leaf as stored
use Rattle.elm_type.specs.declared.node.Leaf.TheVariants as leaf
use Rattle.elm_type.specs.View.{type_view, field_view, fields_of}
use Rattle.elm_type.specs.declared.head.Head.{Head}
use Rattle.elm_type.specs.declared.node.Node.{Node}
use Rattle.elm_type.specs.declared.node.Node.TheVariants as node
use Rattle.elm_type.specs.declared.ty.Ty.{Ty}
use Rattle.elm_type.specs.declared.building.Field.{Field}

count_parts : (ts : List Ty) → count (types_of (map type_view ts)) ≡ length ts
count_parts [] = refl
count_parts (t ∷ ts) = ap suc (count_parts ts)

spell_parts : (ts : List Ty) → spell_all (types_of (map type_view ts)) ≡ flat_map (λ t. t.nodes.items) ts
unfolding spell
spell_parts [] = refl
spell_parts (t ∷ ts) = ap (λ ns. ns ++ spell_all (types_of (map type_view ts))) t.spelled ∙ ap (λ ns. t.nodes.items ++ ns) (spell_parts ts)

-- the head before the nodes of the parts
pub made_spells : (h : Head) (ts : List Ty) → spell (Made h (types_of (map type_view ts))) ≡ node.Made h (length ts) ∷ flat_map (λ t. t.nodes.items) ts
unfolding spell
made_spells h ts = ap (λ n. node.Made h n ∷ spell_all (types_of (map type_view ts))) (count_parts ts) ∙ ap (λ ns. node.Made h (length ts) ∷ ns) (spell_parts ts)

count_of_fields : (fs : List Field) → count_fields (fields_of (map field_view fs)) ≡ length fs
count_of_fields [] = refl
count_of_fields (f ∷ fs) = ap suc (count_of_fields fs)

spell_of_fields : (fs : List Field) → spell_fields (fields_of (map field_view fs)) ≡ flat_map (λ f. node.Field f.name ∷ f.ty.nodes.items) fs
unfolding spell
spell_of_fields [] = refl
spell_of_fields (f ∷ fs) =
    ap (λ ns. node.Field f.name ∷ (ns ++ spell_fields (fields_of (map field_view fs)))) f.ty.spelled
    ∙ ap (λ ns. node.Field f.name ∷ (f.ty.nodes.items ++ ns)) (spell_of_fields fs)

-- the record before its fields
pub record_spells : (end : End (Leaf ℕ)) (fs : List Field) →
    spell (Record (fields_of (map field_view fs)) end) ≡ record_node (length fs) end ∷ flat_map (λ f. node.Field f.name ∷ f.ty.nodes.items) fs
unfolding spell
record_spells end fs =
    ap (λ n. record_node n end ∷ spell_fields (fields_of (map field_view fs))) (count_of_fields fs)
    ∙ ap (λ ns. record_node (length fs) end ∷ ns) (spell_of_fields fs)

-- a variable is one node
pub variable_spells : (x : stored.Leaf) → spell (variable (leaf_of x)) ≡ node.Open x 0 ∷ []
unfolding spell
variable_spells (leaf.Free i) = refl
variable_spells (leaf.Fixed r) = refl
