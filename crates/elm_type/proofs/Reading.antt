-- What is written is read again.
use Rattle.std.proofs.Common.{◌≡◌, ℕ, List, [], ◌∷◌, ◌++◌, take, drop, refl, sym, ◌∙◌, ap, append_assoc, append-nil}
use Rattle.std.proofs.Common.{subst}
use Rattle.elm_type.specs.Types.{ElmType, ElmTypes, Fields, End, Closed, Over, Made, Record, NoType, MoreType, NoField}
use Rattle.elm_type.specs.Types.{MoreField, count, count_fields, Leaf, Free, Fixed}
use Rattle.elm_type.specs.Spelling.{leaf_node, leaf_of, record_node, spell, spell_all, spell_fields, Read, read_types}
use Rattle.elm_type.specs.Spelling.{read_fields, with_name, read_node, read, first_read, type_of, AreSpelled}
use Rattle.elm_type.specs.declared.node.Node.{Node}
use Rattle.elm_type.specs.declared.node.Node.TheVariants as node

pub leaf_again : (x : Leaf ℕ) → leaf_of (leaf_node x) ≡ x
leaf_again (Free i) = refl
leaf_again (Fixed r) = refl

-- what reading the parts of a type leaves
parts_read : ElmTypes (Leaf ℕ) → Read → Read
parts_read NoType rs = rs
parts_read (MoreType t ts) rs = ([], t) ∷ parts_read ts rs

fields_read : Fields (Leaf ℕ) → Read → Read
fields_read NoField rs = rs
fields_read (MoreField k t fs) rs = (k, t) ∷ fields_read fs rs

parts_again : (ts : ElmTypes (Leaf ℕ)) (rs : Read) → read_types (take (count ts) (parts_read ts rs)) ≡ ts
unfolding parts_read
parts_again NoType rs = refl
parts_again (MoreType t ts) rs = ap (MoreType t) (parts_again ts rs)

parts_left : (ts : ElmTypes (Leaf ℕ)) (rs : Read) → drop (count ts) (parts_read ts rs) ≡ rs
unfolding parts_read
parts_left NoType rs = refl
parts_left (MoreType t ts) rs = parts_left ts rs

fields_again : (fs : Fields (Leaf ℕ)) (rs : Read) → read_fields (take (count_fields fs) (fields_read fs rs)) ≡ fs
unfolding fields_read
fields_again NoField rs = refl
fields_again (MoreField k t fs) rs = ap (MoreField k t) (fields_again fs rs)

fields_left : (fs : Fields (Leaf ℕ)) (rs : Read) → drop (count_fields fs) (fields_read fs rs) ≡ rs
unfolding fields_read
fields_left NoField rs = refl
fields_left (MoreField k t fs) rs = fields_left fs rs

record_again : (fs : Fields (Leaf ℕ)) (end : End (Leaf ℕ)) (rs : Read) →
    read_node (record_node (count_fields fs) end) (fields_read fs rs) ≡ ([], Record fs end) ∷ rs
record_again fs Closed rs = ap (λ gs. ([], Record gs Closed) ∷ drop (count_fields fs) (fields_read fs rs)) (fields_again fs rs) ∙ ap (λ qs. ([], Record fs Closed) ∷ qs) (fields_left fs rs)
record_again fs (Over x) rs =
    ap (λ gs. ([], Record gs (Over (leaf_of (leaf_node x)))) ∷ drop (count_fields fs) (fields_read fs rs)) (fields_again fs rs)
    ∙ (ap (λ qs. ([], Record fs (Over (leaf_of (leaf_node x)))) ∷ qs) (fields_left fs rs)
    ∙ ap (λ y. ([], Record fs (Over y)) ∷ rs) (leaf_again x))

mutual
  unfolding spell read parts_read fields_read

  pub read_spelled : (t : ElmType (Leaf ℕ)) (ns : List Node) → read (spell t ++ ns) ≡ ([], t) ∷ read ns
  read_spelled (Made h ts) ns =
      ap (read_node (node.Made h (count ts))) (read_parts ts ns)
      ∙ (ap (λ us. ([], Made h us) ∷ drop (count ts) (parts_read ts (read ns))) (parts_again ts (read ns))
      ∙ ap (λ rs. ([], Made h ts) ∷ rs) (parts_left ts (read ns)))
  read_spelled (Record fs end) ns = ap (read_node (record_node (count_fields fs) end)) (read_of_fields fs ns) ∙ record_again fs end (read ns)

  read_parts : (ts : ElmTypes (Leaf ℕ)) (ns : List Node) → read (spell_all ts ++ ns) ≡ parts_read ts (read ns)
  read_parts NoType ns = refl
  read_parts (MoreType t ts) ns = ap read (append_assoc (spell t) (spell_all ts) ns) ∙ (read_spelled t (spell_all ts ++ ns) ∙ ap (λ rs. ([], t) ∷ rs) (read_parts ts ns))

  read_of_fields : (fs : Fields (Leaf ℕ)) (ns : List Node) → read (spell_fields fs ++ ns) ≡ fields_read fs (read ns)
  read_of_fields NoField ns = refl
  read_of_fields (MoreField k t fs) ns =
      ap (λ ms. with_name k (read ms)) (append_assoc (spell t) (spell_fields fs) ns)
      ∙ (ap (with_name k) (read_spelled t (spell_fields fs ++ ns)) ∙ ap (λ rs. (k, t) ∷ rs) (read_of_fields fs ns))

-- the type of its nodes
pub type_spelled : (t : ElmType (Leaf ℕ)) → type_of (spell t) ≡ t
unfolding type_of read
type_spelled t = ap type_of (sym (append-nil (spell t))) ∙ ap first_read (read_spelled t [])

-- nodes that a type spells are spelled
pub spelled_by : (ns : List Node) (t : ElmType (Leaf ℕ)) → spell t ≡ ns → AreSpelled ns
spelled_by ns t e = subst (λ ms. AreSpelled ms) e (ap spell (type_spelled t))

-- and they are that type's
pub spelled_type : (ns : List Node) (t : ElmType (Leaf ℕ)) → spell t ≡ ns → type_of ns ≡ t
spelled_type ns t e = ap type_of (sym e) ∙ type_spelled t
