-- What waits while a type is written: each node takes what it has to, and leaves its own type.
use Rattle.std.proofs.Common.{◌≡◌, ℕ, zero, suc, ◌<◌, List, [], ◌∷◌, length, map, take, drop}
use Rattle.std.proofs.Common.{refl, sym, ap, ◌∙◌, arith}
use Rattle.std.specs.Prelude.{slice_index}
use Rattle.std.specs.List.{AllZip}
use Rattle.elm_type.specs.Types.{MoreType}
use Rattle.elm_type.specs.Types.{MoreField, types_of, Free}
use Rattle.elm_type.specs.Rows.{substitute_all, substitute_fields}
use Rattle.elm_type.specs.Spelling.{Read, read_types, read_fields, read_node}
use Rattle.elm_type.specs.declared.node.Node.{Node}
use Rattle.elm_type.specs.declared.node.Node.TheVariants as node
use Rattle.type_items.specs.Items.{Wanted}
use Rattle.type_store.specs.Store.{FieldSlot}
use Rattle.type_walks.specs.Links.{Links, Has, Tells}
use Rattle.type_walks.specs.TypeStepsLaws.{typed_fields}
use Rattle.infer_types.specs.Stacks.{slots}
use Rattle.infer_types.specs.Writing.{leaf_type, written, node_names, Waits}

-- ---- types of what was read

abbrev pub types_read : List Wanted → Read → List Wanted
types_read types rs = map (λ r. written types r.1) rs

pub parts_written : (types : List Wanted) (rs : Read) → substitute_all (leaf_type types)
    (read_types rs) ≡ types_of (types_read types rs)
parts_written types [] = refl
parts_written types (r ∷ rs) = ap (MoreType (written types r.1)) (parts_written types rs)

pub fields_written : (types : List Wanted) (links : Links) (fs : List FieldSlot) (rs : Read)
    → AllZip (Waits types links) fs rs
    → substitute_fields (leaf_type types) (read_fields rs) ≡ typed_fields fs (types_read types rs)
fields_written types links [] [] h = refl
fields_written types links [] (r ∷ rs) h = absurd h
fields_written types links (f ∷ fs) [] h = absurd h
fields_written types links (f ∷ fs) (r ∷ rs) h =
    ap (λ k. MoreField k (written types r.1) (substitute_fields (leaf_type types) (read_fields rs))) (sym h.0.0)
    ∙ ap (MoreField f.0 (written types r.1)) (fields_written types links fs rs h.1)

pub parts_have : (types : List Wanted) (links : Links) (fs : List FieldSlot) (rs : Read)
    → AllZip (Waits types links) fs rs
    → AllZip (Has links) (slots fs) (types_read types rs)
parts_have types links [] [] h = tt
parts_have types links [] (r ∷ rs) h = absurd h
parts_have types links (f ∷ fs) [] h = absurd h
parts_have types links (f ∷ fs) (r ∷ rs) h = (h.0.1, parts_have types links fs rs h.1)

pub fields_have : (types : List Wanted) (links : Links) (fs : List FieldSlot) (rs : Read)
    → AllZip (Waits types links) fs rs
    → AllZip (λ (f : FieldSlot) t. Has links f.1 t) fs (types_read types rs)
fields_have types links [] [] h = tt
fields_have types links [] (r ∷ rs) h = absurd h
fields_have types links (f ∷ fs) [] h = absurd h
fields_have types links (f ∷ fs) (r ∷ rs) h = (h.0.1, fields_have types links fs rs h.1)

-- ---- what is taken, and what is left

pub zip_take : {X Y : Type 0} (R : X → Y → Type 0) (n : ℕ) (xs : List X) (ys : List Y) → AllZip R xs ys
    → AllZip R (take n xs) (take n ys)
zip_take R zero xs ys h = tt
zip_take R (suc n) [] [] h = tt
zip_take R (suc n) [] (y ∷ ys) h = absurd h
zip_take R (suc n) (x ∷ xs) [] h = absurd h
zip_take R (suc n) (x ∷ xs) (y ∷ ys) h = (h.0, zip_take R n xs ys h.1)

pub zip_drop : {X Y : Type 0} (R : X → Y → Type 0) (n : ℕ) (xs : List X) (ys : List Y) → AllZip R xs ys
    → AllZip R (drop n xs) (drop n ys)
zip_drop R zero xs ys h = h
zip_drop R (suc n) [] [] h = tt
zip_drop R (suc n) [] (y ∷ ys) h = absurd h
zip_drop R (suc n) (x ∷ xs) [] h = absurd h
zip_drop R (suc n) (x ∷ xs) (y ∷ ys) h = zip_drop R n xs ys h.1

pub waits_more : (types : List Wanted) (links more : Links) → Tells more links → (fs : List FieldSlot) (rs : Read)
    → AllZip (Waits types links) fs rs → AllZip (Waits types more) fs rs
waits_more types links more tells [] [] h = tt
waits_more types links more tells [] (r ∷ rs) h = absurd h
waits_more types links more tells (f ∷ fs) [] h = absurd h
waits_more types links more tells (f ∷ fs) (r ∷ rs) h = (
  (h.0.0, record { same = λ σ all l. h.0.1.same σ all (tells.each σ all l) }),
  waits_more types links more tells fs rs h.1,
)

-- ---- the variable of a type

pub leaf_has : (links : Links) (leaves : List ℕ) (types : List Wanted) (i : ℕ) → i < length leaves
    → AllZip (Has links) leaves types
    → Has links (slice_index leaves i) (leaf_type types (Free i))
leaf_has links [] types i l h = absurd (omega arith)
leaf_has links (v ∷ vs) [] i l h = absurd h
leaf_has links (v ∷ vs) (t ∷ ts) zero l h = h.0
leaf_has links (v ∷ vs) (t ∷ ts) (suc i) l h = leaf_has links vs ts i (omega arith) h.1

-- ---- names

drop_names : (n : ℕ) (rs : Read) → map (λ r. r.0) (drop n rs) ≡ drop n (map (λ r. r.0) rs)
drop_names zero rs = refl
drop_names (suc n) [] = refl
drop_names (suc n) (r ∷ rs) = drop_names n rs

pub drop_slots_names : (n : ℕ) (fs : List FieldSlot) → map (λ f. f.0) (drop n fs) ≡ drop n (map (λ f. f.0) fs)
drop_slots_names zero fs = refl
drop_slots_names (suc n) [] = refl
drop_slots_names (suc n) (f ∷ fs) = drop_slots_names n fs

pub names_again : (n : Node) (rs : Read) → map (λ r. r.0) (read_node n rs) ≡ node_names n (map (λ r. r.0) rs)
names_again (node.Made h n) rs = ap (λ xs. [] ∷ xs) (drop_names n rs)
names_again (node.Record n) rs = ap (λ xs. [] ∷ xs) (drop_names n rs)
names_again (node.Open x n) rs = ap (λ xs. [] ∷ xs) (drop_names n rs)
names_again (node.Field k) [] = refl
names_again (node.Field k) (r ∷ rs) = refl
