-- The parts of each form of a pattern.
use Rattle.std.proofs.Common.{◌≡◌, suc, List, [], ◌∷◌, ◌++◌, Option, Some, None, map, length, Vec, Global, refl, sym, ap, ◌∙◌}
use Rattle.std.proofs.Common.{append_assoc}
use Rattle.std.specs.declared.boxed.Box.{Box}
use Rattle.elm_base.specs.declared.position.Pos.{Pos}
use Rattle.elm_canon.specs.Names.{Name}
use Rattle.elm_canon.specs.Unions.{Union, TupleUnion, ListUnion, tuple_alternative, nil_alternative, cons_alternative}
use Rattle.elm_canon.specs.declared.unions.Alternative.{Alternative}
use Rattle.elm_canon.specs.declared.tree.Literal.{Literal}
use Rattle.elm_canon.specs.declared.tree.Pattern.{Pattern}
use Rattle.elm_canon.specs.declared.tree.Pattern.TheVariants as pattern
use Rattle.elm_canon.specs.Tree as plain
use Rattle.elm_canon.specs.Tree.{patterns_of}
use Rattle.elm_canon.specs.View.{pattern_view, items_before, nil_pattern}
use Rattle.elm_canon.proofs.Views as views
use Rattle.pattern_check.specs.Shapes.{Literally, Constructor, shape_of, shapes_of}
use Rattle.pattern_check.specs.Flat.{Part, flat_one, flat}
use Rattle.pattern_check.specs.Starts.{part_view, parts_view}
use Rattle.pattern_check.specs.Listed.{pattern_parts, all_parts, item_parts}
use Rattle.pattern_check.specs.declared.start.Start.{Start}

pub parts_push : (ps : List (Option Start)) (p : Option Start) → parts_view (ps ++ p ∷ []) ≡ parts_view ps ++ part_view p ∷ []
parts_push [] p = refl
parts_push (q ∷ ps) p = ap (λ z. part_view q ∷ z) (parts_push ps p)

pub pushed : (old new : List (Option Start)) (p : Option Start) → new ≡ old ++ p ∷ [] →
    parts_view new ≡ parts_view old ++ part_view p ∷ []
pushed old new p e = ap parts_view e ∙ parts_push old p

-- one after the other
pub in_turn : (o m n a b whole : List Part) → m ≡ o ++ a → n ≡ m ++ b → whole ≡ a ++ b → n ≡ o ++ whole
in_turn o m n a b whole e f g =
    f ∙ ap (λ z. z ++ b) e ∙ append_assoc o a b ∙ ap (λ z. o ++ z) (sym g)

append_none : (xs : List Part) → xs ++ [] ≡ xs
append_none [] = refl
append_none (x ∷ xs) = ap (λ z. x ∷ z) (append_none xs)

pub all_listed : (ps : List Pattern) → flat (shapes_of (patterns_of (map pattern_view ps))) ≡ all_parts ps
all_listed [] = refl
all_listed (p ∷ ps) = ap (λ z. pattern_parts p ++ z) (all_listed ps)

items_listed : (rest : plain.Pattern) (ps : List Pattern) →
    flat_one (shape_of (items_before rest (map pattern_view ps))) ≡ item_parts ps ++ flat_one (shape_of rest)
items_listed rest [] = refl
items_listed rest (p ∷ ps) =
    ap (λ z. Some (Constructor ListUnion cons_alternative) ∷ z)
    (ap (λ z. pattern_parts p ++ z) (append_none (flat_one (shape_of (items_before rest (map pattern_view ps)))) ∙ items_listed rest ps)
    ∙ sym (append_assoc (pattern_parts p) (item_parts ps) (flat_one (shape_of rest))))

listed : (p q : plain.Pattern) → p ≡ q → flat_one (shape_of p) ≡ flat_one (shape_of q)
listed p q e = ap (λ z. flat_one (shape_of z)) e

pub anything_parts : pattern_parts pattern.Anything ≡ None ∷ []
anything_parts = listed _ _ views.anything_pattern

pub named_parts : (x : Name) → pattern_parts (pattern.Named x) ≡ None ∷ []
named_parts x = listed _ _ (views.named_pattern x)

pub fields_parts : (xs : Vec Name Global) → pattern_parts (pattern.Fields xs) ≡ None ∷ []
fields_parts xs = listed _ _ (views.fields_pattern xs)

pub as_parts : (p : Box Pattern Global) (x : Name) → pattern_parts (pattern.As p x) ≡ pattern_parts p.value
as_parts p x = listed _ _ (views.as_pattern p x)

pub located_parts : (place : Pos) (p : Box Pattern Global) → pattern_parts (pattern.Located place p) ≡ pattern_parts p.value
located_parts place p = listed _ _ (views.located_pattern place p)

pub exact_parts : (l : Literal) → pattern_parts (pattern.Exactly l) ≡ Some (Literally l) ∷ []
exact_parts l = listed _ _ (views.exact_pattern l)

pub construct_parts : (u : Union) (a : Alternative) (ps : Vec Pattern Global) →
    pattern_parts (pattern.Construct u a ps) ≡ Some (Constructor u a) ∷ all_parts ps.items
construct_parts u a ps =
    listed _ _ (views.construct_pattern u a ps) ∙ ap (λ z. Some (Constructor u a) ∷ z) (all_listed ps.items)

map_length : (ps : List Pattern) → length (map pattern_view ps) ≡ length ps
map_length [] = refl
map_length (p ∷ ps) = ap suc (map_length ps)

pub tuple_parts : (ps : Vec Pattern Global) →
    pattern_parts (pattern.Tuple ps)
    ≡ Some (Constructor (TupleUnion (length ps.items)) (tuple_alternative (length ps.items))) ∷ all_parts ps.items
tuple_parts ps =
    listed _ _ (views.pattern_of_tuple ps)
    ∙ ap (λ n. Some (Constructor (TupleUnion n) (tuple_alternative n)) ∷ flat (shapes_of (patterns_of (map pattern_view ps.items)))) (map_length ps.items)
    ∙ ap (λ z. Some (Constructor (TupleUnion (length ps.items)) (tuple_alternative (length ps.items))) ∷ z) (all_listed ps.items)

pub list_parts : (ps : Vec Pattern Global) →
    pattern_parts (pattern.List ps) ≡ item_parts ps.items ++ Some (Constructor ListUnion nil_alternative) ∷ []
list_parts ps = listed _ _ (views.list_pattern ps) ∙ items_listed nil_pattern ps.items

pub rest_parts : (ps : Vec Pattern Global) (rest : Box Pattern Global) →
    pattern_parts (pattern.Items ps rest) ≡ item_parts ps.items ++ pattern_parts rest.value
rest_parts ps rest = listed _ _ (views.items_pattern ps rest) ∙ items_listed (pattern_view rest.value) ps.items
