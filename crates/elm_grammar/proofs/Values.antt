-- What is shown of each value on the way to a tree: each function type in it has a result.
use Rattle.std.proofs.Common.{List, [], ◌∷◌}
use Rattle.std.specs.List.{AllByRecursion}
use Rattle.elm_tree.specs.Tree.{Word, TypeTree, types_of, field_types_of}
use Rattle.elm_grammar.specs.declared.action.Item.{Item}
use Rattle.elm_grammar.specs.declared.action.Item.TheVariants as item
use Rattle.elm_grammar.specs.Values.{thing_of, Kind, One, Many, Thing}
use Rattle.elm_grammar.specs.Meaning.{Things, none, ◌⸴◌}
use Rattle.elm_grammar.specs.Written.{HasResults, AllHaveResults, FieldsHaveResults, ConstructorHasResults}
use Rattle.elm_grammar.specs.Written.{DeclarationHasResults, DeclarationsHaveResults}

abbrev pub FieldHasResults : Word × TypeTree → Type 0
FieldHasResults f = HasResults f.1

abbrev pub ItemHasResults : (i : Item) → thing_of i → Type 0
ItemHasResults item.Module m = DeclarationsHaveResults m.declarations
ItemHasResults item.Declaration d = DeclarationHasResults d
ItemHasResults item.Constructor c = ConstructorHasResults c
ItemHasResults item.TypeTree t = HasResults t
ItemHasResults item.FieldType f = FieldHasResults f
ItemHasResults _ x = Unit {0}

abbrev pub ThingHasResults : (k : Kind) → Thing k → Type 0
ThingHasResults (One i) x = ItemHasResults i x
ThingHasResults (Many i) xs = AllByRecursion (ItemHasResults i) xs

abbrev pub ThingsHaveResults : (ks : List Kind) → Things ks → Type 0
ThingsHaveResults [] none = Unit {0}
ThingsHaveResults (k ∷ ks) (v ⸴ vs) = ThingHasResults k v × ThingsHaveResults ks vs

-- ---- lists

pub nothing_asked : {X : Type 0} (xs : List X) → AllByRecursion (λ x. Unit {0}) xs
nothing_asked [] = tt
nothing_asked (x ∷ xs) = (tt, nothing_asked xs)

pub types_have : (ts : List TypeTree) → AllByRecursion HasResults ts → AllHaveResults (types_of ts)
types_have [] h = tt
types_have (t ∷ ts) h = (h.0, types_have ts h.1)

pub fields_have : (fs : List (Word × TypeTree)) → AllByRecursion FieldHasResults fs
    → FieldsHaveResults (field_types_of fs)
fields_have [] h = tt
fields_have (f ∷ fs) h = (h.0, fields_have fs h.1)
