-- What is shown of each value on the way to a tree: each record update in it names a field.
use Rattle.std.proofs.Common.{List, [], ◌∷◌}
use Rattle.std.specs.Prelude.{Option, None, Some}
use Rattle.std.specs.List.{AllByRecursion}
use Rattle.elm_tree.specs.Tree as tree
use Rattle.elm_tree.specs.Tree.{Word, Expr, Definition, Declaration, parts_of}
use Rattle.elm_grammar.specs.declared.action.Item.{Item}
use Rattle.elm_grammar.specs.declared.action.Item.TheVariants as item
use Rattle.elm_grammar.specs.Values.{Rest, Typed, Bodied, AfterMinus, Closed, Operand, thing_of, Kind, One, Many, Thing}
use Rattle.elm_grammar.specs.Meaning.{Things, none, ◌⸴◌}
use Rattle.elm_tree.specs.Written.{HasPart, UpdatesSome, EachUpdatesSome, PartsUpdateSome, BranchesUpdateSome}
use Rattle.elm_tree.specs.Written.{DefinitionsUpdateSome, DefinitionUpdatesSome, DeclarationUpdatesSome}
use Rattle.elm_tree.specs.Written.{DeclarationsUpdateSome}

abbrev pub PartUpdates : Word × Expr → Type 0
PartUpdates p = UpdatesSome p.1

abbrev pub RestUpdates : Rest → Type 0
RestUpdates (Typed t) = Unit {0}
RestUpdates (Bodied ps e) = UpdatesSome e

abbrev pub AfterUpdates : AfterMinus → Type 0
AfterUpdates Closed = Unit {0}
AfterUpdates (Operand e es ps rest) =
    UpdatesSome e × (AllByRecursion UpdatesSome es × (AllByRecursion PartUpdates ps × AllByRecursion UpdatesSome rest))

-- with a base, some field
abbrev pub HasFields : Option Word → List (Word × Expr) → Type 0
HasFields None fs = Unit {0}
HasFields (Some r) fs = HasPart (parts_of fs)

abbrev pub ItemUpdates : (i : Item) → thing_of i → Type 0
ItemUpdates item.Module m = DeclarationsUpdateSome m.declarations
ItemUpdates item.Declaration d = DeclarationUpdatesSome d
ItemUpdates item.Rest x = RestUpdates x
ItemUpdates item.Expr e = UpdatesSome e
ItemUpdates item.Part p = PartUpdates p
ItemUpdates item.Chain c = UpdatesSome c.0 × AllByRecursion PartUpdates c.1
ItemUpdates item.AfterMinus x = AfterUpdates x
ItemUpdates item.Record x = HasFields x.0 x.1 × AllByRecursion PartUpdates x.1
ItemUpdates item.Branch b = UpdatesSome b.1
ItemUpdates item.Definition d = DefinitionUpdatesSome d
ItemUpdates _ x = Unit {0}

abbrev pub ThingUpdates : (k : Kind) → Thing k → Type 0
ThingUpdates (One i) x = ItemUpdates i x
ThingUpdates (Many i) xs = AllByRecursion (ItemUpdates i) xs

abbrev pub ThingsUpdate : (ks : List Kind) → Things ks → Type 0
ThingsUpdate [] none = Unit {0}
ThingsUpdate (k ∷ ks) (v ⸴ vs) = ThingUpdates k v × ThingsUpdate ks vs

-- ---- lists

pub exprs_update : (es : List Expr) → AllByRecursion UpdatesSome es → EachUpdatesSome (tree.exprs_of es)
exprs_update [] h = tt
exprs_update (e ∷ es) h = (h.0, exprs_update es h.1)

pub parts_update : (ps : List (Word × Expr)) → AllByRecursion PartUpdates ps → PartsUpdateSome (parts_of ps)
parts_update [] h = tt
parts_update (p ∷ ps) h = (h.0, parts_update ps h.1)

pub branches_update : (bs : List (tree.Pattern × Expr)) → AllByRecursion (ItemUpdates item.Branch) bs →
    BranchesUpdateSome (tree.branches_of bs)
branches_update [] h = tt
branches_update (b ∷ bs) h = (h.0, branches_update bs h.1)

pub definitions_update : (ds : List Definition) → AllByRecursion DefinitionUpdatesSome ds →
    DefinitionsUpdateSome (tree.definitions_of ds)
definitions_update [] h = tt
definitions_update (d ∷ ds) h = (h.0, definitions_update ds h.1)
