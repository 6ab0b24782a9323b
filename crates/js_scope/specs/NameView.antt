-- What has been read of a name, as plain data.
use Rattle.std.specs.Prelude.{ℕ, List, Bool, true, false, Option, Some, None}
use Rattle.js_tree.specs.declared.tree.Name as name
use Rattle.js_tree.specs.Postorder.{name_view}
use Rattle.js_tree.specs.NameReader.{Owner, Own, Of, Begun, OneDollar, TwoDollars, Numbered, NameWord, Dollar, Digits}
use Rattle.js_tree.specs.NameReader.{NoName, Found, Not, Name_is}
use Rattle.js_scope.specs.declared.name.Phase.{Phase}
use Rattle.js_scope.specs.declared.name.Phase as phase
use Rattle.js_scope.specs.declared.name.NameReader as reader

abbrev pub owner_of : Bool → List ℕ → Owner
owner_of true owner = Own
owner_of false owner = Of owner

abbrev pub begun_at : Phase → Bool → List ℕ → List ℕ → Begun
begun_at phase.Phase.OneDollar l m w = OneDollar
begun_at phase.Phase.TwoDollars l m w = TwoDollars
begun_at (phase.Phase.Numbered n) l m w = Numbered n
begun_at phase.Phase.Word l m w = NameWord (owner_of l m) w
begun_at phase.Phase.Dollar l m w = Dollar (owner_of l m) w
begun_at (phase.Phase.Digits n a) l m w = Digits (owner_of l m) w n a
begun_at phase.Phase.NoName l m w = NoName

abbrev pub begun_of : reader.NameReader → Begun
begun_of r = begun_at r.phase r.is_local r.owner.items r.word.items

-- a name that was found
abbrev pub found_of : Option name.Name → Found
found_of None = Not
found_of (Some x) = Name_is (name_view x)
