-- The result of reading bytes.
use Rattle.std.specs.Prelude.{◌≡◌, ℕ, List, true}
use Rattle.elm_base.specs.declared.position.Pos.{Pos}
use Rattle.js_tree.specs.Tree.{Program}
use Rattle.js_tree.specs.Text.{JsText}
use Rattle.js_tree.specs.Subset.{in_subset, is_program_spelled}
use Rattle.js_tree.specs.Faults.{Place, IsFaultAt}
use Rattle.js_tree.specs.Postorder.{Tree, ProgramOf}
use Rattle.js_scope.specs.declared.refusal.Refusal as refusal

abbrev pub place_view : Pos → Place
place_view p = record { row = p.row; column = p.column }

-- the tree is a program whose text the bytes are
pub record IsTreeOf (tree : Tree) (bytes : List ℕ) : Type 0 where
  pub program : Program
  pub whole : tree ≡ ProgramOf program
  pub spelled : is_program_spelled program ≡ true
  pub text : JsText program bytes

-- the bytes are no text, and stop to be one at the place that is told
abbrev pub IsNoText : refusal.Refusal → List ℕ → Type 0
IsNoText (refusal.Refusal.At p) bytes = ((program : Program) → is_program_spelled program ≡ true → JsText program bytes → ⊥) × IsFaultAt bytes (place_view p)
IsNoText refusal.Refusal.NoMemory bytes = Unit {0}

-- the tree is the one program of the subset whose text the bytes are
pub record IsRead (tree : Tree) (bytes : List ℕ) : Type 0 where
  pub program : Program
  pub whole : tree ≡ ProgramOf program
  pub admitted : in_subset program ≡ true
  pub text : JsText program bytes
  pub only : (other : Program) → in_subset other ≡ true → JsText other bytes → other ≡ program

-- the bytes are the text of no program of the subset, and stop to be a text at the place that is told
abbrev pub IsRefused : refusal.Refusal → List ℕ → Type 0
IsRefused (refusal.Refusal.At p) bytes = ((program : Program) → in_subset program ≡ true → JsText program bytes → ⊥) × IsFaultAt bytes (place_view p)
IsRefused refusal.Refusal.NoMemory bytes = Unit {0}
