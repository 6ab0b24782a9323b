-- The lines of one declaration, and then others; and how the lines that stand last go on.
use Rattle.std.specs.Prelude.{◌≡◌, List, ◌∷◌}
use Rattle.elm_canon.specs.Tree.{Declaration, Given, Define}
use Rattle.elm_meaning.specs.Functions as functions
use Rattle.js_tree.specs.Tree.{Lines, MoreLine}
use Rattle.js_tree.specs.Postorder.{Tree, LinesOf, LinesBefore, lines, lines_then, top}
use Rattle.js_emit.specs.Names.{js_name}
use Rattle.js_emit.specs.Operators.{bodiless_js}
use Rattle.js_emit.specs.Program.{group_lines}

abbrev pub declared : Declaration → Lines → Lines
declared (Given r k) ls = MoreLine (js_name r) (bodiless_js (functions.Given k)) ls
declared (Define g) ls = group_lines g ls

pub record LinesGrown (old new : List Tree) (more : Lines → Lines) : Type 0 where
  pub kind : (before : LinesBefore) (ts : List Tree) → old ≡ LinesOf before ∷ ts → new ≡ LinesOf (lines (top new)) ∷ ts
  pub grown : (before : LinesBefore) (ts : List Tree) → old ≡ LinesOf before ∷ ts → (ls : Lines) →
      lines_then (lines (top new)) ls ≡ lines_then before (more ls)
