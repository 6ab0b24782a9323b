-- Parts of what is emitted: fields of a value, tests of a number, the constants of a turn, and statements so far.
use Rattle.std.specs.Prelude.{◌≡◌, ℕ, suc, pos, List, [], ◌∷◌, Bool, true, false}
use Rattle.elm_canon.specs.Names as source
use Rattle.elm_canon.specs.Tree.{Groups, NoGroup, MoreGroup, Together, NoFunction}
use Rattle.js_tree.specs.Tree.{Name, Made, Js, JInt, JVar, JBinary, JProperty, Stmts, StrictEquals}
use Rattle.js_tree.specs.Postorder.{Tree, Expression, BlockOf, StatementsOf, Before, statements, statements_then, top}

-- x.a.b
abbrev pub properties : Js → List source.Name → Js
properties x [] = x
properties x (k ∷ ks) = properties (JProperty x k) ks

-- whether the number is that one
abbrev pub test : Name → ℕ → Js
test j k = JBinary StrictEquals (JVar j) (JInt (pos k))

-- tests in turn, each with its statements, from the number k on
abbrev pub tested : Name → ℕ → List Stmts → List Tree → List Tree
tested j k [] ts = ts
tested j k (s ∷ ss) ts = tested j (suc k) ss (BlockOf s ∷ Expression (test j k) ∷ ts)

-- each variable with the constant of its next value
abbrev pub pairs : List Name → List ℕ → List (Name × Name)
pairs (r ∷ rs) (n ∷ ns) = (r, Made n) ∷ pairs rs ns
pairs _ _ = []

-- groups without a definition have no constant
abbrev pub has_constant : Groups → Bool
has_constant NoGroup = false
has_constant (MoreGroup (Together NoFunction) gs) = has_constant gs
has_constant (MoreGroup g gs) = true

-- how the statements that stand last go on
pub record Grown (old new : List Tree) (more : Stmts → Stmts) : Type 0 where
  pub kind : (before : Before) (ts : List Tree) → old ≡ StatementsOf before ∷ ts →
      new ≡ StatementsOf (statements (top new)) ∷ ts
  pub grown : (before : Before) (ts : List Tree) → old ≡ StatementsOf before ∷ ts → (s : Stmts) →
      statements_then (statements (top new)) s ≡ statements_then before (more s)
