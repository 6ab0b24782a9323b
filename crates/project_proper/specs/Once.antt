-- What a module means and compiles to is determined by its text and by what it is compiled in.
use Rattle.std.specs.Prelude.{◌≡◌, ℕ, List, Option}
use Rattle.elm_tree.specs.Tree.{Declaration}
use Rattle.elm_canon.specs.Tree.{Module}
use Rattle.canon_module.specs.Resolve.{Setting, IsModule}
use Rattle.module_made.specs.Around.{Around}
use Rattle.module_made.specs.Made.{Value, Made}

-- declarations make one module at most
abbrev pub OneModule : Type 0
OneModule = (s : Setting) (ds : List Declaration) (m n : Module) → IsModule s ds m → IsModule s ds n → m ≡ n

-- and a text compiles to one value at most
abbrev pub OneMade : Type 0
OneMade =
    (a : Around) (path : List ℕ) (text : Option (List ℕ)) (v w : Value) → Made a path text v → Made a path text w
    → v ≡ w
