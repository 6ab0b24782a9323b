-- What lies above the environment in which a turn of a loop began: constants and blocks, none of which has a variable of
-- the loop.
use Rattle.std.proofs.Common.{◌≡◌, Bool, true, false, refl}
use Rattle.std.specs.Prelude.{if◌then◌else◌, ◌||◌}
use Rattle.std.proofs.lemmas.Bool.{false_from_ne_true}
use Rattle.js_tree.specs.Tree.{Name, same_name, JArrow, Stmts, Const, declares, declares_any}
use Rattle.js_meaning.specs.Values.{JVal, JEnv, JBind, JBindRun, JHide, JTurn, begins_with, before_turn}
use Rattle.js_meaning.specs.Eval.{inside}
use Rattle.emit_laws.proofs.Names.{Used, with_name, IsClear, apart, older, not_declared}

pub data Above (vars : Used) : JEnv → JEnv → Type 0 where
  at_turn : {base : JEnv} → Above vars base (JTurn base)
  above_bind : {base env : JEnv} {y : Name} {v : JVal} → vars y ≡ false → Above vars base env → Above vars base (JBind y v env)
  above_run : {base env : JEnv} {s : Stmts} → ((r : Name) → vars r ≡ true → begins_with r s ≡ false) → Above vars base env → Above vars base (JBindRun s env)
  above_hide : {base env : JEnv} {s : Stmts} → ((r : Name) → vars r ≡ true → declares r s ≡ false) → Above vars base env → Above vars base (JHide s env)

-- the next turn begins there
pub above_turn : {vars : Used} {base env : JEnv} → Above vars base env → before_turn env ≡ base
above_turn at_turn = refl
above_turn (above_bind f a) = above_turn a
above_turn (above_run f a) = above_turn a
above_turn (above_hide f a) = above_turn a

-- the variables are in use
abbrev pub Below : Used → Used → Type 0
Below vars u = (r : Name) → vars r ≡ true → u r ≡ true

either_false : (a b : Bool) → a ≡ false → b ≡ false → (a || b) ≡ false
either_false true b e f = e
either_false false b e f = f

pub not_begun : (s : Stmts) (u : Used) → IsClear u s → (y : Name) → u y ≡ true → begins_with y s ≡ false
not_begun (Const x (JArrow p b) s) u fr y is = either_false (same_name y x) (begins_with y s) (apart u y x is fr.0) (not_begun s (with_name x u) fr.1 y (older u y x is))
not_begun _ u fr y is = refl

not_variable : (vars u : Used) (x : Name) → Below vars u → u x ≡ false → vars x ≡ false
not_variable vars u x below new = false_from_ne_true (vars x) (λ e. let f = below x e in absurd (cc))

-- after a constant
pub above_const : {vars u : Used} {base jenv : JEnv} (x : Name) (w : JVal) (s : Stmts) → Below vars u → u x ≡ false → IsClear (with_name x u) s → Above vars base jenv → Above vars base (JBindRun s (JBind x w jenv))
above_const {vars} {u} x w s below new fr a = above_run (λ r is. not_begun s (with_name x u) fr r (older u r x (below r is))) (above_bind (not_variable vars u x below new) a)

-- in a block
pub above_inside : {vars u : Used} {base jenv : JEnv} (s : Stmts) → Below vars u → IsClear u s → Above vars base jenv → Above vars base (inside s jenv)
above_inside {vars} {u} {base} {jenv} s below fr a = go (declares_any s)
  where
    go : (t : Bool) → Above vars base (if t then JBindRun s (JHide s jenv) else jenv)
    go true = above_run (λ r is. not_begun s u fr r (below r is)) (above_hide (λ r is. not_declared s u fr r (below r is)) a)
    go false = a
