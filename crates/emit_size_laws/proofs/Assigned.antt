-- What is emitted assigns the variables of its loop alone.
use Rattle.std.proofs.Common.{◌≡◌, ℕ, suc, ◌+◌, List, [], ◌∷◌, ◌++◌, Bool, true, false, refl, ap, ◌∙◌}
use Rattle.std.specs.Prelude.{if◌then◌else◌, ◌&&◌, ◌||◌, not, length}
use Rattle.elm_canon.specs.Tree as source
use Rattle.elm_canon.specs.Tree.{Patterns, NoPattern, MorePattern, Expr, Is, NameOf, Accessor, Lambda, Apply, Strict, Logical, Case, Located, Exprs, NoExpr, MoreExpr, Branches, NoBranch, MoreBranch, Groups, NoGroup, MoreGroup, Group, Together, Constant, Destructure, Functions, NoFunction, MoreFunction}
use Rattle.js_tree.specs.Tree.{Name, Made, same_name, JVar, Stmts, Return, declares}
use Rattle.js_tree.specs.Subset.{assigns}
use Rattle.js_emit.specs.Names.{now}
use Rattle.js_emit.specs.Loops.{Loop, Outside, Inside, variables, is_call}
use Rattle.js_emit.specs.Loops as loops
use Rattle.js_emit.specs.Made.{made_in, made_choice, made_group, made_groups, made_function}
use Rattle.js_emit.specs.Emit.{emit, calls, go_round, bodies, chosen, numbered, groups, group, functions}
use Rattle.emit_laws.proofs.Spots.{held}
use Rattle.emit_size_laws.proofs.Uses.{assigns_consts}

abbrev pub NoneAssign : Name → List Stmts → Type 0
NoneAssign y [] = Unit {0}
NoneAssign y (s ∷ ss) = (assigns y s ≡ false) × NoneAssign y ss

either : (a b c d : Bool) → c ≡ false → d ≡ false → (a && c || b && d) ≡ false
either true b c d e f = ap (λ z. z || b && d) e ∙ go b
  where
    go : (b : Bool) → (b && d) ≡ false
    go true = f
    go false = refl
either false true c d e f = f
either false false c d e f = refl

pub numbered_none : (y j : Name) (k : ℕ) (ss : List Stmts) → NoneAssign y ss → assigns y (numbered j k ss) ≡ false
numbered_none y j k [] none = refl
numbered_none y j k (s ∷ []) none = none.0
numbered_none y j k (s ∷ t ∷ ss) none =
    either (not (declares y s)) (not (declares y (numbered j (suc k) (t ∷ ss)))) (assigns y s) (assigns y (numbered j (suc k) (t ∷ ss))) none.0 (numbered_none y j (suc k) (t ∷ ss) none.1)

pub chosen_none : (y i : Name) (d : ℕ) (bs : Branches) (ss : List Stmts) → NoneAssign y ss → assigns y (chosen d i bs ss) ≡ false
chosen_none y i d bs [] none = refl
chosen_none y i d bs (s ∷ []) none = none.0
chosen_none y i d bs (s ∷ t ∷ ss) none = numbered_none y (Made d) 0 (s ∷ t ∷ ss) none

pub assigns_functions : (fs : Functions) (d : ℕ) (s : Stmts) (y : Name) → assigns y (functions d fs s) ≡ assigns y s
assigns_functions NoFunction d s y = refl
assigns_functions (MoreFunction title ps e fs) d s y = assigns_functions fs (d + made_function title.name ps e (λ loop. made_in loop e)) s y

pub assigns_group : (g : Group) (d : ℕ) (s : Stmts) (y : Name) → assigns y (group d g s) ≡ assigns y s
assigns_group (Together fs) d s y = assigns_functions fs d s y
assigns_group (Constant title e) d s y = refl
assigns_group (Destructure p e) d s y = assigns_consts p (JVar (Made d)) s y

pub assigns_groups : (gs : Groups) (d : ℕ) (s : Stmts) (y : Name) → assigns y (groups d gs s) ≡ assigns y s
assigns_groups NoGroup d s y = refl
assigns_groups (MoreGroup g gs) d s y = assigns_group g d (groups (d + made_group g) gs s) y ∙ assigns_groups gs (d + made_group g) s y

-- the variables that are assigned before the next turn
abbrev pub firsts : List (Name × Name) → List Name
firsts [] = []
firsts (a ∷ others) = a.0 ∷ firsts others

split : (a b : Bool) → (if a then true else b) ≡ false → (a ≡ false) × (b ≡ false)
split true b e = absurd (cc)
split false b e = (refl, e)

join : (a b : Bool) → a ≡ false → b ≡ false → (if a then true else b) ≡ false
join true b e f = e
join false b e f = f

assigned_none : (y : Name) (done : List (Name × Name)) → held (firsts done) y ≡ false → assigns y (loops.assigns done) ≡ false
assigned_none y [] e = refl
assigned_none y (a ∷ others) e = let s = split (same_name y a.0) (held (firsts others) y) e in ap (λ t. t || assigns y (loops.assigns others)) s.0 ∙ assigned_none y others s.1

held_last : (y : Name) (done : List (Name × Name)) (r t : Name) → held (firsts done) y ≡ false → same_name y r ≡ false → held (firsts (done ++ (r, t) ∷ [])) y ≡ false
held_last y [] r t e f = ap (λ b. if b then true else false) f
held_last y (a ∷ others) r t e f = let s = split (same_name y a.0) (held (firsts others) y) e in join (same_name y a.0) (held (firsts (others ++ (r, t) ∷ [])) y) s.0 (held_last y others r t s.1 f)

pub round_none : (y : Name) (es : Exprs) (d : ℕ) (rs : List Name) (done : List (Name × Name)) → held rs y ≡ false → held (firsts done) y ≡ false → assigns y (go_round d es rs done) ≡ false
round_none y NoExpr d [] done e f = assigned_none y done f
round_none y NoExpr d (r ∷ rs) done e f = assigned_none y done f
round_none y (MoreExpr e1 es) d [] done e f = assigned_none y done f
round_none y (MoreExpr e1 es) d (r ∷ rs) done e f = let s = split (same_name y r) (held rs y) e in round_none y es (suc d + made_in Outside e1) rs (done ++ (r, Made d) ∷ []) s.1 (held_last y done r (Made d) f s.0)

mutual
  pub none_assigned : (e : Expr) (d : ℕ) (loop : Loop) (y : Name) → held (variables loop) y ≡ false → assigns y (emit d loop e) ≡ false
  none_assigned (Is l) d loop y h = refl
  none_assigned (NameOf r) d loop y h = refl
  none_assigned (Accessor k) d loop y h = refl
  none_assigned (Lambda NoPattern e) d loop y h = none_assigned e (d + 0) Outside y refl
  none_assigned (Lambda (MorePattern p ps) e) d loop y h = refl
  none_assigned (Apply f es) d Outside y h = refl
  none_assigned (Apply f es) d (Inside g rs) y h = go (is_call g (length rs) f es)
    where
      go : (t : Bool) → assigns y (if t then go_round d es rs [] else Return (calls (d + made_in Outside f) (now (emit d Outside f)) es)) ≡ false
      go true = round_none y es d rs [] h refl
      go false = refl
  none_assigned (Strict op es) d loop y h = refl
  none_assigned (source.If c a b) d loop y h =
      let second = d + made_in Outside c in
      let third = second + made_in loop a in
      either (not (declares y (emit second loop a))) (not (declares y (emit third loop b))) (assigns y (emit second loop a)) (assigns y (emit third loop b)) (none_assigned a second loop y h) (none_assigned b third loop y h)
  none_assigned (Logical place op a b) d loop y h = refl
  none_assigned (source.Let gs e) d loop y h = assigns_groups gs d (emit (d + made_groups gs) loop e) y ∙ none_assigned e (d + made_groups gs) loop y h
  none_assigned (Case e bs) d loop y h =
      let next = suc d + made_in Outside e in chosen_none y (Made d) next bs (bodies (next + made_choice bs) loop (Made d) bs) (bodies_none bs (next + made_choice bs) loop (Made d) y h)
  none_assigned (Located place e) d loop y h = none_assigned e d loop y h

  pub bodies_none : (bs : Branches) (d : ℕ) (loop : Loop) (i y : Name) → held (variables loop) y ≡ false → NoneAssign y (bodies d loop i bs)
  bodies_none NoBranch d loop i y h = tt
  bodies_none (MoreBranch p e bs) d loop i y h = (assigns_consts p (JVar i) (emit d loop e) y ∙ none_assigned e d loop y h, bodies_none bs (d + made_in loop e) loop i y h)
