-- How long what stands round expressions is: constants of patterns, functions, loops, branches.
use Rattle.std.proofs.Common.{◌≡◌, ℕ, zero, suc, ◌+◌, ◌≤◌, List, [], ◌∷◌, length, arith}
use Rattle.elm_canon.specs.Names as source
use Rattle.elm_canon.specs.Tree.{Pattern, Anything, Named, As, Exactly, Construct, FieldsOf, LocatedPattern, Patterns}
use Rattle.elm_canon.specs.Tree.{NoPattern, MorePattern, Branches, NoBranch, MoreBranch}
use Rattle.elm_canon.specs.Proper.{count_of}
use Rattle.js_tree.specs.Tree.{Name, Local, Made, Js, JVar, JProperty, Stmts, Const}
use Rattle.js_emit.specs.Names.{made_names}
use Rattle.js_emit.specs.Patterns.{field_consts, consts, part_consts, made_one, made_for, parameter, parameter_consts, arrows}
use Rattle.js_emit.specs.Names.{part_name}
use Rattle.js_emit.specs.Operators.{arrows_of}
use Rattle.js_emit.specs.Loops.{lets, turn}
use Rattle.js_emit.specs.Made.{made_choice}
use Rattle.js_emit.specs.Emit.{numbered, chosen}
use Rattle.emit_laws.specs.Sizes.{count_branches}
use Rattle.emit_size_laws.proofs.Lengths.{core, arrow_core}

-- ---- patterns

field_kept : (xs : List source.Name) (path : Js) (s : Stmts) → core s ≤ core (field_consts xs path s)
field_kept [] path s = omega arith
field_kept (x ∷ xs) path s = omega (arith, field_kept xs path s)

mutual
  pub kept : (p : Pattern) (path : Js) (s : Stmts) → core s ≤ core (consts p path s)
  kept Anything path s = omega arith
  kept (Named x) path s = omega arith
  kept (As p x) path s = omega (arith, kept p path (Const (Local x) path s))
  kept (Exactly l) path s = omega arith
  kept (Construct u a ps) path s = parts_kept 0 ps path s
  kept (FieldsOf xs) path s = field_kept xs path s
  kept (LocatedPattern place p) path s = kept p path s

  parts_kept : (i : ℕ) (ps : Patterns) (path : Js) (s : Stmts) → core s ≤ core (part_consts i ps path s)
  parts_kept i NoPattern path s = omega arith
  parts_kept i (MorePattern p ps) path s =
      omega (arith, kept p (JProperty path (part_name i)) (part_consts (suc i) ps path s), parts_kept (suc i) ps path s)

one_at_most : (p : Pattern) → made_one p ≤ 1
one_at_most Anything = omega arith
one_at_most (Named x) = omega arith
one_at_most (As p x) = omega arith
one_at_most (Exactly l) = omega arith
one_at_most (Construct u a ps) = omega arith
one_at_most (FieldsOf xs) = omega arith
one_at_most (LocatedPattern place p) = one_at_most p

parameter_kept : (d : ℕ) (p : Pattern) (s : Stmts) → core s ≤ core (parameter_consts d p s)
parameter_kept d Anything s = omega arith
parameter_kept d (Named x) s = omega arith
parameter_kept d (As p x) s = kept (As p x) (JVar (Made d)) s
parameter_kept d (Exactly l) s = omega arith
parameter_kept d (Construct u a ps) s = kept (Construct u a ps) (JVar (Made d)) s
parameter_kept d (FieldsOf xs) s = kept (FieldsOf xs) (JVar (Made d)) s
parameter_kept d (LocatedPattern place p) s = parameter_kept d p s

-- ---- functions

pub arrows_core : (d : ℕ) (ps : Patterns) (s : Stmts) → made_for ps + core s ≤ core (arrows d ps s)
arrows_core d NoPattern s = omega arith
arrows_core d (MorePattern p ps) s =
    let rest = arrows (d + made_one p) ps s in
    omega (
      arith,
      arrow_core (parameter d p) (parameter_consts d p rest),
      parameter_kept d p rest,
      one_at_most p,
      arrows_core (d + made_one p) ps s,
    )

pub named_core : (d n : ℕ) (s : Stmts) → n + core s ≤ core (arrows_of (made_names d n) s)
named_core d zero s = omega arith
named_core d (suc n) s =
    omega (arith, arrow_core (Made d) (arrows_of (made_names (suc d) n) s), named_core (suc d) n s)

-- ---- loops

pub lets_core : (v p n : ℕ) (s : Stmts) → n + core s ≤ core (lets (made_names v n) (made_names p n) s)
lets_core v p zero s = omega arith
lets_core v p (suc n) s = omega (arith, lets_core (suc v) (suc p) n s)

pub turn_core : (d v : ℕ) (ps : Patterns) (s : Stmts) → made_for ps + core s ≤ core (turn d ps (made_names v (count_of ps)) s)
turn_core d v NoPattern s = omega arith
turn_core d v (MorePattern p ps) s =
    let rest = turn (d + made_one p) ps (made_names (suc v) (count_of ps)) s in
    omega (arith, parameter_kept d p rest, one_at_most p, turn_core (d + made_one p) (suc v) ps s)

-- ---- branches

abbrev pub cores : List Stmts → ℕ
cores [] = 0
cores (s ∷ ss) = core s + cores ss

pub numbered_core : (j : Name) (k : ℕ) (ss : List Stmts) → cores ss + length ss ≤ suc (core (numbered j k ss))
numbered_core j k [] = omega arith
numbered_core j k (s ∷ []) = omega arith
numbered_core j k (s ∷ t ∷ ss) = omega (arith, numbered_core j (suc k) (t ∷ ss))

pub chosen_core : (d : ℕ) (i : Name) (bs : Branches) (ss : List Stmts) → length ss ≡ count_branches bs
    → made_choice bs + cores ss ≤ core (chosen d i bs ss)
chosen_core d i NoBranch [] h = omega arith
chosen_core d i NoBranch (s ∷ ss) h = absurd (omega (arith, h))
chosen_core d i (MoreBranch p e bs) [] h = absurd (omega (arith, h))
chosen_core d i (MoreBranch p e NoBranch) (s ∷ []) h = omega arith
chosen_core d i (MoreBranch p e (MoreBranch q f bs)) (s ∷ []) h = absurd (omega (arith, h))
chosen_core d i (MoreBranch p e NoBranch) (s ∷ t ∷ ss) h = absurd (omega (arith, h))
chosen_core d i (MoreBranch p e (MoreBranch q f bs)) (s ∷ t ∷ ss) h = omega (arith, numbered_core (Made d) 0 (s ∷ t ∷ ss))

pub chosen_count : (d : ℕ) (i : Name) (bs : Branches) (ss : List Stmts) → length ss ≤ suc (core (chosen d i bs ss))
chosen_count d i bs [] = omega arith
chosen_count d i bs (s ∷ []) = omega arith
chosen_count d i bs (s ∷ t ∷ ss) = omega (arith, numbered_core (Made d) 0 (s ∷ t ∷ ss))
