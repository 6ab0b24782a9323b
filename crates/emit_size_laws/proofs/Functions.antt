-- Names are bound in functions and in loops.
use Rattle.std.proofs.Common.{◌≡◌, ℕ, zero, suc, ◌+◌, ◌≤◌, ◌<◌, List, [], ◌∷◌, Bool, true, false, nat_eq, refl, sym, ap, ◌∙◌, subst, arith}
use Rattle.std.specs.Prelude.{if◌then◌else◌, ◌&&◌, not}
use Rattle.std.proofs.lemmas.Bool.Decides.{Decides-eqb}
use Rattle.elm_canon.specs.declared.reference.Ref.{Ref}
use Rattle.elm_canon.specs.declared.reference.Ref.TheVariants as ref
use Rattle.elm_canon.specs.Tree.{Pattern, Patterns, NoPattern, MorePattern}
use Rattle.elm_canon.specs.Proper as proper
use Rattle.elm_canon.specs.Proper.{among, with_all, bound_by, all_bound_by, count_of, AreFresh}
use Rattle.js_tree.specs.Tree.{Name, Local, Made, same_name, Js, JVar, JArrow, Stmts, Const, While, declares}
use Rattle.js_tree.specs.Subset.{Fixed, may_read, may_assign, Scope, use_of, within, bound_in, with_declared, assigns, is_bound, are_bound}
use Rattle.js_emit.specs.Names.{js_name, made_names, now}
use Rattle.js_emit.specs.Patterns.{consts, made_one, made_for, parameter, parameter_consts, arrows}
use Rattle.js_emit.specs.Operators.{arrows_of}
use Rattle.js_emit.specs.Loops.{lets, turn}
use Rattle.emit_laws.proofs.Names.{used, name_same, name_itself, IsClear, not_declared, clear_below}
use Rattle.emit_laws.proofs.Clear.{with_front, fresh_front}
use Rattle.emit_laws.proofs.Parameters.{Parameter, own_name, made_name, parameter_is}
use Rattle.emit_laws.proofs.Spots.{held}
use Rattle.emit_laws.proofs.Lets.{not_held, never_held}
use Rattle.emit_laws.proofs.Loops.{param_clear, made_held}
use Rattle.emit_size_laws.proofs.Uses.{used_as, use_declared, fixed_in_block, fixed_declared, fixed_within, fixed_past, fixed_first, readable, Refs, At, named, in_with_all, assigns_consts, consts_bound, after_consts}
use Rattle.emit_size_laws.proofs.Parts.{both}

-- after a constant, in the same block
pub after_const : {names : Scope} {scope : proper.Scope} (x : Name) (e : Js) (s : Stmts) → At names scope (Const x e s) → At names scope s
after_const x e s at = record { refs = at.refs; writes = at.writes; declared = λ y f. at.declared y (go (same_name y x) f) }
  where
    go : {b : Bool} (t : Bool) → b ≡ true → (if t then true else b) ≡ true
    go true f = refl
    go false f = f

pub own_declared : {names : Scope} {scope : proper.Scope} (x : Name) (e : Js) (s : Stmts) → At names scope (Const x e s) → use_of x names ≡ Fixed
own_declared x e s at = at.declared x (ap (λ t. if t then true else declares x s) (name_itself x))

-- and where its name is one of the source
pub after_named : {names : Scope} {scope : proper.Scope} (r : Ref) (e : Js) (s : Stmts) → At names scope (Const (js_name r) e s) → At names (r ∷ scope) s
after_named {names} {scope} r e s at =
    let later = after_const (js_name r) e s at in
    record { refs = λ q is. in_with_all (r ∷ []) scope q is (λ f. subst (λ z. use_of z names ≡ Fixed) (sym (name_same (js_name q) (js_name r) (alone (same_name (js_name q) (js_name r)) f))) (own_declared (js_name r) e s at)) (λ f. at.refs q f); writes = later.writes; declared = later.declared }
  where
    alone : (t : Bool) → (if t then true else false) ≡ true → t ≡ true
    alone true f = refl
    alone false f = absurd (cc)

-- ---- the block of a function

pub record AtFunction (names : Scope) (scope : proper.Scope) (q : Name) (s : Stmts) : Type 0 where
  pub at : At names scope s
  pub own : use_of q names ≡ Fixed

-- of a function that assigns nothing
pub at_function : (q : Name) (s : Stmts) (names : Scope) (scope : proper.Scope) → ((y : Name) → assigns y s ≡ false) → Refs names scope → AtFunction (with_declared s s (bound_in s q ∷ within names)) scope q s
at_function q s names scope none refs = record {
  at = record {
    refs = λ r is. fixed_in_block (js_name r) s (bound_in s q ∷ within names) (none (js_name r)) (past (js_name r) (refs r is));
    writes = λ y e. let f = none y in absurd (cc);
    declared = λ y e. fixed_declared y s (bound_in s q ∷ within names) (none y) e;
  };
  own = fixed_in_block q s (bound_in s q ∷ within names) (none q) (subst (λ u. use_of q ((q, u) ∷ within names) ≡ Fixed) (sym (ap used_as (none q))) (fixed_first q (within names)));
}
  where
    past : (y : Name) → use_of y names ≡ Fixed → use_of y (bound_in s q ∷ within names) ≡ Fixed
    past y e = subst (λ u. use_of y ((q, u) ∷ within names) ≡ Fixed) (sym (ap used_as (none q))) (fixed_past y q (within names) (fixed_within y names e))

-- ---- functions without a loop

-- one parameter, and what stands after it
pub one_arrow : (p : Pattern) (d : ℕ) (scope : proper.Scope) (rest : Stmts) → ((y : Name) → assigns y rest ≡ false) → ((names : Scope) → At names (with_all (bound_by p) scope) rest → are_bound names rest ≡ true)
    → (names : Scope) → Refs names scope → is_bound names (JArrow (parameter d p) (parameter_consts d p rest)) ≡ true
one_arrow p d scope rest none body names refs = go (parameter_is d p)
  where
    alone : (t : Bool) → (if t then true else false) ≡ true → t ≡ true
    alone true f = refl
    alone false f = absurd (cc)

    go : Parameter d p → are_bound (with_declared (parameter_consts d p rest) (parameter_consts d p rest) (bound_in (parameter_consts d p rest) (parameter d p) ∷ within names)) (parameter_consts d p rest) ≡ true
    go (own_name x is none_first bound nothing matched) =
        subst (λ q. are_bound (with_declared (parameter_consts d p rest) (parameter_consts d p rest) (bound_in (parameter_consts d p rest) q ∷ within names)) (parameter_consts d p rest) ≡ true) (sym is)
        (subst (λ t. are_bound (with_declared t t (bound_in t (Local x) ∷ within names)) t ≡ true) (sym (none_first rest))
        (let f = at_function (Local x) rest names scope none refs in
        let inner = with_declared rest rest (bound_in rest (Local x) ∷ within names) in
        body inner (record {
          refs = λ r is. in_with_all (bound_by p) scope r is (λ e.
              subst (λ z. use_of z inner ≡ Fixed) (sym (name_same (js_name r) (Local x) (alone (same_name (js_name r) (Local x)) (subst (λ xs. named xs (js_name r) ≡ true) bound e)))) f.own) (λ e. f.at.refs r e);
          writes = f.at.writes;
          declared = f.at.declared;
        })))
    go (made_name is names_first one) =
        subst (λ q. are_bound (with_declared (parameter_consts d p rest) (parameter_consts d p rest) (bound_in (parameter_consts d p rest) q ∷ within names)) (parameter_consts d p rest) ≡ true) (sym is)
        (subst (λ t. are_bound (with_declared t t (bound_in t (Made d) ∷ within names)) t ≡ true) (sym (names_first rest))
        (let first = consts p (JVar (Made d)) rest in
        let f = at_function (Made d) first names scope (λ y. assigns_consts p (JVar (Made d)) rest y ∙ none y) refs in
        let inner = with_declared first first (bound_in first (Made d) ∷ within names) in
        consts_bound p (JVar (Made d)) rest inner (readable (Made d) inner f.own) (body inner (after_consts p (JVar (Made d)) rest f.at))))

pub arrows_bound : (p : Pattern) (ps : Patterns) (d : ℕ) (scope : proper.Scope) (s : Stmts) → ((y : Name) → assigns y s ≡ false) → ((names : Scope) → At names (with_all (all_bound_by (MorePattern p ps)) scope) s → are_bound names s ≡ true)
    → (names : Scope) → Refs names scope → is_bound names (now (arrows d (MorePattern p ps) s)) ≡ true
arrows_bound p NoPattern d scope s none body names refs = one_arrow p d scope s none (subst (λ z. (names : Scope) → At names z s → are_bound names s ≡ true) (with_front (bound_by p) [] scope) body) names refs
arrows_bound p (MorePattern p2 ps) d scope s none body names refs =
    one_arrow p d scope (arrows (d + made_one p) (MorePattern p2 ps) s) (λ y. refl) (λ inner at.
    arrows_bound p2 ps (d + made_one p) (with_all (bound_by p) scope) s none (subst (λ z. (names : Scope) → At names z s → are_bound names s ≡ true) (with_front (bound_by p) (all_bound_by (MorePattern p2 ps)) scope) body) inner at.refs) names refs

-- ---- loops

assigns_parameter : (d : ℕ) (p : Pattern) (s : Stmts) (y : Name) → assigns y (parameter_consts d p s) ≡ assigns y s
assigns_parameter d p s y = go (parameter_is d p)
  where
    go : Parameter d p → assigns y (parameter_consts d p s) ≡ assigns y s
    go (own_name x is none bound nothing matched) = ap (λ t. assigns y t) (none s)
    go (made_name is names one) = ap (λ t. assigns y t) (names s) ∙ assigns_consts p (JVar (Made d)) s y

pub assigns_turn : (d : ℕ) (ps : Patterns) (rs : List Name) (s : Stmts) (y : Name) → assigns y (turn d ps rs s) ≡ assigns y s
assigns_turn d NoPattern rs s y = refl
assigns_turn d (MorePattern p ps) [] s y = refl
assigns_turn d (MorePattern p ps) (r ∷ rs) s y = assigns_parameter d p (turn (d + made_one p) ps rs s) y ∙ assigns_turn (d + made_one p) ps rs s y

assigns_lets : (a d k : ℕ) (s : Stmts) (y : Name) → assigns y (lets (made_names a k) (made_names d k) s) ≡ assigns y s
assigns_lets a d zero s y = refl
assigns_lets a d (suc k) s y = assigns_lets (suc a) (suc d) k s y

declares_lets : (a d k : ℕ) (t : Stmts) (y : Name) → declares y (lets (made_names a k) (made_names d k) (While t)) ≡ held (made_names a k) y
declares_lets a d zero t y = refl
declares_lets a d (suc k) t y = ap (λ o. if same_name y (Made a) then true else o) (declares_lets (suc a) (suc d) k t y)

lets_bound : (a d k : ℕ) (s : Stmts) (names : Scope) → ((j : ℕ) → d ≤ j → j < d + k → use_of (Made j) names ≡ Fixed) → are_bound names s ≡ true → are_bound names (lets (made_names a k) (made_names d k) s) ≡ true
lets_bound a d zero s names fixed e = e
lets_bound a d (suc k) s names fixed e =
    both (may_read (use_of (Made d) names)) (are_bound names (lets (made_names (suc a) k) (made_names (suc d) k) s)) (readable (Made d) names (fixed d (omega arith) (omega arith)))
    (lets_bound (suc a) (suc d) k s names (λ j l m. fixed j (omega arith) (omega arith)) e)

-- a parameter of a turn, from its variable, and what stands after it
one_parameter : (p : Pattern) (a d : ℕ) (rest : Stmts) (scope : proper.Scope) (names : Scope) → may_read (use_of (Made a) names) ≡ true → At names scope (Const (parameter d p) (JVar (Made a)) (parameter_consts d p rest))
    → (At names (with_all (bound_by p) scope) rest → are_bound names rest ≡ true) → are_bound names (Const (parameter d p) (JVar (Made a)) (parameter_consts d p rest)) ≡ true
one_parameter p a d rest scope names reads at body = both (may_read (use_of (Made a) names)) (are_bound names (parameter_consts d p rest)) reads (go (parameter_is d p) at)
  where
    go : Parameter d p → At names scope (Const (parameter d p) (JVar (Made a)) (parameter_consts d p rest)) → are_bound names (parameter_consts d p rest) ≡ true
    go (own_name x is none bound nothing matched) at =
        subst (λ t. are_bound names t ≡ true) (sym (none rest))
        (body (subst (λ xs. At names (with_all xs scope) rest) (sym bound)
        (after_named (ref.Local x) (JVar (Made a)) rest (subst (λ t. At names scope (Const (Local x) (JVar (Made a)) t)) (none rest) (subst (λ q. At names scope (Const q (JVar (Made a)) (parameter_consts d p rest))) is at)))))
    go (made_name is names_first one) at =
        let first = consts p (JVar (Made d)) rest in
        let here = subst (λ t. At names scope (Const (Made d) (JVar (Made a)) t)) (names_first rest) (subst (λ q. At names scope (Const q (JVar (Made a)) (parameter_consts d p rest))) is at) in
        subst (λ t. are_bound names t ≡ true) (sym (names_first rest))
        (consts_bound p (JVar (Made d)) rest names (readable (Made d) names (own_declared (Made d) (JVar (Made a)) first here)) (body (after_consts p (JVar (Made d)) rest (after_const (Made d) (JVar (Made a)) first here))))

-- the parameters of a turn
turn_bound : (ps : Patterns) (a d : ℕ) (s : Stmts) (scope : proper.Scope) (names : Scope) → ((y : Name) → held (made_names a (count_of ps)) y ≡ true → may_read (use_of y names) ≡ true) → At names scope (turn d ps (made_names a (count_of ps)) s)
    → (At names (with_all (all_bound_by ps) scope) s → are_bound names s ≡ true) → are_bound names (turn d ps (made_names a (count_of ps)) s) ≡ true
turn_bound NoPattern a d s scope names reads at body = body at
turn_bound (MorePattern p ps) a d s scope names reads at body =
    one_parameter p a d (turn (d + made_one p) ps (made_names (suc a) (count_of ps)) s) scope names (reads (Made a) (ap (λ t. if t then true else held (made_names (suc a) (count_of ps)) (Made a)) (name_itself (Made a)))) at (λ inner.
    turn_bound ps (suc a) (d + made_one p) s (with_all (bound_by p) scope) names (λ y e. reads y (later (same_name y (Made a)) (held (made_names (suc a) (count_of ps)) y) e)) inner
    (subst (λ z. At names z s → are_bound names s ≡ true) (with_front (bound_by p) (all_bound_by ps) scope) body))
  where
    later : (t b : Bool) → b ≡ true → (if t then true else b) ≡ true
    later true b e = refl
    later false b e = e

-- so many parameters, and then what returns
pub arrows_of_bound : (d k i : ℕ) (s : Stmts) (scope : proper.Scope) → ((names : Scope) → Refs names scope → ((j : ℕ) → d ≤ j → j < i + k → use_of (Made j) names ≡ Fixed) → is_bound names (JArrow (Made (i + k)) s) ≡ true)
    → (names : Scope) → Refs names scope → ((j : ℕ) → d ≤ j → j < i → use_of (Made j) names ≡ Fixed) → is_bound names (now (arrows_of (made_names i (suc k)) s)) ≡ true
arrows_of_bound d zero i s scope last names refs fixed = subst (λ z. is_bound names (JArrow (Made z) s) ≡ true) (plain i) (last names refs (λ j l m. fixed j l (omega arith)))
  where
    plain : (i : ℕ) → i + 0 ≡ i
    plain i = omega arith
arrows_of_bound d (suc k) i s scope last names refs fixed =
    let inner = (Made i, Fixed) ∷ within names in
    arrows_of_bound d k (suc i) s scope (subst (λ z. (names : Scope) → Refs names scope → ((j : ℕ) → d ≤ j → j < z → use_of (Made j) names ≡ Fixed) → is_bound names (JArrow (Made z) s) ≡ true) (step i k) last)
    inner (λ r is. fixed_past (js_name r) (Made i) (within names) (fixed_within (js_name r) names (refs r is))) (λ j l m. go j (nat_eq j i) refl (λ differ. fixed_within (Made j) names (fixed j l (omega arith))))
  where
    step : (i k : ℕ) → i + suc k ≡ suc i + k
    step i k = omega arith

    go : (j : ℕ) (t : Bool) → nat_eq j i ≡ t → ((j ≡ i → ⊥) → use_of (Made j) (within names) ≡ Fixed) → (if t then Fixed else use_of (Made j) (within names)) ≡ Fixed
    go j true e rec = refl
    go j false e rec = rec (λ same. let f = (Decides-eqb j i).1 same in absurd (cc))

-- what a turn declares is new
pub turn_clear : (ps : Patterns) (a d : ℕ) (s : Stmts) (scope : proper.Scope) → AreFresh (all_bound_by ps) scope → IsClear (used (with_all (all_bound_by ps) scope) (d + made_for ps)) s → IsClear (used scope d) (turn d ps (made_names a (count_of ps)) s)
turn_clear NoPattern a d s scope fr clear = clear_below s scope d (d + 0) (omega arith) clear
turn_clear (MorePattern p ps) a d s scope fr clear =
    let f = fresh_front (bound_by p) (all_bound_by ps) scope fr in
    let mid = with_all (bound_by p) scope in
    let clear2 = subst (λ k. IsClear (used (with_all (all_bound_by ps) mid) k) s) (regroup d (made_one p) (made_for ps)) (subst (λ z. IsClear (used z (d + (made_one p + made_for ps))) s) (with_front (bound_by p) (all_bound_by ps) scope) clear) in
    param_clear p (Made a) (turn (d + made_one p) ps (made_names (suc a) (count_of ps)) s) scope d f.0 (turn_clear ps (suc a) (d + made_one p) s mid f.1 clear2)
  where
    regroup : (a b c : ℕ) → a + (b + c) ≡ a + b + c
    regroup a b c = omega arith

-- a loop: n parameters from d on, as many variables, and the turns
pub loop_bound : (p : Pattern) (ps : Patterns) (d : ℕ) (s : Stmts) (scope : proper.Scope) → AreFresh (all_bound_by (MorePattern p ps)) scope
    → ((y : Name) → held (made_names (d + suc (count_of ps)) (suc (count_of ps))) y ≡ false → assigns y s ≡ false)
    → IsClear (used (with_all (all_bound_by (MorePattern p ps)) scope) (d + suc (count_of ps) + suc (count_of ps) + made_for (MorePattern p ps))) s
    → ((names : Scope) → At names (with_all (all_bound_by (MorePattern p ps)) scope) s → are_bound names s ≡ true)
    → (names : Scope) → Refs names scope
    → is_bound names (now (arrows_of (made_names d (suc (count_of ps))) (lets (made_names (d + suc (count_of ps)) (suc (count_of ps))) (made_names d (suc (count_of ps))) (While (turn (d + suc (count_of ps) + suc (count_of ps)) (MorePattern p ps) (made_names (d + suc (count_of ps)) (suc (count_of ps))) s))))) ≡ true
loop_bound p ps d s scope fr none clear body names refs = arrows_of_bound d (count_of ps) d block scope inner names refs (λ j l m. absurd (omega arith))
  where
    k : ℕ
    k = suc (count_of ps)

    t : Stmts
    t = turn (d + suc (count_of ps) + suc (count_of ps)) (MorePattern p ps) (made_names (d + suc (count_of ps)) (suc (count_of ps))) s

    block : Stmts
    block = lets (made_names (d + suc (count_of ps)) (suc (count_of ps))) (made_names d (suc (count_of ps))) (While (turn (d + suc (count_of ps) + suc (count_of ps)) (MorePattern p ps) (made_names (d + suc (count_of ps)) (suc (count_of ps))) s))

    vars : Name → Bool
    vars y = held (made_names (d + suc (count_of ps)) (suc (count_of ps))) y

    turn_none : (y : Name) → held (made_names (d + suc (count_of ps)) (suc (count_of ps))) y ≡ false → assigns y t ≡ false
    turn_none y e = assigns_turn (d + suc (count_of ps) + suc (count_of ps)) (MorePattern p ps) (made_names (d + suc (count_of ps)) (suc (count_of ps))) s y ∙ none y e

    and_none : (b c : Bool) → c ≡ false → (b && c) ≡ false
    and_none true c e = e
    and_none false c e = refl

    block_none : (y : Name) → held (made_names (d + suc (count_of ps)) (suc (count_of ps))) y ≡ false → assigns y block ≡ false
    block_none y e = assigns_lets (d + suc (count_of ps)) d (suc (count_of ps)) (While t) y ∙ and_none (not (declares y t)) (assigns y t) (turn_none y e)

    new : IsClear (used scope (d + suc (count_of ps) + suc (count_of ps))) t
    new = turn_clear (MorePattern p ps) (d + suc (count_of ps)) (d + suc (count_of ps) + suc (count_of ps)) s scope fr clear

    -- the variables are not declared again
    not_again : (y : Name) → held (made_names (d + suc (count_of ps)) (suc (count_of ps))) y ≡ true → declares y t ≡ false
    not_again y e = not_declared t (used scope (d + suc (count_of ps) + suc (count_of ps))) new y (made_held scope (suc (count_of ps)) (d + suc (count_of ps)) y e)

    inner : (names : Scope) → Refs names scope → ((j : ℕ) → d ≤ j → j < d + count_of ps → use_of (Made j) names ≡ Fixed) → is_bound names (JArrow (Made (d + count_of ps)) block) ≡ true
    inner names refs fixed =
        lets_bound (d + suc (count_of ps)) d (suc (count_of ps)) (While t) whole (λ j l m. param j l m)
        (turn_bound (MorePattern p ps) (d + suc (count_of ps)) (d + suc (count_of ps) + suc (count_of ps)) s scope turned reads at (body turned))
      where
        q : Name
        q = Made (d + count_of ps)

        whole : Scope
        whole = with_declared block block (bound_in block (Made (d + count_of ps)) ∷ within names)

        turned : Scope
        turned = with_declared t t (with_declared block block (bound_in block (Made (d + count_of ps)) ∷ within names))

        q_none : assigns (Made (d + count_of ps)) block ≡ false
        q_none = block_none (Made (d + count_of ps)) (not_held (d + suc (count_of ps)) (suc (count_of ps)) (d + count_of ps) (omega arith))

        before : (y : Name) → use_of y ((q, Fixed) ∷ within names) ≡ Fixed → use_of y (bound_in block q ∷ within names) ≡ Fixed
        before y e = subst (λ u. use_of y ((q, u) ∷ within names) ≡ Fixed) (sym (ap used_as q_none)) e

        kept : (y : Name) → held (made_names (d + suc (count_of ps)) (suc (count_of ps))) y ≡ false → use_of y ((q, Fixed) ∷ within names) ≡ Fixed → use_of y whole ≡ Fixed
        kept y e f = fixed_in_block y block (bound_in block q ∷ within names) (block_none y e) (before y f)

        ref_kept : (r : Ref) → among r scope ≡ true → use_of (js_name r) whole ≡ Fixed
        ref_kept r is = kept (js_name r) (never_held (d + suc (count_of ps)) (suc (count_of ps)) r) (fixed_past (js_name r) q (within names) (fixed_within (js_name r) names (refs r is)))

        by_last : (j : ℕ) (b : Bool) → nat_eq j (d + count_of ps) ≡ b → ((j ≡ d + count_of ps → ⊥) → use_of (Made j) (within names) ≡ Fixed) → (if b then Fixed else use_of (Made j) (within names)) ≡ Fixed
        by_last j true e rec = refl
        by_last j false e rec = rec (λ same. let f = (Decides-eqb j (d + count_of ps)).1 same in absurd (cc))

        param : (j : ℕ) → d ≤ j → j < d + suc (count_of ps) → use_of (Made j) whole ≡ Fixed
        param j l m = kept (Made j) (not_held (d + suc (count_of ps)) (suc (count_of ps)) j (omega arith)) (by_last j (nat_eq j (d + count_of ps)) refl (λ differ. fixed_within (Made j) names (fixed j l (omega arith))))

        declared_var : (y : Name) → held (made_names (d + suc (count_of ps)) (suc (count_of ps))) y ≡ true → use_of y whole ≡ used_as (assigns y block)
        declared_var y e = use_declared y block block (bound_in block q ∷ within names) ∙ ap (λ b. if b then used_as (assigns y block) else use_of y (bound_in block q ∷ within names)) (declares_lets (d + suc (count_of ps)) d (suc (count_of ps)) t y ∙ e)

        turned_var : (y : Name) → held (made_names (d + suc (count_of ps)) (suc (count_of ps))) y ≡ true → use_of y turned ≡ used_as (assigns y block)
        turned_var y e = use_declared y t t whole ∙ ap (λ b. if b then used_as (assigns y t) else use_of y whole) (not_again y e) ∙ declared_var y e

        may : (b : Bool) → may_read (used_as b) ≡ true
        may true = refl
        may false = refl

        reads : (y : Name) → held (made_names (d + suc (count_of ps)) (suc (count_of ps))) y ≡ true → may_read (use_of y turned) ≡ true
        reads y e = ap may_read (turned_var y e) ∙ may (assigns y block)

        writes : (y : Name) (b : Bool) → held (made_names (d + suc (count_of ps)) (suc (count_of ps))) y ≡ b → assigns y t ≡ true → may_assign (use_of y turned) ≡ true
        writes y true e f =
            ap may_assign (turned_var y e ∙ ap used_as (assigns_lets (d + suc (count_of ps)) d (suc (count_of ps)) (While t) y ∙ ap (λ b. not b && assigns y t) (not_again y e) ∙ f))
        writes y false e f = let g = turn_none y e in absurd (cc)

        declared : (y : Name) (b : Bool) → held (made_names (d + suc (count_of ps)) (suc (count_of ps))) y ≡ b → declares y t ≡ true → use_of y turned ≡ Fixed
        declared y true e f = let g = not_again y e in absurd (cc)
        declared y false e f = fixed_declared y t whole (turn_none y e) f

        at : At turned scope t
        at = record {
          refs = λ r is. fixed_in_block (js_name r) t whole (turn_none (js_name r) (never_held (d + suc (count_of ps)) (suc (count_of ps)) r)) (ref_kept r is);
          writes = λ y e. writes y (held (made_names (d + suc (count_of ps)) (suc (count_of ps))) y) refl e;
          declared = λ y e. declared y (held (made_names (d + suc (count_of ps)) (suc (count_of ps))) y) refl e;
        }
