-- Names are bound in what is emitted for an expression, where those in scope are.
use Rattle.std.proofs.Common.{◌≡◌, ℕ, suc, ◌+◌, ◌≤◌, pos, List, [], ◌∷◌, ◌++◌, Bool, true, false, refl, ap, ◌∙◌, arith}
use Rattle.std.specs.Prelude.{if◌then◌else◌, ◌&&◌, ◌||◌, not, length}
use Rattle.std.proofs.lemmas.Bool.{false_from_ne_true}
use Rattle.elm_canon.specs.declared.reference.Ref.{Ref}
use Rattle.elm_canon.specs.Tree as source
use Rattle.elm_canon.specs.Tree.{Pattern, Patterns, NoPattern, MorePattern, Expr, Is, NameOf, Accessor, Lambda, Apply, Strict, Logical, Case, Located, Exprs, NoExpr, MoreExpr, Branches, NoBranch, MoreBranch, Groups, NoGroup, MoreGroup, Group, Together, Constant, Destructure, Functions, NoFunction, MoreFunction}
use Rattle.elm_canon.specs.Proper as proper
use Rattle.elm_canon.specs.Proper.{with_all, bound_by, all_bound_by, BindsAll, Proper, AllProper, ProperBranches, ProperGroup, ProperGroups, ProperFunctions, function_names, group_names, after, count_of}
use Rattle.js_tree.specs.Tree.{Name, Made, same_name, Js, JInt, JVar, JArrow, JCall, JBinary, JProperty, Stmts, Const, Return, If, StrictEquals, declares}
use Rattle.js_tree.specs.Subset.{Fixed, may_read, may_assign, Scope, use_of, within, with_declared, assigns, is_bound, list_bound, are_bound}
use Rattle.js_emit.specs.Names.{js_name, literal_js, now}
use Rattle.js_emit.specs.Operators.{perform_js, connective_js}
use Rattle.js_emit.specs.Patterns.{consts, made_for, arrows}
use Rattle.js_emit.specs.Choice.{choice}
use Rattle.js_emit.specs.Loops.{Loop, Outside, Inside, variables, is_call}
use Rattle.js_emit.specs.Loops as loops
use Rattle.js_emit.specs.Made.{is_loop, loop_of, made_in, made_choice, made_group, made_groups, made_function}
use Rattle.js_emit.specs.Emit.{emit, values, calls, go_round, bodies, chosen, numbered, groups, group, functions, function, looped}
use Rattle.emit_laws.proofs.Names.{used, name_itself, IsClear, not_declared, not_below_itself, more_below, clear_below}
use Rattle.emit_laws.proofs.Clear.{clear, clear_body}
use Rattle.emit_laws.proofs.Binding.{all_used}
use Rattle.emit_laws.proofs.Loops.{made_held}
use Rattle.emit_laws.proofs.Lets.{never_held}
use Rattle.emit_laws.proofs.Spots.{held, IsOutside}
use Rattle.emit_size_laws.proofs.Uses.{used_as, use_declared, fixed_in_block, fixed_declared, fixed_within, fixed_first, readable, Refs, At, named, in_with_all, assigns_consts, consts_bound, after_consts}
use Rattle.emit_size_laws.proofs.Assigned.{none_assigned, bodies_none, chosen_none, numbered_none, assigns_functions, round_none}
use Rattle.emit_size_laws.proofs.Parts.{both, literal_bound, perform_bound, choice_bound}
use Rattle.emit_size_laws.proofs.Functions.{after_const, own_declared, after_named, arrows_bound, loop_bound}

-- the variables of the loop are in use, and none of them is a name of the source
pub record LoopOk (loop : Loop) (scope : proper.Scope) (d : ℕ) : Type 0 where
  pub below : (y : Name) → held (variables loop) y ≡ true → used scope d y ≡ true
  pub made : (r : Ref) → held (variables loop) (js_name r) ≡ false

pub ok_outside : (scope : proper.Scope) (d : ℕ) → LoopOk Outside scope d
ok_outside scope d = record { below = λ y e. absurd (cc); made = λ r. refl }

ok_more : {loop : Loop} {scope : proper.Scope} {d : ℕ} (next : ℕ) → d ≤ next → LoopOk loop scope d → LoopOk loop scope next
ok_more {scope} {d} next le ok = record { below = λ y e. more_below d next le scope y (ok.below y e); made = ok.made }

ok_wider : {loop : Loop} {scope : proper.Scope} {d : ℕ} (xs : List Ref) → LoopOk loop scope d → LoopOk loop (with_all xs scope) d
ok_wider {scope} {d} xs ok = record { below = λ y e. all_used xs scope d y (ok.below y e); made = ok.made }

-- a made name that is next is none of them
next_free : {loop : Loop} {scope : proper.Scope} {d : ℕ} → LoopOk loop scope d → held (variables loop) (Made d) ≡ false
next_free {loop} {scope} {d} ok = false_from_ne_true (held (variables loop) (Made d)) (λ e. let f = ok.below (Made d) e in let g = not_below_itself d in absurd (cc))

outside_free : (loop : Loop) → IsOutside loop → (y : Name) → held (variables loop) y ≡ false
outside_free Outside out y = refl
outside_free (Inside f rs) out y = absurd out

pub record Sound (loop : Loop) (scope : proper.Scope) (s : Stmts) : Type 0 where
  pub none : (y : Name) → held (variables loop) y ≡ false → assigns y s ≡ false
  pub stmts : (names : Scope) → At names scope s → are_bound names s ≡ true
  pub gives : IsOutside loop → (names : Scope) → Refs names scope → is_bound names (now s) ≡ true

returns : (loop : Loop) (scope : proper.Scope) (x : Js) → ((names : Scope) → Refs names scope → is_bound names x ≡ true) → Sound loop scope (Return x)
returns loop scope x h = record { none = λ y e. refl; stmts = λ names at. h names at.refs; gives = λ out names refs. h names refs }

-- a constant, and what stands after it
const_sound : (loop : Loop) (scope : proper.Scope) (x : Name) (e : Js) (s : Stmts) → ((y : Name) → held (variables loop) y ≡ false → assigns y s ≡ false) → ((names : Scope) → At names scope (Const x e s) → are_bound names (Const x e s) ≡ true) → Sound loop scope (Const x e s)
const_sound loop scope x e s none stmts = record {
  none = none;
  stmts = stmts;
  gives = λ out names refs.
      let free = λ (y : Name). none y (outside_free loop out y) in
      stmts (with_declared (Const x e s) (Const x e s) (within names)) (record {
        refs = λ r is. fixed_in_block (js_name r) (Const x e s) (within names) (free (js_name r)) (fixed_within (js_name r) names (refs r is));
        writes = λ y f. let g = free y in absurd (cc);
        declared = λ y f. fixed_declared y (Const x e s) (within names) (free y) f;
      });
}

-- statements as a block
in_block : {loop : Loop} {scope : proper.Scope} {d : ℕ} (s : Stmts) (names : Scope) → LoopOk loop scope d → IsClear (used scope d) s → ((y : Name) → held (variables loop) y ≡ false → assigns y s ≡ false) → Refs names scope
    → ((y : Name) → declares y s ≡ false → assigns y s ≡ true → may_assign (use_of y names) ≡ true) → At (with_declared s s names) scope s
in_block {loop} {scope} {d} s names ok new none refs may = record {
  refs = λ r is. fixed_in_block (js_name r) s names (none (js_name r) (ok.made r)) (refs r is);
  writes = λ y e. writes y (held (variables loop) y) refl e;
  declared = λ y e. declared y (held (variables loop) y) refl e;
}
  where
    writes : (y : Name) (b : Bool) → held (variables loop) y ≡ b → assigns y s ≡ true → may_assign (use_of y (with_declared s s names)) ≡ true
    writes y true h e =
        let f = not_declared s (used scope d) new y (ok.below y h) in
        ap may_assign (use_declared y s s names ∙ ap (λ t. if t then used_as (assigns y s) else use_of y names) f) ∙ may y f e
    writes y false h e = let f = none y h in absurd (cc)

    declared : (y : Name) (b : Bool) → held (variables loop) y ≡ b → declares y s ≡ true → use_of y (with_declared s s names) ≡ Fixed
    declared y true h e = let f = not_declared s (used scope d) new y (ok.below y h) in absurd (cc)
    declared y false h e = fixed_declared y s names (none y h) e

if_first : (a b c : Bool) → a ≡ false → b ≡ true → (not a && b || c) ≡ true
if_first true b c e f = absurd (cc)
if_first false true c e f = refl
if_first false false c e f = absurd (cc)

if_second : (a b c : Bool) → a ≡ false → b ≡ true → (c || not a && b) ≡ true
if_second true b c e f = absurd (cc)
if_second false true true e f = refl
if_second false true false e f = refl
if_second false false c e f = absurd (cc)

-- `if`, whose branches are blocks
if_bound : {loop : Loop} {scope : proper.Scope} {d : ℕ} (x : Js) (s t : Stmts) (names : Scope) → LoopOk loop scope d → IsClear (used scope d) s → IsClear (used scope d) t → ((y : Name) → held (variables loop) y ≡ false → assigns y s ≡ false) → ((y : Name) → held (variables loop) y ≡ false → assigns y t ≡ false)
    → is_bound names x ≡ true → At names scope (If x s t) → (At (with_declared s s names) scope s → are_bound (with_declared s s names) s ≡ true) → (At (with_declared t t names) scope t → are_bound (with_declared t t names) t ≡ true) → are_bound names (If x s t) ≡ true
if_bound x s t names ok cs ct ns nt bx at fs ft =
    both (is_bound names x) (are_bound (with_declared s s names) s && are_bound (with_declared t t names) t) bx
    (both (are_bound (with_declared s s names) s) (are_bound (with_declared t t names) t)
    (fs (in_block s names ok cs ns at.refs (λ y e f. at.writes y (if_first (declares y s) (assigns y s) (not (declares y t) && assigns y t) e f))))
    (ft (in_block t names ok ct nt at.refs (λ y e f. at.writes y (if_second (declares y t) (assigns y t) (not (declares y s) && assigns y s) e f)))))

-- ---- groups

declares_functions : (fs : Functions) (d : ℕ) (s : Stmts) (y : Name) → declares y (functions d fs s) ≡ (if named (function_names fs) y then true else declares y s)
declares_functions NoFunction d s y = refl
declares_functions (MoreFunction title ps e fs) d s y = go (same_name y (js_name title.name)) (declares_functions fs (d + made_function title.name ps e (λ loop. made_in loop e)) s y)
  where
    go : (t : Bool) → declares y (functions (d + made_function title.name ps e (λ loop. made_in loop e)) fs s) ≡ (if named (function_names fs) y then true else declares y s)
        → (if t then true else declares y (functions (d + made_function title.name ps e (λ loop. made_in loop e)) fs s)) ≡ (if (if t then true else named (function_names fs) y) then true else declares y s)
    go true e = refl
    go false e = e

-- what stands after functions
after_functions : {names : Scope} {scope : proper.Scope} (fs : Functions) (d : ℕ) (s : Stmts) → At names scope (functions d fs s) → At names (with_all (function_names fs) scope) s
after_functions {names} {scope} fs d s at = record {
  refs = λ r is. in_with_all (function_names fs) scope r is (λ e. at.declared (js_name r) (declares_functions fs d s (js_name r) ∙ ap (λ t. if t then true else declares (js_name r) s) e)) (λ e. at.refs r e);
  writes = λ y e. at.writes y (assigns_functions fs d s y ∙ e);
  declared = λ y e. at.declared y (declares_functions fs d s y ∙ go (named (function_names fs) y) (declares y s) e);
}
  where
    go : (t b : Bool) → b ≡ true → (if t then true else b) ≡ true
    go true b e = refl
    go false b e = e

-- ---- a call that goes round

abbrev Reads : Scope → List (Name × Name) → Type 0
Reads names [] = Unit {0}
Reads names (a ∷ others) = (use_of a.1 names ≡ Fixed) × Reads names others

reads_last : (names : Scope) (done : List (Name × Name)) (r t : Name) → Reads names done → use_of t names ≡ Fixed → Reads names (done ++ (r, t) ∷ [])
reads_last names [] r t all e = (e, tt)
reads_last names (a ∷ others) r t all e = (all.0, reads_last names others r t all.1 e)

or_true : (a b : Bool) → b ≡ true → (a || b) ≡ true
or_true true b e = refl
or_true false b e = e

assigns_bound : (names : Scope) (done : List (Name × Name)) → Reads names done → ((y : Name) → assigns y (loops.assigns done) ≡ true → may_assign (use_of y names) ≡ true) → are_bound names (loops.assigns done) ≡ true
assigns_bound names [] all may = refl
assigns_bound names (a ∷ others) all may =
    both (may_assign (use_of a.0 names)) (may_read (use_of a.1 names) && are_bound names (loops.assigns others)) (may a.0 (ap (λ t. t || assigns a.0 (loops.assigns others)) (name_itself a.0)))
    (both (may_read (use_of a.1 names)) (are_bound names (loops.assigns others)) (readable a.1 names all.0) (assigns_bound names others all.1 (λ y e. may y (or_true (same_name y a.0) (assigns y (loops.assigns others)) e))))

-- a branch, with its names from the subject i
branch_bound : (p : Pattern) (loop : Loop) (scope : proper.Scope) (i : Name) (s : Stmts) → Sound loop (with_all (bound_by p) scope) s → (names : Scope) → use_of i names ≡ Fixed → At names scope (consts p (JVar i) s) → are_bound names (consts p (JVar i) s) ≡ true
branch_bound p loop scope i s body names fixed at = consts_bound p (JVar i) s names (readable i names fixed) (body.stmts names (after_consts p (JVar i) s at))

later_clear : (q : Pattern) (f : Expr) (bs : Branches) (loop : Loop) (scope : proper.Scope) (d next : ℕ) (i j : Name) (l : ℕ) → d ≤ next → ProperBranches scope (MoreBranch q f bs) → IsClear (used scope d) (numbered j l (bodies next loop i (MoreBranch q f bs)))
later_clear q f NoBranch loop scope d next i j l le pr = clear_below (consts q (JVar i) (emit next loop f)) scope d next le (clear_body q f loop scope next i pr.0.1 pr.1.0)
later_clear q f (MoreBranch p e bs) loop scope d next i j l le pr = tt

-- ---- branches

abbrev BranchesSound : Loop → proper.Scope → Branches → Type 0
BranchesSound loop scope NoBranch = Unit {0}
BranchesSound loop scope (MoreBranch p e bs) = ((d : ℕ) → LoopOk loop (with_all (bound_by p) scope) d → Sound loop (with_all (bound_by p) scope) (emit d loop e)) × BranchesSound loop scope bs

numbered_bound : (bs : Branches) (loop : Loop) (scope : proper.Scope) (d : ℕ) (i j : Name) (l : ℕ) → ProperBranches scope bs → BranchesSound loop scope bs → LoopOk loop scope d → held (variables loop) i ≡ false → held (variables loop) j ≡ false → (names : Scope) → use_of i names ≡ Fixed → use_of j names ≡ Fixed
    → At names scope (numbered j l (bodies d loop i bs)) → are_bound names (numbered j l (bodies d loop i bs)) ≡ true
numbered_bound NoBranch loop scope d i j l pr parts ok fi fj names xi xj at = refl
numbered_bound (MoreBranch p e NoBranch) loop scope d i j l pr parts ok fi fj names xi xj at = branch_bound p loop scope i (emit d loop e) (parts.0 d (ok_wider (bound_by p) ok)) names xi at
numbered_bound (MoreBranch p e (MoreBranch q f bs)) loop scope d i j l pr parts ok fi fj names xi xj at =
    let s = consts p (JVar i) (emit d loop e) in
    let next = d + made_in loop e in
    let t = numbered j (suc l) (bodies next loop i (MoreBranch q f bs)) in
    let ns = λ (y : Name) (h : held (variables loop) y ≡ false). assigns_consts p (JVar i) (emit d loop e) y ∙ none_assigned e d loop y h in
    let nt = λ (y : Name) (h : held (variables loop) y ≡ false). numbered_none y j (suc l) (bodies next loop i (MoreBranch q f bs)) (bodies_none (MoreBranch q f bs) next loop i y h) in
    if_bound (JBinary StrictEquals (JVar j) (JInt (pos l))) s t names ok (clear_body p e loop scope d i pr.0.1 pr.1.0) (later_clear q f bs loop scope d next i j (suc l) (omega arith) pr.1.1) ns nt
    (both (may_read (use_of j names)) true (readable j names xj) refl) at
    (λ inner. branch_bound p loop scope i (emit d loop e) (parts.0 d (ok_wider (bound_by p) ok)) (with_declared s s names) (fixed_in_block i s names (ns i fi) xi) inner)
    (λ inner. numbered_bound (MoreBranch q f bs) loop scope next i j (suc l) pr.1.1 parts.1 (ok_more next (omega arith) ok) fi fj (with_declared t t names) (fixed_in_block i t names (nt i fi) xi) (fixed_in_block j t names (nt j fj) xj) inner)

chosen_bound : (bs : Branches) (loop : Loop) (scope : proper.Scope) (next : ℕ) (i : Name) → ProperBranches scope bs → BranchesSound loop scope bs → LoopOk loop scope next → held (variables loop) i ≡ false → (names : Scope) → use_of i names ≡ Fixed
    → At names scope (chosen next i bs (bodies (next + made_choice bs) loop i bs)) → are_bound names (chosen next i bs (bodies (next + made_choice bs) loop i bs)) ≡ true
chosen_bound NoBranch loop scope next i pr parts ok free names fixed at = both (is_bound names (choice i NoBranch)) true (choice_bound names i NoBranch (readable i names fixed)) refl
chosen_bound (MoreBranch p e NoBranch) loop scope next i pr parts ok free names fixed at = branch_bound p loop scope i (emit (next + 0) loop e) (parts.0 (next + 0) (ok_wider (bound_by p) (ok_more (next + 0) (omega arith) ok))) names fixed at
chosen_bound (MoreBranch p e (MoreBranch q f bs)) loop scope next i pr parts ok free names fixed at =
    let all = MoreBranch p e (MoreBranch q f bs) in
    let rest = numbered (Made next) 0 (bodies (next + 1) loop i all) in
    both (is_bound names (choice i all)) (are_bound names rest) (choice_bound names i all (readable i names fixed))
    (numbered_bound all loop scope (next + 1) i (Made next) 0 pr parts (ok_more (next + 1) (omega arith) ok) free (next_free ok) names fixed (own_declared (Made next) (choice i all) rest at) (after_const (Made next) (choice i all) rest at))

function_bound : (f : Ref) (ps : Patterns) (e : Expr) (scope : proper.Scope) (d : ℕ) → BindsAll ps scope → Proper (with_all (all_bound_by ps) scope) e → ((loop : Loop) (next : ℕ) → LoopOk loop (with_all (all_bound_by ps) scope) next → Sound loop (with_all (all_bound_by ps) scope) (emit next loop e)) → (names : Scope) → Refs names scope → is_bound names (now (function d f ps e (λ inner next. emit next inner e))) ≡ true
function_bound f NoPattern e scope d binds pr part names refs = (part Outside (d + 0) (ok_outside scope (d + 0))).gives tt names refs
function_bound f (MorePattern p ps) e scope d binds pr part names refs =
    go (is_loop f (MorePattern p ps) e)
    (let next = d + made_for (MorePattern p ps) in
    let body = part Outside next (ok_outside (with_all (all_bound_by (MorePattern p ps)) scope) next) in
    arrows_bound p ps d scope (emit next Outside e) (λ y. body.none y refl) body.stmts names refs)
    (let n = suc (count_of ps) in
    let start = d + suc (count_of ps) + suc (count_of ps) + made_for (MorePattern p ps) in
    let wider = with_all (all_bound_by (MorePattern p ps)) scope in
    let loop = loop_of d f (MorePattern p ps) in
    let body = part loop start (record {
      below = λ y h. more_below (d + suc (count_of ps) + suc (count_of ps)) start (omega arith) wider y (all_used (all_bound_by (MorePattern p ps)) scope (d + suc (count_of ps) + suc (count_of ps)) y (made_held scope (suc (count_of ps)) (d + suc (count_of ps)) y h));
      made = λ r. never_held (d + suc (count_of ps)) (suc (count_of ps)) r;
    }) in
    loop_bound p ps d (emit start loop e) scope binds.1 body.none (clear e loop wider start pr) body.stmts names refs)
  where
    go : (t : Bool) → is_bound names (now (arrows d (MorePattern p ps) (emit (d + made_for (MorePattern p ps)) Outside e))) ≡ true → is_bound names (now (looped d f (MorePattern p ps) (λ inner next. emit next inner e))) ≡ true
        → is_bound names (now (if t then looped d f (MorePattern p ps) (λ inner next. emit next inner e) else arrows d (MorePattern p ps) (emit (d + made_for (MorePattern p ps)) Outside e))) ≡ true
    go true plain loop = loop
    go false plain loop = plain

abbrev FunctionsSound : proper.Scope → Functions → Type 0
FunctionsSound scope NoFunction = Unit {0}
FunctionsSound scope (MoreFunction title ps e fs) =
    ((d : ℕ) (names : Scope) → Refs names scope → is_bound names (now (function d title.name ps e (λ inner next. emit next inner e))) ≡ true) × FunctionsSound scope fs

functions_too : (fs : Functions) (scope : proper.Scope) (d : ℕ) (s : Stmts) → FunctionsSound scope fs → (names : Scope) → Refs names scope → are_bound names s ≡ true → are_bound names (functions d fs s) ≡ true
functions_too NoFunction scope d s parts names refs bs = bs
functions_too (MoreFunction title ps e fs) scope d s parts names refs bs =
    let later = d + made_function title.name ps e (λ inner. made_in inner e) in
    both (is_bound names (now (function d title.name ps e (λ inner next. emit next inner e)))) (are_bound names (functions later fs s)) (parts.0 d names refs) (functions_too fs scope later s parts.1 names refs bs)

-- functions that may use each other
together_sound : (fs : Functions) (loop : Loop) (scope : proper.Scope) (d : ℕ) (s : Stmts) → FunctionsSound (with_all (function_names fs) scope) fs → Sound loop (with_all (function_names fs) scope) s → Sound loop scope (functions d fs s)
together_sound NoFunction loop scope d s parts rest = rest
together_sound (MoreFunction title ps e fs) loop scope d s parts rest =
    let all = MoreFunction title ps e fs in
    let later = functions (d + made_function title.name ps e (λ inner. made_in inner e)) fs s in
    const_sound loop scope (js_name title.name) (now (function d title.name ps e (λ inner next. emit next inner e))) later (λ y h. assigns_functions all d s y ∙ rest.none y h) (λ names at.
    let inner = after_functions all d s at in
    functions_too all (with_all (function_names all) scope) d s parts names inner.refs (rest.stmts names inner))

mutual
  pub sound : (e : Expr) (loop : Loop) (scope : proper.Scope) (d : ℕ) → Proper scope e → LoopOk loop scope d → Sound loop scope (emit d loop e)
  sound (Is l) loop scope d pr ok = returns loop scope (literal_js l) (λ names refs. literal_bound names l)
  sound (NameOf r) loop scope d pr ok = returns loop scope (JVar (js_name r)) (λ names refs. readable (js_name r) names (refs r pr))
  sound (Accessor k) loop scope d pr ok = returns loop scope (JArrow (Made d) (Return (JProperty (JVar (Made d)) k))) (λ names refs. readable (Made d) ((Made d, Fixed) ∷ within names) (fixed_first (Made d) (within names)))
  sound (Lambda NoPattern e) loop scope d pr ok = let l = pr.0 in absurd (cc)
  sound (Lambda (MorePattern p ps) e) loop scope d pr ok =
      let next = d + made_for (MorePattern p ps) in
      let body = sound e Outside (with_all (all_bound_by (MorePattern p ps)) scope) next pr.1.1 (ok_outside (with_all (all_bound_by (MorePattern p ps)) scope) next) in
      returns loop scope (now (arrows d (MorePattern p ps) (emit next Outside e))) (arrows_bound p ps d scope (emit next Outside e) (λ y. body.none y refl) body.stmts)
  sound (Apply f es) Outside scope d pr ok = returns Outside scope (calls (d + made_in Outside f) (now (emit d Outside f)) es) (λ names refs. calls_bound es scope (d + made_in Outside f) pr.1 names refs (now (emit d Outside f)) ((sound f Outside scope d pr.0 (ok_outside scope d)).gives tt names refs))
  sound (Apply f es) (Inside g rs) scope d pr ok = go (is_call g (length rs) f es) (λ names at. round_bound es (Inside g rs) scope d rs [] pr.1 names at tt) (λ names refs. calls_bound es scope (d + made_in Outside f) pr.1 names refs (now (emit d Outside f)) ((sound f Outside scope d pr.0 (ok_outside scope d)).gives tt names refs))
    where
      go : (t : Bool) → ((names : Scope) → At names scope (go_round d es rs []) → are_bound names (go_round d es rs []) ≡ true) → ((names : Scope) → Refs names scope → is_bound names (calls (d + made_in Outside f) (now (emit d Outside f)) es) ≡ true)
          → Sound (Inside g rs) scope (if t then go_round d es rs [] else Return (calls (d + made_in Outside f) (now (emit d Outside f)) es))
      go true round call = record { none = λ y e. round_none y es d rs [] e refl; stmts = round; gives = λ out. absurd out }
      go false round call = returns (Inside g rs) scope (calls (d + made_in Outside f) (now (emit d Outside f)) es) call
  sound (Strict op es) loop scope d pr ok = returns loop scope (perform_js op (values d es)) (λ names refs. perform_bound names op (values d es) (values_bound es scope d pr.1 names refs))
  sound (source.If c a b) loop scope d pr ok =
      let second = d + made_in Outside c in
      let third = second + made_in loop a in
      let sc = sound c Outside scope d pr.0 (ok_outside scope d) in
      let sa = sound a loop scope second pr.1.0 (ok_more second (omega arith) ok) in
      let sb = sound b loop scope third pr.1.1 (ok_more third (omega arith) ok) in
      record {
        none = none_assigned (source.If c a b) d loop;
        stmts = λ names at.
            if_bound (now (emit d Outside c)) (emit second loop a) (emit third loop b) names ok (clear_below (emit second loop a) scope d second (omega arith) (clear a loop scope second pr.1.0)) (clear_below (emit third loop b) scope d third (omega arith) (clear b loop scope third pr.1.1)) sa.none sb.none (sc.gives tt names at.refs) at
            (sa.stmts (with_declared (emit second loop a) (emit second loop a) names)) (sb.stmts (with_declared (emit third loop b) (emit third loop b) names));
        gives = λ out names refs.
            both (is_bound names (now (emit d Outside c))) (is_bound names (now (emit second loop a)) && is_bound names (now (emit third loop b))) (sc.gives tt names refs) (both (is_bound names (now (emit second loop a))) (is_bound names (now (emit third loop b))) (sa.gives out names refs) (sb.gives out names refs));
      }
  sound (Logical place op a b) loop scope d pr ok =
      let second = d + made_in Outside a in
      returns loop scope (JBinary (connective_js op) (now (emit d Outside a)) (now (emit second Outside b))) (λ names refs.
      both (is_bound names (now (emit d Outside a))) (is_bound names (now (emit second Outside b))) ((sound a Outside scope d pr.0 (ok_outside scope d)).gives tt names refs) ((sound b Outside scope second pr.1 (ok_outside scope second)).gives tt names refs))
  sound (source.Let gs e) loop scope d pr ok = groups_sound gs loop scope d (emit (d + made_groups gs) loop e) pr.0 ok (λ fine. sound e loop (after gs scope) (d + made_groups gs) pr.1 fine)
  sound (Case e bs) loop scope d pr ok =
      let next = suc d + made_in Outside e in
      let rest = chosen next (Made d) bs (bodies (next + made_choice bs) loop (Made d) bs) in
      let none = λ (y : Name) (h : held (variables loop) y ≡ false). chosen_none y (Made d) next bs (bodies (next + made_choice bs) loop (Made d) bs) (bodies_none bs (next + made_choice bs) loop (Made d) y h) in
      const_sound loop scope (Made d) (now (emit (suc d) Outside e)) rest none (λ names at.
      both (is_bound names (now (emit (suc d) Outside e))) (are_bound names rest) ((sound e Outside scope (suc d) pr.0 (ok_outside scope (suc d))).gives tt names at.refs)
      (chosen_bound bs loop scope next (Made d) pr.1 (branches_sound bs loop scope pr.1) (ok_more next (omega arith) ok) (next_free ok) names (own_declared (Made d) (now (emit (suc d) Outside e)) rest at) (after_const (Made d) (now (emit (suc d) Outside e)) rest at)))
  sound (Located place e) loop scope d pr ok = sound e loop scope d pr ok

  calls_bound : (es : Exprs) (scope : proper.Scope) (d : ℕ) → AllProper scope es → (names : Scope) → Refs names scope → (x : Js) → is_bound names x ≡ true → is_bound names (calls d x es) ≡ true
  calls_bound NoExpr scope d pr names refs x bx = bx
  calls_bound (MoreExpr e es) scope d pr names refs x bx =
      calls_bound es scope (d + made_in Outside e) pr.1 names refs (JCall x (now (emit d Outside e))) (both (is_bound names x) (is_bound names (now (emit d Outside e))) bx ((sound e Outside scope d pr.0 (ok_outside scope d)).gives tt names refs))

  values_bound : (es : Exprs) (scope : proper.Scope) (d : ℕ) → AllProper scope es → (names : Scope) → Refs names scope → list_bound names (values d es) ≡ true
  values_bound NoExpr scope d pr names refs = refl
  values_bound (MoreExpr e es) scope d pr names refs =
      both (is_bound names (now (emit d Outside e))) (list_bound names (values (d + made_in Outside e) es)) ((sound e Outside scope d pr.0 (ok_outside scope d)).gives tt names refs) (values_bound es scope (d + made_in Outside e) pr.1 names refs)

  round_bound : (es : Exprs) (loop : Loop) (scope : proper.Scope) (d : ℕ) (rs : List Name) (done : List (Name × Name)) → AllProper scope es → (names : Scope) → At names scope (go_round d es rs done) → Reads names done → are_bound names (go_round d es rs done) ≡ true
  round_bound NoExpr loop scope d [] done pr names at all = assigns_bound names done all at.writes
  round_bound NoExpr loop scope d (r ∷ rs) done pr names at all = assigns_bound names done all at.writes
  round_bound (MoreExpr e es) loop scope d [] done pr names at all = assigns_bound names done all at.writes
  round_bound (MoreExpr e es) loop scope d (r ∷ rs) done pr names at all =
      let later = suc d + made_in Outside e in
      let rest = go_round later es rs (done ++ (r, Made d) ∷ []) in
      both (is_bound names (now (emit (suc d) Outside e))) (are_bound names rest) ((sound e Outside scope (suc d) pr.0 (ok_outside scope (suc d))).gives tt names at.refs)
      (round_bound es loop scope later rs (done ++ (r, Made d) ∷ []) pr.1 names (after_const (Made d) (now (emit (suc d) Outside e)) rest at) (reads_last names done r (Made d) all (own_declared (Made d) (now (emit (suc d) Outside e)) rest at)))

  branches_sound : (bs : Branches) (loop : Loop) (scope : proper.Scope) → ProperBranches scope bs → BranchesSound loop scope bs
  branches_sound NoBranch loop scope pr = tt
  branches_sound (MoreBranch p e bs) loop scope pr = ((λ d ok. sound e loop (with_all (bound_by p) scope) d pr.1.0 ok), branches_sound bs loop scope pr.1.1)

  -- ---- groups

  groups_sound : (gs : Groups) (loop : Loop) (scope : proper.Scope) (d : ℕ) (s : Stmts) → ProperGroups scope gs → LoopOk loop scope d → (LoopOk loop (after gs scope) (d + made_groups gs) → Sound loop (after gs scope) s) → Sound loop scope (groups d gs s)
  groups_sound NoGroup loop scope d s pr ok rest = rest (ok_more (d + 0) (omega arith) ok)
  groups_sound (MoreGroup g gs) loop scope d s pr ok rest =
      let inner = with_all (group_names g) scope in
      let next = d + made_group g in
      group_sound g loop scope d (groups next gs s) pr.0 ok (groups_sound gs loop inner next s pr.1 (ok_wider (group_names g) (ok_more next (omega arith) ok)) (λ fine. rest (ok_more (d + (made_group g + made_groups gs)) (omega arith) fine)))

  group_sound : (g : Group) (loop : Loop) (scope : proper.Scope) (d : ℕ) (s : Stmts) → ProperGroup scope g → LoopOk loop scope d → Sound loop (with_all (group_names g) scope) s → Sound loop scope (group d g s)
  group_sound (Together fs) loop scope d s pr ok rest = together_sound fs loop scope d s (functions_sound fs (with_all (function_names fs) scope) pr.1) rest
  group_sound (Constant title e) loop scope d s pr ok rest =
      const_sound loop scope (js_name title.name) (now (emit d Outside e)) s rest.none (λ names at.
      both (is_bound names (now (emit d Outside e))) (are_bound names s) ((sound e Outside scope d pr.1.1 (ok_outside scope d)).gives tt names at.refs) (rest.stmts names (after_named title.name (now (emit d Outside e)) s at)))
  group_sound (Destructure p e) loop scope d s pr ok rest =
      let first = consts p (JVar (Made d)) s in
      const_sound loop scope (Made d) (now (emit (suc d) Outside e)) first (λ y h. assigns_consts p (JVar (Made d)) s y ∙ rest.none y h) (λ names at.
      both (is_bound names (now (emit (suc d) Outside e))) (are_bound names first) ((sound e Outside scope (suc d) pr.1 (ok_outside scope (suc d))).gives tt names at.refs)
      (consts_bound p (JVar (Made d)) s names (readable (Made d) names (own_declared (Made d) (now (emit (suc d) Outside e)) first at)) (rest.stmts names (after_consts p (JVar (Made d)) s (after_const (Made d) (now (emit (suc d) Outside e)) first at)))))

  functions_sound : (fs : Functions) (scope : proper.Scope) → ProperFunctions scope fs → FunctionsSound scope fs
  functions_sound NoFunction scope pr = tt
  functions_sound (MoreFunction title ps e fs) scope pr =
      ((λ d names refs. function_bound title.name ps e scope d pr.1.1.0 pr.1.1.1.0 (λ loop next ok. sound e loop (with_all (all_bound_by ps) scope) next pr.1.1.1.0 ok) names refs), functions_sound fs scope pr.1.1.1.1)

-- a function at the top
pub top_function : (f : Ref) (ps : Patterns) (e : Expr) (scope : proper.Scope) (d : ℕ) → BindsAll ps scope → Proper (with_all (all_bound_by ps) scope) e → (names : Scope) → Refs names scope → is_bound names (now (function d f ps e (λ inner next. emit next inner e))) ≡ true
top_function f ps e scope d binds pr names refs = function_bound f ps e scope d binds pr (λ loop next ok. sound e loop (with_all (all_bound_by ps) scope) next pr ok) names refs
