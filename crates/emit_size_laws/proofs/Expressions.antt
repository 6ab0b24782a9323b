-- How long expressions are: a unit for each name that is made, each part and each branch.
use Rattle.std.proofs.Common.{◌≡◌, ℕ, suc, ◌+◌, ◌≤◌, ◌<◌, List, [], ◌∷◌, ◌++◌, length, Bool, true, false, refl, ap, arith}
use Rattle.std.specs.Prelude.{if◌then◌else◌, ◌&&◌, ◌==◌}
use Rattle.std.proofs.lemmas.Bool.{eqb-true}
use Rattle.elm_canon.specs.declared.reference.Ref.{Ref}
use Rattle.elm_canon.specs.Tree as source
use Rattle.elm_canon.specs.Tree.{Patterns, NoPattern, MorePattern, Op, TupleOf, ListOf, Build, RecordOf, Access, Update, Negate}
use Rattle.elm_canon.specs.Tree.{Binary, Expr, Is, NameOf, Accessor, Lambda, Apply, Strict, Logical, Case, Located, Exprs}
use Rattle.elm_canon.specs.Tree.{NoExpr, MoreExpr, Branches, NoBranch, MoreBranch, Groups, NoGroup, MoreGroup, Group}
use Rattle.elm_canon.specs.Tree.{Together, Constant, Destructure, Functions, NoFunction, MoreFunction}
use Rattle.elm_canon.specs.Proper.{count_of, count_exprs, Scope, with_all, all_bound_by, bound_by, after, group_names, function_names}
use Rattle.elm_canon.specs.Proper.{Proper, AllProper, ProperBranches, ProperGroups, ProperGroup, ProperFunctions}
use Rattle.js_tree.specs.Tree.{Name, Made, Js, JVar, JCall, JProperty, Stmts, Return, While}
use Rattle.js_emit.specs.Names.{made_names, now}
use Rattle.js_emit.specs.Patterns.{made_for, arrows}
use Rattle.js_emit.specs.Operators.{connective_js}
use Rattle.js_emit.specs.Loops.{Loop, Outside, Inside, variables, goes_round, is_name, lets, turn, assigns}
use Rattle.js_emit.specs.Made.{is_loop, loop_of, made_in, made_all, made_round, made_loop, made_function, made_choice}
use Rattle.js_emit.specs.Made.{made_branches, made_groups, made_group, made_functions}
use Rattle.js_emit.specs.Emit.{emit, values, calls, go_round, bodies, groups, group, functions, function, looped}
use Rattle.emit_laws.specs.Sizes.{FewFor, count_branches, FewParts, FewInAll, FewInBranches, FewInGroups, FewInGroup}
use Rattle.emit_laws.specs.Sizes.{FewInFunctions}
use Rattle.emit_size_laws.proofs.Lengths.{size, core, core_now, arrow_core, call_size, binary_size, total}
use Rattle.emit_size_laws.proofs.Frames.{kept, arrows_core, named_core, lets_core, turn_core, cores, chosen_core, chosen_count}
use Rattle.emit_size_laws.proofs.Anywhere.{made_anywhere}
use Rattle.emit_size_laws.proofs.Operations.{count, count_total, perform_size}

-- of n made names, in w units; what holds if these are fewer than 2 ^ 32
pub record Sized (n w : ℕ) (F : Type 0) : Type 0 where
  pub made : n ≤ w
  pub few : w < 4294967296 → F

pub sized_as : {n w : ℕ} {F : Type 0} → Sized n w F → (m v : ℕ) → (n ≤ w → m ≤ v) → w ≤ v → Sized m v F
sized_as s m v more wide = record { made = more s.made; few = λ h. s.few (omega (arith, h, wide)) }

pub both_sized : {n m w v : ℕ} {F G : Type 0} → Sized n w F → Sized m v G → Sized (n + m) (w + v) (F × G)
both_sized s t = record {
  made = omega (arith, s.made, t.made);
  few = λ h. (s.few (omega (arith, h)), t.few (omega (arith, h)));
}

pub then_sized : {n w : ℕ} {F G : Type 0} → Sized n w F → (F → G) → Sized n w G
then_sized s f = record { made = s.made; few = λ h. f (s.few h) }

pub nothing_sized : (w : ℕ) → Sized 0 w (Unit {0})
nothing_sized w = record { made = omega arith; few = λ h. tt }

-- ---- calls

-- the function of a call that goes round is a name
name_few : (f : Ref) (e : Expr) → is_name f e ≡ true → FewParts e
name_few f (NameOf r) h = tt
name_few f (Located place e) h = name_few f e h
name_few f (Is l) h = absurd (cc)
name_few f (Accessor k) h = absurd (cc)
name_few f (Lambda ps e) h = absurd (cc)
name_few f (Apply g es) h = absurd (cc)
name_few f (Strict op es) h = absurd (cc)
name_few f (source.If c a b) h = absurd (cc)
name_few f (Logical place op a b) h = absurd (cc)
name_few f (source.Let gs e) h = absurd (cc)
name_few f (Case e bs) h = absurd (cc)

both_true : (a b : Bool) → (a && b) ≡ true → (a ≡ true) × (b ≡ true)
both_true true b e = (refl, e)
both_true false b e = absurd (cc)

round_name : (loop : Loop) (f : Expr) (es : Exprs) → goes_round loop f es ≡ true
    → FewParts f × (count_exprs es ≡ length (variables loop))
round_name Outside f es h = absurd (cc)
round_name (Inside r rs) f es h =
    let t = both_true (is_name r f) (count_exprs es == length rs) h in
    (name_few r f t.0, eqb-true (count_exprs es) (length rs) t.1)

count_values : (d : ℕ) (es : Exprs) → count (values d es) ≡ count_exprs es
count_values d NoExpr = refl
count_values d (MoreExpr e es) = ap suc (count_values (d + made_in Outside e) es)

calls_size : (d : ℕ) (f : Js) (es : Exprs) → size f + total (values d es) ≤ size (calls d f es)
calls_size d f NoExpr = omega arith
calls_size d f (MoreExpr e es) =
    let x = now (emit d Outside e) in
    omega (arith, call_size f x, calls_size (d + made_in Outside e) (JCall f x) es)

length_bodies : (d : ℕ) (loop : Loop) (i : Name) (bs : Branches) → length (bodies d loop i bs) ≡ count_branches bs
length_bodies d loop i NoBranch = refl
length_bodies d loop i (MoreBranch p e bs) = ap suc (length_bodies (d + made_in loop e) loop i bs)

op_few : (op : Op) (n : ℕ) → n < 4294967296 → FewFor op n
op_few TupleOf n h = h
op_few ListOf n h = tt
op_few (Build place u a) n h = tt
op_few (RecordOf ks) n h = tt
op_few (Access k) n h = tt
op_few (Update ks) n h = tt
op_few Negate n h = tt
op_few (Binary place op) n h = tt

-- the same over statements of v units
pub record Over (n v w : ℕ) (F : Type 0) : Type 0 where
  pub made : n + v ≤ w
  pub few : w < 4294967296 → F

pub over_both : {n m u v w : ℕ} {F G : Type 0} → Over n v w F → Over m u v G → Over (n + m) u w (F × G)
over_both s t = record {
  made = omega (arith, s.made, t.made);
  few = λ h. (s.few h, t.few (omega (arith, h, s.made)));
}

-- where an expression is wanted
pub in_place : {n : ℕ} {F : Type 0} (s : Stmts) → Sized n (core s) F → Sized n (size (now s)) F
in_place {n} s t = sized_as t n (size (now s)) (λ h. omega (arith, h, core_now s)) (core_now s)

-- a function, by its body
pub function_sized : {F : Type 0} (d : ℕ) (f : Ref) (ps : Patterns) (e : Expr)
    → ((next : ℕ) (loop : Loop) → Sized (made_in loop e) (core (emit next loop e)) F)
    → Sized (made_function f ps e (λ loop. made_in loop e)) (core (function d f ps e (λ loop next. emit next loop e))) F
function_sized {F} d f ps e body =
    let n = count_of ps in
    let P : Bool → Type 0 = λ b.
    Sized (if b then made_loop n (made_for ps + made_in (loop_of 0 f ps) e) else made_for ps + made_in Outside e)
    (core (if b then looped d f ps (λ loop next. emit next loop e) else arrows d ps (emit (d + made_for ps) Outside e)))
    F in
    elim (is_loop f ps e) as P [
      | true ↦
          let next = d + n + n + made_for ps in
          let turns = emit next (loop_of d f ps) e in
          let inner = turn (d + n + n) ps (made_names (d + n) n) turns in
          let a = named_core d n (lets (made_names (d + n) n) (made_names d n) (While inner)) in
          let b = lets_core (d + n) d n (While inner) in
          let c = turn_core (d + n + n) (d + n) ps turns in
          sized_as (body next (loop_of d f ps)) (made_loop n (made_for ps + made_in (loop_of 0 f ps) e))
          (core (looped d f ps (λ loop next. emit next loop e)))
          (λ h. omega (arith, h, a, b, c, made_anywhere d f ps e)) (omega (arith, a, b, c))
      | false ↦
          let next = d + made_for ps in
          sized_as (body next Outside) (made_for ps + made_in Outside e) (core (arrows d ps (emit next Outside e)))
          (λ h. omega (arith, h, arrows_core d ps (emit next Outside e))) (omega (arith, arrows_core d ps (emit next Outside e)))
    ]

-- ---- all

mutual
  pub sized : (scope : Scope) (d : ℕ) (loop : Loop) (e : Expr) → Proper scope e
      → Sized (made_in loop e) (core (emit d loop e)) (FewParts e)
  sized scope d loop (Is l) p = nothing_sized (core (emit d loop (Is l)))
  sized scope d loop (NameOf r) p = nothing_sized (core (emit d loop (NameOf r)))
  sized scope d loop (Accessor k) p = record {
    made = omega (arith, arrow_core (Made d) (Return (JProperty (JVar (Made d)) k)));
    few = λ h. tt;
  }
  sized scope d loop (Lambda ps e) p =
      let next = d + made_for ps in
      sized_as (sized (with_all (all_bound_by ps) scope) next Outside e p.1.1) (made_in loop (Lambda ps e))
      (core (emit d loop (Lambda ps e)))
      (λ h. omega (arith, h, arrows_core d ps (emit next Outside e))) (omega (arith, arrows_core d ps (emit next Outside e)))
  sized scope d loop (Apply f es) p =
      let P : Bool → Type 0 = λ b. goes_round loop f es ≡ b →
      Sized (if b then made_round es else made_in Outside f + made_all es)
      (core (if b then go_round d es (variables loop) [] else Return (calls (d + made_in Outside f) (now (emit d Outside f)) es)))
      (FewParts f × FewInAll es) in
      (elim (goes_round loop f es) as P [
        | true ↦ λ t.
            let r = round_name loop f es t in
            then_sized (sized_round scope d es (variables loop) [] p.1 (omega (arith, r.1))) (λ few. (r.0, few))
        | false ↦ λ t.
            let x = now (emit d Outside f) in
            let next = d + made_in Outside f in
            let a = both_sized (in_place (emit d Outside f) (sized scope d Outside f p.0)) (sized_values scope next es p.1) in
            sized_as a (made_in Outside f + made_all es) (size (calls next x es))
            (λ h. omega (arith, h, calls_size next x es)) (omega (arith, calls_size next x es))
      ]) refl
  sized scope d loop (Strict op es) p =
      let xs = values d es in
      let n = count_exprs es in
      let all = perform_size op n xs (count_values d es) p.0 in
      let s = sized_values scope d es p.1 in
      record {
        made = omega (arith, s.made, all);
        few = λ h. (op_few op n (omega (arith, h, all, count_values d es, count_total xs)), s.few (omega (arith, h, all)));
      }
  sized scope d loop (source.If c a b) p =
      let next = d + made_in Outside c in
      let s = both_sized (in_place (emit d Outside c) (sized scope d Outside c p.0)) (both_sized (sized scope next loop a p.1.0)
      (sized scope (next + made_in loop a) loop b p.1.1)) in
      sized_as s (made_in loop (source.If c a b)) (core (emit d loop (source.If c a b))) (λ h. omega (arith, h)) (omega arith)
  sized scope d loop (Logical place op a b) p =
      let next = d + made_in Outside a in
      let s = both_sized (in_place (emit d Outside a) (sized scope d Outside a p.0)) (in_place (emit next Outside b) (sized scope next Outside b p.1)) in
      let x = now (emit d Outside a) in
      let y = now (emit next Outside b) in
      sized_as s (made_in loop (Logical place op a b)) (core (emit d loop (Logical place op a b)))
      (λ h. omega (arith, h, binary_size (connective_js op) x y)) (omega (arith, binary_size (connective_js op) x y))
  sized scope d loop (source.Let gs e) p =
      let rest = sized (after gs scope) (d + made_groups gs) loop e p.1 in
      let over = sized_groups scope d gs (emit (d + made_groups gs) loop e) p.0 in
      record {
        made = omega (arith, rest.made, over.made);
        few = λ h. (over.few h, rest.few (omega (arith, h, over.made)));
      }
  sized scope d loop (Case e bs) p =
      let next = suc d + made_in Outside e in
      let ss = bodies (next + made_choice bs) loop (Made d) bs in
      let s = both_sized (in_place (emit (suc d) Outside e) (sized scope (suc d) Outside e p.0)) (sized_branches scope (next + made_choice bs) loop (Made d) bs p.1) in
      let many = length_bodies (next + made_choice bs) loop (Made d) bs in
      let inner = chosen_core next (Made d) bs ss many in
      let number = chosen_count next (Made d) bs ss in
      record {
        made = omega (arith, s.made, inner);
        few = λ h.
            let f = s.few (omega (arith, h, inner)) in
            (f.0, (omega (arith, h, number, many), f.1));
      }
  sized scope d loop (Located place e) p = sized scope d loop e p

  sized_values : (scope : Scope) (d : ℕ) (es : Exprs) → AllProper scope es
      → Sized (made_all es) (total (values d es)) (FewInAll es)
  sized_values scope d NoExpr p = nothing_sized 0
  sized_values scope d (MoreExpr e es) p =
      let s = both_sized (in_place (emit d Outside e) (sized scope d Outside e p.0)) (sized_values scope (d + made_in Outside e) es p.1) in
      sized_as s (made_all (MoreExpr e es)) (total (values d (MoreExpr e es))) (λ h. omega (arith, h)) (omega arith)

  sized_round : (scope : Scope) (d : ℕ) (es : Exprs) (rs : List Name) (done : List (Name × Name)) → AllProper scope es
      → count_exprs es ≤ length rs → Sized (made_round es) (core (go_round d es rs done)) (FewInAll es)
  sized_round scope d NoExpr rs done p h = nothing_sized (core (assigns done))
  sized_round scope d (MoreExpr e es) [] done p h = absurd (omega (arith, h))
  sized_round scope d (MoreExpr e es) (r ∷ rs) done p h =
      let next = suc d + made_in Outside e in
      let s = both_sized (in_place (emit (suc d) Outside e) (sized scope (suc d) Outside e p.0)) (sized_round scope next es rs (done ++ (r, Made d) ∷ []) p.1 (omega (arith, h))) in
      sized_as s (made_round (MoreExpr e es)) (core (go_round d (MoreExpr e es) (r ∷ rs) done)) (λ k. omega (arith, k)) (omega arith)

  sized_branches : (scope : Scope) (d : ℕ) (loop : Loop) (i : Name) (bs : Branches) → ProperBranches scope bs
      → Sized (made_branches loop bs) (cores (bodies d loop i bs)) (FewInBranches bs)
  sized_branches scope d loop i NoBranch p = nothing_sized 0
  sized_branches scope d loop i (MoreBranch q e bs) p =
      let s = both_sized (sized (with_all (bound_by q) scope) d loop e p.1.0) (sized_branches scope (d + made_in loop e) loop i bs p.1.1) in
      sized_as s (made_branches loop (MoreBranch q e bs)) (cores (bodies d loop i (MoreBranch q e bs)))
      (λ h. omega (arith, h, kept q (JVar i) (emit d loop e))) (omega (arith, kept q (JVar i) (emit d loop e)))

  sized_groups : (scope : Scope) (d : ℕ) (gs : Groups) (s : Stmts) → ProperGroups scope gs
      → Over (made_groups gs) (core s) (core (groups d gs s)) (FewInGroups gs)
  sized_groups scope d NoGroup s p = record { made = omega arith; few = λ h. tt }
  sized_groups scope d (MoreGroup g gs) s p =
      let inner = sized_groups (with_all (group_names g) scope) (d + made_group g) gs s p.1 in
      over_both (sized_group scope d g (groups (d + made_group g) gs s) p.0) inner

  pub sized_group : (scope : Scope) (d : ℕ) (g : Group) (s : Stmts) → ProperGroup scope g
      → Over (made_group g) (core s) (core (group d g s)) (FewInGroup g)
  sized_group scope d (Together fs) s p = sized_functions (with_all (function_names fs) scope) d fs s p.1
  sized_group scope d (Constant title e) s p =
      let t = in_place (emit d Outside e) (sized scope d Outside e p.1.1) in
      record { made = omega (arith, t.made); few = λ h. t.few (omega (arith, h)) }
  sized_group scope d (Destructure q e) s p =
      let t = in_place (emit (suc d) Outside e) (sized scope (suc d) Outside e p.1) in
      let k = kept q (JVar (Made d)) s in
      record { made = omega (arith, t.made, k); few = λ h. t.few (omega (arith, h)) }

  sized_functions : (scope : Scope) (d : ℕ) (fs : Functions) (s : Stmts) → ProperFunctions scope fs
      → Over (made_functions fs) (core s) (core (functions d fs s)) (FewInFunctions fs)
  sized_functions scope d NoFunction s p = record { made = omega arith; few = λ h. tt }
  sized_functions scope d (MoreFunction title ps e fs) s p =
      let x = function d title.name ps e (λ loop next. emit next loop e) in
      let next = d + made_function title.name ps e (λ loop. made_in loop e) in
      let t = in_place x (function_sized d title.name ps e (λ next loop. sized (with_all (all_bound_by ps) scope) next loop e p.1.1.1.0)) in
      let others = sized_functions scope next fs s p.1.1.1.1 in
      record {
        made = omega (arith, t.made, others.made);
        few = λ h. (t.few (omega (arith, h)), others.few (omega (arith, h)));
      }
