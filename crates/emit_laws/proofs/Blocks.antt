-- `let` and `case`: what is emitted for them does what they do, where their parts do.
use Rattle.std.proofs.Common.{◌≡◌, ℕ, suc, ◌+◌, ◌≤◌, ◌<◌, pos, ◌∷◌, Bool, true, false, nat_eq, refl, sym, ap, ◌∙◌, subst, arith, Option, Some, None}
use Rattle.std.specs.Prelude.{if◌then◌else◌}
use Rattle.std.proofs.lemmas.Bool.{lt-ltb, false_from_ne_true, eqb-true}
use Rattle.std.proofs.lemmas.Bool.Decides.{Decides-eqb}
use Rattle.runs.specs.Ends.{End, Val, Crashed, OutOfFuel, Unsafe, Stuck, then_do, MVal, MStuck, and_then, with_budget}
use Rattle.runs.specs.Pay.{Run, Follows, unclaimed_stuck}
use Rattle.runs.proofs.Spends.{spends_same, follows_after}
use Rattle.elm_canon.specs.declared.reference.Ref.{Ref}
use Rattle.elm_canon.specs.Tree.{Pattern, Title, Expr, Case, Branches, NoBranch, MoreBranch, Groups, NoGroup, MoreGroup, Group, Together, Constant, Destructure, Functions, NoFunction, MoreFunction}
use Rattle.elm_canon.specs.Proper.{Scope, among, AreFresh, with_all, bound_by, Binds, Proper, ProperBranches, ProperFunctions, ProperGroup, ProperGroups, function_names, group_names, after}
use Rattle.elm_meaning.specs.Values.{Value, Env, Bind, BindGroup}
use Rattle.elm_meaning.specs.Envs.{closure, member, lookup}
use Rattle.elm_meaning.specs.Match.{matches, on_match}
use Rattle.elm_meaning.specs.Eval.{choose_with, bind_with, group_with, call_at}
use Rattle.js_tree.specs.Tree.{Name, Made, Js, JInt, JVar, JArrow, JBinary, StrictEquals, Stmts, Const, If, declares}
use Rattle.js_meaning.specs.Values.{JVal, JNumV, JEnv, JBind, JBindRun, j_find}
use Rattle.js_meaning.specs.Lists as lists
use Rattle.js_meaning.specs.Eval.{JAgain, JCallee, JLoop, j_operate, j_eval, j_exec, j_call, j_loop, inside, if_true, if_arrow}
use Rattle.js_emit.specs.Names.{js_name, now}
use Rattle.js_emit.specs.Choice.{choice}
use Rattle.js_emit.specs.Patterns.{consts}
use Rattle.js_emit.specs.Loops.{Loop, Outside}
use Rattle.js_emit.specs.Made.{made_choice, made_in, made_function, made_functions, made_group, made_groups}
use Rattle.js_emit.specs.Emit.{numbered, chosen, emit, bodies, groups, group, functions}
use Rattle.emit_laws.specs.Sizes.{FewInFunctions}
use Rattle.emit_laws.specs.For.{For, ForEnv}
use Rattle.emit_laws.specs.Choosing.{IsNow, IsBranch, this_branch, later_branch, ProperRows, Takes, takes_none, takes}
use Rattle.emit_laws.proofs.Names.{used, IsClear, IsBound, inside_bound, inside_found, not_again, more_below, clear_const, clear_made, clear_below, const_extends, bound_after}
use Rattle.emit_laws.proofs.Clear.{clear, clear_chosen, clear_consts, clear_functions, clear_groups, clear_body}
use Rattle.emit_laws.proofs.Layers.{above_const}
use Rattle.emit_laws.proofs.Envs.{Keeps, for_keeps, for_bind, for_group, FunctionsBound, functions_bound, arrow_is, refs_apart, older_ref, older_all}
use Rattle.emit_laws.proofs.Binding.{Reads, reads_name, reads_later, more_used, all_used, pattern_goes}
use Rattle.emit_laws.proofs.Cases.{Agree, agree_some, agree_none, agree_stuck, agrees, tree_chooses}
use Rattle.emit_laws.proofs.Rows.{fit}
use Rattle.emit_laws.proofs.Spots.{InLoop, further, further_on, with_more, in_block, Runs, Gives, IsOutside, Means, means_const}
use Rattle.emit_laws.proofs.Steps.{After, const_follows}
use Rattle.emit_laws.proofs.Constructs.{then_then, then_same, ev}

-- ---- spots after a constant

-- after the constant of a name of the source
named_spot : {loop : Loop} {scope : Scope} {d next : ℕ} {env : Env} {jenv more : JEnv} {again : ℕ → JAgain} {w : JVal} {s : Stmts} (x : Ref) (v : Value) → d ≤ next → among x scope ≡ false → After (js_name x) w (used scope d) s jenv more → InLoop loop scope d env jenv again → InLoop loop (x ∷ scope) next (Bind x v env) more again
named_spot {scope = scope} {d} {next} {env} x v le new step spot =
    further (λ y is. more_below d next le (x ∷ scope) y (more_used x scope d y is)) (λ r is. older_ref r x scope is) (λ r is. ap (λ t. if t then Val v else lookup r env) (refs_apart r x scope is new)) step.above spot

-- after a made constant
made_spot : {loop : Loop} {scope : Scope} {d next : ℕ} {env : Env} {jenv more : JEnv} {again : ℕ → JAgain} {w : JVal} {s : Stmts} (x : Name) → d ≤ next → After x w (used scope d) s jenv more → InLoop loop scope d env jenv again → InLoop loop scope next env more again
made_spot {scope = scope} {d} {next} x le step spot = further (λ y is. more_below d next le scope y is) (λ r is. is) (λ r is. refl) step.above spot

made_is_used : (scope : Scope) (d next : ℕ) → d < next → used scope next (Made d) ≡ true
made_is_used scope d next l = lt-ltb d next l

-- ---- groups

-- functions are bound where their run begins
functions_skipped : (fs : Functions) (d next : ℕ) (scope : Scope) (s : Stmts) → AreFresh (function_names fs) scope → IsClear (used (with_all (function_names fs) scope) d) s → (big : Scope) → ProperFunctions big fs
    → (call : JCallee) (loop : JLoop) (again : JAgain) (jenv : JEnv) (m : ℕ) → j_exec call loop again (functions next fs s) jenv m ≡ j_exec call loop again s jenv m
functions_skipped NoFunction d next scope s fr clear big pr call loop again jenv m = refl
functions_skipped (MoreFunction title ps e fs) d next scope s fr clear big pr call loop again jenv m =
    let later = next + made_function title.name ps e (λ inner. made_in inner e) in
    let rest = functions later fs s in
    let a = arrow_is big next title.name ps e pr.1.0 pr.1.1.1.0 in
    let c = clear_const title.name rest scope d fr.0 (clear_functions fs s (title.name ∷ scope) d later fr.1 clear) in
    ap (λ x. j_exec call loop again (Const (js_name title.name) (now x) rest) jenv m) a.2
    ∙ ap (λ t. if t then MStuck else j_exec call loop again rest jenv m) (not_again (js_name title.name) (used scope d) rest c.1)
    ∙ functions_skipped fs d later (title.name ∷ scope) s fr.1 clear big pr.1.1.1.1 call loop again jenv m

-- what was in scope is none of a group's functions
outside_group : (fs : Functions) (scope : Scope) (whole : Env) (r : Ref) (rest : End Value) → AreFresh (function_names fs) scope → among r scope ≡ true → member r fs whole rest ≡ rest
outside_group NoFunction scope whole r rest fr is = refl
outside_group (MoreFunction title ps e fs) scope whole r rest fr is =
    ap (λ t. if t then closure whole ps e else member r fs whole rest) (refs_apart r title.name scope is fr.0) ∙ outside_group fs (title.name ∷ scope) whole r rest fr.1 (older_ref r title.name scope is)

pub on_value : {A B : Type 0} (o : End (Option Env)) (f : Env → End A) (other : End A) (g : A → End B) → then_do (on_match o f other) g ≡ on_match o (λ env. then_do (f env) g) (then_do other g)
on_value (Val (Some env)) f other g = refl
on_value (Val None) f other g = refl
on_value (Crashed t) f other g = refl
on_value OutOfFuel f other g = refl
on_value Unsafe f other g = refl
on_value Stuck f other g = refl

-- a pattern that matches, or nothing is claimed
pub on_matched : {A B : Type 0} {R : A → B → Type 0} (n : ℕ) (p : Pattern) (v : Value) (env : Env) (go : Env → End A) (f : Run B) → ((inner : Env) → matches p v env ≡ Val (Some inner) → Follows R n (go inner) f) → Follows R n (on_match (matches p v env) go Stuck) f
on_matched {R} n p v env go f h = by_agreement (fit p v) (matches p v env) refl (agrees p v env)
  where
    by_agreement : (o : End Bool) (m : End (Option Env)) → matches p v env ≡ m → Agree o m → Follows R n (on_match m go Stuck) f
    by_agreement o m is agree_some = h _ is
    by_agreement o m is agree_none = unclaimed_stuck
    by_agreement o m is agree_stuck = unclaimed_stuck

module _ (n : ℕ) where
  -- the group's expressions do what they do, whatever the numbers
  abbrev pub GroupMeans : Scope → Group → Type 0
  GroupMeans scope (Together fs) = FewInFunctions fs
  GroupMeans scope (Constant title e) = (d : ℕ) → Gives n scope (ev n scope e) (now (emit d Outside e))
  GroupMeans scope (Destructure p e) = (d : ℕ) → Gives n scope (ev n scope e) (now (emit d Outside e))

  abbrev After_group : Group → (Env → End Value) → Env → End Value
  After_group g o env = then_do (group_with (call_at n) g env) o

  -- functions that may use each other
  together_means : (fs : Functions) (loop : Loop) (scope : Scope) (d : ℕ) (o : Env → End Value) (s : Stmts) → ProperGroup scope (Together fs) → IsClear (used (with_all (function_names fs) scope) (d + made_functions fs)) s → FewInFunctions fs
      → Means n loop (with_all (function_names fs) scope) (d + made_functions fs) o s → Means n loop scope d (After_group (Together fs) o) (functions d fs s)
  together_means fs loop scope d o s pr clear few means = go fs refl
    where
      runs : Runs n loop scope d (After_group (Together fs) o) (functions d fs s)
      runs env jenv again re spot bd =
          let inner = with_all (function_names fs) scope in
          let low = clear_below s inner d (d + made_functions fs) (omega arith) clear in
          let both = functions_bound fs d inner s jenv pr.1 bd in
          follows_after (spends_same (λ b m. functions_skipped fs d d scope s pr.0 low inner pr.1 (j_call b) (j_loop b) (again b) jenv m))
          (means.runs (BindGroup fs env) jenv again (for_group fs d pr.0 pr.1 few both.0 re)
          (further (λ y is. more_below d (d + made_functions fs) (omega arith) inner y (all_used (function_names fs) scope d y is)) (λ r is. older_all r (function_names fs) scope is)
          (λ r is. outside_group fs scope (BindGroup fs env) r (lookup r env) pr.0 is) (λ vars base below a. a) spot) both.1)

      clear_all : IsClear (used scope d) (functions d fs s)
      clear_all = clear_functions fs s scope d d pr.0 (clear_below s (with_all (function_names fs) scope) d (d + made_functions fs) (omega arith) clear)

      none : fs ≡ NoFunction → IsOutside loop → Gives n scope (After_group (Together fs) o) (now (functions d fs s))
      none is out env jenv re =
          subst (λ g. Follows For n (o (BindGroup fs env)) (λ b m. j_eval (j_call b) (j_loop b) (now (functions d g s)) jenv m)) (sym is)
          (means.gives out (BindGroup fs env) jenv (for_group fs d pr.0 pr.1 few (subst (λ g. FunctionsBound d g jenv) (sym is) tt) re))

      go : (g : Functions) → fs ≡ g → Means n loop scope d (After_group (Together fs) o) (functions d fs s)
      go NoFunction is = record { runs = runs; gives = none is }
      go (MoreFunction title ps e others) is =
          subst (λ t. Means n loop scope d (After_group (Together fs) o) t) (ap (λ g. functions d g s) (sym is))
          (means_const loop scope d (After_group (Together fs) o) (js_name title.name) _ _ (subst (λ g. IsClear (used scope d) (functions d g s)) is clear_all) (subst (λ g. Runs n loop scope d (After_group (Together fs) o) (functions d g s)) is runs))

  -- a definition that is not a function
  constant_means : (title : Title) (e : Expr) (loop : Loop) (scope : Scope) (d : ℕ) (o : Env → End Value) (s : Stmts) → ProperGroup scope (Constant title e) → IsClear (used (title.name ∷ scope) (d + made_in Outside e)) s
      → GroupMeans scope (Constant title e) → Means n loop (title.name ∷ scope) (d + made_in Outside e) o s → Means n loop scope d (After_group (Constant title e) o) (Const (js_name title.name) (now (emit d Outside e)) s)
  constant_means title e loop scope d o s pr clear parts means =
      let c = clear_const title.name s scope d pr.1.0 (clear_below s (title.name ∷ scope) d (d + made_in Outside e) (omega arith) clear) in
      means_const loop scope d (After_group (Constant title e) o) (js_name title.name) (now (emit d Outside e)) s c (λ env jenv again re spot bd.
      subst (λ q. Follows For n q (λ b m. j_exec (j_call b) (j_loop b) (again b) (Const (js_name title.name) (now (emit d Outside e)) s) jenv m)) (sym (then_then (ev n scope e env) (λ v. Val (Bind title.name v env)) o))
      (const_follows (λ v. o (Bind title.name v env)) (used scope d) (js_name title.name) (now (emit d Outside e)) s jenv again c.0 c.1 bd (parts d env jenv re) (λ v w more rv step.
      means.runs (Bind title.name v env) more again (for_bind d rv re step.extends) (named_spot title.name v (omega arith) pr.1.0 step spot) step.bound)))

  -- p = e
  destructure_means : (p : Pattern) (e : Expr) (loop : Loop) (scope : Scope) (d : ℕ) (o : Env → End Value) (s : Stmts) → ProperGroup scope (Destructure p e) → IsClear (used (with_all (bound_by p) scope) (d + suc (made_in Outside e))) s
      → GroupMeans scope (Destructure p e) → Means n loop (with_all (bound_by p) scope) (d + suc (made_in Outside e)) o s
      → Means n loop scope d (After_group (Destructure p e) o) (Const (Made d) (now (emit (suc d) Outside e)) (consts p (JVar (Made d)) s))
  destructure_means p e loop scope d o s pr clear parts means =
      let next = d + suc (made_in Outside e) in
      let rest = consts p (JVar (Made d)) s in
      let clear2 = clear_consts p (JVar (Made d)) s scope next pr.0.1 clear in
      let c = clear_made rest scope d next (omega arith) clear2 in
      means_const loop scope d (After_group (Destructure p e) o) (Made d) (now (emit (suc d) Outside e)) rest c (λ env jenv again re spot bd.
      subst (λ q. Follows For n q (λ b m. j_exec (j_call b) (j_loop b) (again b) (Const (Made d) (now (emit (suc d) Outside e)) rest) jenv m))
      (sym (then_then (ev n scope e env) (λ v. on_match (matches p v env) (λ inner. Val inner) Stuck) o ∙ then_same (ev n scope e env) _ _ (λ v. on_value (matches p v env) (λ inner. Val inner) Stuck o)))
      (const_follows (λ v. on_match (matches p v env) o Stuck) (used scope d) (Made d) (now (emit (suc d) Outside e)) rest jenv again c.0 c.1 bd (parts (suc d) env jenv re) (λ v w more rv step.
      on_matched n p v env o _ (λ inner matched.
      let g = pattern_goes p (JVar (Made d)) s scope next inner pr.0.0 pr.0.1 clear rv (reads_name (made_is_used scope d next (omega arith)) step.extends.new) matched (for_keeps d step.extends.old re) step.bound in
      follows_after (spends_same (λ b m. g.runs (j_call b) (j_loop b) (again b) m))
      (means.runs inner g.more again g.agrees (further_on (bound_by p) g (made_spot (Made d) (omega arith) step spot)) g.bound)))))

  pub group_means : (g : Group) (loop : Loop) (scope : Scope) (d : ℕ) (o : Env → End Value) (s : Stmts) → ProperGroup scope g → IsClear (used (with_all (group_names g) scope) (d + made_group g)) s → GroupMeans scope g
      → Means n loop (with_all (group_names g) scope) (d + made_group g) o s → Means n loop scope d (After_group g o) (group d g s)
  group_means (Together fs) loop scope d o s pr clear parts means = together_means fs loop scope d o s pr clear parts means
  group_means (Constant title e) loop scope d o s pr clear parts means = constant_means title e loop scope d o s pr clear parts means
  group_means (Destructure p e) loop scope d o s pr clear parts means = destructure_means p e loop scope d o s pr clear parts means

  -- ---- let

  abbrev pub GroupsMean : Scope → Groups → Type 0
  GroupsMean scope NoGroup = Unit {0}
  GroupsMean scope (MoreGroup g gs) = GroupMeans scope g × GroupsMean (with_all (group_names g) scope) gs

  abbrev pub After_groups : Groups → (Env → End Value) → Env → End Value
  After_groups gs o env = then_do (bind_with (call_at n) gs env) o

  no_more : (d : ℕ) → d + 0 ≡ d
  no_more d = omega arith

  regroup : (a b c : ℕ) → a + (b + c) ≡ a + b + c
  regroup a b c = omega arith

  pub let_means : (gs : Groups) (loop : Loop) (scope : Scope) (d : ℕ) (o : Env → End Value) (s : Stmts) → ProperGroups scope gs → IsClear (used (after gs scope) (d + made_groups gs)) s → GroupsMean scope gs
      → Means n loop (after gs scope) (d + made_groups gs) o s → Means n loop scope d (After_groups gs o) (groups d gs s)
  let_means NoGroup loop scope d o s pr clear parts means = subst (λ k. Means n loop scope k o s) (no_more d) means
  let_means (MoreGroup g gs) loop scope d o s pr clear parts means =
      let inner = with_all (group_names g) scope in
      let next = d + made_group g in
      let clear2 = subst (λ k. IsClear (used (after gs inner) k) s) (regroup d (made_group g) (made_groups gs)) clear in
      let rest = let_means gs loop inner next o s pr.1 clear2 parts.1 (subst (λ k. Means n loop (after gs inner) k o s) (regroup d (made_group g) (made_groups gs)) means) in
      let all = group_means g loop scope d (After_groups gs o) (groups next gs s) pr.0 (clear_groups gs s inner next pr.1 clear2) parts.0 rest in
      record {
        runs = λ env jenv again re spot bd. subst (λ q. Follows For n q (λ b m. j_exec (j_call b) (j_loop b) (again b) (group d g (groups next gs s)) jenv m)) (sym (then_then (group_with (call_at n) g env) (λ inner. bind_with (call_at n) gs inner) o)) (all.runs env jenv again re spot bd);
        gives = λ out env jenv re. subst (λ q. Follows For n q (λ b m. j_eval (j_call b) (j_loop b) (now (group d g (groups next gs s))) jenv m)) (sym (then_then (group_with (call_at n) g env) (λ inner. bind_with (call_at n) gs inner) o)) (all.gives out env jenv re);
      }

  -- ---- case

  -- each branch does what it does, in the scope of its names, whatever the numbers
  abbrev pub BranchesMean : Loop → Scope → Branches → Type 0
  BranchesMean loop scope NoBranch = Unit {0}
  BranchesMean loop scope (MoreBranch p e bs) = ((d : ℕ) → Means n loop (with_all (bound_by p) scope) d (ev n scope e) (emit d loop e)) × BranchesMean loop scope bs

  -- a branch whose pattern matches, with its names from the subject i
  branch_follows : (p : Pattern) (e : Expr) (loop : Loop) (scope : Scope) (d : ℕ) (i : Name) {v : Value} {w : JVal} (env inner : Env) (jenv : JEnv) (again : ℕ → JAgain)
      → Binds p scope → Proper (with_all (bound_by p) scope) e → Means n loop (with_all (bound_by p) scope) d (ev n scope e) (emit d loop e)
      → For v w → Reads (used scope d) jenv (JVar i) w → matches p v env ≡ Val (Some inner) → ForEnv scope env jenv → InLoop loop scope d env jenv again → IsBound (consts p (JVar i) (emit d loop e)) jenv
      → Follows For n (ev n scope e inner) (λ b m. j_exec (j_call b) (j_loop b) (again b) (consts p (JVar i) (emit d loop e)) jenv m)
  branch_follows p e loop scope d i env inner jenv again binds pr means rv reads matched re spot bd =
      let g = pattern_goes p (JVar i) (emit d loop e) scope d inner binds.0 binds.1 (clear e loop (with_all (bound_by p) scope) d pr) rv reads matched re bd in
      follows_after (spends_same (λ b m. g.runs (j_call b) (j_loop b) (again b) m))
      (means.runs inner g.more again g.agrees (further_on (bound_by p) g spot) g.bound)

  -- a branch in a block of its own
  blocked_follows : (p : Pattern) (e : Expr) (loop : Loop) (scope : Scope) (d : ℕ) (i : Name) {v : Value} {w : JVal} (env inner : Env) (jenv : JEnv) (again : ℕ → JAgain)
      → Binds p scope → Proper (with_all (bound_by p) scope) e → Means n loop (with_all (bound_by p) scope) d (ev n scope e) (emit d loop e)
      → For v w → Reads (used scope d) jenv (JVar i) w → matches p v env ≡ Val (Some inner) → ForEnv scope env jenv → InLoop loop scope d env jenv again
      → Follows For n (ev n scope e inner) (λ b m. j_exec (j_call b) (j_loop b) (again b) (consts p (JVar i) (emit d loop e)) (inside (consts p (JVar i) (emit d loop e)) jenv) m)
  blocked_follows p e loop scope d i env inner jenv again binds pr means rv reads matched re spot =
      let s = consts p (JVar i) (emit d loop e) in
      let fr = clear_body p e loop scope d i binds.1 pr in
      let keeps : Keeps (used scope d) jenv (inside s jenv) = λ y is. inside_found s (used scope d) fr jenv y is in
      branch_follows p e loop scope d i env inner (inside s jenv) again binds pr means rv (reads_later (λ y is. is) keeps reads) matched (for_keeps d keeps re) (in_block s fr spot) (inside_bound s (used scope d) fr jenv)

  same_number : (k : ℕ) → lists.is_number (pos k) (pos k) ≡ true
  same_number k = (Decides-eqb k k).1 refl

  other_number : (k l : ℕ) → (k ≡ l → ⊥) → lists.is_number (pos k) (pos l) ≡ false
  other_number k l differ = false_from_ne_true (nat_eq k l) (λ e. differ (eqb-true k l e))

  -- the test of a branch's number
  numbered_test : (j : Name) (k l : ℕ) (s t : Stmts) (jenv : JEnv) (again : ℕ → JAgain) → j_find j jenv ≡ Val (JNumV (pos k)) → (same : Bool) → lists.is_number (pos k) (pos l) ≡ same → (b m : ℕ)
      → j_exec (j_call b) (j_loop b) (again b) (If (JBinary StrictEquals (JVar j) (JInt (pos l))) s t) jenv m ≡ (if same then j_exec (j_call b) (j_loop b) (again b) s (inside s jenv) m else j_exec (j_call b) (j_loop b) (again b) t (inside t jenv) m)
  numbered_test j k l s t jenv again found same is b m =
      ap (λ o. and_then (and_then (with_budget o m) (λ v m2. and_then (MVal (JNumV (pos l)) m2) (λ w m3. with_budget (j_operate StrictEquals v w) m3))) (λ v m1. if_true v (j_exec (j_call b) (j_loop b) (again b) s (inside s jenv) m1) (j_exec (j_call b) (j_loop b) (again b) t (inside t jenv) m1))) found
      ∙ ap (λ z. if z then j_exec (j_call b) (j_loop b) (again b) s (inside s jenv) m else j_exec (j_call b) (j_loop b) (again b) t (inside t jenv) m) is

  bodies_clear : (bs : Branches) (loop : Loop) (scope : Scope) (d : ℕ) (i j : Name) (l : ℕ) → ProperBranches scope bs → IsClear (used scope d) (numbered j l (bodies d loop i bs))
  bodies_clear NoBranch loop scope d i j l pr = tt
  bodies_clear (MoreBranch p e NoBranch) loop scope d i j l pr = clear_body p e loop scope d i pr.0.1 pr.1.0
  bodies_clear (MoreBranch p e (MoreBranch q f bs)) loop scope d i j l pr = tt

  -- the branch of the number that was found
  numbered_follows : {k : ℕ} {p : Pattern} {e : Expr} {bs : Branches} → IsBranch k p e bs → (loop : Loop) (scope : Scope) (d : ℕ) (i j : Name) (l whole : ℕ) {v : Value} {w : JVal} (env inner : Env) (jenv : JEnv) (again : ℕ → JAgain)
      → ProperBranches scope bs → BranchesMean loop scope bs → For v w → Reads (used scope d) jenv (JVar i) w → used scope d j ≡ true → j_find j jenv ≡ Val (JNumV (pos whole)) → whole ≡ l + k → matches p v env ≡ Val (Some inner) → ForEnv scope env jenv → InLoop loop scope d env jenv again
      → IsBound (numbered j l (bodies d loop i bs)) jenv
      → Follows For n (ev n scope e inner) (λ b m. j_exec (j_call b) (j_loop b) (again b) (numbered j l (bodies d loop i bs)) jenv m)
  numbered_follows (this_branch {p} {e} {bs = NoBranch}) loop scope d i j l whole env inner jenv again pr parts rv reads uj found is matched re spot bd =
      branch_follows p e loop scope d i env inner jenv again pr.0 pr.1.0 (parts.0 d) rv reads matched re spot bd
  numbered_follows (this_branch {p} {e} {bs = MoreBranch q f bs}) loop scope d i j l whole env inner jenv again pr parts rv reads uj found is matched re spot bd =
      let s = consts p (JVar i) (emit d loop e) in
      let t = numbered j (suc l) (bodies (d + made_in loop e) loop i (MoreBranch q f bs)) in
      follows_after (spends_same (λ b m. numbered_test j whole l s t jenv again found true (subst (λ k. lists.is_number (pos k) (pos l) ≡ true) (sym (is ∙ no_more l)) (same_number l)) b m))
      (blocked_follows p e loop scope d i env inner jenv again pr.0 pr.1.0 (parts.0 d) rv reads matched re spot)
  numbered_follows (later_branch {k} {p} {q} {e} {f} {bs = MoreBranch p2 e2 bs} at) loop scope d i j l whole env inner jenv again pr parts rv reads uj found is matched re spot bd =
      let s = consts q (JVar i) (emit d loop f) in
      let next = d + made_in loop f in
      let t = numbered j (suc l) (bodies next loop i (MoreBranch p2 e2 bs)) in
      let fr = bodies_clear (MoreBranch p2 e2 bs) loop scope next i j (suc l) pr.1.1 in
      let grows : (y : Name) → used scope d y ≡ true → used scope next y ≡ true = λ y is. more_below d next (omega arith) scope y is in
      let keeps : Keeps (used scope d) jenv (inside t jenv) = λ y is. inside_found t (used scope next) fr jenv y (grows y is) in
      follows_after (spends_same (λ b m. numbered_test j whole l s t jenv again found false (other_number whole l (λ same. absurd (omega arith))) b m))
      (numbered_follows at loop scope next i j (suc l) whole env inner (inside t jenv) again pr.1.1 parts.1 rv (reads_later grows keeps reads) (grows j uj) (keeps j uj ∙ found) (omega arith) matched (for_keeps d keeps re) (in_block t fr (with_more (omega arith) spot))
      (inside_bound t (used scope next) fr jenv))
  numbered_follows (later_branch {bs = NoBranch} at) loop scope d i j l whole env inner jenv again pr parts rv reads uj found is matched re spot bd = elim at [ ]

  rows_proper : (bs : Branches) (scope : Scope) → ProperBranches scope bs → ProperRows bs
  rows_proper NoBranch scope pr = tt
  rows_proper (MoreBranch p e bs) scope pr = (pr.0.0, rows_proper bs scope pr.1.1)

  -- a constant that is a number at once
  number_runs : (x : Name) (e : Js) (s : Stmts) (k : ℕ) (jenv : JEnv) → declares x s ≡ false → ((call : JCallee) (loop : JLoop) → IsNow call loop jenv e (JNumV (pos k)))
      → (call : JCallee) (loop : JLoop) (again : JAgain) (m : ℕ) → j_exec call loop again (Const x e s) jenv m ≡ j_exec call loop again s (JBindRun s (JBind x (JNumV (pos k)) jenv)) m
  number_runs x e s k jenv new is call loop again m =
      ap (λ t. if t then MStuck else if_arrow e (j_exec call loop again s jenv m) (and_then (j_eval call loop e jenv m) (λ v m1. j_exec call loop again s (JBindRun s (JBind x v jenv)) m1))) new
      ∙ in_turn e (is call loop m)
    where
      in_turn : (e : Js) → j_eval call loop e jenv m ≡ MVal (JNumV (pos k)) m → if_arrow e (j_exec call loop again s jenv m) (and_then (j_eval call loop e jenv m) (λ v m1. j_exec call loop again s (JBindRun s (JBind x v jenv)) m1)) ≡ j_exec call loop again s (JBindRun s (JBind x (JNumV (pos k)) jenv)) m
      in_turn (JArrow p c) f = absurd (cc)
      in_turn _ f = ap (λ o. and_then o (λ v m1. j_exec call loop again s (JBindRun s (JBind x v jenv)) m1)) f

  chosen_follows : (bs : Branches) (loop : Loop) (scope : Scope) (next : ℕ) (i : Name) {v : Value} {w : JVal} (env : Env) (jenv : JEnv) (again : ℕ → JAgain)
      → ProperBranches scope bs → BranchesMean loop scope bs → For v w → used scope next i ≡ true → j_find i jenv ≡ Val w → ForEnv scope env jenv → InLoop loop scope next env jenv again
      → IsBound (chosen next i bs (bodies (next + made_choice bs) loop i bs)) jenv
      → Follows For n (choose_with (call_at n) bs v env) (λ b m. j_exec (j_call b) (j_loop b) (again b) (chosen next i bs (bodies (next + made_choice bs) loop i bs)) jenv m)
  chosen_follows NoBranch loop scope next i env jenv again pr parts rv ui found re spot bd = unclaimed_stuck
  chosen_follows (MoreBranch p e NoBranch) loop scope next i {v} env jenv again pr parts rv ui found re spot bd =
      on_matched n p v env (λ inner. ev n scope e inner) _ (λ inner matched.
      branch_follows p e loop scope (next + 0) i env inner jenv again pr.0 pr.1.0 (parts.0 (next + 0)) rv (reads_name (more_below next (next + 0) (omega arith) scope i ui) found) matched re (with_more (omega arith) spot) bd)
  chosen_follows (MoreBranch p e (MoreBranch q f bs)) loop scope next i {v} {w} env jenv again pr parts rv ui found re spot bd =
      go (tree_chooses (call_at n) env jenv i all v w (rows_proper all scope pr) rv found)
    where
      all : Branches
      all = MoreBranch p e (MoreBranch q f bs)

      go : {o : End Value} → Takes (call_at n) (MoreBranch p e (MoreBranch q f bs)) v env (λ k. (call : JCallee) (loop : JLoop) → IsNow call loop jenv (choice i (MoreBranch p e (MoreBranch q f bs))) k) o
          → Follows For n o (λ b m. j_exec (j_call b) (j_loop b) (again b) (Const (Made next) (choice i (MoreBranch p e (MoreBranch q f bs))) (numbered (Made next) 0 (bodies (next + 1) loop i (MoreBranch p e (MoreBranch q f bs))))) jenv m)
      go takes_none = unclaimed_stuck
      go (takes {e = taken} {inner} k at matched is) =
          let rest = numbered (Made next) 0 (bodies (next + 1) loop i (MoreBranch p e (MoreBranch q f bs))) in
          let c = clear_made rest scope next (next + 1) (omega arith) (bodies_clear (MoreBranch p e (MoreBranch q f bs)) loop scope (next + 1) i (Made next) 0 pr) in
          let more = JBindRun rest (JBind (Made next) (JNumV (pos k)) jenv) in
          let ex = const_extends (Made next) (JNumV (pos k)) (used scope next) rest c.0 c.1 jenv in
          let grows : (y : Name) → used scope next y ≡ true → used scope (next + 1) y ≡ true = λ y is. more_below next (next + 1) (omega arith) scope y is in
          follows_after (spends_same (λ b m. number_runs (Made next) (choice i (MoreBranch p e (MoreBranch q f bs))) rest k jenv (not_again (Made next) (used scope next) rest c.1) is (j_call b) (j_loop b) (again b) m))
          (numbered_follows at loop scope (next + 1) i (Made next) 0 k env inner more again pr parts rv (reads_name (grows i ui) (ex.old i ui ∙ found)) (made_is_used scope next (next + 1) (omega arith)) ex.new (plain_number k) matched (for_keeps next ex.old re)
          (further grows (λ r is. is) (λ r is. refl) (λ vars base below a. above_const (Made next) (JNumV (pos k)) rest below c.0 c.1 a) spot) (bound_after (Made next) (JNumV (pos k)) (used scope next) rest c.1 jenv))
        where
          plain_number : (k : ℕ) → k ≡ 0 + k
          plain_number k = omega arith

  pub case_means : (e : Expr) (bs : Branches) (loop : Loop) (scope : Scope) (d : ℕ) → ProperBranches scope bs → ((d : ℕ) → Gives n scope (ev n scope e) (now (emit d Outside e))) → BranchesMean loop scope bs
      → Means n loop scope d (ev n scope (Case e bs)) (emit d loop (Case e bs))
  case_means e bs loop scope d pr first parts =
      let next = suc d + made_in Outside e in
      let rest = chosen next (Made d) bs (bodies (next + made_choice bs) loop (Made d) bs) in
      let c = clear_made rest scope d next (omega arith) (clear_chosen bs loop scope next (Made d) pr) in
      means_const loop scope d (ev n scope (Case e bs)) (Made d) (now (emit (suc d) Outside e)) rest c (λ env jenv again re spot bd.
      const_follows (λ v. choose_with (call_at n) bs v env) (used scope d) (Made d) (now (emit (suc d) Outside e)) rest jenv again c.0 c.1 bd (first (suc d) env jenv re) (λ v w more rv step.
      chosen_follows bs loop scope next (Made d) env more again pr parts rv (made_is_used scope d next (omega arith)) step.extends.new (for_keeps d step.extends.old re) (made_spot (Made d) (omega arith) step spot) step.bound))
