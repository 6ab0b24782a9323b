-- The next turn of a loop: a constant for each argument.
use Rattle.std.proofs.Common.{◌≡◌, ◌<◌, ℕ, suc, ◌+◌, List, [], ◌∷◌, ◌++◌, Bool, true, false, nat_eq, length, drop}
use Rattle.std.proofs.Common.{refl, sym, ap, ◌∙◌, arith, append_assoc, append-nil, length-append}
use Rattle.std.specs.Prelude.{◌&&◌}
use Rattle.std.proofs.lemmas.Bool.{eqb-true}
use Rattle.elm_canon.specs.Tree.{Expr, Exprs, MoreExpr, NoExpr, exprs_of}
use Rattle.elm_canon.specs.View as view
use Rattle.elm_canon.specs.View.{LinkView, Given, Composed, After, Decided, done}
use Rattle.elm_canon.specs.Proper.{count_exprs}
use Rattle.js_tree.specs.Tree.{Name, Made, Js, Const, Return}
use Rattle.js_tree.specs.Postorder.{Tree, Expression, BlockOf, StatementsOf, ConstThen, Before, statements_then}
use Rattle.js_emit.specs.Loops.{Loop, Outside, Inside, variables, is_name, goes_round, assigns}
use Rattle.js_emit.specs.Made.{made_in, made_round}
use Rattle.js_emit.specs.Emit.{emit, go_round}
use Rattle.emit_exprs.proofs.Steps.{count_with}
use Rattle.emit_exprs.specs.Frames.{pairs}
use Rattle.emit_exprs.specs.Chains.{value, turn_before, turn_after, turns_by}
use Rattle.emit_exprs.proofs.Done.{call_returns, call_same, call_turns, call_rounds}

pub pairs_none : (rs : List Name) → pairs rs [] ≡ []
pairs_none [] = refl
pairs_none (r ∷ rs) = refl

-- after the pairs of other variables
turn_from : (m : ℕ) (e : Expr) (es : Exprs) (rs : List Name) (ns : List ℕ) (done : List (Name × Name)) →
    length ns < length rs →
    go_round m (MoreExpr e es) (drop (length ns) rs) (done ++ pairs rs ns)
    ≡ Const (Made m) (value (suc m) e)
    (go_round (suc m + made_in Outside e) es (drop (length (ns ++ m ∷ [])) rs) (done ++ pairs rs (ns ++ m ∷ [])))
turn_from m e es [] ns done lt = absurd (omega (arith, lt))
turn_from m e es (r ∷ rs) [] done lt =
    ap (λ l. Const (Made m) (value (suc m) e) (go_round (suc m + made_in Outside e) es rs ((done ++ []) ++ (r, Made m) ∷ l)))
    (sym (pairs_none rs))
    ∙ ap (λ l. Const (Made m) (value (suc m) e) (go_round (suc m + made_in Outside e) es rs (l ++ (r, Made m) ∷ pairs rs []))) (append-nil done)
turn_from m e es (r ∷ rs) (n ∷ ns) done lt =
    ap (go_round m (MoreExpr e es) (drop (length ns) rs)) (sym (append_assoc done ((r, Made n) ∷ []) (pairs rs ns)))
    ∙ turn_from m e es rs ns (done ++ (r, Made n) ∷ []) (omega (arith, lt))
    ∙ ap (λ l. Const (Made m) (value (suc m) e) (go_round (suc m + made_in Outside e) es (drop (length (ns ++ m ∷ [])) rs) l))
    (append_assoc done ((r, Made n) ∷ []) (pairs rs (ns ++ m ∷ [])))

-- one argument more
pub turn_next : (m : ℕ) (e : Expr) (es : Exprs) (rs : List Name) (ns : List ℕ) → length ns < length rs →
    go_round m (MoreExpr e es) (drop (length ns) rs) (pairs rs ns)
    ≡ Const (Made m) (value (suc m) e)
    (go_round (suc m + made_in Outside e) es (drop (length (ns ++ m ∷ [])) rs) (pairs rs (ns ++ m ∷ [])))
turn_next m e es rs ns lt = turn_from m e es rs ns [] lt

both : (a b : Bool) → (a && b) ≡ true → b ≡ true
both true b h = h
both false b h = absurd (cc)

-- a call that goes round has an argument for each variable
pub round_count : (place : Loop) (f : Expr) (es : Exprs) → goes_round place f es ≡ true →
    count_exprs es ≡ length (variables place)
round_count Outside f es h = absurd (cc)
round_count (Inside x rs) f es h =
    eqb-true (count_exprs es) (length rs) (both (is_name x f) (nat_eq (count_exprs es) (length rs)) h)

-- the constant of one argument more: number, m1 and m2 are as they were taken
pub turn_step : (b : Before) (m number m1 m2 : ℕ) (e : Expr) (es : Exprs) (rs : List Name) (n n2 : List ℕ) →
    length n < length rs → number ≡ m → m1 ≡ suc m → m2 ≡ m1 + made_in Outside e → n2 ≡ n ++ number ∷ [] →
    statements_then b (Const (Made number) (value m1 e) (go_round m2 es (drop (length n2) rs) (pairs rs n2)))
    ≡ statements_then b (go_round m (MoreExpr e es) (drop (length n) rs) (pairs rs n))
turn_step b m number m1 m2 e es rs n n2 lt h1 h2 h3 h4 =
    ap (λ l. statements_then b (Const (Made number) (value m1 e) (go_round m2 es (drop (length l) rs) (pairs rs l)))) h4
    ∙ ap (λ k. statements_then b (Const (Made k) (value m1 e) (go_round m2 es (drop (length (n ++ k ∷ [])) rs) (pairs rs (n ++ k ∷ []))))) h1
    ∙ ap (λ k. statements_then b (Const (Made m) (value m1 e) (go_round k es (drop (length (n ++ m ∷ [])) rs) (pairs rs (n ++ m ∷ []))))) h3
    ∙ ap (λ k. statements_then b (Const (Made m) (value k e) (go_round (k + made_in Outside e) es (drop (length (n ++ m ∷ [])) rs) (pairs rs (n ++ m ∷ []))))) h2
    ∙ ap (statements_then b) (sym (turn_next m e es rs n lt))

-- the arguments of a call that is done with an expression
pub turn_arguments : (l : LinkView) (place : Loop) (d : ℕ) (y : Expr) → turns_by place l y ≡ true →
    emit d place (done l y) ≡ go_round d (exprs_of (turn_before l ++ y ∷ turn_after l)) (variables place) []
turn_arguments (Given f es) place d y h = call_turns d place f (exprs_of (es ++ y ∷ [])) h
turn_arguments (Composed f a) place d y h = call_turns d place f (exprs_of (y ∷ a ∷ [])) h
turn_arguments (After op es) place d y h = absurd (cc)
turn_arguments (view.Before op a) place d y h = absurd (cc)
turn_arguments (Decided p c a) place d y h = absurd (cc)

pub turn_made : (l : LinkView) (place : Loop) (y : Expr) → turns_by place l y ≡ true →
    made_in place (done l y) ≡ made_round (exprs_of (turn_before l ++ y ∷ turn_after l))
turn_made (Given f es) place y h = call_rounds place f (exprs_of (es ++ y ∷ [])) h
turn_made (Composed f a) place y h = call_rounds place f (exprs_of (y ∷ a ∷ [])) h
turn_made (After op es) place y h = absurd (cc)
turn_made (view.Before op a) place y h = absurd (cc)
turn_made (Decided p c a) place y h = absurd (cc)

pub turn_count : (l : LinkView) (place : Loop) (y : Expr) → turns_by place l y ≡ true →
    length (turn_before l) + suc (length (turn_after l)) ≡ length (variables place)
turn_count (Given f es) place y h =
    let z : length es + 1 ≡ length (variables place) =
    sym (count_with es y) ∙ round_count place f (exprs_of (es ++ y ∷ [])) h in z
turn_count (Composed f a) place y h = round_count place f (exprs_of (y ∷ a ∷ [])) h
turn_count (After op es) place y h = absurd (cc)
turn_count (view.Before op a) place y h = absurd (cc)
turn_count (Decided p c a) place y h = absurd (cc)

-- it is a value where it does not go round
pub link_returns : (l : LinkView) (place : Loop) (d : ℕ) (y : Expr) → turns_by place l y ≡ false →
    emit d place (done l y) ≡ Return (value d (done l y))
link_returns (Given f es) place d y h = call_returns d place f (exprs_of (es ++ y ∷ [])) h
link_returns (Composed f a) place d y h = call_returns d place f (exprs_of (y ∷ a ∷ [])) h
link_returns (After op es) place d y h = refl
link_returns (view.Before op a) place d y h = refl
link_returns (Decided p c a) place d y h = refl

pub link_same : (l : LinkView) (place : Loop) (y : Expr) → turns_by place l y ≡ false →
    made_in place (done l y) ≡ made_in Outside (done l y)
link_same (Given f es) place y h = call_same place f (exprs_of (es ++ y ∷ [])) h
link_same (Composed f a) place y h = call_same place f (exprs_of (y ∷ a ∷ [])) h
link_same (After op es) place y h = refl
link_same (view.Before op a) place y h = refl
link_same (Decided p c a) place y h = refl

pub made_round_append : (es fs : List Expr) →
    made_round (exprs_of (es ++ fs)) ≡ made_round (exprs_of es) + made_round (exprs_of fs)
made_round_append [] fs = omega arith
made_round_append (e ∷ es) fs = omega (arith, made_round_append es fs)

-- ---- the last argument

turn_end : (b : Before) (number : ℕ) (y : Expr) (rs : List Name) (n n2 : List ℕ) → length n < length rs →
    n2 ≡ n ++ number ∷ [] →
    statements_then b (Const (Made number) (value (suc number) y) (assigns (pairs rs n2)))
    ≡ statements_then b (go_round number (MoreExpr y NoExpr) (drop (length n) rs) (pairs rs n))
turn_end b number y rs n n2 lt h =
    turn_step b number number (suc number) (suc number + made_in Outside y) y NoExpr rs n n2 lt refl refl refl h

-- what a turn that is done with an expression ends with; m is the next number after the expression
abbrev pub Finishes : LinkView → ℕ → ℕ → List ℕ → List Name → List Tree → List Tree → Type 0
Finishes l number m ns rs old new =
    (y : Expr) (before : Before) (ts : List Tree) → length ns + suc (length (turn_after l)) ≡ length rs →
    old ≡ Expression (value (suc number) y) ∷ StatementsOf before ∷ ts → m ≡ suc number + made_in Outside y →
    new ≡ BlockOf (statements_then before (go_round number (exprs_of (y ∷ turn_after l)) (drop (length ns) rs) (pairs rs ns))) ∷ ts

-- the last tree becomes the constant of that number
abbrev pub Keeps : ℕ → List Tree → List Tree → Type 0
Keeps number old new =
    (x : Js) (before : Before) (ts : List Tree) → old ≡ Expression x ∷ StatementsOf before ∷ ts →
    new ≡ StatementsOf (ConstThen before (Made number) x) ∷ ts

abbrev pub Turns : List ℕ → List Name → List Tree → List Tree → Type 0
Turns ns rs old new =
    (before : Before) (ts : List Tree) → length ns ≡ length rs → old ≡ StatementsOf before ∷ ts →
    new ≡ BlockOf (statements_then before (assigns (pairs rs ns))) ∷ ts

pub finish_simple : (l : LinkView) (number m : ℕ) (n n2 : List ℕ) (rs : List Name) (t0 t1 t2 : List Tree) →
    turn_after l ≡ [] → n2 ≡ n ++ number ∷ [] → Keeps number t0 t1 → Turns n2 rs t1 t2 → Finishes l number m n rs t0 t2
finish_simple l number m n n2 rs t0 t1 t2 after h keeps turns = λ y before ts many was made.
    let one : length n2 ≡ length n + 1 = ap length h ∙ length-append n (number ∷ []) in
    let none : length (turn_after l) ≡ 0 = ap length after in
    turns (ConstThen before (Made number) (value (suc number) y)) ts (omega (arith, one, none, many))
    (keeps (value (suc number) y) before ts was)
    ∙ ap (λ s. BlockOf s ∷ ts) (turn_end before number y rs n n2 (omega (arith, none, many)) h
    ∙ ap (λ q. statements_then before (go_round number (exprs_of (y ∷ q)) (drop (length n) rs) (pairs rs n))) (sym after))

pub finish_composed : (l : LinkView) (a : Expr) (number m k m1 : ℕ) (n n2 n3 : List ℕ) (rs : List Name)
    (t0 t1 t2 t3 t4 : List Tree) → turn_after l ≡ a ∷ [] → n2 ≡ n ++ number ∷ [] → k ≡ m → m1 ≡ suc m →
    n3 ≡ n2 ++ k ∷ [] → Keeps number t0 t1 → t2 ≡ Expression (value m1 a) ∷ t1 → Keeps k t2 t3 → Turns n3 rs t3 t4 →
    Finishes l number m n rs t0 t4
finish_composed l a number m k m1 n n2 n3 rs t0 t1 t2 t3 t4 after h next up more keeps adds keeps2 turns =
    λ y before ts many was made.
    let x = value (suc number) y in
    let first = ConstThen before (Made number) x in
    let one : length n2 ≡ length n + 1 = ap length h ∙ length-append n (number ∷ []) in
    let two : length n3 ≡ length n2 + 1 = ap length more ∙ length-append n2 (k ∷ []) in
    let rest : length (turn_after l) ≡ 1 = ap length after in
    turns (ConstThen first (Made k) (value m1 a)) ts (omega (arith, one, two, rest, many))
    (keeps2 (value m1 a) first ts (adds ∙ ap (λ u. Expression (value m1 a) ∷ u) (keeps x before ts was)))
    ∙ ap (λ s. BlockOf s ∷ ts)
    (turn_step first m k m1 (m1 + made_in Outside a) a NoExpr rs n2 n3 (omega (arith, one, rest, many)) next up refl more
    ∙ turn_step before number number (suc number) m y (MoreExpr a NoExpr) rs n n2 (omega (arith, rest, many)) refl refl made h
    ∙ ap (λ q. statements_then before (go_round number (exprs_of (y ∷ q)) (drop (length n) rs) (pairs rs n))) (sym after))
