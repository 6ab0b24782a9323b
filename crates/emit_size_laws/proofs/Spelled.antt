-- What is emitted for an expression can be spelled, where the names in scope can be and made names fit 64 bits.
use Rattle.std.proofs.Common.{◌≡◌, ℕ, zero, suc, ◌+◌, ◌≤◌, ◌<◌, ◌^◌, pos, List, [], ◌∷◌, ◌++◌, Bool, true, false, refl, sym, ap, ◌∙◌, subst, arith}
use Rattle.std.specs.Prelude.{if◌then◌else◌, ◌&&◌, not, length}
use Rattle.std.specs.List.{list_all, list_any}
use Rattle.elm_canon.specs.Names as names
use Rattle.elm_canon.specs.Names.{same_ref}
use Rattle.elm_canon.specs.declared.reference.Ref.{Ref}
use Rattle.elm_canon.specs.declared.reference.Ref.TheVariants as ref
use Rattle.elm_canon.specs.Tree as source
use Rattle.elm_canon.specs.Tree.{Pattern, Anything, Named, As, Exactly, Construct, FieldsOf, LocatedPattern, Patterns, NoPattern, MorePattern, Expr, Is, NameOf, Accessor, Lambda, Apply, Strict, Logical, Case, Located, Exprs, NoExpr, MoreExpr, Branches, NoBranch, MoreBranch, Groups, NoGroup, MoreGroup, Group, Together, Constant, Destructure, Functions, NoFunction, MoreFunction}
use Rattle.elm_canon.specs.Spelled as elm
use Rattle.elm_canon.specs.Proper.{Scope, among, with_all, locals, bound_by, all_bound_by, ProperPattern, ProperPatterns, ProperOp, Proper, AllProper, ProperBranches, ProperGroup, ProperGroups, ProperFunctions, function_names, group_names, after, count_of, count_exprs}
use Rattle.js_tree.specs.Tree as js
use Rattle.js_tree.specs.Tree.{Name, Local, Made, Js, JVar, JArrow, JCall, JBinary, JProperty, JsList, NoJs, MoreJs, Stmts, Const, Let, Return, If, While, StrictEquals}
use Rattle.js_tree.specs.Subset.{is_unit, is_name, is_spelled, list_spelled, are_spelled}
use Rattle.js_emit.specs.Names.{js_name, made_names, now, part_name}
use Rattle.js_emit.specs.Operators.{arrows_of}
use Rattle.js_emit.specs.Patterns.{field_consts, consts, part_consts, made_one, made_for, parameter, parameter_consts, arrows}
use Rattle.js_emit.specs.Choice.{choice}
use Rattle.js_emit.specs.Loops.{Loop, Outside, Inside, variables, goes_round, is_call, lets, turn}
use Rattle.js_emit.specs.Loops as loops
use Rattle.js_emit.specs.Made.{made_loop, is_loop, loop_of, made_in, made_all, made_round, made_branches, made_choice, made_group, made_groups, made_functions, made_function}
use Rattle.js_emit.specs.Emit.{emit, values, calls, go_round, bodies, chosen, numbered, groups, group, functions, function, looped}
use Rattle.emit_laws.specs.Sizes.{FewFor, FewParts, FewInAll, FewInBranches, FewInGroups, FewInGroup, FewInFunctions, count_branches}
use Rattle.emit_laws.proofs.Binding.{few_parts}
use Rattle.emit_laws.proofs.Envs.{ref_same}
use Rattle.emit_laws.proofs.Lets.{count_names}
use Rattle.emit_size_laws.proofs.Parts.{both, first_of, second_of}
use Rattle.emit_size_laws.proofs.Words.{same_word, name_spelled, word_units, part_units, small_exact, made_name_fits, literal_spelled, now_spelled, count_js}
use Rattle.emit_size_laws.proofs.Choices.{perform_spelled, choice_spelled}

-- ---- scopes

abbrev pub ScopeSpelled : Scope → Type 0
ScopeSpelled scope = (r : Ref) → among r scope ≡ true → elm.is_spelled r ≡ true

pub scope_more : (x : Ref) (scope : Scope) → elm.is_spelled x ≡ true → ScopeSpelled scope → ScopeSpelled (x ∷ scope)
scope_more x scope e all = λ r is. go r (same_ref r x) refl is
  where
    go : (r : Ref) (t : Bool) → same_ref r x ≡ t → (if t then true else among r scope) ≡ true → elm.is_spelled r ≡ true
    go r true f is = subst (λ z. elm.is_spelled z ≡ true) (sym (ref_same r x f)) e
    go r false f is = all r is

abbrev pub NamesSpelled : List Ref → Type 0
NamesSpelled [] = Unit {0}
NamesSpelled (x ∷ xs) = (elm.is_spelled x ≡ true) × NamesSpelled xs

pub scope_all : (xs : List Ref) (scope : Scope) → NamesSpelled xs → ScopeSpelled scope → ScopeSpelled (with_all xs scope)
scope_all [] scope e all = all
scope_all (x ∷ xs) scope e all = scope_all xs (x ∷ scope) e.1 (scope_more x scope e.0 all)

names_append : (xs ys : List Ref) → NamesSpelled xs → NamesSpelled ys → NamesSpelled (xs ++ ys)
names_append [] ys e f = f
names_append (x ∷ xs) ys e f = (e.0, names_append xs ys e.1 f)

field_names : (xs : List names.Name) → elm.are_fields xs ≡ true → NamesSpelled (locals xs)
field_names [] e = tt
field_names (x ∷ xs) e = (
  first_of (elm.is_word x) (not (list_any (names.same_name x) xs) && elm.are_fields xs) e,
  field_names xs (second_of (not (list_any (names.same_name x) xs)) (elm.are_fields xs) (second_of (elm.is_word x) (not (list_any (names.same_name x) xs) && elm.are_fields xs) e)),
)

mutual
  pub pattern_names : (p : Pattern) → ProperPattern p → NamesSpelled (bound_by p)
  pattern_names Anything pr = tt
  pattern_names (Named x) pr = (pr, tt)
  pattern_names (As p x) pr = names_append (bound_by p) (ref.Local x ∷ []) (pattern_names p pr.0) (pr.1, tt)
  pattern_names (Exactly l) pr = tt
  pattern_names (Construct u a ps) pr = patterns_names ps pr.1.1
  pattern_names (FieldsOf xs) pr = field_names xs pr
  pattern_names (LocatedPattern place p) pr = pattern_names p pr

  pub patterns_names : (ps : Patterns) → ProperPatterns ps → NamesSpelled (all_bound_by ps)
  patterns_names NoPattern pr = tt
  patterns_names (MorePattern p ps) pr = names_append (bound_by p) (all_bound_by ps) (pattern_names p pr.0) (patterns_names ps pr.1)

-- ---- patterns

local_spelled : (x : names.Name) → elm.is_word x ≡ true → is_name (Local x) ≡ true
local_spelled x e = sym (same_word x) ∙ e

fields_too : (xs : List names.Name) (path : Js) (s : Stmts) → elm.are_fields xs ≡ true → is_spelled path ≡ true → are_spelled s ≡ true → are_spelled (field_consts xs path s) ≡ true
fields_too [] path s e h f = f
fields_too (x ∷ xs) path s e h f =
    let w = first_of (elm.is_word x) (not (list_any (names.same_name x) xs) && elm.are_fields xs) e in
    both (is_name (Local x)) ((is_spelled path && list_all is_unit x) && are_spelled (field_consts xs path s)) (local_spelled x w)
    (both (is_spelled path && list_all is_unit x) (are_spelled (field_consts xs path s)) (both (is_spelled path) (list_all is_unit x) h (word_units x w))
    (fields_too xs path s (second_of (not (list_any (names.same_name x) xs)) (elm.are_fields xs) (second_of (elm.is_word x) (not (list_any (names.same_name x) xs) && elm.are_fields xs) e)) h f))

few_enough : (n arity : ℕ) → n ≡ arity → arity < 4294967296 → 0 + n ≤ 2 ^ 64
few_enough n arity e l = omega arith

mutual
  pub consts_spelled : (p : Pattern) (path : Js) (s : Stmts) → ProperPattern p → is_spelled path ≡ true → are_spelled s ≡ true → are_spelled (consts p path s) ≡ true
  consts_spelled Anything path s pr h f = f
  consts_spelled (Named x) path s pr h f = both (is_name (Local x)) (is_spelled path && are_spelled s) (local_spelled x pr) (both (is_spelled path) (are_spelled s) h f)
  consts_spelled (As p x) path s pr h f = consts_spelled p path (Const (Local x) path s) pr.0 h (both (is_name (Local x)) (is_spelled path && are_spelled s) (local_spelled x pr.1) (both (is_spelled path) (are_spelled s) h f))
  consts_spelled (Exactly l) path s pr h f = f
  consts_spelled (Construct u a ps) path s pr h f = parts_too 0 ps path s pr.1.1 (few_enough (count_of ps) a.arity pr.1.0 (few_parts u a pr.0)) h f
  consts_spelled (FieldsOf xs) path s pr h f = fields_too xs path s pr h f
  consts_spelled (LocatedPattern place p) path s pr h f = consts_spelled p path s pr h f

  parts_too : (i : ℕ) (ps : Patterns) (path : Js) (s : Stmts) → ProperPatterns ps → i + count_of ps ≤ 2 ^ 64 → is_spelled path ≡ true → are_spelled s ≡ true → are_spelled (part_consts i ps path s) ≡ true
  parts_too i NoPattern path s pr le h f = f
  parts_too i (MorePattern p ps) path s pr le h f =
      consts_spelled p (JProperty path (part_name i)) (part_consts (suc i) ps path s) pr.0 (both (is_spelled path) (list_all is_unit (part_name i)) h (part_units i (omega arith))) (parts_too (suc i) ps path s pr.1 (omega arith) h f)

parameter_spelled : (p : Pattern) (d : ℕ) → ProperPattern p → d + made_one p ≤ 2 ^ 64 → is_name (parameter d p) ≡ true
parameter_spelled Anything d pr le = made_name_fits d (omega arith)
parameter_spelled (Named x) d pr le = local_spelled x pr
parameter_spelled (As p x) d pr le = made_name_fits d (omega arith)
parameter_spelled (Exactly l) d pr le = made_name_fits d (omega arith)
parameter_spelled (Construct u a ps) d pr le = made_name_fits d (omega arith)
parameter_spelled (FieldsOf xs) d pr le = made_name_fits d (omega arith)
parameter_spelled (LocatedPattern place p) d pr le = parameter_spelled p d pr le

parameter_consts_spelled : (p : Pattern) (d : ℕ) (s : Stmts) → ProperPattern p → d + made_one p ≤ 2 ^ 64 → are_spelled s ≡ true → are_spelled (parameter_consts d p s) ≡ true
parameter_consts_spelled Anything d s pr le h = h
parameter_consts_spelled (Named x) d s pr le h = h
parameter_consts_spelled (As p x) d s pr le h = consts_spelled (As p x) (JVar (Made d)) s pr (made_name_fits d (omega arith)) h
parameter_consts_spelled (Exactly l) d s pr le h = h
parameter_consts_spelled (Construct u a ps) d s pr le h = consts_spelled (Construct u a ps) (JVar (Made d)) s pr (made_name_fits d (omega arith)) h
parameter_consts_spelled (FieldsOf xs) d s pr le h = consts_spelled (FieldsOf xs) (JVar (Made d)) s pr (made_name_fits d (omega arith)) h
parameter_consts_spelled (LocatedPattern place p) d s pr le h = parameter_consts_spelled p d s pr le h

arrows_spelled : (ps : Patterns) (d : ℕ) (s : Stmts) → ProperPatterns ps → d + made_for ps ≤ 2 ^ 64 → are_spelled s ≡ true → are_spelled (arrows d ps s) ≡ true
arrows_spelled NoPattern d s pr le h = h
arrows_spelled (MorePattern p ps) d s pr le h =
    let rest = arrows (d + made_one p) ps s in
    both (is_name (parameter d p)) (are_spelled (parameter_consts d p rest)) (parameter_spelled p d pr.0 (omega arith)) (parameter_consts_spelled p d rest pr.0 (omega arith) (arrows_spelled ps (d + made_one p) s pr.1 (omega arith) h))

-- ---- loops

abbrev pub AllNames : List Name → Type 0
AllNames [] = Unit {0}
AllNames (r ∷ rs) = (is_name r ≡ true) × AllNames rs

pub made_all_names : (a k : ℕ) → a + k ≤ 2 ^ 64 → AllNames (made_names a k)
made_all_names a zero le = tt
made_all_names a (suc k) le = (made_name_fits a (omega arith), made_all_names (suc a) k (omega arith))

pub arrows_of_spelled : (qs : List Name) (s : Stmts) → AllNames qs → are_spelled s ≡ true → are_spelled (arrows_of qs s) ≡ true
arrows_of_spelled [] s all h = h
arrows_of_spelled (q ∷ qs) s all h = both (is_name q) (are_spelled (arrows_of qs s)) all.0 (arrows_of_spelled qs s all.1 h)

lets_spelled : (rs qs : List Name) (s : Stmts) → AllNames rs → AllNames qs → are_spelled s ≡ true → are_spelled (lets rs qs s) ≡ true
lets_spelled [] qs s ar aq h = h
lets_spelled (r ∷ rs) [] s ar aq h = h
lets_spelled (r ∷ rs) (q ∷ qs) s ar aq h = both (is_name r) (is_name q && are_spelled (lets rs qs s)) ar.0 (both (is_name q) (are_spelled (lets rs qs s)) aq.0 (lets_spelled rs qs s ar.1 aq.1 h))

turn_spelled : (ps : Patterns) (rs : List Name) (d : ℕ) (s : Stmts) → ProperPatterns ps → AllNames rs → d + made_for ps ≤ 2 ^ 64 → are_spelled s ≡ true → are_spelled (turn d ps rs s) ≡ true
turn_spelled NoPattern rs d s pr all le h = h
turn_spelled (MorePattern p ps) [] d s pr all le h = h
turn_spelled (MorePattern p ps) (r ∷ rs) d s pr all le h =
    let rest = turn (d + made_one p) ps rs s in
    both (is_name (parameter d p)) (is_name r && are_spelled (parameter_consts d p rest)) (parameter_spelled p d pr.0 (omega arith))
    (both (is_name r) (are_spelled (parameter_consts d p rest)) all.0 (parameter_consts_spelled p d rest pr.0 (omega arith) (turn_spelled ps rs (d + made_one p) s pr.1 all.1 (omega arith) h)))

-- how many names are made does not depend on the names of the variables
mutual
  made_same : (e : Expr) (f : Ref) (rs qs : List Name) → length rs ≡ length qs → made_in (Inside f rs) e ≡ made_in (Inside f qs) e
  made_same (Is l) f rs qs n = refl
  made_same (NameOf r) f rs qs n = refl
  made_same (Accessor k) f rs qs n = refl
  made_same (Lambda ps e) f rs qs n = refl
  made_same (Apply g es) f rs qs n = ap (λ k. if is_call f k g es then made_round es else made_in Outside g + made_all es) n
  made_same (Strict op es) f rs qs n = refl
  made_same (source.If c a b) f rs qs n = ap (λ k. made_in Outside c + k + made_in (Inside f rs) b) (made_same a f rs qs n) ∙ ap (λ k. made_in Outside c + made_in (Inside f qs) a + k) (made_same b f rs qs n)
  made_same (Logical place op a b) f rs qs n = refl
  made_same (source.Let gs e) f rs qs n = ap (λ k. made_groups gs + k) (made_same e f rs qs n)
  made_same (Case e bs) f rs qs n = ap (λ k. suc (made_in Outside e + (made_choice bs + k))) (branches_same bs f rs qs n)
  made_same (Located place e) f rs qs n = made_same e f rs qs n

  branches_same : (bs : Branches) (f : Ref) (rs qs : List Name) → length rs ≡ length qs → made_branches (Inside f rs) bs ≡ made_branches (Inside f qs) bs
  branches_same NoBranch f rs qs n = refl
  branches_same (MoreBranch p e bs) f rs qs n = ap (λ k. k + made_branches (Inside f rs) bs) (made_same e f rs qs n) ∙ ap (λ k. made_in (Inside f qs) e + k) (branches_same bs f rs qs n)

-- ---- a function, where its body can be spelled

pub function_spelled : (f : Ref) (ps : Patterns) (e : Expr) (d : ℕ) → ProperPatterns ps → d + made_function f ps e (λ loop. made_in loop e) ≤ 2 ^ 64
    → ((loop : Loop) (next : ℕ) → AllNames (variables loop) → next + made_in loop e ≤ 2 ^ 64 → are_spelled (emit next loop e) ≡ true) → are_spelled (function d f ps e (λ loop next. emit next loop e)) ≡ true
function_spelled f ps e d pr le body = go (is_loop f ps e) le
  where
    n : ℕ
    n = count_of ps

    same : made_in (loop_of 0 f ps) e ≡ made_in (loop_of d f ps) e
    same = made_same e f (made_names (0 + count_of ps) (count_of ps)) (made_names (d + count_of ps) (count_of ps)) (count_names (0 + count_of ps) (count_of ps) ∙ sym (count_names (d + count_of ps) (count_of ps)))

    round : d + made_loop (count_of ps) (made_for ps + made_in (loop_of d f ps) e) ≤ 2 ^ 64 → are_spelled (looped d f ps (λ loop next. emit next loop e)) ≡ true
    round le =
        let vars = made_all_names (d + count_of ps) (count_of ps) (omega arith) in
        arrows_of_spelled (made_names d (count_of ps)) _ (made_all_names d (count_of ps) (omega arith))
        (lets_spelled (made_names (d + count_of ps) (count_of ps)) (made_names d (count_of ps)) _ vars (made_all_names d (count_of ps) (omega arith))
        (turn_spelled ps (made_names (d + count_of ps) (count_of ps)) (d + count_of ps + count_of ps) (emit (d + count_of ps + count_of ps + made_for ps) (loop_of d f ps) e) pr vars (omega arith)
        (body (loop_of d f ps) (d + count_of ps + count_of ps + made_for ps) vars (omega arith))))

    go : (t : Bool) → d + (if t then made_loop (count_of ps) (made_for ps + made_in (loop_of 0 f ps) e) else made_for ps + made_in Outside e) ≤ 2 ^ 64
        → are_spelled (if t then looped d f ps (λ loop next. emit next loop e) else arrows d ps (emit (d + made_for ps) Outside e)) ≡ true
    go true le = round (subst (λ k. d + made_loop (count_of ps) (made_for ps + k) ≤ 2 ^ 64) same le)
    go false le = arrows_spelled ps d (emit (d + made_for ps) Outside e) pr (omega arith) (body Outside (d + made_for ps) tt (omega arith))

-- ---- parts

abbrev DoneNames : List (Name × Name) → Type 0
DoneNames [] = Unit {0}
DoneNames (a ∷ others) = ((is_name a.0 ≡ true) × (is_name a.1 ≡ true)) × DoneNames others

done_last : (done : List (Name × Name)) (r t : Name) → DoneNames done → is_name r ≡ true → is_name t ≡ true → DoneNames (done ++ (r, t) ∷ [])
done_last [] r t all e f = ((e, f), tt)
done_last (a ∷ others) r t all e f = (all.0, done_last others r t all.1 e f)

assigns_spelled : (done : List (Name × Name)) → DoneNames done → are_spelled (loops.assigns done) ≡ true
assigns_spelled [] all = refl
assigns_spelled (a ∷ others) all = both (is_name a.0) (is_name a.1 && are_spelled (loops.assigns others)) all.0.0 (both (is_name a.1) (are_spelled (loops.assigns others)) all.0.1 (assigns_spelled others all.1))

count_values : (es : Exprs) (d : ℕ) → count_js (values d es) ≡ count_exprs es
count_values NoExpr d = refl
count_values (MoreExpr e es) d = ap suc (count_values es (d + made_in Outside e))

abbrev AllStmts : List Stmts → Type 0
AllStmts [] = Unit {0}
AllStmts (s ∷ ss) = (are_spelled s ≡ true) × AllStmts ss

numbered_spelled : (j : Name) (k : ℕ) (ss : List Stmts) → is_name j ≡ true → k + length ss ≤ 4294967296 → AllStmts ss → are_spelled (numbered j k ss) ≡ true
numbered_spelled j k [] e le all = refl
numbered_spelled j k (s ∷ []) e le all = all.0
numbered_spelled j k (s ∷ t ∷ ss) e le all =
    both (is_name j && is_spelled (js.JInt (pos k))) (are_spelled s && are_spelled (numbered j (suc k) (t ∷ ss))) (both (is_name j) (is_spelled (js.JInt (pos k))) e (small_exact k (omega arith)))
    (both (are_spelled s) (are_spelled (numbered j (suc k) (t ∷ ss))) all.0 (numbered_spelled j (suc k) (t ∷ ss) e (omega arith) all.1))

count_bodies : (bs : Branches) (d : ℕ) (loop : Loop) (i : Name) → length (bodies d loop i bs) ≡ count_branches bs
count_bodies NoBranch d loop i = refl
count_bodies (MoreBranch p e bs) d loop i = ap suc (count_bodies bs (d + made_in loop e) loop i)

numbers_fit : (n m : ℕ) → n ≡ m → m < 4294967296 → 0 + n ≤ 4294967296
numbers_fit n m e l = omega arith

chosen_spelled : (bs : Branches) (next d : ℕ) (loop : Loop) (i : Name) (scope : Scope) → is_name i ≡ true → ProperBranches scope bs → count_branches bs < 4294967296 → next + made_choice bs ≤ 2 ^ 64 → AllStmts (bodies d loop i bs) → are_spelled (chosen next i bs (bodies d loop i bs)) ≡ true
chosen_spelled NoBranch next d loop i scope e pr few le all =
    both (is_name (Made next)) (is_spelled (choice i NoBranch) && true) (made_name_fits next (omega arith)) (both (is_spelled (choice i NoBranch)) true (choice_spelled i NoBranch scope e pr few) refl)
chosen_spelled (MoreBranch p x NoBranch) next d loop i scope e pr few le all = all.0
chosen_spelled (MoreBranch p x (MoreBranch q y bs)) next d loop i scope e pr few le all =
    let whole = MoreBranch p x (MoreBranch q y bs) in
    let j = made_name_fits next (omega arith) in
    both (is_name (Made next)) (is_spelled (choice i whole) && are_spelled (numbered (Made next) 0 (bodies d loop i whole))) j
    (both (is_spelled (choice i whole)) (are_spelled (numbered (Made next) 0 (bodies d loop i whole))) (choice_spelled i whole scope e pr few)
    (numbered_spelled (Made next) 0 (bodies d loop i whole) j (numbers_fit (length (bodies d loop i whole)) (count_branches whole) (count_bodies whole d loop i) few) all))

mutual
  pub spelled : (e : Expr) (loop : Loop) (scope : Scope) (d : ℕ) → Proper scope e → FewParts e → ScopeSpelled scope → AllNames (variables loop) → d + made_in loop e ≤ 2 ^ 64 → are_spelled (emit d loop e) ≡ true
  spelled (Is l) loop scope d pr few sc vars le = literal_spelled l pr
  spelled (NameOf r) loop scope d pr few sc vars le = name_spelled r (sc r pr)
  spelled (Accessor k) loop scope d pr few sc vars le =
      let m = made_name_fits d (omega arith) in both (is_name (Made d)) (is_name (Made d) && list_all is_unit k) m (both (is_name (Made d)) (list_all is_unit k) m (word_units k pr))
  spelled (Lambda ps e) loop scope d pr few sc vars le =
      arrows_spelled ps d (emit (d + made_for ps) Outside e) pr.1.0.0 (omega arith) (spelled e Outside (with_all (all_bound_by ps) scope) (d + made_for ps) pr.1.1 few (scope_all (all_bound_by ps) scope (patterns_names ps pr.1.0.0) sc) tt (omega arith))
  spelled (Apply f es) Outside scope d pr few sc vars le =
      calls_spelled es scope (d + made_in Outside f) pr.1 few.1 sc (omega arith) (now (emit d Outside f)) (now_spelled (emit d Outside f) (spelled f Outside scope d pr.0 few.0 sc tt (omega arith)))
  spelled (Apply f es) (Inside g rs) scope d pr few sc vars le =
      go (is_call g (length rs) f es) le (λ l. round_spelled es scope d rs [] pr.1 few.1 sc l vars tt)
      (λ l m. calls_spelled es scope (d + made_in Outside f) pr.1 few.1 sc l (now (emit d Outside f)) (now_spelled (emit d Outside f) (spelled f Outside scope d pr.0 few.0 sc tt m)))
    where
      go : (t : Bool) → d + (if t then made_round es else made_in Outside f + made_all es) ≤ 2 ^ 64 → (d + made_round es ≤ 2 ^ 64 → are_spelled (go_round d es rs []) ≡ true)
          → (d + made_in Outside f + made_all es ≤ 2 ^ 64 → d + made_in Outside f ≤ 2 ^ 64 → is_spelled (calls (d + made_in Outside f) (now (emit d Outside f)) es) ≡ true)
          → are_spelled (if t then go_round d es rs [] else Return (calls (d + made_in Outside f) (now (emit d Outside f)) es)) ≡ true
      go true l round call = round l
      go false l round call = call (omega arith) (omega arith)
  spelled (Strict op es) loop scope d pr few sc vars le =
      perform_spelled op (values d es) (subst (λ k. ProperOp op k) (sym (count_values es d)) pr.0) (subst (λ k. FewFor op k) (sym (count_values es d)) few.0) (values_spelled es scope d pr.1 few.1 sc le)
  spelled (source.If c a b) loop scope d pr few sc vars le =
      let second = d + made_in Outside c in
      let third = second + made_in loop a in
      both (is_spelled (now (emit d Outside c))) (are_spelled (emit second loop a) && are_spelled (emit third loop b)) (now_spelled (emit d Outside c) (spelled c Outside scope d pr.0 few.0 sc tt (omega arith)))
      (both (are_spelled (emit second loop a)) (are_spelled (emit third loop b)) (spelled a loop scope second pr.1.0 few.1.0 sc vars (omega arith)) (spelled b loop scope third pr.1.1 few.1.1 sc vars (omega arith)))
  spelled (Logical place op a b) loop scope d pr few sc vars le =
      let second = d + made_in Outside a in
      both (is_spelled (now (emit d Outside a))) (is_spelled (now (emit second Outside b))) (now_spelled (emit d Outside a) (spelled a Outside scope d pr.0 few.0 sc tt (omega arith))) (now_spelled (emit second Outside b) (spelled b Outside scope second pr.1 few.1 sc tt (omega arith)))
  spelled (source.Let gs e) loop scope d pr few sc vars le =
      groups_spelled gs scope d (emit (d + made_groups gs) loop e) pr.0 few.0 sc (omega arith) (λ wider. spelled e loop (after gs scope) (d + made_groups gs) pr.1 few.1 wider vars (omega arith))
  spelled (Case e bs) loop scope d pr few sc vars le =
      let next = suc d + made_in Outside e in
      let m = made_name_fits d (omega arith) in
      both (is_name (Made d)) (is_spelled (now (emit (suc d) Outside e)) && are_spelled (chosen next (Made d) bs (bodies (next + made_choice bs) loop (Made d) bs))) m
      (both (is_spelled (now (emit (suc d) Outside e))) (are_spelled (chosen next (Made d) bs (bodies (next + made_choice bs) loop (Made d) bs))) (now_spelled (emit (suc d) Outside e) (spelled e Outside scope (suc d) pr.0 few.0 sc tt (omega arith)))
      (chosen_spelled bs next (next + made_choice bs) loop (Made d) scope m pr.1 few.1.0 (omega arith) (branches_spelled bs loop scope (next + made_choice bs) (Made d) m pr.1 few.1.1 sc vars (omega arith))))
  spelled (Located place e) loop scope d pr few sc vars le = spelled e loop scope d pr few sc vars le

  calls_spelled : (es : Exprs) (scope : Scope) (d : ℕ) → AllProper scope es → FewInAll es → ScopeSpelled scope → d + made_all es ≤ 2 ^ 64 → (x : Js) → is_spelled x ≡ true → is_spelled (calls d x es) ≡ true
  calls_spelled NoExpr scope d pr few sc le x h = h
  calls_spelled (MoreExpr e es) scope d pr few sc le x h =
      calls_spelled es scope (d + made_in Outside e) pr.1 few.1 sc (omega arith) (JCall x (now (emit d Outside e))) (both (is_spelled x) (is_spelled (now (emit d Outside e))) h (now_spelled (emit d Outside e) (spelled e Outside scope d pr.0 few.0 sc tt (omega arith))))

  values_spelled : (es : Exprs) (scope : Scope) (d : ℕ) → AllProper scope es → FewInAll es → ScopeSpelled scope → d + made_all es ≤ 2 ^ 64 → list_spelled (values d es) ≡ true
  values_spelled NoExpr scope d pr few sc le = refl
  values_spelled (MoreExpr e es) scope d pr few sc le =
      both (is_spelled (now (emit d Outside e))) (list_spelled (values (d + made_in Outside e) es)) (now_spelled (emit d Outside e) (spelled e Outside scope d pr.0 few.0 sc tt (omega arith))) (values_spelled es scope (d + made_in Outside e) pr.1 few.1 sc (omega arith))

  round_spelled : (es : Exprs) (scope : Scope) (d : ℕ) (rs : List Name) (done : List (Name × Name)) → AllProper scope es → FewInAll es → ScopeSpelled scope → d + made_round es ≤ 2 ^ 64 → AllNames rs → DoneNames done → are_spelled (go_round d es rs done) ≡ true
  round_spelled NoExpr scope d [] done pr few sc le vars all = assigns_spelled done all
  round_spelled NoExpr scope d (r ∷ rs) done pr few sc le vars all = assigns_spelled done all
  round_spelled (MoreExpr e es) scope d [] done pr few sc le vars all = assigns_spelled done all
  round_spelled (MoreExpr e es) scope d (r ∷ rs) done pr few sc le vars all =
      let later = suc d + made_in Outside e in
      let m = made_name_fits d (omega arith) in
      both (is_name (Made d)) (is_spelled (now (emit (suc d) Outside e)) && are_spelled (go_round later es rs (done ++ (r, Made d) ∷ []))) m
      (both (is_spelled (now (emit (suc d) Outside e))) (are_spelled (go_round later es rs (done ++ (r, Made d) ∷ []))) (now_spelled (emit (suc d) Outside e) (spelled e Outside scope (suc d) pr.0 few.0 sc tt (omega arith)))
      (round_spelled es scope later rs (done ++ (r, Made d) ∷ []) pr.1 few.1 sc (omega arith) vars.1 (done_last done r (Made d) all vars.0 m)))

  branches_spelled : (bs : Branches) (loop : Loop) (scope : Scope) (d : ℕ) (i : Name) → is_name i ≡ true → ProperBranches scope bs → FewInBranches bs → ScopeSpelled scope → AllNames (variables loop) → d + made_branches loop bs ≤ 2 ^ 64 → AllStmts (bodies d loop i bs)
  branches_spelled NoBranch loop scope d i m pr few sc vars le = tt
  branches_spelled (MoreBranch p e bs) loop scope d i m pr few sc vars le = (
    consts_spelled p (JVar i) (emit d loop e) pr.0.0 m (spelled e loop (with_all (bound_by p) scope) d pr.1.0 few.0 (scope_all (bound_by p) scope (pattern_names p pr.0.0) sc) vars (omega arith)),
    branches_spelled bs loop scope (d + made_in loop e) i m pr.1.1 few.1 sc vars (omega arith),
  )

  groups_spelled : (gs : Groups) (scope : Scope) (d : ℕ) (s : Stmts) → ProperGroups scope gs → FewInGroups gs → ScopeSpelled scope → d + made_groups gs ≤ 2 ^ 64 → (ScopeSpelled (after gs scope) → are_spelled s ≡ true) → are_spelled (groups d gs s) ≡ true
  groups_spelled NoGroup scope d s pr few sc le rest = rest sc
  groups_spelled (MoreGroup g gs) scope d s pr few sc le rest =
      group_spelled g scope d (groups (d + made_group g) gs s) pr.0 few.0 sc (omega arith) (λ wider. groups_spelled gs (with_all (group_names g) scope) (d + made_group g) s pr.1 few.1 wider (omega arith) rest)

  group_spelled : (g : Group) (scope : Scope) (d : ℕ) (s : Stmts) → ProperGroup scope g → FewInGroup g → ScopeSpelled scope → d + made_group g ≤ 2 ^ 64 → (ScopeSpelled (with_all (group_names g) scope) → are_spelled s ≡ true) → are_spelled (group d g s) ≡ true
  group_spelled (Together fs) scope d s pr few sc le rest =
      let wider = scope_all (function_names fs) scope (functions_names fs (with_all (function_names fs) scope) pr.1) sc in
      functions_spelled fs (with_all (function_names fs) scope) d s pr.1 few wider le (rest wider)
  group_spelled (Constant title e) scope d s pr few sc le rest =
      both (is_name (js_name title.name)) (is_spelled (now (emit d Outside e)) && are_spelled s) (name_spelled title.name pr.0)
      (both (is_spelled (now (emit d Outside e))) (are_spelled s) (now_spelled (emit d Outside e) (spelled e Outside scope d pr.1.1 few sc tt le)) (rest (scope_more title.name scope pr.0 sc)))
  group_spelled (Destructure p e) scope d s pr few sc le rest =
      let m = made_name_fits d (omega arith) in
      both (is_name (Made d)) (is_spelled (now (emit (suc d) Outside e)) && are_spelled (consts p (JVar (Made d)) s)) m
      (both (is_spelled (now (emit (suc d) Outside e))) (are_spelled (consts p (JVar (Made d)) s)) (now_spelled (emit (suc d) Outside e) (spelled e Outside scope (suc d) pr.1 few sc tt (omega arith)))
      (consts_spelled p (JVar (Made d)) s pr.0.0 m (rest (scope_all (bound_by p) scope (pattern_names p pr.0.0) sc))))

  functions_spelled : (fs : Functions) (scope : Scope) (d : ℕ) (s : Stmts) → ProperFunctions scope fs → FewInFunctions fs → ScopeSpelled scope → d + made_functions fs ≤ 2 ^ 64 → are_spelled s ≡ true → are_spelled (functions d fs s) ≡ true
  functions_spelled NoFunction scope d s pr few sc le h = h
  functions_spelled (MoreFunction title ps e fs) scope d s pr few sc le h =
      let whole = function d title.name ps e (λ loop next. emit next loop e) in
      let later = functions (d + made_function title.name ps e (λ loop. made_in loop e)) fs s in
      both (is_name (js_name title.name)) (is_spelled (now whole) && are_spelled later) (name_spelled title.name pr.0)
      (both (is_spelled (now whole)) (are_spelled later)
      (now_spelled whole (function_spelled title.name ps e d pr.1.1.0.0 (omega arith) (λ loop next vars fits. spelled e loop (with_all (all_bound_by ps) scope) next pr.1.1.1.0 few.0 (scope_all (all_bound_by ps) scope (patterns_names ps pr.1.1.0.0) sc) vars fits)))
      (functions_spelled fs scope (d + made_function title.name ps e (λ loop. made_in loop e)) s pr.1.1.1.1 few.1 sc (omega arith) h))

  pub functions_names : (fs : Functions) (scope : Scope) → ProperFunctions scope fs → NamesSpelled (function_names fs)
  functions_names NoFunction scope pr = tt
  functions_names (MoreFunction title ps e fs) scope pr = (pr.0, functions_names fs scope pr.1.1.1.1)
