-- What the steps of a derivation leave on the stacks: the value that the derivation means (`runs_as`). What an action
-- takes is on top, since popping undoes pushing at every kind that has a stack (`top_push`, `pop_push`).
use Rattle.std.proofs.Common.{◌≡◌, ℕ, zero, suc, Bool, true, false, ◌&&◌, List, [], ◌∷◌, ◌++◌, refl, sym, ap, ◌∙◌}
use Rattle.std.proofs.Common.{append_assoc, append-nil}
use Rattle.std.specs.List.{list_all}
use Rattle.elm_lexer.specs.Tokens.{Token}
use Rattle.parse_machine.specs.declared.table.Step.{Step}
use Rattle.parse_machine.specs.declared.table.Step.TheVariants.{Read}
use Rattle.parse_machine.specs.Grammar.{Tree, steps_of}
use Rattle.elm_grammar.specs.declared.action.Item.TheVariants as item
use Rattle.elm_grammar.specs.declared.action.Action.{Action}
use Rattle.elm_grammar.specs.declared.action.Action.TheVariants.{EmptyModule}
use Rattle.elm_grammar.specs.Table.{elm_actions}
use Rattle.elm_grammar.specs.Values.{Kind, One, Many, Thing, takes, gives}
use Rattle.elm_grammar.specs.Meaning.{Things, none, ◌⸴◌, action_in, action_at, made, Means, nothing, a_word, a_node}
use Rattle.elm_values.specs.Stack.{Columns, push, pop, top, tops, below, apply, after_step, run}
use Rattle.elm_values.specs.Used.{is_used}

-- ---- kinds that have a stack

abbrev is_real : Kind → Bool
is_real (One item.FieldType) = false
is_real (One item.Part) = false
is_real (Many item.Module) = false
is_real (Many item.Header) = false
is_real (Many item.Exposing) = false
is_real (Many item.Import) = false
is_real (Many item.Declaration) = false
is_real (Many item.Rest) = false
is_real (Many item.Chain) = false
is_real (Many item.AfterMinus) = false
is_real (Many item.Record) = false
is_real _ = true

abbrev all_real : List Kind → Bool
all_real [] = true
all_real (k ∷ ks) = is_real k && all_real ks

pub top_push : (tokens : List Token) (k : Kind) (v : Thing k) (s : Columns) → is_real k ≡ true →
    top tokens k (push k v s) ≡ v
unfolding top push
top_push tokens (One item.Word) v s h = refl
top_push tokens (One item.Module) v s h = refl
top_push tokens (One item.Header) v s h = refl
top_push tokens (One item.Exposing) v s h = refl
top_push tokens (One item.Exposed) v s h = refl
top_push tokens (One item.Import) v s h = refl
top_push tokens (One item.Declaration) v s h = refl
top_push tokens (One item.Rest) v s h = refl
top_push tokens (One item.Constructor) v s h = refl
top_push tokens (One item.TypeTree) v s h = refl
top_push tokens (One item.FieldType) v s h = cc
top_push tokens (One item.Pattern) v s h = refl
top_push tokens (One item.Expr) v s h = refl
top_push tokens (One item.Part) v s h = cc
top_push tokens (One item.Chain) v s h = refl
top_push tokens (One item.AfterMinus) v s h = refl
top_push tokens (One item.Record) v s h = refl
top_push tokens (One item.Branch) v s h = refl
top_push tokens (One item.Definition) v s h = refl
top_push tokens (Many item.Word) v s h = refl
top_push tokens (Many item.Module) v s h = cc
top_push tokens (Many item.Header) v s h = cc
top_push tokens (Many item.Exposing) v s h = cc
top_push tokens (Many item.Exposed) v s h = refl
top_push tokens (Many item.Import) v s h = cc
top_push tokens (Many item.Declaration) v s h = cc
top_push tokens (Many item.Rest) v s h = cc
top_push tokens (Many item.Constructor) v s h = refl
top_push tokens (Many item.TypeTree) v s h = refl
top_push tokens (Many item.FieldType) v s h = refl
top_push tokens (Many item.Pattern) v s h = refl
top_push tokens (Many item.Expr) v s h = refl
top_push tokens (Many item.Part) v s h = refl
top_push tokens (Many item.Chain) v s h = cc
top_push tokens (Many item.AfterMinus) v s h = cc
top_push tokens (Many item.Record) v s h = cc
top_push tokens (Many item.Branch) v s h = refl
top_push tokens (Many item.Definition) v s h = refl

pop_push : (k : Kind) (v : Thing k) (s : Columns) → is_real k ≡ true → pop k (push k v s) ≡ s
unfolding pop push
pop_push (One item.Word) v s h = refl
pop_push (One item.Module) v s h = refl
pop_push (One item.Header) v s h = refl
pop_push (One item.Exposing) v s h = refl
pop_push (One item.Exposed) v s h = refl
pop_push (One item.Import) v s h = refl
pop_push (One item.Declaration) v s h = refl
pop_push (One item.Rest) v s h = refl
pop_push (One item.Constructor) v s h = refl
pop_push (One item.TypeTree) v s h = refl
pop_push (One item.FieldType) v s h = cc
pop_push (One item.Pattern) v s h = refl
pop_push (One item.Expr) v s h = refl
pop_push (One item.Part) v s h = cc
pop_push (One item.Chain) v s h = refl
pop_push (One item.AfterMinus) v s h = refl
pop_push (One item.Record) v s h = refl
pop_push (One item.Branch) v s h = refl
pop_push (One item.Definition) v s h = refl
pop_push (Many item.Word) v s h = refl
pop_push (Many item.Module) v s h = cc
pop_push (Many item.Header) v s h = cc
pop_push (Many item.Exposing) v s h = cc
pop_push (Many item.Exposed) v s h = refl
pop_push (Many item.Import) v s h = cc
pop_push (Many item.Declaration) v s h = cc
pop_push (Many item.Rest) v s h = cc
pop_push (Many item.Constructor) v s h = refl
pop_push (Many item.TypeTree) v s h = refl
pop_push (Many item.FieldType) v s h = refl
pop_push (Many item.Pattern) v s h = refl
pop_push (Many item.Expr) v s h = refl
pop_push (Many item.Part) v s h = refl
pop_push (Many item.Chain) v s h = cc
pop_push (Many item.AfterMinus) v s h = cc
pop_push (Many item.Record) v s h = cc
pop_push (Many item.Branch) v s h = refl
pop_push (Many item.Definition) v s h = refl

-- ---- what an action takes is on top

abbrev onto : {ks : List Kind} → Things ks → Columns → Columns
onto none s = s
onto (◌⸴◌ {k = k} v vs) s = push k v (onto vs s)

both : (a b : Bool) → a && b ≡ true → (a ≡ true) × (b ≡ true)
both true b h = (refl, h)
both false b h = cc

tops_onto : (tokens : List Token) {ks : List Kind} (vs : Things ks) (s : Columns) → all_real ks ≡ true →
    tops tokens ks (onto vs s) ≡ vs
tops_onto tokens none s h = refl
tops_onto tokens (◌⸴◌ {k = k} {ks = ks} v vs) s h =
    let e = both (is_real k) (all_real ks) h in
    rw (top_push tokens k v (onto vs s) e.0, pop_push k v (onto vs s) e.0, tops_onto tokens vs s e.1) refl

below_onto : {ks : List Kind} (vs : Things ks) (s : Columns) → all_real ks ≡ true → below ks (onto vs s) ≡ s
below_onto none s h = refl
below_onto (◌⸴◌ {k = k} {ks = ks} v vs) s h =
    let e = both (is_real k) (all_real ks) h in
    ap (below ks) (pop_push k v (onto vs s) e.0) ∙ below_onto vs s e.1

-- ---- the actions of the grammar

action_has : (test : Action → Bool) (actions : List Action) (p : ℕ) → list_all test actions ≡ true →
    test EmptyModule ≡ true → test (action_in actions p) ≡ true
action_has test [] p h e = e
action_has test (a ∷ actions) zero h e = (both (test a) (list_all test actions) h).0
action_has test (a ∷ actions) (suc p) h e =
    action_has test actions p (both (test a) (list_all test actions) h).1 e

takes_real : (p : ℕ) → all_real (takes (action_at p)) ≡ true
unfolding takes
takes_real p = action_has (λ a. all_real (takes a)) elm_actions p refl refl

pub used_at : (p : ℕ) → is_used (action_at p) ≡ true
used_at p = action_has is_used elm_actions p refl refl

-- ---- steps

applied : (tokens : List Token) (p : ℕ) (us : Things (takes (action_at p))) (s : Columns) →
    apply tokens (action_at p) (onto us s) ≡ push (gives (action_at p)) (made (action_at p) us) s
applied tokens p us s = rw (tops_onto tokens us s (takes_real p), below_onto us s (takes_real p)) refl

means_runs : (tokens : List Token) {x : Tree} {ks : List Kind} {vs : Things ks} → Means tokens x ks vs →
    (es : List Step) → run tokens (steps_of x ++ es) ≡ onto vs (run tokens es)
means_runs tokens nothing es = refl
means_runs tokens (a_word {t = t} m) es = ap (after_step tokens (Read t)) (means_runs tokens m es)
means_runs tokens (a_node {p = p} {x = x} {y = y} {us = us} {vs = vs} m n) es =
    let later = means_runs tokens n es in
    let all = means_runs tokens m (steps_of y ++ es) in
    ap (λ z. apply tokens (action_at p) (run tokens z)) (append_assoc (steps_of x) (steps_of y) es) ∙
    (ap (apply tokens (action_at p)) (all ∙ ap (onto us) later) ∙ applied tokens p us (onto vs (run tokens es)))

-- the steps of a derivation leave its value on top
pub runs_as : (tokens : List Token) (k : Kind) (x : Tree) (v : Thing k) (steps : List Step) → is_real k ≡ true →
    steps_of x ≡ steps → Means tokens x (k ∷ []) (◌⸴◌ {k = k} v none) → top tokens k (run tokens steps) ≡ v
runs_as tokens k x v steps h e m =
    ap (λ z. top tokens k (run tokens z)) (sym e ∙ sym (append-nil (steps_of x))) ∙
    (ap (top tokens k) (means_runs tokens m []) ∙ top_push tokens k v (run tokens []) h)
