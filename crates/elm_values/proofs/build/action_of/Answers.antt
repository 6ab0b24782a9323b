-- What `get` reads is the action at that place, and past the last one it is the empty module.
use Rattle.std.proofs.Common.{◌≡◌, ℕ, zero, suc, ◌<◌, ◌≤◌, List, [], ◌∷◌, length, get_or, true, false, nat_lt, refl}
use Rattle.std.proofs.Common.{arith}
use Rattle.std.proofs.lemmas.Bool.Decides.{nat_tests}
use Rattle.elm_grammar.specs.declared.action.Action.{Action}
use Rattle.elm_grammar.specs.declared.action.Action.TheVariants.{EmptyModule}
use Rattle.elm_grammar.specs.Meaning.{action_in}
use Rattle.elm_values.proofs.build.action_of.Goals as goal

is_below : (p n : ℕ) → true ≡ nat_lt p n → p < n
is_below p n e = grind (arith, nat_tests)

is_past : (p n : ℕ) → false ≡ nat_lt p n → n ≤ p
is_past p n e = grind (arith, nat_tests)

at_place : (actions : List Action) (p : ℕ) (a : Action) → p < length actions → a ≡ get_or actions p a →
    a ≡ action_in actions p
at_place [] p a h e = absurd (omega arith)
at_place (x ∷ actions) zero a h e = e
at_place (x ∷ actions) (suc p) a h e = at_place actions p a (omega arith) e

past_all : (actions : List Action) (p : ℕ) → length actions ≤ p → EmptyModule ≡ action_in actions p
past_all [] p h = refl
past_all (x ∷ actions) zero h = absurd (omega arith)
past_all (x ∷ actions) (suc p) h = past_all actions p (omega arith)

pub returns-in-Some : goal.returns-in-Some
returns-in-Some c =
    let actions = c.args.actions.now in
    at_place actions c.args.rule c.in-Some.action.now
    (is_below c.args.rule (length actions) c.in-Some.ensures.lookup.0) c.in-Some.ensures.lookup.1

pub returns-in-None : goal.returns-in-None
returns-in-None c =
    let actions = c.args.actions.now in
    past_all actions c.args.rule (is_past c.args.rule (length actions) c.in-None.ensures.lookup.0)
