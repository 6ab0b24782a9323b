-- What is taken off the stacks in turn (`took`) gives way to what is made of it (`acted`).
use Rattle.std.proofs.Common.{◌≡◌, ℕ, List, [], ◌∷◌, length, Bool, true, false, not, nat_eq, refl, sym, ap}
use Rattle.std.proofs.lemmas.Result.{on_ok_weaker}
use Rattle.elm_lexer.specs.Tokens.{Token}
use Rattle.elm_tree.specs.Words.{exposed_of}
use Rattle.elm_tree.specs.declared.tree.Word.{Word}
use Rattle.elm_tree.specs.View.{token_view}
use Rattle.elm_grammar.specs.declared.action.Action.TheVariants.{ExposeUpper}
use Rattle.elm_grammar.specs.declared.action.Item.TheVariants as item
use Rattle.elm_grammar.specs.Values.{is_given, One, Many, takes, gives, act}
use Rattle.elm_values.specs.Stack.{held}
use Rattle.elm_values.proofs.Making.{held_none, held_some}
use Rattle.elm_values.proofs.Acting.{acted, done, took}
use Rattle.elm_values.proofs.modules.expose_upper.Goals as goal

given_some : (ts : List Token) → (ts ≡ [] → ⊥) → true ≡ is_given ts
given_some [] h = absurd (h refl)
given_some (t ∷ ts) h = refl

-- some words are given if their list is not empty
given_seen : (tokens : List Token) (xs : List Word) (b : Bool) {n : ℕ} → n ≡ length xs → b ≡ nat_eq n 0 →
    not b ≡ is_given (held (token_view tokens) xs)
given_seen tokens xs true e h = ap is_given (sym (held_none (token_view tokens) xs e h))
given_seen tokens xs false e h =
    given_some (held (token_view tokens) xs) (held_some (token_view tokens) xs e h)

pub returns : goal.returns
unfolding takes gives act
returns c =
    on_ok_weaker c.put_exposed.result
    (λ e tokens.
    acted ExposeUpper
    (took (One item.Word) (c.take_word-name.ensures.value tokens) (c.take_word-name.ensures.rest tokens)
    (took (Many item.Word) (c.take_words.ensures.value tokens) (c.take_words.ensures.rest tokens)
    (done tokens _)))
    (ap (exposed_of (token_view tokens c.take_word-name.result))
    (given_seen tokens c.take_words.result.items c.is_empty-is_open.result c.take_words.result.ok.0
    c.is_empty-is_open.ensures)) (e tokens)) c.put_exposed.ensures
