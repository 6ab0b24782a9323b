-- What a derivation stands for, and what tokens spell.
use Rattle.std.specs.Prelude.{ℕ, zero, suc, List, [], ◌∷◌}
use Rattle.elm_lexer.specs.Tokens.{Token}
use Rattle.elm_tree.specs.Words.{token_at}
use Rattle.parse_machine.specs.declared.table.Token as machine
use Rattle.parse_machine.specs.declared.table.Symbol.TheVariants.{Part}
use Rattle.parse_machine.specs.Grammar.{Tree, leaf, word, node}
use Rattle.parse_machine.specs.Grammar as grammar
use Rattle.elm_grammar.specs.declared.action.Action.{Action}
use Rattle.elm_grammar.specs.declared.action.Action.TheVariants.{EmptyModule}
use Rattle.elm_grammar.specs.declared.action.Item.TheVariants as item
use Rattle.elm_grammar.specs.Table.{elm, elm_actions}
use Rattle.elm_grammar.specs.Values.{Kind, One, Thing, Function, takes, gives, act}

-- a value of each kind
pub data Things : List Kind → Type 0 where
  none : Things []
  ◌⸴◌ : {k : Kind} {ks : List Kind} → Thing k → Things ks → Things (k ∷ ks)

infixr 40 ◌⸴◌
abbrev pub apply : (ks : List Kind) (k : Kind) → Function ks k → Things ks → Thing k
apply [] k f none = f
apply (j ∷ js) k f (v ⸴ vs) = apply js k (f v) vs

-- the action of a production
abbrev pub action_in : List Action → ℕ → Action
action_in [] p = EmptyModule
action_in (a ∷ rest) zero = a
action_in (a ∷ rest) (suc p) = action_in rest p

abbrev pub action_at : ℕ → Action
action_at p = action_in elm_actions p

-- what an action makes of these values
abbrev pub made : (a : Action) → Things (takes a) → Thing (gives a)
made a vs = apply (takes a) (gives a) (act a) vs

-- the values of what a derivation stands for: of a word its token, of a production what its action makes of the
-- values below it
pub data Means (tokens : List Token) : Tree → (ks : List Kind) → Things ks → Type 0 where
  nothing : Means tokens leaf [] none
  a_word : {t : machine.Token} {x : Tree} {ks : List Kind} {vs : Things ks} →
      Means tokens x ks vs → Means tokens (word t x) (One item.Word ∷ ks) (◌⸴◌ {k =
      One item.Word} (token_at tokens t.index) vs)
  a_node : {p : ℕ} {x y : Tree} {ks : List Kind} {us : Things (takes (action_at p))} {vs : Things ks} →
      Means tokens x (takes (action_at p)) us → Means tokens y ks vs →
      Means tokens (node p x y) (gives (action_at p) ∷ ks) (◌⸴◌ {k = gives (action_at p)} (made (action_at p) us) vs)

-- the tokens ts of a text spell v, which nonterminal n stands for under the enclosing column
pub record Spells (tokens : List Token) (n column : ℕ) (k : Kind) (v : Thing k) (ts : List machine.Token) : Type 0 where
  pub derivation : Tree
  pub derived : grammar.Spells elm (Part n ∷ []) column derivation ts
  pub means : Means tokens derivation (k ∷ []) (◌⸴◌ {k = k} v none)
