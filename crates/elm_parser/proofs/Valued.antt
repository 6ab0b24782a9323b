-- What is built of the steps of a derivation is what its tokens spell.
use Rattle.std.proofs.Common.{◌≡◌, ℕ, List, [], ◌∷◌, refl, sym, subst}
use Rattle.elm_lexer.specs.Tokens.{Token}
use Rattle.parse_machine.specs.declared.table.Symbol.TheVariants.{Part}
use Rattle.parse_machine.specs.declared.table.Step.{Step}
use Rattle.parse_machine.specs.declared.table.Token as machine
use Rattle.parse_machine.specs.Grammar.{Tree, IsReading}
use Rattle.elm_grammar.specs.Classes.{classed}
use Rattle.elm_grammar.specs.Table.{elm}
use Rattle.elm_grammar.specs.Kinded.{kinds_of}
use Rattle.elm_grammar.specs.Table as table
use Rattle.elm_grammar.specs.Values.{Kind, One, Thing, gives}
use Rattle.elm_grammar.specs.declared.action.Item.TheVariants as item
use Rattle.elm_grammar.specs.Meaning.{Things, none, ◌⸴◌, Means, Spells}
use Rattle.elm_grammar.proofs.Sense.{has_meaning}
use Rattle.elm_values.specs.Building.{Builds}
use Rattle.elm_parser.specs.Reading.{Reads, ReadsFront}
use Rattle.elm_parser.specs.Steps.{HasSteps, HasFrontSteps}

-- ---- the kinds of the readers

pub module_kind : kinds_of (Part table.Module ∷ []) ≡ One item.Module ∷ []
unfolding gives
module_kind = refl

pub head_kind : kinds_of (Part table.Head ∷ []) ≡ One item.Module ∷ []
unfolding gives
head_kind = refl

pub type_kind : kinds_of (Part table.Typing ∷ []) ≡ One item.TypeTree ∷ []
unfolding gives
type_kind = refl

pub pattern_kind : kinds_of (Part table.Pattern ∷ []) ≡ One item.Pattern ∷ []
unfolding gives
pattern_kind = refl

pub expr_kind : kinds_of (Part table.Expression ∷ []) ≡ One item.Expr ∷ []
unfolding gives
expr_kind = refl

-- ---- what is built

single : (tokens : List Token) (x : Tree) (k : Kind) (vs : Things (k ∷ [])) → Means tokens x (k ∷ []) vs →
    (w : Thing k) × Means tokens x (k ∷ []) (◌⸴◌ {k = k} w none)
single tokens x k (◌⸴◌ w none) m = (w, m)

valued : (tokens : List Token) (n column : ℕ) (k : Kind) (v : Thing k) (ts : List machine.Token) (steps : List Step) →
    kinds_of (Part n ∷ []) ≡ k ∷ [] → IsReading elm (Part n ∷ []) column ts steps → Builds tokens k steps v →
    Spells tokens n column k v ts
valued tokens n column k v ts steps e r b =
    let m = subst (λ ks. (vs : Things ks) × Means tokens r.tree ks vs) e (has_meaning tokens r.spells) in
    let w = single tokens r.tree k m.0 m.1 in
    record {
      derivation = r.tree;
      derived = r.spells;
      means = subst (λ z. Means tokens r.tree (k ∷ []) (◌⸴◌ {k = k} z none)) (sym (b r.tree w.0 r.listed w.1)) w.1;
    }

pub read_whole : (tokens : List Token) (n column : ℕ) (k : Kind) (v : Thing k) (steps : List Step) →
    kinds_of (Part n ∷ []) ≡ k ∷ [] → HasSteps tokens n column steps → Builds tokens k steps v →
    Reads tokens n column k v (classed tokens)
read_whole tokens n column k v steps e h b =
    record { spells = valued tokens n column k v (classed tokens) steps e h.0 b; clean = h.1 }

pub read_front : (tokens : List Token) (n column : ℕ) (k : Kind) (v : Thing k) (rest : List machine.Token)
    (steps : List Step) → kinds_of (Part n ∷ []) ≡ k ∷ [] → HasFrontSteps tokens n column rest steps →
    Builds tokens k steps v → ReadsFront tokens n column k v rest
read_front tokens n column k v rest steps e h b = record {
  front = h.0.front;
  longest = h.0.longest;
  reads = record { spells = valued tokens n column k v h.0.front steps e h.0.reading b; clean = h.1 };
}
