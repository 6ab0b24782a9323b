-- Each derivation has a value of the kind of its nonterminal.
use Rattle.std.proofs.Common.{◌≡◌, ℕ, zero, suc, List, [], ◌∷◌, Some, cond, nat_eq, map, refl, sym, ap, subst, ◌∙◌}
use Rattle.elm_lexer.specs.Tokens.{Token}
use Rattle.elm_tree.specs.Words.{token_at}
use Rattle.parse_machine.specs.declared.table.Symbol.{Symbol}
use Rattle.parse_machine.specs.declared.table.Symbol.TheVariants.{Word, Part, Line, Block}
use Rattle.parse_machine.specs.declared.table.Token as machine
use Rattle.parse_machine.specs.Grammar.{◌⟶◌, production, Is, Place, Calls, a_part, a_line, a_block, Tree, leaf, node}
use Rattle.parse_machine.specs.Grammar.{Derives}
use Rattle.parse_machine.specs.Grammar as grammar
use Rattle.elm_grammar.specs.declared.action.Item.TheVariants as item
use Rattle.elm_grammar.specs.Table.{elm, elm_rules, elm_actions, Ruled, ◌by◌, rule, action}
use Rattle.elm_grammar.specs.Values.{Kind, One, takes, gives}
use Rattle.elm_grammar.specs.Kinded.{kind_in, kind_of, kinds_of}
use Rattle.elm_grammar.specs.Meaning.{Things, none, ◌⸴◌, action_in, action_at, made, Means, nothing, a_word, a_node}

-- each action takes what its production stands for, and gives what its nonterminal is
abbrev Fits : List Ruled → Type 0
Fits [] = Unit {0}
Fits ((m ⟶ r by a) ∷ rs) = (takes a ≡ kinds_of r) × (gives a ≡ kind_in elm_rules m) × Fits rs

fitting : Fits elm_rules
unfolding takes gives
fitting = (refl, refl, (refl, refl, (refl, refl, (refl, refl, (refl, refl, (refl, refl, (refl, refl, (refl, refl, (refl, refl, (refl, refl, (refl, refl, (refl, refl, (refl, refl, (refl, refl, (refl, refl, (refl, refl, (refl, refl, (refl, refl, (refl, refl, (refl, refl, (refl, refl, (refl, refl, (refl, refl, (refl, refl, (refl, refl, (refl, refl, (refl, refl, (refl, refl, (refl, refl, (refl, refl, (refl, refl, (refl, refl, (refl, refl, (refl, refl, (refl, refl, (refl, refl, (refl, refl, (refl, refl, (refl, refl, (refl, refl, (refl, refl, (refl, refl, (refl, refl, (refl, refl, (refl, refl, (refl, refl, (refl, refl, (refl, refl, (refl, refl, (refl, refl, (refl, refl, (refl, refl, (refl, refl, (refl, refl, (refl, refl, (refl, refl, (refl, refl, (refl, refl, (refl, refl, (refl, refl, (refl, refl, (refl, refl, (refl, refl, (refl, refl, (refl, refl, (refl, refl, (refl, refl, (refl, refl, (refl, refl, (refl, refl, (refl, refl, (refl, refl, (refl, refl, (refl, refl, (refl, refl, (refl, refl, (refl, refl, (refl, refl, (refl, refl, (refl, refl, (refl, refl, (refl, refl, (refl, refl, (refl, refl, (refl, refl, (refl, refl, (refl, refl, (refl, refl, (refl, refl, (refl, refl, (refl, refl, (refl, refl, (refl, refl, (refl, refl, (refl, refl, (refl, refl, (refl, refl, (refl, refl, (refl, refl, (refl, refl, (refl, refl, (refl, refl, (refl, refl, (refl, refl, (refl, refl, (refl, refl, (refl, refl, (refl, refl, (refl, refl, (refl, refl, (refl, refl, (refl, refl, (refl, refl, (refl, refl, (refl, refl, (refl, refl, (refl, refl, (refl, refl, (refl, refl, (refl, refl, (refl, refl, (refl, refl, (refl, refl, (refl, refl, (refl, refl, (refl, refl, (refl, refl, (refl, refl, (refl, refl, (refl, refl, (refl, refl, (refl, refl, (refl, refl, (refl, refl, (refl, refl, (refl, refl, (refl, refl, (refl, refl, (refl, refl, (refl, refl, (refl, refl, (refl, refl, (refl, refl, (refl, refl, (refl, refl, (refl, refl, (refl, refl, (refl, refl, (refl, refl, (refl, refl, (refl, refl, (refl, refl, (refl, refl, (refl, refl, (refl, refl, (refl, refl, (refl, refl, tt)))))))))))))))))))))))))))))))))))))))))))))))))))))))))))))))))))))))))))))))))))))))))))))))))))))))))))))))))))))))))))))))))))))))))))))))))))))))))))))

fits_at : (rs : List Ruled) (p n : ℕ) (r : List Symbol) → Fits rs → production (map rule rs) p ≡ Some (n ⟶ r) →
    (takes (action_in (map action rs) p) ≡ kinds_of r) × (gives (action_in (map action rs) p) ≡ kind_in elm_rules n)
fits_at [] p n r k e = absurd cc
fits_at ((m ⟶ q by a) ∷ rs) zero n r k e =
    let f : q ≡ r = cc in
    let g : m ≡ n = cc in
    (k.0 ∙ ap kinds_of f, k.1 ∙ ap (kind_in elm_rules) g)
fits_at ((m ⟶ q by a) ∷ rs) (suc p) n r k e = fits_at rs p n r k.2 e

kind_called : {m l : Place} {c b n : ℕ} {s : Symbol} → Calls m c s n l b → kind_of s ≡ kind_in elm_rules n
kind_called a_part = refl
kind_called a_line = refl
kind_called (a_block w) = refl

-- a value of these kinds
abbrev Meant : List Token → Tree → List Kind → Type 0
Meant tokens x ks = (vs : Things ks) × Means tokens x ks vs

joined : (tokens : List Token) (p : ℕ) (x y : Tree) (rs ks : List Kind) (k : Kind) → takes (action_at p) ≡ rs →
    gives (action_at p) ≡ k → Meant tokens x rs → Meant tokens y ks → Meant tokens (node p x y) (k ∷ ks)
joined tokens p x y rs ks k e f u v =
    let w = subst (Meant tokens x) (sym e) u in
    subst (λ z. Meant tokens (node p x y) (z ∷ ks)) f
    (◌⸴◌ {k = gives (action_at p)} (made (action_at p) w.0) v.0, a_node w.1 v.1)

pub has_meaning : (tokens : List Token) {m : Place} {c : ℕ} {ss : List Symbol} {x : Tree} {ts rest : List machine.Token} →
    Derives elm m c ss x ts rest → Meant tokens x (kinds_of ss)
has_meaning tokens grammar.nothing = (none, nothing)
has_meaning tokens (grammar.a_word {t = t} e st d) =
    let u = has_meaning tokens d in
    (◌⸴◌ {k = One item.Word} (token_at tokens t.index) u.0, a_word u.1)
has_meaning tokens (grammar.a_node {n = n} {p = p} {r = r} {ss = ss} {x = x} {y = y} k i d f) =
    let e = fits_at elm_rules p n r fitting i in
    joined tokens p x y (kinds_of r) (kinds_of ss) _ e.0 (e.1 ∙ sym (kind_called k)) (has_meaning tokens d)
    (has_meaning tokens f)
