-- A derivation found by trying the productions in turn, and its value, both computed. The worked examples use it.
use Rattle.std.specs.Prelude.{ℕ, zero, suc, ◌/◌, ◌%◌, ◌^◌, List, [], ◌∷◌, Bool, true, false, ◌&&◌, nat_eq, nat_lt}
use Rattle.std.specs.Prelude.{Option, Some, None}
use Rattle.elm_lexer.specs.Tokens.{Token}
use Rattle.elm_tree.specs.Words.{token_at}
use Rattle.parse_machine.specs.declared.table.Symbol.{Symbol}
use Rattle.parse_machine.specs.declared.table.Symbol.TheVariants.{Word, Part, Line, Block}
use Rattle.parse_machine.specs.declared.table.Token as machine
use Rattle.parse_machine.specs.Grammar.{Production, ◌⟶◌, Place, inside, leading, Tree, leaf, node}
use Rattle.parse_machine.specs.Grammar as grammar
use Rattle.elm_grammar.specs.declared.action.Item.{Item}
use Rattle.elm_grammar.specs.declared.action.Item.TheVariants as item
use Rattle.elm_grammar.specs.Classes.{classed}
use Rattle.elm_grammar.specs.Table.{elm}
use Rattle.elm_grammar.specs.Values.{Kind, One, Many, Thing, thing_of, takes, gives}
use Rattle.elm_grammar.specs.Meaning.{Things, none, ◌⸴◌, action_at, made}

-- ---- derivations

abbrev pub stands : Place → ℕ → machine.Token → Bool
stands inside c t = nat_lt c t.column
stands leading c t = nat_eq t.column c

abbrev pub holds : ℕ → ℕ → Bool
holds set k = nat_lt k 64 && nat_eq ((set / 2 ^ k) % 2) 1

-- the productions of a nonterminal, each with its number
abbrev pub Numbered : Type 0
Numbered = ℕ × List Symbol

abbrev pub with_option : Bool → Numbered → List Numbered → List Numbered
with_option true o os = o ∷ os
with_option false o os = os

abbrev pub options_from : ℕ → ℕ → List Production → List Numbered
options_from k p [] = []
options_from k p ((n ⟶ r) ∷ g) = with_option (nat_eq n k) (p, r) (options_from k (suc p) g)

abbrev pub options : List Production → Bool → ℕ → List Numbered
options g false k = []
options g true k = options_from k 0 g

abbrev pub Found : Type 0
Found = Tree × List machine.Token

pub data Task : Type 0 where
  -- derive the symbols from the tokens
  Derive : Place → ℕ → List Symbol → List machine.Token → Task
  -- the token fits, or not
  Matched : Bool → ℕ → machine.Token → List Symbol → List machine.Token → Task
  -- one of these productions, at that place and column, and then the symbols under their own column
  Among : List Numbered → Place → ℕ → ℕ → List Symbol → List machine.Token → Task
  -- the first of them was tried
  Tried : Option Found → ℕ → List Numbered → Place → ℕ → ℕ → List Symbol → List machine.Token → Task

abbrev pub put_word : machine.Token → Option Found → Option Found
put_word t None = None
put_word t (Some q) = Some (grammar.word t q.0, q.1)

abbrev pub put_node : ℕ → Tree → Option Found → Option Found
put_node p x None = None
put_node p x (Some q) = Some (node p x q.0, q.1)

-- at most so many tasks deep
abbrev pub seek : List Production → ℕ → Task → Option Found
seek g zero task = None
seek g (suc n) (Derive m c [] ts) = Some (leaf, ts)
seek g (suc n) (Derive m c (Word set ∷ ss) []) = None
seek g (suc n) (Derive m c (Word set ∷ ss) (t ∷ ts)) =
    seek g n (Matched (stands m c t && holds set t.class) c t ss ts)
seek g (suc n) (Derive m c (Part k ∷ ss) ts) = seek g n (Among (options g true k) m c c ss ts)
seek g (suc n) (Derive inside c (Line k ∷ ss) ts) = seek g n (Among (options g true k) leading c c ss ts)
seek g (suc n) (Derive leading c (Line k ∷ ss) ts) = None
seek g (suc n) (Derive inside c (Block k ∷ ss) []) = None
seek g (suc n) (Derive inside c (Block k ∷ ss) (t ∷ ts)) =
    seek g n (Among (options g (nat_lt c t.column) k) inside t.column c ss (t ∷ ts))
seek g (suc n) (Derive leading c (Block k ∷ ss) ts) = None
seek g (suc n) (Matched false c t ss ts) = None
seek g (suc n) (Matched true c t ss ts) = put_word t (seek g n (Derive inside c ss ts))
seek g (suc n) (Among [] m b c ss ts) = None
seek g (suc n) (Among (o ∷ os) m b c ss ts) = seek g n (Tried (seek g n (Derive m b o.1 ts)) o.0 os m b c ss ts)
seek g (suc n) (Tried None p os m b c ss ts) = seek g n (Among os m b c ss ts)
seek g (suc n) (Tried (Some q) p os m b c ss ts) = put_node p q.0 (seek g n (Derive inside c ss q.1))

-- ---- values

-- what is an item i, if i is j
abbrev pub cast : (F : Item → Type 0) (i j : Item) → F i → Option (F j)
cast F item.Word item.Word x = Some x
cast F item.Module item.Module x = Some x
cast F item.Header item.Header x = Some x
cast F item.Exposing item.Exposing x = Some x
cast F item.Exposed item.Exposed x = Some x
cast F item.Import item.Import x = Some x
cast F item.Declaration item.Declaration x = Some x
cast F item.Rest item.Rest x = Some x
cast F item.Constructor item.Constructor x = Some x
cast F item.TypeTree item.TypeTree x = Some x
cast F item.FieldType item.FieldType x = Some x
cast F item.Pattern item.Pattern x = Some x
cast F item.Expr item.Expr x = Some x
cast F item.Part item.Part x = Some x
cast F item.Chain item.Chain x = Some x
cast F item.AfterMinus item.AfterMinus x = Some x
cast F item.Record item.Record x = Some x
cast F item.Branch item.Branch x = Some x
cast F item.Definition item.Definition x = Some x
cast F _ _ x = None

abbrev pub cast_thing : (j k : Kind) → Thing j → Option (Thing k)
cast_thing (One i) (One j) x = cast thing_of i j x
cast_thing (Many i) (Many j) xs = cast (λ l. List (thing_of l)) i j xs
cast_thing _ _ x = None

abbrev pub paired : (k : Kind) (ks : List Kind) → Option (Thing k) → Option (Things ks) → Option (Things (k ∷ ks))
paired k ks (Some v) (Some vs) = Some (◌⸴◌ {k = k} v vs)
paired k ks _ _ = None

abbrev pub cast_made : (k : Kind) (p : ℕ) → Option (Things (takes (action_at p))) → Option (Thing k)
cast_made k p (Some us) = cast_thing (gives (action_at p)) k (made (action_at p) us)
cast_made k p None = None

-- the values of these kinds that a derivation stands for, if it does
abbrev pub values : List Token → (ks : List Kind) → Tree → Option (Things ks)
values tokens [] leaf = Some none
values tokens [] _ = None
values tokens (k ∷ ks) leaf = None
values tokens (k ∷ ks) (grammar.word t x) =
    paired k ks (cast_thing (One item.Word) k (token_at tokens t.index)) (values tokens ks x)
values tokens (k ∷ ks) (node p x y) =
    paired k ks (cast_made k p (values tokens (takes (action_at p)) x)) (values tokens ks y)

abbrev pub only : (k : Kind) → Option (Things (k ∷ [])) → Option (Thing k)
only k (Some (v ⸴ none)) = Some v
only k None = None

-- ---- texts

-- the derivation of all of the tokens
abbrev pub whole : Option Found → Option Tree
whole (Some (x, [])) = Some x
whole _ = None

abbrev pub derived : ℕ → ℕ → List Token → Option Tree
derived n column tokens = whole (seek elm 4000 (Derive inside column (Part n ∷ []) (classed tokens)))

abbrev pub value_of : List Token → (k : Kind) → Option Tree → Option (Thing k)
value_of tokens k (Some x) = only k (values tokens (k ∷ []) x)
value_of tokens k None = None

-- what the tokens spell as nonterminal n under the column, if anything
abbrev pub read : (n column : ℕ) (k : Kind) → List Token → Option (Thing k)
read n column k tokens = value_of tokens k (derived n column tokens)
