-- The imports of a text are determined by it.
use Rattle.std.proofs.Common.{◌≡◌, ℕ, List, ap, subst, refl, arith}
use Rattle.elm_lexer.specs.Tokens.{Token, Tokens, Place, Fault}
use Rattle.elm_tree.specs.Tree.{Head}
use Rattle.import_graph.specs.Modules.{Word}
use Rattle.parse_machine.specs.declared.table.Token as machine
use Rattle.elm_grammar.specs.declared.action.Item.TheVariants as item
use Rattle.elm_grammar.specs.Table as table
use Rattle.elm_grammar.specs.Values.{One}
use Rattle.elm_parser.specs.Reading.{ReadsHead, none, some}
use Rattle.elm_parser.specs.Laws.{OneOrOtherFront}
use Rattle.elm_parser.specs.Parsed.{HeadFault}
use Rattle.import_graph.specs.Heads.{words_of, HeadImports, written, no_head, HasImports, too_long, of_tokens, no_tokens}

module _ (law : OneOrOtherFront) (tokens : List Token) where
  one_head : (h g : Head) (rest left : List machine.Token) → ReadsHead tokens h rest → ReadsHead tokens g left → h ≡ g
  one_head h g rest left (none b) (none c) = refl
  one_head h g rest left (none b) (some n r) = absurd (n b)
  one_head h g rest left (some n r) (none c) = absurd (n c)
  one_head h g rest left (some {m = m} n r) (some {m = k} o s) =
      ap (λ x. x.head) (law.one_tree tokens table.Head 1 (One item.Module) m k rest left (omega arith) r s).0

  one_imports : (words others : List Word) → HeadImports tokens words → HeadImports tokens others → words ≡ others
  one_imports words others (written {h = h} {rest = rest} r) (written {h = g} {rest = left} s) = ap words_of (one_head h g rest left r s)
  one_imports words others (written {h = h} {rest = rest} r) (no_head f) = absurd (f h rest r)
  one_imports words others (no_head f) (written {h = g} {rest = left} s) = absurd (f g left s)
  one_imports words others (no_head f) (no_head g) = refl

  -- tokens with a fault in their head begin with none
  pub not_read : (end : Place) (f : Fault) → HeadFault tokens end f → (h : Head) (rest : List machine.Token) → ReadsHead tokens h rest → ⊥
  not_read end f fault h rest (none b) = fault.0 b
  not_read end f fault h rest (some {m = m} n r) = law.not_both tokens table.Head 1 (One item.Module) m rest fault.1.0 r fault.1.1

module _ (law : OneOrOtherFront) (one_tokens : (text : List ℕ) (ts us : List Token) → Tokens text ts → Tokens text us → ts ≡ us) where
  pub one_list : (text : List ℕ) (words others : List Word) → HasImports text words → HasImports text others → words ≡ others
  one_list text words others (too_long l) (too_long m) = refl
  one_list text words others (too_long l) (of_tokens s t h) = absurd (omega (arith, l, s))
  one_list text words others (too_long l) (no_tokens s f) = refl
  one_list text words others (of_tokens s t h) (too_long l) = absurd (omega (arith, l, s))
  one_list text words others (of_tokens {tokens = ts} s t h) (of_tokens {tokens = us} r u k) =
      one_imports law us words others (subst (λ z. HeadImports z words) (one_tokens text ts us t u) h) k
  one_list text words others (of_tokens {tokens = ts} s t h) (no_tokens r f) = absurd (f ts t)
  one_list text words others (no_tokens s f) (too_long l) = refl
  one_list text words others (no_tokens s f) (of_tokens {tokens = us} r u k) = absurd (f us u)
  one_list text words others (no_tokens s f) (no_tokens r g) = refl
