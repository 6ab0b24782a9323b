-- The tree and the fault are determined by the tokens, and there are not both.
use Rattle.std.proofs.Common.{◌≡◌, ℕ, ◌≤◌, ◌<◌, List, [], ◌∷◌, length, true, ◌⊎◌, inl, inr, refl, sym, ap, subst, ◌∙◌}
use Rattle.std.proofs.Common.{arith}
use Rattle.elm_base.specs.declared.fault.Code.{Code}
use Rattle.elm_base.specs.declared.fault.Code.TheVariants.{Syntax}
use Rattle.elm_lexer.specs.Tokens.{Token, Tokens, Fault, HasFault, first_place, place_after}
use Rattle.elm_lexer.proofs.Same.{same_tokens, same_faults, fault_alone}
use Rattle.elm_tree.specs.Tree as tree
use Rattle.parse_machine.specs.declared.table.Row.{Row}
use Rattle.parse_machine.specs.declared.table.Token as machine
use Rattle.parse_machine.specs.Grammar.{Tree}
use Rattle.parse_machine.specs.Planned.{planned}
use Rattle.elm_grammar.specs.Classes.{classed}
use Rattle.elm_grammar.specs.Table as table
use Rattle.elm_grammar.specs.Table.{elm, nonterminals}
use Rattle.elm_grammar.specs.Values.{Kind, One, Thing}
use Rattle.elm_grammar.specs.declared.action.Item.TheVariants as item
use Rattle.elm_grammar.specs.Meaning.{Means, none, ◌⸴◌}
use Rattle.elm_grammar.proofs.Found.{one_value}
use Rattle.elm_parser.specs.Standing.{Finding, Stands, NotAfter, number_of, IsFirst}
use Rattle.elm_parser.specs.Reading.{Reads, Faulty, early, syntax_at, ReadsFront, FrontFaulty, ReadsModule}
use Rattle.elm_parser.specs.Laws.{OneOrOther, OneOrOtherFront, OneOrOtherText}
use Rattle.elm_parser.specs.Parsed.{IsText, HasTextFault, of_text, of_tokens, ModuleFault}
use Rattle.elm_parser.specs.Reported.{reported, IsReported}
use Rattle.elm_parser.proofs.Unique.{one_derivation}
use Rattle.elm_parser.proofs.Fronts.{one_front}
use Rattle.elm_parser.proofs.Codes.{code_of, stands_coded}

-- ---- faults

same_place : (f g : Finding) → NotAfter f g → NotAfter g f → (f.0 ≡ g.0) × (number_of f.1 ≡ number_of g.1)
same_place f g (inl a) (inl b) = absurd (omega (arith, a, b))
same_place f g (inl a) (inr b) = absurd (omega (arith, a, b.0))
same_place f g (inr a) (inl b) = absurd (omega (arith, a.0, b))
same_place f g (inr a) (inr b) = (a.0, omega (arith, a.1, b.1))

pairs : (f g : Finding) → f.0 ≡ g.0 → f.1 ≡ g.1 → f ≡ g
pairs (i, c) (j, d) e h = ap with_code e ∙ ap at h
  where
    with_code : ℕ → Finding
    with_code z = (z, c)

    at : Code → Finding
    at z = (j, z)

first_alone : (tokens : List Token) (n column : ℕ) (ts : List machine.Token) (f g : Finding) →
    IsFirst tokens n column ts f → IsFirst tokens n column ts g → f ≡ g
first_alone tokens n column ts f g h k =
    let s = same_place f g (h.least g k.stands) (k.least f h.stands) in
    pairs f g s.0
    (sym (stands_coded tokens n column ts f h.stands) ∙ ap code_of s.1 ∙ stands_coded tokens n column ts g k.stands)

fault_alike : (tokens : List Token) (n column : ℕ) (ts : List machine.Token) (f g : Finding) →
    Faulty tokens n column ts f → Faulty tokens n column ts g → f ≡ g
fault_alike tokens n column ts f g (early h) (early k) = first_alone tokens n column ts f g h k
fault_alike tokens n column ts f _ (early h) (syntax_at clean r l) = absurd (clean f h.stands)
fault_alike tokens n column ts _ g (syntax_at clean r l) (early k) = absurd (clean g k.stands)
fault_alike tokens n column ts _ _ (syntax_at {front = front} {at = at} clean r l) (syntax_at {front = other} {at = others} c s k) =
    ap (λ (z : List machine.Token). (length z, Syntax)) (one_front n column ts front at other others l k).0

-- ---- trees

tree_alike : (rows : List Row) → planned elm rows ≡ true → (tokens : List Token) (n column : ℕ) (k : Kind) (v w : Thing k)
    (ts : List machine.Token) → n < length rows → Reads tokens n column k v ts → Reads tokens n column k w ts → v ≡ w
tree_alike rows e tokens n column k v w ts l h i =
    let same = one_derivation rows e n column l ts i.spells.derivation h.spells.derivation i.spells.derived h.spells.derived in
    one_value tokens h.spells.derivation k v w h.spells.means
    (subst (λ z. Means tokens z (k ∷ []) (◌⸴◌ {k = k} w none)) same i.spells.means)

apart : (tokens : List Token) (n column : ℕ) (k : Kind) (v : Thing k) (ts : List machine.Token) (f : Finding) →
    Reads tokens n column k v ts → Faulty tokens n column ts f → ⊥
apart tokens n column k v ts f h (early i) = h.clean f i.stands
apart tokens n column k v ts _ h (syntax_at clean refused l) = refused h.spells.derivation h.spells.derived

pub tokens_law : (rows : List Row) → planned elm rows ≡ true → length rows ≡ nonterminals → OneOrOther
tokens_law rows e c = record {
  one_tree = λ tokens n column k v w ts l h i.
      tree_alike rows e tokens n column k v w ts (subst (λ z. n < z) (sym c) l) h i;
  one_fault = fault_alike;
  not_both = apart;
}

-- ---- fronts

pub front_law : (rows : List Row) → planned elm rows ≡ true → length rows ≡ nonterminals → OneOrOtherFront
front_law rows e c = record {
  one_tree = λ tokens n column k v w rest left l h i.
      let s = one_front n column (classed tokens) i.front left h.front rest i.longest h.longest in (
        tree_alike rows e tokens n column k v w h.front (subst (λ z. n < z) (sym c) l) h.reads
            (subst (λ z. Reads tokens n column k w z) s.0 i.reads),
        sym s.1,
      );
  one_fault = λ tokens n column f g h i.
      let s = one_front n column (classed tokens) i.front i.rest h.front h.rest i.longest h.longest in
      fault_alike tokens n column h.front f g h.faulty (subst (λ z. Faulty tokens n column z g) s.0 i.faulty);
  not_both = λ tokens n column k v rest f h i.
      let s = one_front n column (classed tokens) i.front i.rest h.front rest i.longest h.longest in
      apart tokens n column k v h.front f h.reads (subst (λ z. Faulty tokens n column z f) s.0 i.faulty);
}

-- ---- texts

module_fault_alike : (text : List ℕ) (tokens : List Token) (f g : Fault) →
    ModuleFault tokens (place_after first_place text) f → ModuleFault tokens (place_after first_place text) g → f ≡ g
module_fault_alike text tokens f g h i =
    h.2 ∙ ap (reported tokens (place_after first_place text)) (fault_alike tokens table.Module 1 (classed tokens) h.0 i.0 h.1 i.1)
    ∙ sym i.2

pub text_fault_alike : (text : List ℕ) (f g : Fault) → HasTextFault text f → HasTextFault text g → f ≡ g
text_fault_alike text f g (of_text h) (of_text i) = same_faults text f g h i
text_fault_alike text f g (of_text h) (of_tokens {tokens = us} t i) = absurd (fault_alone text f us h t)
text_fault_alike text f g (of_tokens {tokens = ts} t h) (of_text i) = absurd (fault_alone text g ts i t)
text_fault_alike text f g (of_tokens {tokens = ts} t h) (of_tokens {tokens = us} u i) =
    module_fault_alike text ts f g h
    (subst (λ z. ModuleFault z (place_after first_place text) g) (same_tokens text us ts u t) i)

pub text_apart : (text : List ℕ) (ts : List Token) (m : tree.Module) (f : Fault) → IsText text ts m →
    HasTextFault text f → ⊥
text_apart text ts m f h (of_text i) = fault_alone text f ts i h.0
text_apart text ts m f h (of_tokens {tokens = us} u i) =
    let k = subst (λ z. ModuleFault z (place_after first_place text) f) (same_tokens text us ts u h.0) i in
    apart ts table.Module 1 (One item.Module) m (classed ts) k.0 h.1 k.1

pub text_law : (rows : List Row) → planned elm rows ≡ true → length rows ≡ nonterminals → OneOrOtherText
text_law rows e c = record {
  one_tree = λ text ts us m w h i.
      let s = same_tokens text us ts i.0 h.0 in (
        sym s,
        tree_alike rows e ts table.Module 1 (One item.Module) m w (classed ts) (subst (λ z. 0 < z) (sym c) (omega arith))
            h.1 (subst (λ z. ReadsModule z w) s i.1),
      );
  one_fault = text_fault_alike;
  not_both = text_apart;
}
