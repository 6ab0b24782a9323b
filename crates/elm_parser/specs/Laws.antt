-- What is read and which fault is reported are determined by the tokens.
use Rattle.std.specs.Prelude.{◌≡◌, ℕ, ◌<◌, List}
use Rattle.elm_lexer.specs.Tokens.{Token, Fault}
use Rattle.elm_tree.specs.Tree as tree
use Rattle.parse_machine.specs.declared.table.Token as machine
use Rattle.elm_grammar.specs.Table.{nonterminals}
use Rattle.elm_grammar.specs.Values.{Kind, Thing}
use Rattle.elm_parser.specs.Standing.{Finding}
use Rattle.elm_parser.specs.Reading.{Reads, Faulty, ReadsFront, FrontFaulty}
use Rattle.elm_parser.specs.Parsed.{IsText, HasTextFault}

-- one tree or one fault, and not both
pub record OneOrOther : Type 0 where
  pub one_tree : (tokens : List Token) (n column : ℕ) (k : Kind) (v w : Thing k) (ts : List machine.Token) →
      n < nonterminals → Reads tokens n column k v ts → Reads tokens n column k w ts → v ≡ w
  pub one_fault : (tokens : List Token) (n column : ℕ) (ts : List machine.Token) (f g : Finding) →
      Faulty tokens n column ts f → Faulty tokens n column ts g → f ≡ g
  pub not_both : (tokens : List Token) (n column : ℕ) (k : Kind) (v : Thing k) (ts : List machine.Token) (f : Finding) →
      Reads tokens n column k v ts → Faulty tokens n column ts f → ⊥

pub record OneOrOtherFront : Type 0 where
  pub one_tree : (tokens : List Token) (n column : ℕ) (k : Kind) (v w : Thing k) (rest left : List machine.Token) →
      n < nonterminals → ReadsFront tokens n column k v rest → ReadsFront tokens n column k w left →
      (v ≡ w) × (rest ≡ left)
  pub one_fault : (tokens : List Token) (n column : ℕ) (f g : Finding) →
      FrontFaulty tokens n column f → FrontFaulty tokens n column g → f ≡ g
  pub not_both : (tokens : List Token) (n column : ℕ) (k : Kind) (v : Thing k) (rest : List machine.Token)
      (f : Finding) → ReadsFront tokens n column k v rest → FrontFaulty tokens n column f → ⊥

pub record OneOrOtherText : Type 0 where
  pub one_tree : (text : List ℕ) (ts us : List Token) (m w : tree.Module) → IsText text ts m → IsText text us w →
      (ts ≡ us) × (m ≡ w)
  pub one_fault : (text : List ℕ) (f g : Fault) → HasTextFault text f → HasTextFault text g → f ≡ g
  pub not_both : (text : List ℕ) (ts : List Token) (m : tree.Module) (f : Fault) → IsText text ts m →
      HasTextFault text f → ⊥
