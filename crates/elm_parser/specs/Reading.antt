-- What the readers of modules, heads, types, patterns and expressions answer.
use Rattle.std.specs.Prelude.{◌≡◌, ℕ, List, [], ◌∷◌, length, None}
use Rattle.elm_base.specs.declared.fault.Code.TheVariants.{Syntax}
use Rattle.elm_lexer.specs.declared.token.Kind.TheVariants as token_kind
use Rattle.elm_lexer.specs.Tokens.{Token}
use Rattle.elm_tree.specs.Tree as tree
use Rattle.parse_machine.specs.declared.table.Symbol.TheVariants.{Part}
use Rattle.parse_machine.specs.declared.table.Token as machine
use Rattle.parse_machine.specs.Grammar.{IsLongest, IsRefused}
use Rattle.elm_grammar.specs.declared.action.Item.TheVariants as item
use Rattle.elm_grammar.specs.Classes.{classed}
use Rattle.elm_grammar.specs.Table as table
use Rattle.elm_grammar.specs.Table.{elm}
use Rattle.elm_grammar.specs.Values.{Kind as ValueKind, One, Thing, Begun}
use Rattle.elm_grammar.specs.Meaning.{Spells}
use Rattle.elm_parser.specs.Standing.{Finding, IsFirst, IsClean}

-- ---- all of the tokens

-- the tokens spell v, and no fault stands in them
pub record Reads (tokens : List Token) (n column : ℕ) (k : ValueKind) (v : Thing k)
    (ts : List machine.Token) : Type 0 where
  pub spells : Spells tokens n column k v ts
  pub clean : IsClean tokens n column ts

-- the fault of the tokens: the first one that stands, or else, where they spell nothing, after the longest front that
-- begins a text
pub data Faulty (tokens : List Token) (n column : ℕ) (ts : List machine.Token) : Finding → Type 0 where
  early : {f : Finding} → IsFirst tokens n column ts f → Faulty tokens n column ts f
  syntax_at : {front at : List machine.Token} →
      IsClean tokens n column ts → IsRefused elm (Part n ∷ []) column ts →
      IsLongest elm (Part n ∷ []) column ts front at →
      Faulty tokens n column ts (length front, Syntax)

-- ---- the longest front of the tokens that begins a text

-- this front spells v, no fault stands in it, and rest follows it
pub record ReadsFront (tokens : List Token) (n column : ℕ) (k : ValueKind) (v : Thing k)
    (rest : List machine.Token) : Type 0 where
  pub front : List machine.Token
  pub longest : IsLongest elm (Part n ∷ []) column (classed tokens) front rest
  pub reads : Reads tokens n column k v front

-- the fault of this front
pub record FrontFaulty (tokens : List Token) (n column : ℕ) (f : Finding) : Type 0 where
  pub front : List machine.Token
  pub rest : List machine.Token
  pub longest : IsLongest elm (Part n ∷ []) column (classed tokens) front rest
  pub faulty : Faulty tokens n column front f

-- ---- the readers

abbrev pub ReadsModule : List Token → tree.Module → Type 0
ReadsModule tokens m = Reads tokens table.Module 1 (One item.Module) m (classed tokens)

abbrev pub ReadsType : List Token → ℕ → tree.TypeTree → List machine.Token → Type 0
ReadsType tokens column t rest = ReadsFront tokens table.Typing column (One item.TypeTree) t rest

abbrev pub ReadsPattern : List Token → ℕ → Begun → List machine.Token → Type 0
ReadsPattern tokens column p rest = ReadsFront tokens table.Pattern column (One item.Pattern) p rest

abbrev pub ReadsExpr : List Token → ℕ → tree.Expr → List machine.Token → Type 0
ReadsExpr tokens column e rest = ReadsFront tokens table.Expression column (One item.Expr) e rest

-- the tokens begin with `port` and no `module` after it: a declaration
abbrev pub BeginsPort : List Token → Type 0
BeginsPort (t ∷ u ∷ ts) = (t.kind ≡ token_kind.Port) × (u.kind ≡ token_kind.Module → ⊥)
BeginsPort (t ∷ []) = t.kind ≡ token_kind.Port
BeginsPort [] = ⊥

-- the head of a module, with the tokens after it; one that begins with the declaration of a port has none
pub data ReadsHead (tokens : List Token) : tree.Head → List machine.Token → Type 0 where
  none : BeginsPort tokens → ReadsHead tokens (record { header = None; imports = [] }) (classed tokens)
  some : {m : tree.Module} {rest : List machine.Token} →
      (BeginsPort tokens → ⊥) → ReadsFront tokens table.Head 1 (One item.Module) m rest → ReadsHead tokens m.head rest
