-- Each action fits its production: it asks for what the symbols stand for, and makes what the nonterminal stands for.
use Rattle.std.specs.Prelude.{ℕ, List, [], ◌∷◌, Bool, true, false, ◌&&◌, if◌then◌else◌, nat_eq}
use Rattle.std.specs.List.{list_all}
use Rattle.parse_machine.specs.declared.table.Symbol.{Symbol}
use Rattle.parse_machine.specs.declared.table.Symbol.TheVariants.{Word, Part, Line, Block}
use Rattle.parse_machine.specs.Grammar.{◌⟶◌}
use Rattle.elm_grammar.specs.declared.action.Item.{Item}
use Rattle.elm_grammar.specs.declared.action.Item.TheVariants as item
use Rattle.elm_grammar.specs.Table.{Ruled, ◌by◌, elm_rules}
use Rattle.elm_grammar.specs.Values.{Kind, One, Many, takes, gives}

abbrev pub number_of : Item → ℕ
number_of item.Word = 0
number_of item.Module = 1
number_of item.Header = 2
number_of item.Exposing = 3
number_of item.Exposed = 4
number_of item.Import = 5
number_of item.Declaration = 6
number_of item.Rest = 7
number_of item.Constructor = 8
number_of item.TypeTree = 9
number_of item.FieldType = 10
number_of item.Pattern = 11
number_of item.Expr = 12
number_of item.Part = 13
number_of item.Chain = 14
number_of item.AfterMinus = 15
number_of item.Record = 16
number_of item.Branch = 17
number_of item.Definition = 18

abbrev pub same_kind : Kind → Kind → Bool
same_kind (One i) (One j) = nat_eq (number_of i) (number_of j)
same_kind (Many i) (Many j) = nat_eq (number_of i) (number_of j)
same_kind _ _ = false

abbrev pub same_kinds : List Kind → List Kind → Bool
same_kinds [] [] = true
same_kinds (j ∷ js) (k ∷ ks) = same_kind j k && same_kinds js ks
same_kinds _ _ = false

-- what a nonterminal stands for: what the first of its productions makes
abbrev pub kind_in : List Ruled → ℕ → Kind
kind_in [] n = One item.Word
kind_in ((m ⟶ r by a) ∷ rs) n = if nat_eq m n then gives a else kind_in rs n

abbrev pub kind_of : Symbol → Kind
kind_of (Word set) = One item.Word
kind_of (Part n) = kind_in elm_rules n
kind_of (Line n) = kind_in elm_rules n
kind_of (Block n) = kind_in elm_rules n

abbrev pub kinds_of : List Symbol → List Kind
kinds_of [] = []
kinds_of (s ∷ ss) = kind_of s ∷ kinds_of ss

abbrev pub fits : Ruled → Bool
fits (n ⟶ r by a) = same_kinds (takes a) (kinds_of r) && same_kind (gives a) (kind_in elm_rules n)

abbrev pub is_kinded : Bool
is_kinded = list_all fits elm_rules
