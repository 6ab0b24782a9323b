-- What a module has that lacks nothing of what the compiler takes for granted of the core library.
use Rattle.std.specs.Prelude.{◌≡◌, ℕ, ◌<◌, ◌≤◌, ◌^◌, List, [], ◌∷◌, length, true, false, if◌then◌else◌, ◌⊎◌, Option}
use Rattle.std.specs.Prelude.{codes}
use Rattle.std.specs.Str.{bytes_eq}
use Rattle.elm_base.specs.Units.{text_units}
use Rattle.elm_lexer.specs.Tokens.{Token, Tokens}
use Rattle.elm_tree.specs.Tree as tree
use Rattle.elm_tree.specs.Tree.{Declaration, Value, Port, Union, Alias}
use Rattle.elm_canon.specs.Names.{Name, same_name}
use Rattle.elm_canon.specs.Tree as canon
use Rattle.canon_env.specs.Exposing.{is_operator, operator_home}
use Rattle.canon_env.specs.Imports.{name_of}
use Rattle.canon_expr.specs.Operators.{meaning_of}
use Rattle.canon_type.specs.Unions.{is_type}
use Rattle.canon_module.specs.Resolve.{Setting, IsModule}
use Rattle.canon_proper.specs.Worlds.{operator_ref}
use Rattle.elm_canon.specs.Proper.{IsIn}
use Rattle.interface.specs.Interface.{Interface}
use Rattle.module_proper.specs.Counted.{HaveFewer}
use Rattle.module_proper.specs.Modules.{AreRead, value_refs}
use Rattle.canon_proper.specs.Spelled.{SpellModule}
use Rattle.module_offers.specs.Faults.{operator_faults, offers, uses}

-- ---- of its own

-- it declares the functions of its own operators
abbrev pub OwnOperators : Name → List Declaration → Type 0
OwnOperators home ds =
    (op : List ℕ) → is_operator op ≡ true → same_name (text_units (operator_home op)) home ≡ true →
    IsIn (operator_ref op) (value_refs home ds)

-- its truth values, if they are its own, are two at most without fields
abbrev pub HaveTruths : Name → List Declaration → Type 0
HaveTruths home [] = Unit {0}
HaveTruths home (Value d ∷ ds) = HaveTruths home ds
HaveTruths home (Port x t ∷ ds) = HaveTruths home ds
HaveTruths home (Union x ps cs ∷ ds) =
    (is_type (codes "Basics") (codes "Bool") home (name_of x) ≡ true → (length cs ≤ 2) × HaveFewer 1 cs)
    × HaveTruths home ds
HaveTruths home (Alias x ps t ∷ ds) = HaveTruths home ds

-- ---- of others

-- the interface of the module that an operator is of
abbrev pub interface_for : List ℕ → Option Interface → Option Interface → Option Interface
interface_for op basics lists = if bytes_eq op (codes "::") then lists else basics

-- the function of an operator of another module is offered by that module, or is not used
abbrev pub OtherOperators : Option Interface → Option Interface → Name → canon.Module → Type 0
OtherOperators basics lists home m =
    (op : List ℕ) → is_operator op ≡ true → same_name (text_units (operator_home op)) home ≡ false →
    (offers (interface_for op basics lists) (text_units (meaning_of op).function) ≡ true)
    ⊎ (uses m (operator_ref op) ≡ false)

-- ---- the laws

-- a module that lacks nothing
pub record IsWhole (basics lists : Option Interface) (s : Setting) (ds : List Declaration)
    (m : canon.Module) : Type 0 where
  pub is : IsModule s ds m
  pub whole : operator_faults basics lists m ≡ []

abbrev pub OwnLaw : Type 0
OwnLaw =
    (basics lists : Option Interface) (s : Setting) (ds : List Declaration) (m : canon.Module) →
    IsWhole basics lists s ds m → OwnOperators s.home ds

abbrev pub TruthLaw : Type 0
TruthLaw =
    (basics lists : Option Interface) (s : Setting) (ds : List Declaration) (m : canon.Module) →
    IsWhole basics lists s ds m → HaveTruths s.home ds

abbrev pub OtherLaw : Type 0
OtherLaw =
    (basics lists : Option Interface) (s : Setting) (ds : List Declaration) (m : canon.Module) →
    IsWhole basics lists s ds m → OtherOperators basics lists s.home m

-- so a text guarantees as much of `Basics` as of any other module
abbrev pub ReadLaw : Type 0
ReadLaw =
    (text : List ℕ) (tokens : List Token) (t : tree.Module) (home : Name) → Tokens text tokens →
    length text < 2 ^ 32 → SpellModule tokens t → HaveTruths home t.declarations → AreRead home t.declarations
