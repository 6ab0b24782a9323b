-- The programs whose JavaScript can be written, and that it is in the subset.
use Rattle.std.specs.Prelude.{◌≡◌, ◌≤◌, ◌^◌, List, [], ◌∷◌, map, true}
use Rattle.elm_canon.specs.declared.reference.Ref.{Ref}
use Rattle.elm_canon.specs.Tree.{Declaration, Given, Define}
use Rattle.elm_canon.specs.Spelled.{is_spelled}
use Rattle.elm_meaning.specs.Functions.{known_arity}
use Rattle.elm_meaning.specs.Run.{Program}
use Rattle.js_tree.specs.Subset.{in_subset}
use Rattle.js_emit.specs.Made.{made_group}
use Rattle.js_emit.specs.Program.{Emit}
use Rattle.emit_laws.specs.Programs.{ProperProgram}

abbrev pub AllSpelled : List Ref → Type 0
AllSpelled [] = Unit {0}
AllSpelled (r ∷ rs) = (is_spelled r ≡ true) × AllSpelled rs

-- each declaration takes at most 2 ^ 64 made names, so that their numbers have 64 bits
abbrev pub FewMade : List Declaration → Type 0
FewMade [] = Unit {0}
FewMade (Given r k ∷ ds) = (known_arity k ≤ 2 ^ 64) × FewMade ds
FewMade (Define g ∷ ds) = (made_group g ≤ 2 ^ 64) × FewMade ds

pub record CanBeWritten (p : Program) : Type 0 where
  pub primitives : AllSpelled (map (λ q. q.0) p.primitives)
  pub made : FewMade p.declarations

abbrev pub ProgramsFit : Type 0
ProgramsFit = (p : Program) → ProperProgram p → CanBeWritten p → in_subset (Emit p) ≡ true
