-- Proper declarations of a module: each is proper where those before it are in scope, and gives new names.
use Rattle.std.specs.Prelude.{◌≡◌, List, [], ◌∷◌, Bool, true, false}
use Rattle.elm_canon.specs.declared.reference.Ref.{Ref}
use Rattle.elm_canon.specs.Tree.{Known, Maker, RecordMaker, OutPort, InPort, Group, Together, Constant, Destructure}
use Rattle.elm_canon.specs.Tree.{Declaration, Given, Define}
use Rattle.elm_canon.specs.Spelled.{is_word, is_spelled, are_fields}
use Rattle.elm_canon.specs.Constructors.{is_exact_alternative}
use Rattle.elm_canon.specs.Proper.{Scope, among, with_all, group_names, ProperGroup}

-- what names say of it; of what crosses a port they say nothing
abbrev pub is_proper_known : Known → Bool
is_proper_known (Maker c) = is_exact_alternative c
is_proper_known (RecordMaker xs) = are_fields xs
is_proper_known (OutPort x p) = is_word x
is_proper_known (InPort x p) = is_word x

abbrev pub is_destructuring : Group → Bool
is_destructuring (Together fs) = false
is_destructuring (Constant title e) = false
is_destructuring (Destructure p e) = true

abbrev pub declared_names : Declaration → List Ref
declared_names (Given r k) = r ∷ []
declared_names (Define g) = group_names g

abbrev pub ProperDeclaration : Scope → Declaration → Type 0
ProperDeclaration scope (Given r k) =
    (is_spelled r ≡ true) × ((among r scope ≡ false) × (is_proper_known k ≡ true))
ProperDeclaration scope (Define g) = (is_destructuring g ≡ false) × ProperGroup scope g

-- the scope after declarations
abbrev pub after_declarations : List Declaration → Scope → Scope
after_declarations [] scope = scope
after_declarations (d ∷ ds) scope = after_declarations ds (with_all (declared_names d) scope)

-- each declaration in the scope of those before it
abbrev pub ProperDeclarations : Scope → List Declaration → Type 0
ProperDeclarations scope [] = Unit {0}
ProperDeclarations scope (d ∷ ds) =
    ProperDeclaration scope d × ProperDeclarations (with_all (declared_names d) scope) ds
