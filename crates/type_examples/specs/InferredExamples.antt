-- What inference tells of small programs.
use Rattle.std.specs.Prelude.{◌≡◌, ℕ, [], Some, codes}
use Rattle.elm_base.specs.declared.fault.Code.TheVariants.{TypeMismatch}
use Rattle.elm_canon.specs.Tree.{Module}
use Rattle.elm_type.specs.Types.{Name, Scheme}
use Rattle.elm_type.specs.Text.{type_text}
use Rattle.type_items.specs.Modules.{module_items}
use Rattle.type_items.specs.Faults.{FirstBad}
use Rattle.type_items.specs.Inferred.{Inferred}
use Rattle.type_examples.specs.ItemExamples.{no_known}
use Rattle.type_examples.specs.Programs.{place, not_every_a, pair_once, no_field_z, updated, both_classes, next}
use Rattle.type_examples.specs.Programs.{pair_twice}

-- the first bad item of a module stands at a row and a column, and this is said of it
abbrev pub IsMismatchAt : Module → ℕ → ℕ → Name → Type 0
IsMismatchAt m row column detail = FirstBad [] (module_items m no_known []) TypeMismatch (place row column) detail

-- a module of one definition is typable, and the type of its definition has this text
pub record HasTypeText (m : Module) (text : Name) : Type 0 where
  pub scheme : Scheme
  pub inferred : Inferred m no_known [] (λ x. Some scheme)
  pub is : type_text scheme ≡ text

abbrev pub NotEveryType : Type 0
NotEveryType = IsMismatchAt not_every_a 5 5 (codes "number /= a")

-- a parameter of a function has one type
abbrev pub OneTypeAlone : Type 0
OneTypeAlone = IsMismatchAt pair_once 4 30 (codes "String /= number")

abbrev pub NoSuchField : Type 0
NoSuchField = IsMismatchAt no_field_z 4 8 (codes "{ x : a, y : b } /= { c | z : d }")

abbrev pub UpdatedType : Type 0
UpdatedType = HasTypeText updated (codes "{ a | x : number } -> { a | x : number }")

abbrev pub BothClassesType : Type 0
BothClassesType = HasTypeText both_classes (codes "compappend -> compappend -> ( Bool, compappend )")

-- a constant of the class number is a number
abbrev pub NextType : Type 0
NextType = HasTypeText next (codes "number -> number")

-- a name of a `let` is used at two types
abbrev pub PairsType : Type 0
PairsType = HasTypeText pair_twice (codes "( ( number, number ), ( String, String ) )")
