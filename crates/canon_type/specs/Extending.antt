-- Names of fields, as lists.
use Rattle.std.specs.Prelude.{List, [], ◌∷◌, Bool, if◌then◌else◌, map}
use Rattle.elm_canon.specs.Names.{Name}
use Rattle.elm_canon.specs.declared.tree.FieldType.{FieldType}

abbrev pub names_of : List FieldType → List Name
names_of fs = map (λ (f : FieldType). f.name) fs

-- the name, if it passes the test
abbrev pub repeated : (Name → Bool) → Name → List Name
repeated test x = if test x then x ∷ [] else []
