-- Records: what their fields are.
use Rattle.std.specs.Prelude.{◌≡◌, List, ◌∷◌, true, if◌then◌else◌}
use Rattle.runs.specs.Ends.{End, Val, Stuck}
use Rattle.runs.specs.Texts.{units_lt}
use Rattle.elm_canon.specs.Names.{Name, same_name}
use Rattle.elm_meaning.specs.Values.{Value, Values, MoreValue, FieldValues, NoFieldV, MoreFieldV}
use Rattle.elm_meaning.specs.Values.{fields_of, field_in, replace_field}

-- the value that stands at the name, where names and values stand in turn
abbrev pub named_value : Name → List Name → Values → End Value
named_value k (j ∷ js) (MoreValue v vs) = if same_name k j then Val v else named_value k js vs
named_value k _ _ = Stuck

-- a record has the fields that it was made of, and no others
abbrev pub RecordsHold : Type 0
RecordsHold =
    (ks : List Name) (vs : Values) (fs : FieldValues) → fields_of ks vs ≡ Val fs
    → (k : Name) → field_in k fs ≡ named_value k ks vs

-- an update changes that field alone
abbrev pub UpdatesHold : Type 0
UpdatesHold =
    (j : Name) (v : Value) (fs gs : FieldValues) → replace_field j v fs ≡ Val gs
    → (k : Name) → field_in k gs ≡ (if same_name k j then Val v else field_in k fs)

-- the names ascend
abbrev pub Rises : FieldValues → Type 0
Rises NoFieldV = Unit {0}
Rises (MoreFieldV j v NoFieldV) = Unit {0}
Rises (MoreFieldV j v (MoreFieldV k w fs)) = (units_lt j k ≡ true) × Rises (MoreFieldV k w fs)

abbrev pub RecordsRise : Type 0
RecordsRise = (ks : List Name) (vs : Values) (fs : FieldValues) → fields_of ks vs ≡ Val fs → Rises fs

abbrev pub UpdatesRise : Type 0
UpdatesRise = (j : Name) (v : Value) (fs gs : FieldValues) → Rises fs → replace_field j v fs ≡ Val gs → Rises gs

-- records with the same values at each name are the same, in whatever order their fields were written
abbrev pub RecordsAlike : Type 0
RecordsAlike =
    (ks js : List Name) (vs ws : Values) (fs gs : FieldValues) → fields_of ks vs ≡ Val fs → fields_of js ws ≡ Val gs
    → ((k : Name) → named_value k ks vs ≡ named_value k js ws) → fs ≡ gs
