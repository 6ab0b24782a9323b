-- The values of the source. (Elm guide: core language, custom types, records.)
use Rattle.std.specs.Prelude.{ℕ, zero, suc, ℤ, pos, List, [], ◌∷◌, Bool, false, if◌then◌else◌, ◌||◌}
use Rattle.wire_value.specs.Wire.{Wire}
use Rattle.runs.specs.Ends.{End, Val, Stuck, then_do}
use Rattle.runs.specs.Texts.{units_lt}
use Rattle.elm_canon.specs.Names.{Name, same_name}
use Rattle.elm_canon.specs.declared.reference.Ref.{Ref}
use Rattle.elm_canon.specs.declared.unions.Tag.{Tag}
use Rattle.elm_canon.specs.declared.unions.Tag.TheVariants.{Number, Truth, Blank}
use Rattle.elm_canon.specs.Tree.{Patterns, Expr, Functions}
use Rattle.elm_meaning.specs.Functions.{Bodiless}

mutual
  pub data Value : Type 0 where
    IntV : ℤ → Value
    -- a String by its units, and a Char by its one or two
    TextV : List ℕ → Value
    -- a constructor with its fields; a tuple has the number 0, [] the number 0, and :: the number 1
    TagV : Tag → Values → Value
    -- a record, its fields in the order of their names
    RecordV : FieldValues → Value
    -- a function with the parameters that are still to come, and the environment that it was made in
    CloV : Env → Patterns → Expr → Value
    -- a function without a body, with the arguments that it has so far, in turn
    KnownV : Bodiless → Values → Value
    -- what a command sends
    WireV : Wire → Value

  pub data Values : Type 0 where
    NoValue : Values
    MoreValue : Value → Values → Values

  pub data FieldValues : Type 0 where
    NoFieldV : FieldValues
    MoreFieldV : Name → Value → FieldValues → FieldValues

  -- what names are bound to: nothing; a name with its value; functions that may use each other
  pub data Env : Type 0 where
    Nil : Env
    Bind : Ref → Value → Env → Env
    BindGroup : Functions → Env → Env

-- ---- constructors

abbrev pub truth : Bool → Value
truth b = TagV (Truth b) NoValue

abbrev pub unit : Value
unit = TagV Blank NoValue

abbrev pub nil : Value
nil = TagV (Number (pos 0)) NoValue

abbrev pub cons : Value → Value → Value
cons v vs = TagV (Number (pos 1)) (MoreValue v (MoreValue vs NoValue))

-- the tuple of the values; that of none is ()
abbrev pub tuple : Values → Value
tuple NoValue = unit
tuple vs = TagV (Number (pos 0)) vs

abbrev pub pair : Value → Value → Value
pair v w = tuple (MoreValue v (MoreValue w NoValue))

abbrev pub just : Value → Value
just v = TagV (Number (pos 0)) (MoreValue v NoValue)

abbrev pub nothing : Value
nothing = TagV (Number (pos 1)) NoValue

-- ---- lists

abbrev pub append_values : Values → Values → Values
append_values NoValue ws = ws
append_values (MoreValue v vs) ws = MoreValue v (append_values vs ws)

abbrev pub count_of : Values → ℕ
count_of NoValue = 0
count_of (MoreValue v vs) = suc (count_of vs)

-- the list of the values before another list, and alone
abbrev pub list_before : Values → Value → Value
list_before NoValue rest = rest
list_before (MoreValue v vs) rest = cons v (list_before vs rest)

abbrev pub list_of : Values → Value
list_of vs = list_before vs nil

-- the values of a list
abbrev pub items : Value → End Values
items (TagV (Number (pos zero)) NoValue) = Val NoValue
items (TagV (Number (pos (suc zero))) (MoreValue v (MoreValue rest NoValue))) =
    then_do (items rest) (λ vs. Val (MoreValue v vs))
items _ = Stuck

-- ---- records

abbrev pub has_field : Name → FieldValues → Bool
has_field k NoFieldV = false
has_field k (MoreFieldV i v fs) = same_name k i || has_field k fs

-- one field more, among the others by its name
abbrev pub insert_field : Name → Value → FieldValues → FieldValues
insert_field k v NoFieldV = MoreFieldV k v NoFieldV
insert_field k v (MoreFieldV i w fs) =
    if units_lt i k then MoreFieldV i w (insert_field k v fs) else MoreFieldV k v (MoreFieldV i w fs)

-- the record of these names with their values; each name stands once
abbrev pub fields_of : List Name → Values → End FieldValues
fields_of [] NoValue = Val NoFieldV
fields_of (k ∷ ks) (MoreValue v vs) =
    then_do (fields_of ks vs) (λ fs. if has_field k fs then Stuck else Val (insert_field k v fs))
fields_of _ _ = Stuck

abbrev pub record_of : List Name → Values → End Value
record_of ks vs = then_do (fields_of ks vs) (λ fs. Val (RecordV fs))

abbrev pub field_in : Name → FieldValues → End Value
field_in k NoFieldV = Stuck
field_in k (MoreFieldV i v fs) = if same_name k i then Val v else field_in k fs

-- the field of that name
abbrev pub field_of : Name → Value → End Value
field_of k (RecordV fs) = field_in k fs
field_of k _ = Stuck

-- a field has another value
abbrev pub replace_field : Name → Value → FieldValues → End FieldValues
replace_field k v NoFieldV = Stuck
replace_field k v (MoreFieldV i w fs) =
    if same_name k i then Val (MoreFieldV i v fs) else then_do (replace_field k v fs) (λ gs. Val (MoreFieldV i w gs))

-- fields of these names have other values
abbrev pub replace_fields : List Name → Values → FieldValues → End FieldValues
replace_fields [] NoValue fs = Val fs
replace_fields (k ∷ ks) (MoreValue v vs) fs = then_do (replace_field k v fs) (λ gs. replace_fields ks vs gs)
replace_fields _ _ _ = Stuck
