-- The names that a module declares, in written order. (Elm guide: modules, custom types, JavaScript interop.)
use Rattle.std.specs.Prelude.{List, [], ◌∷◌, ◌++◌, Bool, true, false, map, if◌then◌else◌}
use Rattle.elm_tree.specs.Tree.{Word, TypeTree, TypeVariable, TypeName, FunctionType, TupleType, RecordType, ExtendedType}
use Rattle.elm_tree.specs.Tree.{Definition, Annotate, Define, Destructure, ConstructorOf, Declaration, Value, Port}
use Rattle.elm_tree.specs.Tree.{Union, Alias}

pub record Names : Type 0 where
  -- definitions and ports
  pub values : List Word
  pub ports : List Word
  -- unions and aliases
  pub types : List Word
  pub unions : List Word
  -- of unions, and of aliases that are written as closed records
  pub constructors : List Word

abbrev pub no_names : Names
no_names = record { values = []; ports = []; types = []; unions = []; constructors = [] }

abbrev pub join : Names → Names → Names
join a b = record {
  values = a.values ++ b.values;
  ports = a.ports ++ b.ports;
  types = a.types ++ b.types;
  unions = a.unions ++ b.unions;
  constructors = a.constructors ++ b.constructors;
}

abbrev pub defined_word : Definition → List Word
defined_word (Annotate x t) = []
defined_word (Define x ps e) = x ∷ []
defined_word (Destructure p e) = []

abbrev pub is_closed_record : TypeTree → Bool
is_closed_record (TypeVariable a) = false
is_closed_record (TypeName x ts) = false
is_closed_record (FunctionType ts) = false
is_closed_record (TupleType ts) = false
is_closed_record (RecordType fs) = true
is_closed_record (ExtendedType a fs) = false

abbrev pub constructor_words : List ConstructorOf → List Word
constructor_words cs = map (λ (c : ConstructorOf). c.name) cs

abbrev pub names_of : Declaration → Names
names_of (Value d) = record no_names { values = defined_word d }
names_of (Port x t) = record no_names { values = x ∷ []; ports = x ∷ [] }
names_of (Union x ps cs) =
    record no_names { types = x ∷ []; unions = x ∷ []; constructors = constructor_words cs }
names_of (Alias x ps t) =
    record no_names { types = x ∷ []; constructors = if is_closed_record t then x ∷ [] else [] }

abbrev pub names_in : List Declaration → Names
names_in [] = no_names
names_in (d ∷ ds) = join (names_of d) (names_in ds)
