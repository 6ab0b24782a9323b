-- What the program keeps of the names that a module declares.
use Rattle.std.specs.Prelude.{◌≡◌, List, ◌++◌, map}
use Rattle.indexmap.specs.IndexSet.{contains}
use Rattle.elm_lexer.specs.Tokens.{Token}
use Rattle.elm_tree.specs.Tree.{Word, Exposed, OneValue, OneType, OpenType, OneOperator}
use Rattle.elm_tree.specs.View.{words_view}
use Rattle.elm_canon.specs.Names.{Name, same_name}
use Rattle.canon_env.specs.Imports.{name_of}
use Rattle.canon_env.specs.Exposing.{is_among}
use Rattle.canon_module.specs.Names.{Names}
use Rattle.canon_module.specs.declared.names.Names as program
use Rattle.canon_module.specs.declared.exports.Declared.{Declared}
use Rattle.canon_module.specs.declared.exports.Form.{Form}
use Rattle.canon_module.specs.declared.exports.Form.TheVariants as form

abbrev pub names_view : List Token → program.Names → Names
names_view tokens n = record {
  values = words_view tokens n.values.items;
  ports = words_view tokens n.ports.items;
  types = words_view tokens n.types.items;
  unions = words_view tokens n.unions.items;
  constructors = words_view tokens n.constructors.items;
}

-- sets of what a header may expose
pub record IsDeclaredOf (declared : Declared) (given : List Name) (n : Names) : Type 0 where
  pub values : (x : Name) → contains same_name declared.values x ≡ is_among x (map name_of n.values)
  pub types : (x : Name) → contains same_name declared.types x ≡ is_among x (given ++ map name_of n.types)
  pub unions : (x : Name) → contains same_name declared.unions x ≡ is_among x (map name_of n.unions)

abbrev pub entry_of : Form → Word → Exposed
entry_of form.Value x = OneValue x
entry_of form.Type x = OneType x
entry_of form.OpenType x = OpenType x
entry_of form.Operator x = OneOperator x
