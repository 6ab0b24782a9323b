-- Which actions the grammar uses.
use Rattle.std.specs.Prelude.{Bool, true, false}
use Rattle.elm_grammar.specs.declared.action.Item.{Item}
use Rattle.elm_grammar.specs.declared.action.Item.TheVariants as item
use Rattle.elm_grammar.specs.declared.action.Action.{Action}
use Rattle.elm_grammar.specs.declared.action.Action.TheVariants as action

-- there are lists of these
abbrev pub has_list : Item → Bool
has_list item.Word = true
has_list item.Exposed = true
has_list item.Constructor = true
has_list item.TypeTree = true
has_list item.FieldType = true
has_list item.Pattern = true
has_list item.Expr = true
has_list item.Part = true
has_list item.Branch = true
has_list item.Definition = true
has_list _ = false

-- an item of this kind is put in front of a list as it is
abbrev pub grows : Item → Bool
grows item.Word = true
grows item.Exposed = true
grows item.Constructor = true
grows item.TypeTree = true
grows item.Pattern = true
grows item.Expr = true
grows item.Branch = true
grows item.Definition = true
grows _ = false

-- a value of this kind is passed on as it is
abbrev pub moves : Item → Bool
moves item.Module = true
moves item.Header = true
moves item.Exposing = true
moves item.Declaration = true
moves item.TypeTree = true
moves item.Pattern = true
moves item.Expr = true
moves _ = false

abbrev pub is_used : Action → Bool
is_used (action.Same i) = moves i
is_used (action.Second i) = moves i
is_used (action.Empty i) = has_list i
is_used (action.End i) = has_list i
is_used (action.More i) = grows i
is_used (action.Comma i) = grows i
is_used _ = true

-- ---- the parts of the grammar

-- it makes no item or list as such
abbrev pub of_module : Action → Bool
of_module (action.Same i) = false
of_module (action.Second i) = false
of_module (action.Empty i) = false
of_module (action.End i) = false
of_module (action.More i) = false
of_module (action.Comma i) = false
of_module action.SecondAsList = false
of_module _ = true

-- it makes nothing of modules
abbrev pub of_part : Action → Bool
of_part (action.Same i) = false
of_part (action.Second i) = false
of_part (action.Empty i) = false
of_part (action.End i) = false
of_part (action.More i) = false
of_part (action.Comma i) = false
of_part action.SecondAsList = false
of_part action.EmptyModule = false
of_part action.WithHeader = false
of_part action.WithImport = false
of_part action.WithDeclaration = false
of_part action.PortModule = false
of_part action.FirstPort = false
of_part action.HeaderOf = false
of_part action.PortHeader = false
of_part action.ExposeAll = false
of_part action.ExposeNothing = false
of_part action.ExposeThese = false
of_part action.ExposeWord = false
of_part action.ExposeUpper = false
of_part action.ExposeOperator = false
of_part action.Opening = false
of_part action.ImportOf = false
of_part action.PortOf = false
of_part action.ValueOf = false
of_part action.AliasOf = false
of_part action.UnionOf = false
of_part action.ConstructorOf = false
of_part _ = true

-- it makes an expression or what stands in one
abbrev pub of_expr : Action → Bool
of_expr action.ChainOf = true
of_expr action.MoreOperators = true
of_expr action.OperandThen = true
of_expr action.LastOperand = true
of_expr action.Applied = true
of_expr action.Negative = true
of_expr action.NegativeArgument = true
of_expr action.IfOf = true
of_expr action.CaseOf = true
of_expr action.LetOf = true
of_expr action.LambdaOf = true
of_expr action.BranchOf = true
of_expr action.WordExpr = true
of_expr action.WordAccess = true
of_expr action.BracketAccess = true
of_expr action.RecordAccess = true
of_expr action.ListOf = true
of_expr action.OperatorAlone = true
of_expr action.MinusParen = true
of_expr action.MinusAlone = true
of_expr action.MinusOperand = true
of_expr action.UnsignedOf = true
of_expr action.EmptyRecord = true
of_expr action.RecordOf = true
of_expr action.MoreFields = true
of_expr _ = false
