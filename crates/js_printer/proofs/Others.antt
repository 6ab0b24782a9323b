-- Nodes that are not of a kind.
use Rattle.std.proofs.Common.{◌≡◌, ℕ, ℤ, pos, Bool, List, [], refl}
use Rattle.std.specs.declared.vec.Vec.{Vec}
use Rattle.std.specs.declared.alloc.Global.{Global}
use Rattle.js_tree.specs.declared.tree.Name.{Name}
use Rattle.js_tree.specs.declared.tree.Operator.{Operator}
use Rattle.js_tree.specs.declared.tree.Helper.{Helper}
use Rattle.js_tree.specs.declared.tree.Node.{Node}
use Rattle.js_tree.specs.declared.tree.Node as node
use Rattle.js_tree.specs.Tree.{JInt, Continue}
use Rattle.js_tree.specs.Postorder.{Tree, NoItem, NoMember, NoStatement, NoLineYet, top, apply, expression, items}
use Rattle.js_tree.specs.Postorder.{members, statements, block, lines}
use Rattle.js_printer.specs.Tasks.{key_text, program_of, main_of, outs_of}

pub no_item : (n : Node) (ts : List Tree) → (n ≡ node.Node.Item → ⊥) → items (top (apply n ts)) ≡ NoItem
no_item node.Node.Item ts not = absurd (not refl)
no_item _ ts not = refl

pub no_expression : (n : Node) (ts : List Tree) → ((v : ℤ) → n ≡ node.Node.Int v → ⊥) → ((v : Bool) → n ≡ node.Node.Bool v → ⊥) → ((v : List ℕ) → n ≡ node.Node.Text v → ⊥)
    → ((x : Name) → n ≡ node.Node.Var x → ⊥) → ((x : Name) → n ≡ node.Node.Arrow x → ⊥) → (n ≡ node.Node.Block → ⊥) → (n ≡ node.Node.Call → ⊥)
    → ((o : Operator) → n ≡ node.Node.Binary o → ⊥) → (n ≡ node.Node.Conditional → ⊥) → (n ≡ node.Node.Object → ⊥) → ((k : List ℕ) → n ≡ node.Node.Property k → ⊥)
    → (n ≡ node.Node.List → ⊥) → ((h : Helper) → n ≡ node.Node.Helper h → ⊥) → expression (top (apply n ts)) ≡ JInt (pos 0)
no_expression (node.Node.Int v) ts not no_bool no_text no_var no_arrow no_block no_call no_binary no_conditional no_object no_property no_list no_helper = absurd (not v refl)
no_expression (node.Node.Bool v) ts not no_bool no_text no_var no_arrow no_block no_call no_binary no_conditional no_object no_property no_list no_helper = absurd (no_bool v refl)
no_expression (node.Node.Text v) ts not no_bool no_text no_var no_arrow no_block no_call no_binary no_conditional no_object no_property no_list no_helper = absurd (no_text v refl)
no_expression (node.Node.Var v) ts not no_bool no_text no_var no_arrow no_block no_call no_binary no_conditional no_object no_property no_list no_helper = absurd (no_var v refl)
no_expression (node.Node.Arrow v) ts not no_bool no_text no_var no_arrow no_block no_call no_binary no_conditional no_object no_property no_list no_helper = absurd (no_arrow v refl)
no_expression node.Node.Block ts not no_bool no_text no_var no_arrow no_block no_call no_binary no_conditional no_object no_property no_list no_helper = absurd (no_block refl)
no_expression node.Node.Call ts not no_bool no_text no_var no_arrow no_block no_call no_binary no_conditional no_object no_property no_list no_helper = absurd (no_call refl)
no_expression (node.Node.Binary v) ts not no_bool no_text no_var no_arrow no_block no_call no_binary no_conditional no_object no_property no_list no_helper = absurd (no_binary v refl)
no_expression node.Node.Conditional ts not no_bool no_text no_var no_arrow no_block no_call no_binary no_conditional no_object no_property no_list no_helper = absurd (no_conditional refl)
no_expression node.Node.Object ts not no_bool no_text no_var no_arrow no_block no_call no_binary no_conditional no_object no_property no_list no_helper = absurd (no_object refl)
no_expression (node.Node.Property v) ts not no_bool no_text no_var no_arrow no_block no_call no_binary no_conditional no_object no_property no_list no_helper = absurd (no_property v refl)
no_expression node.Node.List ts not no_bool no_text no_var no_arrow no_block no_call no_binary no_conditional no_object no_property no_list no_helper = absurd (no_list refl)
no_expression (node.Node.Helper v) ts not no_bool no_text no_var no_arrow no_block no_call no_binary no_conditional no_object no_property no_list no_helper = absurd (no_helper v refl)
no_expression _ ts not no_bool no_text no_var no_arrow no_block no_call no_binary no_conditional no_object no_property no_list no_helper = refl

pub no_member : (n : Node) (ts : List Tree) → ((k : List ℕ) → n ≡ node.Node.Field k → ⊥) → members (top (apply n ts)) ≡ NoMember
no_member (node.Node.Field k) ts not = absurd (not k refl)
no_member _ ts not = refl

pub no_statement : (n : Node) (ts : List Tree) → ((x : Name) → n ≡ node.Node.Const x → ⊥) → ((x : Name) → n ≡ node.Node.Let x → ⊥) → ((x : Name) → n ≡ node.Node.Assign x → ⊥)
    → statements (top (apply n ts)) ≡ NoStatement
no_statement (node.Node.Const x) ts not not_let not_assign = absurd (not x refl)
no_statement (node.Node.Let x) ts not not_let not_assign = absurd (not_let x refl)
no_statement (node.Node.Assign x) ts not not_let not_assign = absurd (not_assign x refl)
no_statement _ ts not not_let not_assign = refl

pub no_block : (n : Node) (ts : List Tree) → (n ≡ node.Node.Return → ⊥) → (n ≡ node.Node.If → ⊥) → (n ≡ node.Node.While → ⊥) → (n ≡ node.Node.Ended → ⊥) → block (top (apply n ts)) ≡ Continue
no_block node.Node.Return ts not not_if not_while not_ended = absurd (not refl)
no_block node.Node.If ts not not_if not_while not_ended = absurd (not_if refl)
no_block node.Node.While ts not not_if not_while not_ended = absurd (not_while refl)
no_block node.Node.Ended ts not not_if not_while not_ended = absurd (not_ended refl)
no_block _ ts not not_if not_while not_ended = refl

pub no_line : (n : Node) (ts : List Tree) → ((x : Name) → n ≡ node.Node.Line x → ⊥) → lines (top (apply n ts)) ≡ NoLineYet
no_line (node.Node.Line x) ts not = absurd (not x refl)
no_line _ ts not = refl

pub no_property : (n : Node) (ts : List Tree) → ((k : List ℕ) → n ≡ node.Node.Property k → ⊥) → key_text (expression (top (apply n ts))) ≡ []
no_property (node.Node.Property k) ts not = absurd (not k refl)
no_property _ ts not = refl

abbrev pub IsOther : Node → Type 0
IsOther n = (name : List ℕ) (outs : Vec (List ℕ) Global) → n ≡ node.Node.Program name outs → ⊥

pub no_program : (n : Node) (ts : List Tree) → IsOther n → program_of (top (apply n ts)) ≡ []
no_program (node.Node.Program name outs) ts not = absurd (not name outs refl)
no_program _ ts not = refl

pub no_main : (n : Node) (ts : List Tree) → IsOther n → main_of (top (apply n ts)) ≡ []
no_main (node.Node.Program name outs) ts not = absurd (not name outs refl)
no_main _ ts not = refl

pub no_outs : (n : Node) (ts : List Tree) → IsOther n → outs_of (top (apply n ts)) ≡ []
no_outs (node.Node.Program name outs) ts not = absurd (not name outs refl)
no_outs _ ts not = refl
