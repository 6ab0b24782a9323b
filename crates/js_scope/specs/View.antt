-- The state of a reader, as plain data.
use Rattle.std.specs.Prelude.{ℕ, List, [], ◌∷◌, ◌++◌, reverse, Option, Some, None, codes}
use Rattle.js_tree.specs.declared.runtime.TheConstants.{TAIL}
use Rattle.js_tree.specs.Tree.{Program}
use Rattle.js_tree.specs.Postorder.{Tree, ProgramOf, NoStatement, top, below, expression, items, members, statements}
use Rattle.js_tree.specs.Postorder.{block, lines, trees_of, members_then, name_view, operator_view, helper_view}
use Rattle.js_tree.specs.Tree.{Local, NoField, NoLine, JVar}
use Rattle.js_tree.specs.declared.tree.Name as name
use Rattle.js_tree.specs.declared.tree.Node as node
use Rattle.js_tree.specs.Automaton as machine
use Rattle.js_tree.specs.Automaton.{Place, Block, ObjectAt, TextAt, NameAt, State, Front}
use Rattle.js_scope.specs.declared.frames.Frame.{Frame}
use Rattle.js_scope.specs.declared.frames.Frame as frame
use Rattle.js_scope.specs.declared.mode.Object as object
use Rattle.js_scope.specs.declared.mode.Text as text
use Rattle.js_scope.specs.declared.mode.Naming as naming
use Rattle.js_scope.specs.declared.mode.After as after
use Rattle.js_scope.specs.declared.mode.Mode as mode
use Rattle.js_scope.specs.declared.reader.Reader.{Reader}
use Rattle.js_scope.specs.NameView.{begun_of}

-- what the object of `_main` has before its incoming ports, of the trees below these
abbrev pub front_of : List ℕ → List Tree → Front
front_of m ts = record { lines = lines (top (below (below ts))); name = m; main = expression (top (below ts)); flags = expression (top ts) }

-- where an expression stands, and where a block does, by the frames and the trees below it; m is the name of the
-- entry's module. Outside of all frames stands the program of `_main`.
abbrev mutual
  pub place_of : List Frame → List ℕ → List Tree → Place
  place_of (frame.Frame.Argument ∷ fs) m ts = machine.ArgumentOf (expression (top ts)) (place_of fs m (below ts))
  place_of (frame.Frame.First ∷ fs) m ts = machine.FirstIn (place_of fs m ts)
  place_of (frame.Frame.Right op ∷ fs) m ts = machine.RightOf (operator_view op) (expression (top ts)) (place_of fs m (below ts))
  place_of (frame.Frame.Then ∷ fs) m ts = machine.ThenOf (expression (top ts)) (place_of fs m (below ts))
  place_of (frame.Frame.Else ∷ fs) m ts = machine.ElseOf (expression (top (below ts))) (expression (top ts)) (place_of fs m (below (below ts)))
  place_of (frame.Frame.Field k ∷ fs) m ts = machine.FieldIn (members (top ts)) k (place_of fs m (below ts))
  place_of (frame.Frame.List ∷ fs) m ts = machine.ListIn (items (top ts)) (place_of fs m (below ts))
  place_of (frame.Frame.Given h ∷ fs) m ts = machine.GivenTo (helper_view h) (items (top ts)) (place_of fs m (below ts))
  place_of (frame.Frame.Const x ∷ fs) m ts = machine.ConstIn (statements (top ts)) (name_view x) (block_of fs m (below ts))
  place_of (frame.Frame.Let x ∷ fs) m ts = machine.LetIn (statements (top ts)) (name_view x) (block_of fs m (below ts))
  place_of (frame.Frame.Assign x ∷ fs) m ts = machine.AssignIn (statements (top ts)) (name_view x) (block_of fs m (below ts))
  place_of (frame.Frame.Return ∷ fs) m ts = machine.ReturnIn (statements (top ts)) (block_of fs m (below ts))
  place_of (frame.Frame.Test ∷ fs) m ts = machine.TestIn (statements (top ts)) (block_of fs m (below ts))
  place_of (frame.Frame.Line x ∷ fs) m ts = machine.LineIn (lines (top ts)) (name_view x)
  place_of (frame.Frame.Flags ∷ fs) m ts = machine.FlagsIn (lines (top (below ts))) m (expression (top ts))
  place_of (frame.Frame.Port k ∷ fs) m ts = machine.PortIn (front_of m (below ts)) (members (top ts)) k
  place_of _ m ts = machine.MainIn (lines (top ts)) m

  pub block_of : List Frame → List ℕ → List Tree → Block
  block_of (frame.Frame.Body p ∷ fs) m ts = machine.BodyOf (name_view p) (place_of fs m ts)
  block_of (frame.Frame.ThenBlock ∷ fs) m ts = machine.ThenIn (statements (top (below ts))) (expression (top ts)) (block_of fs m (below (below ts)))
  block_of (frame.Frame.ElseBlock ∷ fs) m ts =
      machine.ElseIn (statements (top (below (below ts)))) (expression (top (below ts))) (block (top ts)) (block_of fs m (below (below (below ts))))
  block_of (frame.Frame.Loop ∷ fs) m ts = machine.LoopIn (statements (top ts)) (block_of fs m (below ts))
  block_of (f ∷ fs) m ts = machine.CalledIn (place_of fs m ts)
  block_of [] m ts = machine.CalledIn (machine.MainIn (lines (top ts)) m)

-- what an object is, of the trees below its fields
abbrev pub object_of : object.Object → List Frame → List ℕ → List Tree → ObjectAt
object_of object.Object.Value fs m ts = machine.Value (place_of fs m ts)
object_of object.Object.Ports fs m ts = machine.Ports (front_of m ts)

-- what a text is; outs: the outgoing ports so far, in reverse order
abbrev pub text_of : text.Text → List Frame → List ℕ → List Tree → List (List ℕ) → TextAt
text_of text.Text.Literal fs m ts outs = machine.Literal (place_of fs m ts)
text_of (text.Text.Key o) fs m ts outs = machine.Key (members (top ts)) (object_of o fs m (below ts))
text_of text.Text.Property fs m ts outs = machine.PropertyOf (expression (top ts)) (place_of fs m (below ts))
text_of text.Text.Module fs m ts outs = machine.ModuleIn (lines (top ts))
text_of text.Text.Out fs m ts outs = machine.OutIn (front_of m (below ts)) (members_then (members (top ts)) NoField) outs

-- what a name is
abbrev pub naming_of : naming.Naming → List Frame → List ℕ → List Tree → NameAt
naming_of naming.Naming.Variable fs m ts = machine.Variable (place_of fs m ts)
naming_of naming.Naming.Const fs m ts = machine.ConstAt (statements (top ts)) (block_of fs m (below ts))
naming_of naming.Naming.Let fs m ts = machine.LetAt (statements (top ts)) (block_of fs m (below ts))
naming_of naming.Naming.Assign fs m ts = machine.AssignAt (statements (top ts)) (block_of fs m (below ts))
naming_of naming.Naming.Line fs m ts = machine.LineAt (lines (top ts))

-- the frame of what is declared or assigned, and the node of the statement that does so
abbrev pub naming_frame : naming.Naming → name.Name → Frame
naming_frame naming.Naming.Const x = frame.Frame.Const x
naming_frame naming.Naming.Let x = frame.Frame.Let x
naming_frame naming.Naming.Assign x = frame.Frame.Assign x
naming_frame naming.Naming.Variable x = frame.Frame.Line x
naming_frame naming.Naming.Line x = frame.Frame.Line x

abbrev pub naming_node : naming.Naming → name.Name → node.Node
naming_node naming.Naming.Const x = node.Node.Const x
naming_node naming.Naming.Let x = node.Node.Let x
naming_node naming.Naming.Assign x = node.Node.Assign x
naming_node naming.Naming.Variable x = node.Node.Const x
naming_node naming.Naming.Line x = node.Node.Const x

-- the program that a tree is, or one that has no text
abbrev pub program_at : Tree → Program
program_at (ProgramOf p) = p
program_at _ = record { lines = NoLine; main = JVar (Local []); name = []; flags = JVar (Local []); ins = NoField; outs = [] }

-- what the reader has
abbrev pub trees_in : Reader → List Tree
trees_in r = trees_of r.trees

abbrev pub place_in : Reader → Place
place_in r = place_of r.frames r.entry (trees_in r)

abbrev pub outs_in : Reader → List (List ℕ)
outs_in r = reverse r.outs.items

abbrev pub want_out_in : Reader → State
want_out_in r = machine.WantOut (front_of r.entry (below (trees_in r))) (members_then (members (top (trees_in r))) NoField) (outs_in r)

-- what comes after known bytes
abbrev pub after_in : after.After → Reader → State
after_in after.After.Want r = machine.Want (place_in r)
after_in after.After.Have r = machine.Have (expression (top (trees_in r))) (place_of r.frames r.entry (below (trees_in r)))
after_in (after.After.Text t) r = machine.InText [] (text_of t r.frames r.entry (trees_in r) (outs_in r))
after_in (after.After.Field o) r = machine.WantField (members (top (trees_in r))) (object_of o r.frames r.entry (below (trees_in r)))
after_in after.After.Statement r = machine.WantStatement (statements (top (trees_in r))) (block_of r.frames r.entry (below (trees_in r)))
after_in after.After.Line r = machine.WantLine (lines (top (trees_in r)))
after_in after.After.LineName r = machine.WantLineName (lines (top (trees_in r)))
after_in after.After.Out r = want_out_in r
after_in after.After.OutDone r =
    machine.HaveOut (front_of r.entry (below (trees_in r))) (members_then (members (top (trees_in r))) NoField) r.out (outs_in r)
after_in after.After.Finished r = machine.Finished (program_at (top (trees_in r)))

-- where a name that is a parameter leads
abbrev pub parameter_of : Option name.Name → Place → State
parameter_of None k = machine.Dead
parameter_of (Some x) k = machine.Known (codes "{") (machine.WantStatement NoStatement (machine.BodyOf (name_view x) k))

abbrev pub state_at : mode.Mode → Reader → State
state_at mode.Mode.Want r = machine.Want (place_in r)
state_at mode.Mode.Have r = machine.Have (expression (top (trees_in r))) (place_of r.frames r.entry (below (trees_in r)))
state_at (mode.Mode.Name n) r = machine.InName (begun_of r.name) (naming_of n r.frames r.entry (trees_in r))
state_at (mode.Mode.Int n) r = machine.InInt n (place_in r)
state_at mode.Mode.Minus r = machine.Minus_seen (place_in r)
state_at (mode.Mode.Negative n) r = machine.InNegative n (place_in r)
state_at (mode.Mode.Text t) r = machine.InText r.units.items (text_of t r.frames r.entry (trees_in r) (outs_in r))
state_at (mode.Mode.Escape t) r = machine.InEscape r.units.items (text_of t r.frames r.entry (trees_in r) (outs_in r))
state_at (mode.Mode.Digits n a t) r = machine.InDigits r.units.items n a (text_of t r.frames r.entry (trees_in r) (outs_in r))
state_at mode.Mode.Word r = machine.InWord r.word.items (place_in r)
state_at (mode.Mode.WantName n) r = machine.WantName (naming_of n r.frames r.entry (trees_in r))
state_at (mode.Mode.Field o) r = machine.WantField (members (top (trees_in r))) (object_of o r.frames r.entry (below (trees_in r)))
state_at mode.Mode.Statement r = machine.WantStatement (statements (top (trees_in r))) (block_of r.frames r.entry (below (trees_in r)))
state_at mode.Mode.Keyword r = machine.InKeyword r.word.items (statements (top (trees_in r))) (block_of r.frames r.entry (below (trees_in r)))
state_at mode.Mode.Ended r =
    machine.Ended (statements (top (below (trees_in r)))) (block (top (trees_in r))) (block_of r.frames r.entry (below (below (trees_in r))))
state_at mode.Mode.Equals r = machine.Equals (expression (top (trees_in r))) (place_of r.frames r.entry (below (trees_in r)))
state_at mode.Mode.Line r = machine.WantLine (lines (top (trees_in r)))
state_at mode.Mode.LineName r = machine.WantLineName (lines (top (trees_in r)))
state_at mode.Mode.Out r = want_out_in r
state_at mode.Mode.OutDone r =
    machine.HaveOut (front_of r.entry (below (trees_in r))) (members_then (members (top (trees_in r))) NoField) r.out (outs_in r)
state_at (mode.Mode.Known bytes a) r = machine.Known bytes.now (after_in a r)
state_at (mode.Mode.Closing bytes) r = machine.Known (bytes.now ++ TAIL.now) (after_in after.After.Finished r)
state_at mode.Mode.Finished r = machine.Finished (program_at (top (trees_in r)))
state_at mode.Mode.Dead r = machine.Dead

abbrev pub state_of : Reader → State
state_of r = state_at r.mode r
