-- How the task of each node comes apart.
use Rattle.std.proofs.Common.{◌≡◌, ℕ, ◌-◌, ◌<◌, ◌≤◌, Bor, List, [], ◌∷◌, ◌++◌, length, codes, refl, sym, ap, ◌∙◌, subst}
use Rattle.std.proofs.Common.{◌⊎◌, inl, inr, append_assoc, append-nil, arith}
use Rattle.std.specs.declared.vec.Vec.{Vec}
use Rattle.std.specs.declared.alloc.Global.{Global}
use Rattle.js_tree.specs.declared.runtime.TheConstants.{HEAD, TAIL}
use Rattle.js_tree.specs.declared.tree.Name.{Name}
use Rattle.js_tree.specs.declared.tree.Operator.{Operator}
use Rattle.js_tree.specs.declared.tree.Helper.{Helper}
use Rattle.js_tree.specs.declared.tree.Node as node
use Rattle.js_tree.specs.declared.tree.Node.{Node}
use Rattle.js_tree.specs.Tree as plain
use Rattle.js_tree.specs.Tree.{Js, NoJs, MoreJs, JsList, Fields, NoField, MoreField, Stmts, Lines, NoLine, MoreLine}
use Rattle.js_tree.specs.Tree.{Program}
use Rattle.js_tree.specs.Text.{js_text, name_text, text_text, operator_text, helper_text, list_text, more_text}
use Rattle.js_tree.specs.Text.{fields_text, more_fields_text, stmts_text, lines_text, main_text, outs_fields}
use Rattle.js_tree.specs.Postorder.{Items, NoItem, Item, Members, NoMember, Member, Before, NoStatement, ConstThen}
use Rattle.js_tree.specs.Postorder.{LetThen, AssignThen, LinesBefore, NoLineYet, LineThen, Tree, items_then}
use Rattle.js_tree.specs.Postorder.{members_then, statements_then, lines_then, apply, below, top, expression, items}
use Rattle.js_tree.specs.Postorder.{members, statements, block, lines, name_view, operator_view, helper_view, trees_at}
use Rattle.js_printer.specs.declared.task.Task as task
use Rattle.js_printer.specs.declared.task.Task.{Task}
use Rattle.js_printer.specs.Whole.{before_text}
use Rattle.js_printer.specs.Tasks.{items_text, members_text, member_text, key_text, statement_text, line_text}
use Rattle.js_printer.specs.Tasks.{program_of, main_of, outs_of}
use Rattle.js_printer.proofs.Splits.{IsSplit, weight-positive, weight-le, weight-before}

-- the node before a place inside of the trees
pub record IsNode (ns : List Node) (place : ℕ) (n : Node) : Type 0 where
  pub trees : trees_at ns place ≡ apply n (trees_at ns (place - 1))
  pub after : 0 < place
  pub inside : place ≤ length ns

-- the place where the tree begins that ends at another
pub record IsBelow (ns : List Node) (place start : ℕ) : Type 0 where
  pub trees : trees_at ns start ≡ below (trees_at ns place)
  pub before : start ≤ place - 1

below-le : {ns : List Node} {place start : ℕ} → IsBelow ns place start → start ≤ place
below-le b = let k = b.before in omega arith

-- lists in front of others
items_whole : (before : Items) (e : Js) (es : JsList) → list_text (items_then before (MoreJs e es)) ≡ items_text before ++ (js_text e ++ more_text es)
items_whole NoItem e es = refl
items_whole (Item before d) e es = rw (items_whole before d (MoreJs e es)) (simp append_assoc)

members_whole : (before : Members) (k : List ℕ) (e : Js) (fs : Fields)
    → fields_text (members_then before (MoreField k e fs)) ≡ members_text before ++ (text_text k ++ (codes ":" ++ (js_text e ++ more_fields_text fs)))
members_whole NoMember k e fs = simp append_assoc
members_whole (Member before l d) k e fs = rw (members_whole before l d (MoreField k e fs)) (simp append_assoc)

statements_whole : (before : Before) (s : Stmts) → stmts_text (statements_then before s) ≡ before_text before ++ stmts_text s
statements_whole NoStatement s = refl
statements_whole (ConstThen before x e) s = rw (statements_whole before (plain.Const x e s)) (simp append_assoc)
statements_whole (LetThen before x e) s = rw (statements_whole before (plain.Let x e s)) (simp append_assoc)
statements_whole (AssignThen before x e) s = rw (statements_whole before (plain.Assign x e s)) (simp append_assoc)

lines_whole : (before : LinesBefore) (ls : Lines) → lines_text (lines_then before ls) ≡ lines_text (lines_then before NoLine) ++ lines_text ls
lines_whole NoLineYet ls = refl
lines_whole (LineThen before x e) ls =
    lines_whole before (MoreLine x e ls)
    ∙ (regroup (lines_text (lines_then before NoLine)) (codes "const " ++ name_text x ++ codes "=" ++ js_text e ++ codes ";\n") (lines_text ls)
    ∙ ap (λ front. front ++ lines_text ls) (sym (lines_whole before (MoreLine x e NoLine))))
  where
    regroup : (a b c : List ℕ) → a ++ (b ++ c) ≡ a ++ (b ++ []) ++ c
    regroup a b c = simp (append_assoc, append-nil)

-- pieces, each for itself
both : {a b c d : List ℕ} → a ≡ b → c ≡ d → a ++ c ≡ b ++ d
both {b = b} {c = c} e f = ap (λ x. x ++ c) e ∙ ap (λ x. b ++ x) f

-- the line of `_main`, piece by piece: its front, the brackets, the names of the fields with what they are, and the end
main_pieces : (front left right colon comma end a1 b1 a2 b2 a3 b3 a4 b4 a5 b5 : List ℕ)
    → front ++ (left ++ (a1 ++ colon ++ b1 ++ (comma ++ a2 ++ colon ++ b2 ++ (comma ++ a3 ++ colon ++ b3 ++ (comma ++ a4 ++ colon ++ (left ++ b4 ++ right) ++ (comma ++ a5 ++ colon ++ (left ++ b5 ++ right) ++ []))))) ++ right) ++ end
    ≡ front ++ (left ++ (a1 ++ (colon ++ (b1 ++ (comma ++ (a2 ++ (colon ++ (b2 ++ (comma ++ (a3 ++ (colon ++ (b3 ++ (comma ++ (a4 ++ (colon ++ (left ++ (b4 ++ (right ++ (comma ++ (a5 ++ (colon ++ (left ++ (b5 ++ (right ++ (right ++ end)))))))))))))))))))))))))
main_pieces front left right colon comma end a1 b1 a2 b2 a3 b3 a4 b4 a5 b5 = simp (append_assoc, append-nil)

main_whole : (p : Program)
    → main_text p
    ≡ codes "const _main={\"name\":" ++ (text_text p.name ++ (codes ",\"program\":" ++ (js_text p.main ++ (codes ",\"flags\":" ++ (js_text p.flags ++ (codes ",\"ins\":{"
    ++ (fields_text p.ins ++ (codes "},\"outs\":{" ++ (fields_text (outs_fields p.outs) ++ codes "}};\n")))))))))
main_whole p =
    main_pieces (codes "const _main=") (codes "{") (codes "}") (codes ":") (codes ",") (codes ";\n") (text_text (codes "name")) (text_text p.name) (text_text (codes "program")) (js_text p.main)
    (text_text (codes "flags")) (js_text p.flags) (text_text (codes "ins")) (fields_text p.ins) (text_text (codes "outs")) (fields_text (outs_fields p.outs))

pub arrow_splits : (ns : List Node) (place : ℕ) (p : Name) (right : Bor (List ℕ)) → IsNode ns place (node.Node.Arrow p) → right.now ≡ codes "})"
    → IsSplit ns (task.Task.Expression place) (codes "(" ++ name_text (name_view p) ++ codes "=>{") (task.Task.Block (place - 1) ∷ (task.Task.Bytes right ∷ []))
arrow_splits ns place p right n right-is = record {
  whole =
      let ts : List Tree = trees_at ns (place - 1) in
      ap (λ us. js_text (expression (top us))) n.trees
      ∙ (pieces (codes "(") (name_text (name_view p)) (codes "=>{") (stmts_text (block (top ts))) (codes "})")
      ∙ ap (λ rest. (codes "(" ++ name_text (name_view p) ++ codes "=>{") ++ rest) (both refl (both (sym right-is) refl)));
  lighter =
      let e = weight-before place n.after in
      let g = weight-positive (place - 1) in
      omega arith;
  inside =
      let i = n.inside in
      (omega arith, (tt, tt));
}
  where
    pieces : (a b c d e : List ℕ) → a ++ b ++ c ++ d ++ e ≡ (a ++ b ++ c) ++ (d ++ (e ++ []))
    pieces a b c d e = simp (append_assoc, append-nil)

pub block_splits : (ns : List Node) (place : ℕ) (right : Bor (List ℕ)) → IsNode ns place node.Node.Block → right.now ≡ codes "})()"
    → IsSplit ns (task.Task.Expression place) ((codes "(()=>{")) (task.Task.Block (place - 1) ∷ (task.Task.Bytes right ∷ []))
block_splits ns place right n right-is = record {
  whole =
      let ts : List Tree = trees_at ns (place - 1) in
      ap (λ us. js_text (expression (top us))) n.trees
      ∙ (pieces (codes "(()=>{") (stmts_text (block (top ts))) (codes "})()")
      ∙ ap (λ rest. ((codes "(()=>{")) ++ rest) (both refl (both (sym right-is) refl)));
  lighter =
      let e = weight-before place n.after in
      let g = weight-positive (place - 1) in
      omega arith;
  inside =
      let i = n.inside in
      (omega arith, (tt, tt));
}
  where
    pieces : (a b c : List ℕ) → a ++ b ++ c ≡ a ++ (b ++ (c ++ []))
    pieces a b c = simp (append_assoc, append-nil)

pub call_splits : (ns : List Node) (place f : ℕ) (left right : Bor (List ℕ)) → IsNode ns place node.Node.Call → IsBelow ns (place - 1) f → left.now ≡ codes "(" → right.now ≡ codes ")"
    → IsSplit ns (task.Task.Expression place) [] (task.Task.Expression f ∷ (task.Task.Bytes left ∷ (task.Task.Expression (place - 1) ∷ (task.Task.Bytes right ∷ []))))
call_splits ns place f left right n f-below left-is right-is = record {
  whole =
      let ts : List Tree = trees_at ns (place - 1) in
      ap (λ us. js_text (expression (top us))) n.trees
      ∙ (pieces (js_text (expression (top (below ts)))) (codes "(") (js_text (expression (top ts))) (codes ")")
      ∙ both (ap (λ us. js_text (expression (top us))) (sym f-below.trees)) (both (sym left-is) (both refl (both (sym right-is) refl))));
  lighter =
      let e = weight-before place n.after in
      let g = weight-positive (place - 1) in
      let f-weight = weight-le f (place - 1) (below-le f-below) in
      omega arith;
  inside =
      let i = n.inside in
      let f-le = below-le f-below in
      (omega arith, (tt, (omega arith, (tt, tt))));
}
  where
    pieces : (a b c d : List ℕ) → a ++ b ++ c ++ d ≡ a ++ (b ++ (c ++ (d ++ [])))
    pieces a b c d = simp (append_assoc, append-nil)

pub binary_splits : (ns : List Node) (place f : ℕ) (op : Operator) (between right : Bor (List ℕ)) → IsNode ns place (node.Node.Binary op) → IsBelow ns (place - 1) f → between.now ≡ operator_text (operator_view op) → right.now ≡ codes ")"
    → IsSplit ns (task.Task.Expression place) ((codes "(")) (task.Task.Expression f ∷ (task.Task.Bytes between ∷ (task.Task.Expression (place - 1) ∷ (task.Task.Bytes right ∷ []))))
binary_splits ns place f op between right n f-below between-is right-is = record {
  whole =
      let ts : List Tree = trees_at ns (place - 1) in
      ap (λ us. js_text (expression (top us))) n.trees
      ∙ (pieces (codes "(") (js_text (expression (top (below ts)))) (operator_text (operator_view op)) (js_text (expression (top ts))) (codes ")")
      ∙ ap (λ rest. ((codes "(")) ++ rest) (both (ap (λ us. js_text (expression (top us))) (sym f-below.trees)) (both (sym between-is) (both refl (both (sym right-is) refl)))));
  lighter =
      let e = weight-before place n.after in
      let g = weight-positive (place - 1) in
      let f-weight = weight-le f (place - 1) (below-le f-below) in
      omega arith;
  inside =
      let i = n.inside in
      let f-le = below-le f-below in
      (omega arith, (tt, (omega arith, (tt, tt))));
}
  where
    pieces : (a b c d e : List ℕ) → a ++ b ++ c ++ d ++ e ≡ a ++ (b ++ (c ++ (d ++ (e ++ []))))
    pieces a b c d e = simp (append_assoc, append-nil)

pub conditional_splits : (ns : List Node) (place middle test : ℕ) (first second right : Bor (List ℕ)) → IsNode ns place node.Node.Conditional → IsBelow ns (place - 1) middle → IsBelow ns middle test → first.now ≡ codes "?" → second.now ≡ codes ":" → right.now ≡ codes ")"
    → IsSplit ns (task.Task.Expression place) ((codes "(")) (task.Task.Expression test ∷ (task.Task.Bytes first ∷ (task.Task.Expression middle ∷ (task.Task.Bytes second ∷ (task.Task.Expression (place - 1) ∷ (task.Task.Bytes right ∷ []))))))
conditional_splits ns place middle test first second right n middle-below test-below first-is second-is right-is = record {
  whole =
      let ts : List Tree = trees_at ns (place - 1) in
      ap (λ us. js_text (expression (top us))) n.trees
      ∙ (pieces (codes "(") (js_text (expression (top (below (below ts))))) (codes "?") (js_text (expression (top (below ts)))) (codes ":") (js_text (expression (top ts))) (codes ")")
      ∙ ap (λ rest. ((codes "(")) ++ rest) (both (ap (λ us. js_text (expression (top us))) (sym (test-below.trees ∙ ap below middle-below.trees))) (both (sym first-is) (both (ap (λ us. js_text (expression (top us))) (sym middle-below.trees)) (both (sym second-is) (both refl (both (sym right-is) refl)))))));
  lighter =
      let e = weight-before place n.after in
      let g = weight-positive (place - 1) in
      let middle-weight = weight-le middle (place - 1) (below-le middle-below) in
      let test-weight = weight-le test middle (below-le test-below) in
      omega arith;
  inside =
      let i = n.inside in
      let middle-le = below-le middle-below in
      let test-le = below-le test-below in
      (omega arith, (tt, (omega arith, (tt, (omega arith, (tt, tt))))));
}
  where
    pieces : (a b c d e f g : List ℕ) → a ++ b ++ c ++ d ++ e ++ f ++ g ≡ a ++ (b ++ (c ++ (d ++ (e ++ (f ++ (g ++ []))))))
    pieces a b c d e f g = simp (append_assoc, append-nil)

pub object_splits : (ns : List Node) (place : ℕ) (right : Bor (List ℕ)) → IsNode ns place node.Node.Object → right.now ≡ codes "}"
    → IsSplit ns (task.Task.Expression place) ((codes "{")) (task.Task.Members (place - 1) ∷ (task.Task.Bytes right ∷ []))
object_splits ns place right n right-is = record {
  whole =
      let ts : List Tree = trees_at ns (place - 1) in
      ap (λ us. js_text (expression (top us))) n.trees
      ∙ (pieces (codes "{") (fields_text (members_then (members (top ts)) NoField)) (codes "}")
      ∙ ap (λ rest. ((codes "{")) ++ rest) (both refl (both (sym right-is) refl)));
  lighter =
      let e = weight-before place n.after in
      let g = weight-positive (place - 1) in
      omega arith;
  inside =
      let i = n.inside in
      (omega arith, (tt, tt));
}
  where
    pieces : (a b c : List ℕ) → a ++ b ++ c ≡ a ++ (b ++ (c ++ []))
    pieces a b c = simp (append_assoc, append-nil)

pub property_splits : (ns : List Node) (place : ℕ) (k : List ℕ) → IsNode ns place (node.Node.Property k)
    → IsSplit ns (task.Task.Expression place) [] (task.Task.Expression (place - 1) ∷ (task.Task.Key place ∷ []))
property_splits ns place k n = record {
  whole =
      let ts : List Tree = trees_at ns (place - 1) in
      ap (λ us. js_text (expression (top us))) n.trees
      ∙ (pieces (js_text (expression (top ts))) (codes "[") (text_text k) (codes "]")
      ∙ both refl (both (ap (λ us. key_text (expression (top us))) (sym n.trees)) refl));
  lighter =
      let e = weight-before place n.after in
      let g = weight-positive (place - 1) in
      omega arith;
  inside =
      let i = n.inside in
      (omega arith, (omega arith, tt));
}
  where
    pieces : (a b c d : List ℕ) → a ++ b ++ c ++ d ≡ a ++ ((b ++ c ++ d) ++ [])
    pieces a b c d = simp (append_assoc, append-nil)

pub list_splits : (ns : List Node) (place : ℕ) (right : Bor (List ℕ)) → IsNode ns place node.Node.List → right.now ≡ codes "])"
    → IsSplit ns (task.Task.Expression place) ((codes "_list([")) (task.Task.Items (place - 1) ∷ (task.Task.Bytes right ∷ []))
list_splits ns place right n right-is = record {
  whole =
      let ts : List Tree = trees_at ns (place - 1) in
      ap (λ us. js_text (expression (top us))) n.trees
      ∙ (pieces (codes "_list([") (list_text (items_then (items (top ts)) NoJs)) (codes "])")
      ∙ ap (λ rest. ((codes "_list([")) ++ rest) (both refl (both (sym right-is) refl)));
  lighter =
      let e = weight-before place n.after in
      let g = weight-positive (place - 1) in
      omega arith;
  inside =
      let i = n.inside in
      (omega arith, (tt, tt));
}
  where
    pieces : (a b c : List ℕ) → a ++ b ++ c ≡ a ++ (b ++ (c ++ []))
    pieces a b c = simp (append_assoc, append-nil)

pub helper_splits : (ns : List Node) (place : ℕ) (h : Helper) (right : Bor (List ℕ)) → IsNode ns place (node.Node.Helper h) → right.now ≡ codes ")"
    → IsSplit ns (task.Task.Expression place) (helper_text (helper_view h) ++ codes "(") (task.Task.Items (place - 1) ∷ (task.Task.Bytes right ∷ []))
helper_splits ns place h right n right-is = record {
  whole =
      let ts : List Tree = trees_at ns (place - 1) in
      ap (λ us. js_text (expression (top us))) n.trees
      ∙ (pieces (helper_text (helper_view h)) (codes "(") (list_text (items_then (items (top ts)) NoJs)) (codes ")")
      ∙ ap (λ rest. (helper_text (helper_view h) ++ codes "(") ++ rest) (both refl (both (sym right-is) refl)));
  lighter =
      let e = weight-before place n.after in
      let g = weight-positive (place - 1) in
      omega arith;
  inside =
      let i = n.inside in
      (omega arith, (tt, tt));
}
  where
    pieces : (a b c d : List ℕ) → a ++ b ++ c ++ d ≡ (a ++ b) ++ (c ++ (d ++ []))
    pieces a b c d = simp (append_assoc, append-nil)

pub items_splits : (ns : List Node) (place before : ℕ) → IsNode ns place node.Node.Item → IsBelow ns (place - 1) before
    → IsSplit ns (task.Task.Items place) [] (task.Task.ItemsBefore before ∷ (task.Task.Expression (place - 1) ∷ []))
items_splits ns place before n before-below = record {
  whole =
      let ts : List Tree = trees_at ns (place - 1) in
      ap (λ us. list_text (items_then (items (top us)) NoJs)) n.trees
      ∙ (items_whole (items (top (below ts))) (expression (top ts)) NoJs
      ∙ (pieces (items_text (items (top (below ts)))) (js_text (expression (top ts)))
      ∙ both (ap (λ us. items_text (items (top us))) (sym before-below.trees)) refl));
  lighter =
      let e = weight-before place n.after in
      let g = weight-positive (place - 1) in
      let before-weight = weight-le before (place - 1) (below-le before-below) in
      omega arith;
  inside =
      let i = n.inside in
      let before-le = below-le before-below in
      (omega arith, (omega arith, tt));
}
  where
    pieces : (a b : List ℕ) → a ++ (b ++ []) ≡ a ++ (b ++ [])
    pieces a b = simp (append_assoc, append-nil)

pub items_before_splits : (ns : List Node) (place before : ℕ) (comma : Bor (List ℕ)) → IsNode ns place node.Node.Item → IsBelow ns (place - 1) before → comma.now ≡ codes ","
    → IsSplit ns (task.Task.ItemsBefore place) [] (task.Task.ItemsBefore before ∷ (task.Task.Expression (place - 1) ∷ (task.Task.Bytes comma ∷ [])))
items_before_splits ns place before comma n before-below comma-is = record {
  whole =
      let ts : List Tree = trees_at ns (place - 1) in
      ap (λ us. items_text (items (top us))) n.trees
      ∙ (pieces (items_text (items (top (below ts)))) (js_text (expression (top ts))) (codes ",")
      ∙ both (ap (λ us. items_text (items (top us))) (sym before-below.trees)) (both refl (both (sym comma-is) refl)));
  lighter =
      let e = weight-before place n.after in
      let g = weight-positive (place - 1) in
      let before-weight = weight-le before (place - 1) (below-le before-below) in
      omega arith;
  inside =
      let i = n.inside in
      let before-le = below-le before-below in
      (omega arith, (omega arith, (tt, tt)));
}
  where
    pieces : (a b c : List ℕ) → a ++ b ++ c ≡ a ++ (b ++ (c ++ []))
    pieces a b c = simp (append_assoc, append-nil)

pub members_splits : (ns : List Node) (place before : ℕ) (k : List ℕ) → IsNode ns place (node.Node.Field k) → IsBelow ns (place - 1) before
    → IsSplit ns (task.Task.Members place) [] (task.Task.MembersBefore before ∷ (task.Task.Member place ∷ []))
members_splits ns place before k n before-below = record {
  whole =
      let ts : List Tree = trees_at ns (place - 1) in
      ap (λ us. fields_text (members_then (members (top us)) NoField)) n.trees
      ∙ (members_whole (members (top (below ts))) k (expression (top ts)) NoField
      ∙ (pieces (members_text (members (top (below ts)))) (text_text k) (codes ":") (js_text (expression (top ts)))
      ∙ both (ap (λ us. members_text (members (top us))) (sym before-below.trees)) (both (ap (λ us. member_text (members (top us))) (sym n.trees)) refl)));
  lighter =
      let e = weight-before place n.after in
      let g = weight-positive (place - 1) in
      let before-weight = weight-le before (place - 1) (below-le before-below) in
      omega arith;
  inside =
      let i = n.inside in
      let before-le = below-le before-below in
      (omega arith, (omega arith, tt));
}
  where
    pieces : (a b c d : List ℕ) → a ++ (b ++ (c ++ (d ++ []))) ≡ a ++ ((b ++ c ++ d) ++ [])
    pieces a b c d = simp (append_assoc, append-nil)

pub members_before_splits : (ns : List Node) (place before : ℕ) (k : List ℕ) (comma : Bor (List ℕ)) → IsNode ns place (node.Node.Field k) → IsBelow ns (place - 1) before → comma.now ≡ codes ","
    → IsSplit ns (task.Task.MembersBefore place) [] (task.Task.MembersBefore before ∷ (task.Task.Member place ∷ (task.Task.Bytes comma ∷ [])))
members_before_splits ns place before k comma n before-below comma-is = record {
  whole =
      let ts : List Tree = trees_at ns (place - 1) in
      ap (λ us. members_text (members (top us))) n.trees
      ∙ (pieces (members_text (members (top (below ts)))) (text_text k) (codes ":") (js_text (expression (top ts))) (codes ",")
      ∙ both (ap (λ us. members_text (members (top us))) (sym before-below.trees)) (both (ap (λ us. member_text (members (top us))) (sym n.trees)) (both (sym comma-is) refl)));
  lighter =
      let e = weight-before place n.after in
      let g = weight-positive (place - 1) in
      let before-weight = weight-le before (place - 1) (below-le before-below) in
      omega arith;
  inside =
      let i = n.inside in
      let before-le = below-le before-below in
      (omega arith, (omega arith, (tt, tt)));
}
  where
    pieces : (a b c d e : List ℕ) → a ++ b ++ c ++ d ++ e ≡ a ++ ((b ++ c ++ d) ++ (e ++ []))
    pieces a b c d e = simp (append_assoc, append-nil)

pub member_splits : (ns : List Node) (place : ℕ) (k : List ℕ) → IsNode ns place (node.Node.Field k)
    → IsSplit ns (task.Task.Member place) (text_text k ++ codes ":") (task.Task.Expression (place - 1) ∷ [])
member_splits ns place k n = record {
  whole =
      let ts : List Tree = trees_at ns (place - 1) in
      ap (λ us. member_text (members (top us))) n.trees
      ∙ (pieces (text_text k) (codes ":") (js_text (expression (top ts)))
      ∙ ap (λ rest. (text_text k ++ codes ":") ++ rest) refl);
  lighter =
      let e = weight-before place n.after in
      let g = weight-positive (place - 1) in
      omega arith;
  inside =
      let i = n.inside in
      (omega arith, tt);
}
  where
    pieces : (a b c : List ℕ) → a ++ b ++ c ≡ (a ++ b) ++ (c ++ [])
    pieces a b c = simp (append_assoc, append-nil)

pub const_splits : (ns : List Node) (place before : ℕ) (x : Name) → IsNode ns place (node.Node.Const x) → IsBelow ns (place - 1) before
    → IsSplit ns (task.Task.Statements place) [] (task.Task.Statements before ∷ (task.Task.Statement place ∷ []))
const_splits ns place before x n before-below = record {
  whole =
      let ts : List Tree = trees_at ns (place - 1) in
      ap (λ us. before_text (statements (top us))) n.trees
      ∙ (pieces (before_text (statements (top (below ts)))) (codes "const ") (name_text (name_view x)) (codes "=") (js_text (expression (top ts))) (codes ";")
      ∙ both (ap (λ us. before_text (statements (top us))) (sym before-below.trees)) (both (ap (λ us. statement_text (statements (top us))) (sym n.trees)) refl));
  lighter =
      let e = weight-before place n.after in
      let g = weight-positive (place - 1) in
      let before-weight = weight-le before (place - 1) (below-le before-below) in
      omega arith;
  inside =
      let i = n.inside in
      let before-le = below-le before-below in
      (omega arith, (omega arith, tt));
}
  where
    pieces : (a b c d e f : List ℕ) → a ++ b ++ c ++ d ++ e ++ f ≡ a ++ ((b ++ c ++ d ++ e ++ f) ++ [])
    pieces a b c d e f = simp (append_assoc, append-nil)

pub const_value_splits : (ns : List Node) (place : ℕ) (x : Name) (right : Bor (List ℕ)) → IsNode ns place (node.Node.Const x) → right.now ≡ codes ";"
    → IsSplit ns (task.Task.Statement place) (codes "const " ++ (name_text (name_view x) ++ codes "=")) (task.Task.Expression (place - 1) ∷ (task.Task.Bytes right ∷ []))
const_value_splits ns place x right n right-is = record {
  whole =
      let ts : List Tree = trees_at ns (place - 1) in
      ap (λ us. statement_text (statements (top us))) n.trees
      ∙ (pieces (codes "const ") (name_text (name_view x)) (codes "=") (js_text (expression (top ts))) (codes ";")
      ∙ ap (λ rest. (codes "const " ++ (name_text (name_view x) ++ codes "=")) ++ rest) (both refl (both (sym right-is) refl)));
  lighter =
      let e = weight-before place n.after in
      let g = weight-positive (place - 1) in
      omega arith;
  inside =
      let i = n.inside in
      (omega arith, (tt, tt));
}
  where
    pieces : (b c d e f : List ℕ) → b ++ c ++ d ++ e ++ f ≡ (b ++ (c ++ d)) ++ (e ++ (f ++ []))
    pieces b c d e f = simp (append_assoc, append-nil)

pub let_splits : (ns : List Node) (place before : ℕ) (x : Name) → IsNode ns place (node.Node.Let x) → IsBelow ns (place - 1) before
    → IsSplit ns (task.Task.Statements place) [] (task.Task.Statements before ∷ (task.Task.Statement place ∷ []))
let_splits ns place before x n before-below = record {
  whole =
      let ts : List Tree = trees_at ns (place - 1) in
      ap (λ us. before_text (statements (top us))) n.trees
      ∙ (pieces (before_text (statements (top (below ts)))) (codes "let ") (name_text (name_view x)) (codes "=") (js_text (expression (top ts))) (codes ";")
      ∙ both (ap (λ us. before_text (statements (top us))) (sym before-below.trees)) (both (ap (λ us. statement_text (statements (top us))) (sym n.trees)) refl));
  lighter =
      let e = weight-before place n.after in
      let g = weight-positive (place - 1) in
      let before-weight = weight-le before (place - 1) (below-le before-below) in
      omega arith;
  inside =
      let i = n.inside in
      let before-le = below-le before-below in
      (omega arith, (omega arith, tt));
}
  where
    pieces : (a b c d e f : List ℕ) → a ++ b ++ c ++ d ++ e ++ f ≡ a ++ ((b ++ c ++ d ++ e ++ f) ++ [])
    pieces a b c d e f = simp (append_assoc, append-nil)

pub let_value_splits : (ns : List Node) (place : ℕ) (x : Name) (right : Bor (List ℕ)) → IsNode ns place (node.Node.Let x) → right.now ≡ codes ";"
    → IsSplit ns (task.Task.Statement place) (codes "let " ++ (name_text (name_view x) ++ codes "=")) (task.Task.Expression (place - 1) ∷ (task.Task.Bytes right ∷ []))
let_value_splits ns place x right n right-is = record {
  whole =
      let ts : List Tree = trees_at ns (place - 1) in
      ap (λ us. statement_text (statements (top us))) n.trees
      ∙ (pieces (codes "let ") (name_text (name_view x)) (codes "=") (js_text (expression (top ts))) (codes ";")
      ∙ ap (λ rest. (codes "let " ++ (name_text (name_view x) ++ codes "=")) ++ rest) (both refl (both (sym right-is) refl)));
  lighter =
      let e = weight-before place n.after in
      let g = weight-positive (place - 1) in
      omega arith;
  inside =
      let i = n.inside in
      (omega arith, (tt, tt));
}
  where
    pieces : (b c d e f : List ℕ) → b ++ c ++ d ++ e ++ f ≡ (b ++ (c ++ d)) ++ (e ++ (f ++ []))
    pieces b c d e f = simp (append_assoc, append-nil)

pub assign_splits : (ns : List Node) (place before : ℕ) (x : Name) → IsNode ns place (node.Node.Assign x) → IsBelow ns (place - 1) before
    → IsSplit ns (task.Task.Statements place) [] (task.Task.Statements before ∷ (task.Task.Statement place ∷ []))
assign_splits ns place before x n before-below = record {
  whole =
      let ts : List Tree = trees_at ns (place - 1) in
      ap (λ us. before_text (statements (top us))) n.trees
      ∙ (pieces (before_text (statements (top (below ts)))) (name_text (name_view x)) (codes "=") (js_text (expression (top ts))) (codes ";")
      ∙ both (ap (λ us. before_text (statements (top us))) (sym before-below.trees)) (both (ap (λ us. statement_text (statements (top us))) (sym n.trees)) refl));
  lighter =
      let e = weight-before place n.after in
      let g = weight-positive (place - 1) in
      let before-weight = weight-le before (place - 1) (below-le before-below) in
      omega arith;
  inside =
      let i = n.inside in
      let before-le = below-le before-below in
      (omega arith, (omega arith, tt));
}
  where
    pieces : (a c d e f : List ℕ) → a ++ c ++ d ++ e ++ f ≡ a ++ ((c ++ d ++ e ++ f) ++ [])
    pieces a c d e f = simp (append_assoc, append-nil)

pub assign_value_splits : (ns : List Node) (place : ℕ) (x : Name) (right : Bor (List ℕ)) → IsNode ns place (node.Node.Assign x) → right.now ≡ codes ";"
    → IsSplit ns (task.Task.Statement place) (name_text (name_view x) ++ codes "=") (task.Task.Expression (place - 1) ∷ (task.Task.Bytes right ∷ []))
assign_value_splits ns place x right n right-is = record {
  whole =
      let ts : List Tree = trees_at ns (place - 1) in
      ap (λ us. statement_text (statements (top us))) n.trees
      ∙ (pieces (name_text (name_view x)) (codes "=") (js_text (expression (top ts))) (codes ";")
      ∙ ap (λ rest. (name_text (name_view x) ++ codes "=") ++ rest) (both refl (both (sym right-is) refl)));
  lighter =
      let e = weight-before place n.after in
      let g = weight-positive (place - 1) in
      omega arith;
  inside =
      let i = n.inside in
      (omega arith, (tt, tt));
}
  where
    pieces : (c d e f : List ℕ) → c ++ d ++ e ++ f ≡ (c ++ d) ++ (e ++ (f ++ []))
    pieces c d e f = simp (append_assoc, append-nil)

pub return_splits : (ns : List Node) (place : ℕ) (right : Bor (List ℕ)) → IsNode ns place node.Node.Return → right.now ≡ codes ";"
    → IsSplit ns (task.Task.Block place) ((codes "return ")) (task.Task.Expression (place - 1) ∷ (task.Task.Bytes right ∷ []))
return_splits ns place right n right-is = record {
  whole =
      let ts : List Tree = trees_at ns (place - 1) in
      ap (λ us. stmts_text (block (top us))) n.trees
      ∙ (pieces (codes "return ") (js_text (expression (top ts))) (codes ";")
      ∙ ap (λ rest. ((codes "return ")) ++ rest) (both refl (both (sym right-is) refl)));
  lighter =
      let e = weight-before place n.after in
      let g = weight-positive (place - 1) in
      omega arith;
  inside =
      let i = n.inside in
      (omega arith, (tt, tt));
}
  where
    pieces : (a b c : List ℕ) → a ++ b ++ c ≡ a ++ (b ++ (c ++ []))
    pieces a b c = simp (append_assoc, append-nil)

pub if_splits : (ns : List Node) (place middle test : ℕ) (first second right : Bor (List ℕ)) → IsNode ns place node.Node.If → IsBelow ns (place - 1) middle → IsBelow ns middle test → first.now ≡ codes "){" → second.now ≡ codes "}else{" → right.now ≡ codes "}"
    → IsSplit ns (task.Task.Block place) ((codes "if(")) (task.Task.Expression test ∷ (task.Task.Bytes first ∷ (task.Task.Block middle ∷ (task.Task.Bytes second ∷ (task.Task.Block (place - 1) ∷ (task.Task.Bytes right ∷ []))))))
if_splits ns place middle test first second right n middle-below test-below first-is second-is right-is = record {
  whole =
      let ts : List Tree = trees_at ns (place - 1) in
      ap (λ us. stmts_text (block (top us))) n.trees
      ∙ (pieces (codes "if(") (js_text (expression (top (below (below ts))))) (codes "){") (stmts_text (block (top (below ts)))) (codes "}else{") (stmts_text (block (top ts))) (codes "}")
      ∙ ap (λ rest. ((codes "if(")) ++ rest) (both (ap (λ us. js_text (expression (top us))) (sym (test-below.trees ∙ ap below middle-below.trees))) (both (sym first-is) (both (ap (λ us. stmts_text (block (top us))) (sym middle-below.trees)) (both (sym second-is) (both refl (both (sym right-is) refl)))))));
  lighter =
      let e = weight-before place n.after in
      let g = weight-positive (place - 1) in
      let middle-weight = weight-le middle (place - 1) (below-le middle-below) in
      let test-weight = weight-le test middle (below-le test-below) in
      omega arith;
  inside =
      let i = n.inside in
      let middle-le = below-le middle-below in
      let test-le = below-le test-below in
      (omega arith, (tt, (omega arith, (tt, (omega arith, (tt, tt))))));
}
  where
    pieces : (a b c d e f g : List ℕ) → a ++ b ++ c ++ d ++ e ++ f ++ g ≡ a ++ (b ++ (c ++ (d ++ (e ++ (f ++ (g ++ []))))))
    pieces a b c d e f g = simp (append_assoc, append-nil)

pub while_splits : (ns : List Node) (place : ℕ) (right : Bor (List ℕ)) → IsNode ns place node.Node.While → right.now ≡ codes "}"
    → IsSplit ns (task.Task.Block place) ((codes "while(true){")) (task.Task.Block (place - 1) ∷ (task.Task.Bytes right ∷ []))
while_splits ns place right n right-is = record {
  whole =
      let ts : List Tree = trees_at ns (place - 1) in
      ap (λ us. stmts_text (block (top us))) n.trees
      ∙ (pieces (codes "while(true){") (stmts_text (block (top ts))) (codes "}")
      ∙ ap (λ rest. ((codes "while(true){")) ++ rest) (both refl (both (sym right-is) refl)));
  lighter =
      let e = weight-before place n.after in
      let g = weight-positive (place - 1) in
      omega arith;
  inside =
      let i = n.inside in
      (omega arith, (tt, tt));
}
  where
    pieces : (a b c : List ℕ) → a ++ b ++ c ≡ a ++ (b ++ (c ++ []))
    pieces a b c = simp (append_assoc, append-nil)

pub ended_splits : (ns : List Node) (place before : ℕ) → IsNode ns place node.Node.Ended → IsBelow ns (place - 1) before
    → IsSplit ns (task.Task.Block place) [] (task.Task.Statements before ∷ (task.Task.Block (place - 1) ∷ []))
ended_splits ns place before n before-below = record {
  whole =
      let ts : List Tree = trees_at ns (place - 1) in
      ap (λ us. stmts_text (block (top us))) n.trees
      ∙ (statements_whole (statements (top (below ts))) (block (top ts))
      ∙ (pieces (before_text (statements (top (below ts)))) (stmts_text (block (top ts)))
      ∙ both (ap (λ us. before_text (statements (top us))) (sym before-below.trees)) refl));
  lighter =
      let e = weight-before place n.after in
      let g = weight-positive (place - 1) in
      let before-weight = weight-le before (place - 1) (below-le before-below) in
      omega arith;
  inside =
      let i = n.inside in
      let before-le = below-le before-below in
      (omega arith, (omega arith, tt));
}
  where
    pieces : (a b : List ℕ) → a ++ b ≡ a ++ (b ++ [])
    pieces a b = simp (append_assoc, append-nil)

pub lines_splits : (ns : List Node) (place before : ℕ) (x : Name) → IsNode ns place (node.Node.Line x) → IsBelow ns (place - 1) before
    → IsSplit ns (task.Task.Lines place) [] (task.Task.Lines before ∷ (task.Task.Line place ∷ []))
lines_splits ns place before x n before-below = record {
  whole =
      let ts : List Tree = trees_at ns (place - 1) in
      ap (λ us. lines_text (lines_then (lines (top us)) NoLine)) n.trees
      ∙ (lines_whole (lines (top (below ts))) (MoreLine (name_view x) (expression (top ts)) NoLine)
      ∙ (pieces (lines_text (lines_then (lines (top (below ts))) NoLine)) (codes "const ") (name_text (name_view x)) (codes "=") (js_text (expression (top ts))) (codes ";\n")
      ∙ both (ap (λ us. lines_text (lines_then (lines (top us)) NoLine)) (sym before-below.trees)) (both (ap (λ us. line_text (lines (top us))) (sym n.trees)) refl)));
  lighter =
      let e = weight-before place n.after in
      let g = weight-positive (place - 1) in
      let before-weight = weight-le before (place - 1) (below-le before-below) in
      omega arith;
  inside =
      let i = n.inside in
      let before-le = below-le before-below in
      (omega arith, (omega arith, tt));
}
  where
    pieces : (a b c d e f : List ℕ) → a ++ (b ++ c ++ d ++ e ++ f ++ []) ≡ a ++ ((b ++ c ++ d ++ e ++ f) ++ [])
    pieces a b c d e f = simp (append_assoc, append-nil)

pub line_splits : (ns : List Node) (place : ℕ) (x : Name) (right : Bor (List ℕ)) → IsNode ns place (node.Node.Line x) → right.now ≡ codes ";\n"
    → IsSplit ns (task.Task.Line place) (codes "const " ++ (name_text (name_view x) ++ codes "=")) (task.Task.Expression (place - 1) ∷ (task.Task.Bytes right ∷ []))
line_splits ns place x right n right-is = record {
  whole =
      let ts : List Tree = trees_at ns (place - 1) in
      ap (λ us. line_text (lines (top us))) n.trees
      ∙ (pieces (codes "const ") (name_text (name_view x)) (codes "=") (js_text (expression (top ts))) (codes ";\n")
      ∙ ap (λ rest. (codes "const " ++ (name_text (name_view x) ++ codes "=")) ++ rest) (both refl (both (sym right-is) refl)));
  lighter =
      let e = weight-before place n.after in
      let g = weight-positive (place - 1) in
      omega arith;
  inside =
      let i = n.inside in
      (omega arith, (tt, tt));
}
  where
    pieces : (b c d e f : List ℕ) → b ++ c ++ d ++ e ++ f ≡ (b ++ (c ++ d)) ++ (e ++ (f ++ []))
    pieces b c d e f = simp (append_assoc, append-nil)

pub program_splits : (ns : List Node) (place flags main front : ℕ) (name : List ℕ) (outs : Vec (List ℕ) Global) (tail : Bor (List ℕ)) → IsNode ns place (node.Node.Program name outs) → IsBelow ns (place - 1) flags → IsBelow ns flags main → IsBelow ns main front → tail.now ≡ TAIL.now
    → IsSplit ns (task.Task.Program place) (HEAD.now) (task.Task.Lines front ∷ (task.Task.Main place ∷ (task.Task.Bytes tail ∷ [])))
program_splits ns place flags main front name outs tail n flags-below main-below front-below tail-is = record {
  whole =
      let ts : List Tree = trees_at ns (place - 1) in
      ap (λ us. program_of (top us)) n.trees
      ∙ (pieces HEAD.now (lines_text (lines_then (lines (top (below (below (below ts))))) NoLine)) (main_text (record { lines = lines_then (lines (top (below (below (below ts))))) NoLine; main = expression (top (below (below ts))); name = name; flags = expression (top (below ts)); ins = members_then (members (top ts)) NoField; outs = outs.items })) (TAIL.now)
      ∙ ap (λ rest. (HEAD.now) ++ rest) (both (ap (λ us. lines_text (lines_then (lines (top us)) NoLine)) (sym (front-below.trees ∙ ap below (main-below.trees ∙ ap below flags-below.trees)))) (both (ap (λ us. main_of (top us)) (sym n.trees)) (both (sym tail-is) refl))));
  lighter =
      let e = weight-before place n.after in
      let g = weight-positive (place - 1) in
      let flags-weight = weight-le flags (place - 1) (below-le flags-below) in
      let main-weight = weight-le main flags (below-le main-below) in
      let front-weight = weight-le front main (below-le front-below) in
      omega arith;
  inside =
      let i = n.inside in
      let flags-le = below-le flags-below in
      let main-le = below-le main-below in
      let front-le = below-le front-below in
      (omega arith, (omega arith, (tt, tt)));
}
  where
    pieces : (a b c d : List ℕ) → a ++ b ++ c ++ d ≡ a ++ (b ++ (c ++ (d ++ [])))
    pieces a b c d = simp (append_assoc, append-nil)

pub main_splits : (ns : List Node) (place flags main : ℕ) (name : List ℕ) (outs : Vec (List ℕ) Global) (first second third right : Bor (List ℕ)) → IsNode ns place (node.Node.Program name outs) → IsBelow ns (place - 1) flags → IsBelow ns flags main → first.now ≡ codes ",\"flags\":" → second.now ≡ codes ",\"ins\":{" → third.now ≡ codes "},\"outs\":{" → right.now ≡ codes "}};\n"
    → IsSplit ns (task.Task.Main place) (codes "const _main={\"name\":" ++ text_text name ++ codes ",\"program\":") (task.Task.Expression main ∷ (task.Task.Bytes first ∷ (task.Task.Expression flags ∷ (task.Task.Bytes second ∷ (task.Task.Members (place - 1) ∷ (task.Task.Bytes third ∷ (task.Task.Outs place ∷ (task.Task.Bytes right ∷ []))))))))
main_splits ns place flags main name outs first second third right n flags-below main-below first-is second-is third-is right-is = record {
  whole =
      let ts : List Tree = trees_at ns (place - 1) in
      ap (λ us. main_of (top us)) n.trees
      ∙ (main_whole (record { lines = lines_then (lines (top (below (below (below ts))))) NoLine; main = expression (top (below (below ts))); name = name; flags = expression (top (below ts)); ins = members_then (members (top ts)) NoField; outs = outs.items })
      ∙ (pieces (codes "const _main={\"name\":") (text_text name) (codes ",\"program\":") (js_text (expression (top (below (below ts))))) (codes ",\"flags\":") (js_text (expression (top (below ts)))) (codes ",\"ins\":{") (fields_text (members_then (members (top ts)) NoField)) (codes "},\"outs\":{") (fields_text (outs_fields outs.items)) (codes "}};\n")
      ∙ ap (λ rest. (codes "const _main={\"name\":" ++ text_text name ++ codes ",\"program\":") ++ rest) (both (ap (λ us. js_text (expression (top us))) (sym (main-below.trees ∙ ap below flags-below.trees))) (both (sym first-is) (both (ap (λ us. js_text (expression (top us))) (sym flags-below.trees)) (both (sym second-is) (both refl (both (sym third-is) (both (ap (λ us. outs_of (top us)) (sym n.trees)) (both (sym right-is) refl))))))))));
  lighter =
      let e = weight-before place n.after in
      let g = weight-positive (place - 1) in
      let flags-weight = weight-le flags (place - 1) (below-le flags-below) in
      let main-weight = weight-le main flags (below-le main-below) in
      omega arith;
  inside =
      let i = n.inside in
      let flags-le = below-le flags-below in
      let main-le = below-le main-below in
      (omega arith, (tt, (omega arith, (tt, (omega arith, (tt, (omega arith, (tt, tt))))))));
}
  where
    pieces : (a b c d e f g h i j k : List ℕ) → a ++ (b ++ (c ++ (d ++ (e ++ (f ++ (g ++ (h ++ (i ++ (j ++ k))))))))) ≡ (a ++ b ++ c) ++ (d ++ (e ++ (f ++ (g ++ (h ++ (i ++ (j ++ (k ++ []))))))))
    pieces a b c d e f g h i j k = simp (append_assoc, append-nil)

-- the same from what a look-up ensures
pub here : (ns : List Node) (place : ℕ) (m n : Node) → trees_at ns place ≡ apply m (trees_at ns (place - 1)) → m ≡ n → 0 < place → place ≤ length ns → IsNode ns place n
here ns place m n e is h k = record {
  trees = subst (λ (x : Node). trees_at ns place ≡ apply x (trees_at ns (place - 1))) is e;
  after = h;
  inside = k;
}

pub starts : (ns : List Node) (place start : ℕ) → trees_at ns start ≡ below (trees_at ns place) → start ≤ place - 1 → IsBelow ns place start
starts ns place start e h = record { trees = e; before = h }

-- each kind of statement
pub statements_split : (ns : List Node) (place before : ℕ) (n : Node) → IsNode ns place n → IsBelow ns (place - 1) before
    → ((x : Name) × (n ≡ node.Node.Const x)) ⊎ (((x : Name) × (n ≡ node.Node.Let x)) ⊎ ((x : Name) × (n ≡ node.Node.Assign x)))
    → IsSplit ns (task.Task.Statements place) [] (task.Task.Statements before ∷ (task.Task.Statement place ∷ []))
statements_split ns place before n i b (inl k) = const_splits ns place before k.0 (here ns place n (node.Node.Const k.0) i.trees k.1 i.after i.inside) b
statements_split ns place before n i b (inr (inl k)) = let_splits ns place before k.0 (here ns place n (node.Node.Let k.0) i.trees k.1 i.after i.inside) b
statements_split ns place before n i b (inr (inr k)) = assign_splits ns place before k.0 (here ns place n (node.Node.Assign k.0) i.trees k.1 i.after i.inside) b
