-- Lines that go on: one line more, one declaration more, all of them.
use Rattle.std.proofs.Common.{◌≡◌, List, [], ◌∷◌, ◌++◌, refl, sym, ap, ◌∙◌}
use Rattle.elm_canon.specs.declared.reference.Ref.{Ref}
use Rattle.elm_canon.specs.Tree.{Declaration, Given, Define, functions_of}
use Rattle.elm_canon.specs.View.{FunctionView}
use Rattle.elm_meaning.specs.Functions.{Primitive}
use Rattle.js_tree.specs.Tree.{Name, Js, Lines, NoLine, MoreLine}
use Rattle.js_tree.specs.Postorder.{Tree, LinesOf, LinesBefore, LineThen, lines, lines_then, top}
use Rattle.js_emit.specs.Program.{function_lines, declaration_lines, primitive_lines}
use Rattle.emit_program.specs.Growth.{LinesGrown, declared}

pub lines_more : {old mid new : List Tree} {f g : Lines → Lines} → LinesGrown old mid f → LinesGrown mid new g
    → LinesGrown old new (λ ls. f (g ls))
lines_more {mid = mid} {g = g} a b = record {
  kind = λ before ts e. b.kind (lines (top mid)) ts (a.kind before ts e);
  grown = λ before ts e ls. b.grown (lines (top mid)) ts (a.kind before ts e) ls ∙ a.grown before ts e (g ls);
}

pub lines_same : {old new : List Tree} {f g : Lines → Lines} → ((ls : Lines) → f ls ≡ g ls) → LinesGrown old new f
    → LinesGrown old new g
lines_same h a = record {
  kind = a.kind;
  grown = λ before ts e ls. a.grown before ts e ls ∙ ap (lines_then before) (h ls);
}

pub lines_none : (old : List Tree) → LinesGrown old old (λ ls. ls)
lines_none old = record {
  kind = λ before ts e. e ∙ sym (ap (λ t. LinesOf (lines (top t)) ∷ ts) e);
  grown = λ before ts e ls. ap (λ t. lines_then (lines (top t)) ls) e;
}

-- one line more
pub line_grown : (old new : List Tree) (x : Name) (v : Js)
    → ((before : LinesBefore) (ts : List Tree) → old ≡ LinesOf before ∷ ts → new ≡ LinesOf (LineThen before x v) ∷ ts)
    → LinesGrown old new (MoreLine x v)
line_grown old new x v is = record {
  kind = λ before ts e. is before ts e ∙ sym (ap (λ t. LinesOf (lines (top t)) ∷ ts) (is before ts e));
  grown = λ before ts e ls. ap (λ t. lines_then (lines (top t)) ls) (is before ts e);
}

-- ---- lists of functions, names and declarations

pub functions_next : (fs : List FunctionView) (f : FunctionView) (ls : Lines)
    → function_lines (functions_of fs) (function_lines (functions_of (f ∷ [])) ls) ≡ function_lines (functions_of (fs ++ f ∷ [])) ls
functions_next [] f ls = refl
functions_next (x ∷ fs) f ls = ap (λ rest. function_lines (functions_of (x ∷ [])) rest) (functions_next fs f ls)

pub primitives_next : (ps : List (Ref × Primitive)) (p : Ref × Primitive) (ls : Lines)
    → primitive_lines ps (primitive_lines (p ∷ []) ls) ≡ primitive_lines (ps ++ p ∷ []) ls
primitives_next [] p ls = refl
primitives_next (q ∷ ps) p ls = ap (λ rest. primitive_lines (q ∷ []) rest) (primitives_next ps p ls)

abbrev pub all_declared : List Declaration → Lines → Lines
all_declared [] ls = ls
all_declared (d ∷ ds) ls = declared d (all_declared ds ls)

pub declared_next : (ds : List Declaration) (d : Declaration) (ls : Lines)
    → all_declared ds (declared d ls) ≡ all_declared (ds ++ d ∷ []) ls
declared_next [] d ls = refl
declared_next (e ∷ ds) d ls = ap (declared e) (declared_next ds d ls)

pub declared_all : (ds : List Declaration) → all_declared ds NoLine ≡ declaration_lines ds
declared_all [] = refl
declared_all (Given r k ∷ ds) = ap (declared (Given r k)) (declared_all ds)
declared_all (Define g ∷ ds) = ap (declared (Define g)) (declared_all ds)

pub declared_one : (d : Declaration) → declared d NoLine ≡ declaration_lines (d ∷ [])
declared_one (Given r k) = refl
declared_one (Define g) = refl
