-- The text of lines is the texts of their declarations, one after the other.
use Rattle.std.proofs.Common.{◌≡◌, ℕ, List, [], ◌∷◌, ◌++◌, map, refl, sym, ap, ◌∙◌, append_assoc}
use Rattle.std.specs.Prelude.{codes}
use Rattle.elm_canon.specs.declared.reference.Ref.{Ref}
use Rattle.elm_canon.specs.Tree.{Group, Together, Constant, Destructure, Functions, NoFunction, MoreFunction}
use Rattle.elm_canon.specs.Tree.{Declaration, Given, Define}
use Rattle.elm_meaning.specs.Functions as functions
use Rattle.elm_meaning.specs.Functions.{Primitive}
use Rattle.elm_meaning.specs.Run.{Program}
use Rattle.js_tree.specs.Tree.{Name, Js, Lines, NoLine, MoreLine}
use Rattle.js_tree.specs.Text.{js_text, name_text, lines_text}
use Rattle.js_tree.specs.Postorder.{Tree, LinesOf, NoLineYet, lines, top}
use Rattle.js_emit.specs.Names.{js_name, now}
use Rattle.js_emit.specs.Operators.{bodiless_js}
use Rattle.js_emit.specs.Loops.{Outside}
use Rattle.js_emit.specs.Emit.{emit, function}
use Rattle.js_emit.specs.Program.{Emit, function_lines, group_lines, declaration_lines, primitive_lines}
use Rattle.js_printer.specs.Whole.{tree_text}
use Rattle.emit_program.specs.Growth.{LinesGrown, declared}
use Rattle.emit_program.proofs.Growing.{declared_one}
use Rattle.emit_program.specs.Texts.{declared_text, core_text, program_texts, joined}

-- ---- one line, and then others

abbrev front : Name → Js → List ℕ
front x e = codes "const " ++ name_text x ++ codes "=" ++ js_text e ++ codes ";\n"

line_text : (x : Name) (e : Js) (ls : Lines) → lines_text (MoreLine x e ls) ≡ front x e ++ lines_text ls
line_text x e ls = refl

one_more : (f a b all : List ℕ) → all ≡ a ++ b → f ++ all ≡ (f ++ a) ++ b
one_more f a b all e = ap (λ x. f ++ x) e ∙ sym (append_assoc f a b)

more_text : (x : Name) (e : Js) (whole some rest : Lines) → lines_text whole ≡ lines_text some ++ lines_text rest
    → lines_text (MoreLine x e whole) ≡ lines_text (MoreLine x e some) ++ lines_text rest
more_text x e whole some rest is =
    line_text x e whole ∙ one_more (front x e) (lines_text some) (lines_text rest) (lines_text whole) is
    ∙ ap (λ t. t ++ lines_text rest) (sym (line_text x e some))

functions_text : (fs : Functions) (ls : Lines) → lines_text (function_lines fs ls) ≡ lines_text (function_lines fs NoLine) ++ lines_text ls
functions_text NoFunction ls = refl
functions_text (MoreFunction title ps e fs) ls =
    more_text (js_name title.name) (now (function 0 title.name ps e (λ loop next. emit next loop e)))
    (function_lines fs ls) (function_lines fs NoLine) ls (functions_text fs ls)

group_text : (g : Group) (ls : Lines) → lines_text (group_lines g ls) ≡ lines_text (group_lines g NoLine) ++ lines_text ls
group_text (Together fs) ls = functions_text fs ls
group_text (Constant title e) ls = more_text (js_name title.name) (now (emit 0 Outside e)) ls NoLine ls refl
group_text (Destructure p e) ls = refl

-- ---- all lines

declarations_text : (ds : List Declaration) → joined (map declared_text ds) ≡ lines_text (declaration_lines ds)
declarations_text [] = refl
declarations_text (Given r k ∷ ds) =
    ap (λ t. declared_text (Given r k) ++ t) (declarations_text ds)
    ∙ sym (more_text (js_name r) (bodiless_js (functions.Given k)) (declaration_lines ds) NoLine (declaration_lines ds) refl)
declarations_text (Define g ∷ ds) =
    ap (λ t. declared_text (Define g) ++ t) (declarations_text ds) ∙ sym (group_text g (declaration_lines ds))

primitives_text : (ps : List (Ref × Primitive)) (texts : List (List ℕ)) (ls : Lines) → joined texts ≡ lines_text ls
    → joined (map core_text ps ++ texts) ≡ lines_text (primitive_lines ps ls)
primitives_text [] texts ls is = is
primitives_text (p ∷ ps) texts ls is =
    ap (λ t. core_text p ++ t) (primitives_text ps texts ls is)
    ∙ sym (more_text (js_name p.0) (bodiless_js (functions.Core p.1)) (primitive_lines ps ls) NoLine (primitive_lines ps ls) refl)

pub all_joined : (p : Program) → joined (program_texts p) ≡ lines_text (Emit p).lines
all_joined p =
    primitives_text p.primitives (map declared_text p.declarations) (declaration_lines p.declarations)
    (declarations_text p.declarations)

pub joined_more : (texts : List (List ℕ)) (text : List ℕ) → joined (texts ++ text ∷ []) ≡ joined texts ++ text
joined_more [] text = append_nothing text
  where
    append_nothing : (t : List ℕ) → t ++ [] ≡ t
    append_nothing [] = refl
    append_nothing (x ∷ t) = ap (λ (l : List ℕ). x ∷ l) (append_nothing t)
joined_more (t ∷ texts) text = ap (λ x. t ++ x) (joined_more texts text) ∙ sym (append_assoc t (joined texts) text)

-- ---- what is printed

pub lines_printed : (old ts : List Tree) (f : Lines → Lines) → old ≡ LinesOf NoLineYet ∷ [] → LinesGrown old ts f
    → tree_text (top ts) ≡ lines_text (f NoLine)
lines_printed old ts f was grown =
    ap (λ us. tree_text (top us)) (grown.kind NoLineYet [] was) ∙ ap lines_text (grown.grown NoLineYet [] was NoLine)

pub declared_printed : (old ts : List Tree) (d : Declaration) → old ≡ LinesOf NoLineYet ∷ [] → LinesGrown old ts (declared d)
    → tree_text (top ts) ≡ declared_text d
declared_printed old ts d was grown = lines_printed old ts (declared d) was grown ∙ ap lines_text (declared_one d)

-- ---- all parts

pub bytes_are : (h j m z e t0 t1 t2 t3 : List ℕ) → e ≡ [] → t0 ≡ e ++ h → t1 ≡ t0 ++ j → t2 ≡ t1 ++ m → t3 ≡ t2 ++ z
    → t3 ≡ h ++ j ++ m ++ z
bytes_are h j m z e t0 t1 t2 t3 nothing first second third last =
    last ∙ ap (λ (t : List ℕ). t ++ z) (third ∙ ap (λ (t : List ℕ). t ++ m) (second ∙ ap (λ (t : List ℕ). t ++ j)
    (first ∙ ap (λ (t : List ℕ). t ++ h) nothing)))

pub text_is : (h j m z t j2 m2 : List ℕ) → t ≡ h ++ j ++ m ++ z → j ≡ j2 → m ≡ m2 → t ≡ h ++ j2 ++ m2 ++ z
text_is h j m z t j2 m2 is lines main =
    is ∙ ap (λ (x : List ℕ). h ++ x ++ m ++ z) lines ∙ ap (λ (x : List ℕ). h ++ j2 ++ x ++ z) main
