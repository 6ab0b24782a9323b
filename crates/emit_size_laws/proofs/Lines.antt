-- How long lines are: a unit for each name that is made.
use Rattle.std.proofs.Common.{◌≡◌, ℕ, suc, ◌+◌, ◌≤◌, ◌<◌, List, [], ◌∷◌, length, Bool, true, false, refl, arith}
use Rattle.std.specs.Prelude.{codes, pos, if◌then◌else◌}
use Rattle.runs.specs.Texts.{units_lt}
use Rattle.elm_canon.specs.Names as source
use Rattle.elm_canon.specs.Tree.{Known, Maker, RecordMaker, OutPort, InPort, Group, Together, Constant, Destructure}
use Rattle.elm_canon.specs.Tree.{Functions, NoFunction, MoreFunction, Declaration, Given, Define}
use Rattle.elm_canon.specs.Proper.{Scope, with_all, all_bound_by, function_names, ProperFunctions, ProperGroup}
use Rattle.elm_canon.specs.Declarations.{ProperDeclarations, declared_names, is_destructuring}
use Rattle.elm_meaning.specs.Functions as functions
use Rattle.elm_meaning.specs.Functions.{known_arity}
use Rattle.js_tree.specs.Tree.{Made, Js, JText, JVar, JCall, Fields, NoField, MoreField, Lines, NoLine, MoreLine, Return}
use Rattle.js_tree.specs.Text.{js_text, lines_text, name_text}
use Rattle.js_emit.specs.Names.{made_names, tagged, two, vars}
use Rattle.js_emit.specs.Codecs.{decoder, encoder}
use Rattle.js_emit.specs.Operators.{bodiless_js, arrows_of, finish_js}
use Rattle.js_emit.specs.Loops.{Outside}
use Rattle.js_emit.specs.Made.{made_group, made_functions}
use Rattle.js_emit.specs.Emit.{emit, function}
use Rattle.js_emit.specs.Program.{function_lines, group_lines, declaration_lines, put_decoder, in_decoders}
use Rattle.emit_laws.specs.Sizes.{FewInGroup, FewInFunctions, FewInDeclarations}
use Rattle.emit_laws.specs.Programs.{CanBeSaid}
use Rattle.emit_size_laws.specs.Programs.{FewMade}
use Rattle.emit_size_laws.specs.Small.{PortsHaveFields}
use Rattle.emit_size_laws.proofs.Lengths.{size, core_now, arrow_core, call_size, field_total, six}
use Rattle.emit_size_laws.proofs.Frames.{named_core}
use Rattle.emit_size_laws.proofs.Operations.{tagged_size}
use Rattle.emit_size_laws.proofs.Expressions.{Over, sized, in_place, function_sized}
use Rattle.emit_size_laws.proofs.Payloads.{decoded, encoded}

abbrev pub weight : Lines → ℕ
weight NoLine = 0
weight (MoreLine x e ls) = suc (size e + weight ls)

pub weight_text : (ls : Lines) → weight ls ≤ length (lines_text ls)
weight_text NoLine = omega arith
weight_text (MoreLine x e ls) =
    omega (arith, weight_text ls, six (codes "const ") (name_text x) (codes "=") (js_text e) (codes ";\n") (lines_text ls))

-- ---- groups

functions_over : (scope : Scope) (fs : Functions) (ls : Lines) → ProperFunctions scope fs
    → Over (made_functions fs) (weight ls) (weight (function_lines fs ls)) (FewInFunctions fs)
functions_over scope NoFunction ls p = record { made = omega arith; few = λ h. tt }
functions_over scope (MoreFunction title ps e fs) ls p =
    let x = function 0 title.name ps e (λ loop next. emit next loop e) in
    let t = in_place x (function_sized 0 title.name ps e (λ next loop. sized (with_all (all_bound_by ps) scope) next loop e p.1.1.1.0)) in
    let others = functions_over scope fs ls p.1.1.1.1 in
    record {
      made = omega (arith, t.made, others.made);
      few = λ h. (t.few (omega (arith, h)), others.few (omega (arith, h)));
    }

group_over : (scope : Scope) (g : Group) (ls : Lines) → is_destructuring g ≡ false → ProperGroup scope g
    → Over (made_group g) (weight ls) (weight (group_lines g ls)) (FewInGroup g)
group_over scope (Together fs) ls n p = functions_over (with_all (function_names fs) scope) fs ls p.1
group_over scope (Constant title e) ls n p =
    let t = in_place (emit 0 Outside e) (sized scope 0 Outside e p.1.1) in
    record { made = omega (arith, t.made); few = λ h. t.few (omega (arith, h)) }
group_over scope (Destructure q e) ls n p = absurd (cc)

-- ---- what has no body

bodiless_size : (k : Known) → known_arity k ≤ size (bodiless_js (functions.Given k))
bodiless_size k =
    let xs = made_names 0 (known_arity k) in
    let x = finish_js (functions.Given k) (vars xs) in
    omega (arith, named_core 0 (known_arity k) (Return x), core_now (arrows_of xs (Return x)))

sent_size : (port : source.Name) (r : Js) (e : Js) → size e ≤ size (tagged (pos 0) (two (JText port) (JCall e r)))
sent_size port r e = omega (arith, call_size e r, tagged_size (pos 0) (two (JText port) (JCall e r)))

-- ---- declarations

pub few_made : (scope : Scope) (ds : List Declaration) → ProperDeclarations scope ds → weight (declaration_lines ds) < 4294967296
    → FewInDeclarations ds × FewMade ds
few_made scope [] p h = (tt, tt)
few_made scope (Given r k ∷ ds) p h =
    let rest = few_made (with_all (declared_names (Given r k)) scope) ds p.1 (omega (arith, h)) in
    (rest.0, (omega (arith, h, bodiless_size k), rest.1))
few_made scope (Define g ∷ ds) p h =
    let over = group_over scope g (declaration_lines ds) p.0.0 p.0.1 in
    let rest = few_made (with_all (declared_names (Define g)) scope) ds p.1 (omega (arith, h, over.made)) in
    ((over.few h, rest.0), (omega (arith, h, over.made), rest.1))

put_total : (port : source.Name) (x : Js) (fs : Fields) → field_total (put_decoder port x fs) ≡ suc (size x + field_total fs)
put_total port x NoField = refl
put_total port x (MoreField other y fs) =
    let P : Bool → Type 0 = λ b. field_total (if b then MoreField other y (put_decoder port x fs) else MoreField port x (MoreField other y fs))
    ≡ suc (size x + suc (size y + field_total fs)) in
    elim (units_lt other port) as P [ true ↦ omega (arith, put_total port x fs) | false ↦ refl ]

pub said : (scope : Scope) (ds : List Declaration) → ProperDeclarations scope ds → PortsHaveFields ds
    → weight (declaration_lines ds) < 4294967296 → field_total (in_decoders ds) < 4294967296 → CanBeSaid ds
said scope [] p f h i = tt
said scope (Given r (Maker a) ∷ ds) p f h i = (
  (p.0.1.1, omega (arith, h, bodiless_size (Maker a))),
  said (with_all (declared_names (Given r (Maker a))) scope) ds p.1 f (omega (arith, h)) i,
)
said scope (Given r (RecordMaker ks) ∷ ds) p f h i =
    (p.0.1.1, said (with_all (declared_names (Given r (RecordMaker ks))) scope) ds p.1 f (omega (arith, h)) i)
said scope (Given r (OutPort port t) ∷ ds) p f h i =
    let x = tagged (pos 0) (two (JText port) (JCall (encoder t) (JVar (Made 0)))) in (
      encoded t f.0 (omega (arith, h, sent_size port (JVar (Made 0)) (encoder t), arrow_core (Made 0) (Return x))),
      said (with_all (declared_names (Given r (OutPort port t))) scope) ds p.1 f.1 (omega (arith, h)) i,
    )
said scope (Given r (InPort port t) ∷ ds) p f h i =
    let all = put_total port (decoder t) (in_decoders ds) in (
      decoded t f.0 (omega (arith, i, all)),
      said (with_all (declared_names (Given r (InPort port t))) scope) ds p.1 f.1 (omega (arith, h)) (omega (arith, i, all)),
    )
said scope (Define g ∷ ds) p f h i =
    let over = group_over scope g (declaration_lines ds) p.0.0 p.0.1 in
    said (with_all (declared_names (Define g)) scope) ds p.1 f (omega (arith, h, over.made)) i
