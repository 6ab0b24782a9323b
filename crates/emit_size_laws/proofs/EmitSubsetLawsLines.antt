-- The lines of a program are in the subset.
use Rattle.std.proofs.Common.{◌≡◌, ℕ, ◌+◌, ◌≤◌, ◌^◌, List, [], ◌∷◌, Bool, true, false, map, refl, sym, subst, arith}
use Rattle.std.specs.Prelude.{if◌then◌else◌, ◌&&◌}
use Rattle.std.specs.List.{list_all}
use Rattle.runs.specs.Texts.{units_lt}
use Rattle.elm_canon.specs.Names as source
use Rattle.elm_canon.specs.Names.{same_ref}
use Rattle.elm_canon.specs.declared.reference.Ref.{Ref}
use Rattle.elm_canon.specs.declared.reference.Ref.TheVariants as ref
use Rattle.elm_canon.specs.Tree as tree
use Rattle.elm_canon.specs.Tree.{Maker, RecordMaker, OutPort, InPort, Group, Together, Constant, Destructure, Functions, NoFunction, MoreFunction, Declaration, Define}
use Rattle.elm_canon.specs.Spelled as elm
use Rattle.elm_canon.specs.Proper as proper
use Rattle.elm_canon.specs.Proper.{among, with_all, function_names, ProperFunctions, all_bound_by}
use Rattle.elm_canon.specs.Declarations.{ProperDeclarations, after_declarations}
use Rattle.elm_meaning.specs.Functions as functions
use Rattle.elm_meaning.specs.Functions.{Primitive, Core}
use Rattle.elm_meaning.specs.Run.{Flags, AnyFlags, FlagsOf}
use Rattle.js_tree.specs.Tree.{Name, Js, Fields, NoField, MoreField, Lines, MoreLine}
use Rattle.js_tree.specs.Subset.{is_unit, is_name, is_spelled, fields_spelled, lines_spelled, Fixed, may_read, Scope, use_of, is_bound, fields_bound, lines_scope, lines_bound, is_program_spelled, is_program_bound}
use Rattle.js_emit.specs.Names.{js_name, now}
use Rattle.js_emit.specs.Codecs.{decoder, flags_decoder}
use Rattle.js_emit.specs.Operators.{bodiless_js}
use Rattle.js_emit.specs.Loops.{Outside}
use Rattle.js_emit.specs.Made.{made_in, made_functions}
use Rattle.js_emit.specs.Emit.{emit, function}
use Rattle.js_emit.specs.Program.{function_lines, declaration_lines, primitive_lines, put_decoder, in_decoders, put_port, out_names, module_of, Emit}
use Rattle.emit_laws.specs.Sizes.{FewInFunctions, FewInDeclarations}
use Rattle.emit_laws.specs.Programs.{CanBeSaid, ProperFlags, primitive_scope}
use Rattle.emit_laws.proofs.Envs.{js_same}
use Rattle.emit_size_laws.specs.Programs.{AllSpelled, FewMade, ProgramsFit}
use Rattle.emit_size_laws.proofs.Uses.{Refs, readable, fixed_past, fixed_first}
use Rattle.emit_size_laws.proofs.Parts.{both, first_of, second_of}
use Rattle.emit_size_laws.proofs.Words.{name_spelled, word_units, module_units, now_spelled}
use Rattle.emit_size_laws.proofs.Spelled.{ScopeSpelled, scope_more, scope_all, patterns_names, function_spelled, spelled, functions_names}
use Rattle.emit_size_laws.proofs.Bound.{ok_outside, sound, top_function}
use Rattle.emit_size_laws.proofs.Codecs.{decoder_spelled, known_spelled, primitive_spelled, decoder_bound, known_bound, primitive_bound}

-- ---- spelled

abbrev names_of : List (Ref × Primitive) → List Ref
names_of ps = map (λ p. p.0) ps

line : (x : Name) (e : Js) (ls : Lines) → is_name x ≡ true → is_spelled e ≡ true → lines_spelled ls ≡ true → lines_spelled (MoreLine x e ls) ≡ true
line x e ls a b c = both (is_name x) (is_spelled e && lines_spelled ls) a (both (is_spelled e) (lines_spelled ls) b c)

functions_too : (fs : Functions) (ls : Lines) (scope : proper.Scope) → ProperFunctions scope fs → FewInFunctions fs → ScopeSpelled scope → made_functions fs ≤ 2 ^ 64 → lines_spelled ls ≡ true → lines_spelled (function_lines fs ls) ≡ true
functions_too NoFunction ls scope pr few sc le h = h
functions_too (MoreFunction title ps e fs) ls scope pr few sc le h =
    let whole = function 0 title.name ps e (λ loop next. emit next loop e) in
    line (js_name title.name) (now whole) (function_lines fs ls) (name_spelled title.name pr.0)
    (now_spelled whole (function_spelled title.name ps e 0 pr.1.1.0.0 (omega arith) (λ loop next vars fits. spelled e loop (with_all (all_bound_by ps) scope) next pr.1.1.1.0 few.0 (scope_all (all_bound_by ps) scope (patterns_names ps pr.1.1.0.0) sc) vars fits)))
    (functions_too fs ls scope pr.1.1.1.1 few.1 sc (omega arith) h)

plain : (n : ℕ) → n ≤ 2 ^ 64 → 0 + n ≤ 2 ^ 64
plain n le = omega arith

-- the lines of declarations, and the scope after them
declared_spelled : (ds : List Declaration) (scope : proper.Scope) → ProperDeclarations scope ds → CanBeSaid ds → FewInDeclarations ds → FewMade ds → ScopeSpelled scope → (lines_spelled (declaration_lines ds) ≡ true) × ScopeSpelled (after_declarations ds scope)
declared_spelled [] scope pr said few made sc = (refl, sc)
declared_spelled (tree.Given r k ∷ ds) scope pr said few made sc =
    let rest = declared_spelled ds (r ∷ scope) pr.1 said.1 few made.1 (scope_more r scope pr.0.0 sc) in
    (line (js_name r) (bodiless_js (functions.Given k)) (declaration_lines ds) (name_spelled r pr.0.0) (known_spelled k said.0 pr.0.1.1 made.0) rest.0, rest.1)
declared_spelled (Define (Together fs) ∷ ds) scope pr said few made sc =
    let big = with_all (function_names fs) scope in
    let wider = scope_all (function_names fs) scope (functions_names fs big pr.0.1.1) sc in
    let rest = declared_spelled ds big pr.1 said few.1 made.1 wider in
    (functions_too fs (declaration_lines ds) big pr.0.1.1 few.0 wider made.0 rest.0, rest.1)
declared_spelled (Define (Constant title e) ∷ ds) scope pr said few made sc =
    let rest = declared_spelled ds (title.name ∷ scope) pr.1 said few.1 made.1 (scope_more title.name scope pr.0.1.0 sc) in
    (line (js_name title.name) (now (emit 0 Outside e)) (declaration_lines ds) (name_spelled title.name pr.0.1.0) (now_spelled (emit 0 Outside e) (spelled e Outside scope 0 pr.0.1.1.1 few.0 sc tt (plain (made_in Outside e) made.0))) rest.0, rest.1)
declared_spelled (Define (Destructure p e) ∷ ds) scope pr said few made sc = let no_line = pr.0.0 in absurd (cc)

primitives_spelled : (ps : List (Ref × Primitive)) (ls : Lines) → AllSpelled (names_of ps) → lines_spelled ls ≡ true → lines_spelled (primitive_lines ps ls) ≡ true
primitives_spelled [] ls all h = h
primitives_spelled (p ∷ ps) ls all h = line (js_name p.0) (bodiless_js (Core p.1)) (primitive_lines ps ls) (name_spelled p.0 all.0) (primitive_spelled p.1) (primitives_spelled ps ls all.1 h)

primitive_names : (ps : List (Ref × Primitive)) (scope : proper.Scope) → AllSpelled (names_of ps) → ScopeSpelled scope → ScopeSpelled (with_all (names_of ps) scope)
primitive_names [] scope all sc = sc
primitive_names (p ∷ ps) scope all sc = primitive_names ps (p.0 ∷ scope) all.1 (scope_more p.0 scope all.0 sc)

-- ---- ports

put_spelled : (port : source.Name) (x : Js) (fs : Fields) → list_all is_unit port ≡ true → is_spelled x ≡ true → fields_spelled fs ≡ true → fields_spelled (put_decoder port x fs) ≡ true
put_spelled port x NoField e h f = both (list_all is_unit port) (is_spelled x && true) e (both (is_spelled x) true h refl)
put_spelled port x (MoreField other y fs) e h f = go (units_lt other port) (put_spelled port x fs e h (second_of (is_spelled y) (fields_spelled fs) (second_of (list_all is_unit other) (is_spelled y && fields_spelled fs) f)))
  where
    go : (t : Bool) → fields_spelled (put_decoder port x fs) ≡ true → fields_spelled (if t then MoreField other y (put_decoder port x fs) else MoreField port x (MoreField other y fs)) ≡ true
    go true rec =
        both (list_all is_unit other) (is_spelled y && fields_spelled (put_decoder port x fs)) (first_of (list_all is_unit other) (is_spelled y && fields_spelled fs) f)
        (both (is_spelled y) (fields_spelled (put_decoder port x fs)) (first_of (is_spelled y) (fields_spelled fs) (second_of (list_all is_unit other) (is_spelled y && fields_spelled fs) f)) rec)
    go false rec = both (list_all is_unit port) (is_spelled x && fields_spelled (MoreField other y fs)) e (both (is_spelled x) (fields_spelled (MoreField other y fs)) h f)

put_bound : (names : Scope) (port : source.Name) (x : Js) (fs : Fields) → is_bound names x ≡ true → fields_bound names fs ≡ true → fields_bound names (put_decoder port x fs) ≡ true
put_bound names port x NoField h f = both (is_bound names x) true h refl
put_bound names port x (MoreField other y fs) h f = go (units_lt other port) (put_bound names port x fs h (second_of (is_bound names y) (fields_bound names fs) f))
  where
    go : (t : Bool) → fields_bound names (put_decoder port x fs) ≡ true → fields_bound names (if t then MoreField other y (put_decoder port x fs) else MoreField port x (MoreField other y fs)) ≡ true
    go true rec = both (is_bound names y) (fields_bound names (put_decoder port x fs)) (first_of (is_bound names y) (fields_bound names fs) f) rec
    go false rec = both (is_bound names x) (is_bound names y && fields_bound names fs) h f

ins_spelled : (ds : List Declaration) (scope : proper.Scope) → ProperDeclarations scope ds → CanBeSaid ds → fields_spelled (in_decoders ds) ≡ true
ins_spelled [] scope pr said = refl
ins_spelled (tree.Given r (InPort port t) ∷ ds) scope pr said = put_spelled port (decoder t) (in_decoders ds) (word_units port pr.0.1.1) (decoder_spelled t said.0) (ins_spelled ds (r ∷ scope) pr.1 said.1)
ins_spelled (tree.Given r (OutPort x t) ∷ ds) scope pr said = ins_spelled ds (r ∷ scope) pr.1 said.1
ins_spelled (tree.Given r (Maker a) ∷ ds) scope pr said = ins_spelled ds (r ∷ scope) pr.1 said.1
ins_spelled (tree.Given r (RecordMaker ks) ∷ ds) scope pr said = ins_spelled ds (r ∷ scope) pr.1 said.1
ins_spelled (Define g ∷ ds) scope pr said = ins_spelled ds (with_all (proper.group_names g) scope) pr.1 said

ins_bound : (names : Scope) (ds : List Declaration) → fields_bound names (in_decoders ds) ≡ true
ins_bound names [] = refl
ins_bound names (tree.Given r (InPort port t) ∷ ds) = put_bound names port (decoder t) (in_decoders ds) (decoder_bound names t) (ins_bound names ds)
ins_bound names (tree.Given r (OutPort x t) ∷ ds) = ins_bound names ds
ins_bound names (tree.Given r (Maker a) ∷ ds) = ins_bound names ds
ins_bound names (tree.Given r (RecordMaker ks) ∷ ds) = ins_bound names ds
ins_bound names (Define g ∷ ds) = ins_bound names ds

abbrev units : List ℕ → Bool
units o = list_all is_unit o

port_put : (port : source.Name) (ports : List source.Name) → units port ≡ true → list_all units ports ≡ true → list_all units (put_port port ports) ≡ true
port_put port [] e f = both (units port) true e refl
port_put port (other ∷ ports) e f = go (units_lt other port) (port_put port ports e (second_of (units other) (list_all units ports) f))
  where
    go : (t : Bool) → list_all units (put_port port ports) ≡ true → list_all units (if t then other ∷ put_port port ports else port ∷ other ∷ ports) ≡ true
    go true rec = both (units other) (list_all units (put_port port ports)) (first_of (units other) (list_all units ports) f) rec
    go false rec = both (units port) (list_all units (other ∷ ports)) e f

outs_spelled : (ds : List Declaration) (scope : proper.Scope) → ProperDeclarations scope ds → list_all units (out_names ds) ≡ true
outs_spelled [] scope pr = refl
outs_spelled (tree.Given r (OutPort port t) ∷ ds) scope pr = port_put port (out_names ds) (word_units port pr.0.1.1) (outs_spelled ds (r ∷ scope) pr.1)
outs_spelled (tree.Given r (InPort x t) ∷ ds) scope pr = outs_spelled ds (r ∷ scope) pr.1
outs_spelled (tree.Given r (Maker a) ∷ ds) scope pr = outs_spelled ds (r ∷ scope) pr.1
outs_spelled (tree.Given r (RecordMaker ks) ∷ ds) scope pr = outs_spelled ds (r ∷ scope) pr.1
outs_spelled (Define g ∷ ds) scope pr = outs_spelled ds (with_all (proper.group_names g) scope) pr.1

flags_spelled : (kind : Flags) → ProperFlags kind → is_spelled (flags_decoder kind) ≡ true
flags_spelled AnyFlags pr = refl
flags_spelled (FlagsOf t) pr = decoder_spelled t pr

flags_bound : (names : Scope) (kind : Flags) → is_bound names (flags_decoder kind) ≡ true
flags_bound names AnyFlags = refl
flags_bound names (FlagsOf t) = decoder_bound names t

module_spelled : (r : Ref) → elm.is_spelled r ≡ true → list_all is_unit (module_of r) ≡ true
module_spelled (ref.Local x) e = refl
module_spelled (ref.Top m x) e = module_units true m (first_of (elm.is_module true m) (elm.is_word x) e)

-- ---- bound

-- what the lines declare is among the names
abbrev Declares : Lines → Scope → Type 0
Declares ls names = (x : Name) → use_of x (lines_scope ls) ≡ Fixed → use_of x names ≡ Fixed

first_declared : (x : Name) (e : Js) (ls : Lines) (names : Scope) → Declares (MoreLine x e ls) names → use_of x names ≡ Fixed
first_declared x e ls names h = h x (fixed_first x (lines_scope ls))

later_declared : (x : Name) (e : Js) (ls : Lines) (names : Scope) → Declares (MoreLine x e ls) names → Declares ls names
later_declared x e ls names h = λ y is. h y (fixed_past y x (lines_scope ls) is)

refs_more : (x : Ref) (names : Scope) (scope : proper.Scope) → use_of (js_name x) names ≡ Fixed → Refs names scope → Refs names (x ∷ scope)
refs_more x names scope e refs = λ r is. go r (same_ref r x) refl is
  where
    go : (r : Ref) (t : Bool) → same_ref r x ≡ t → (if t then true else among r scope) ≡ true → use_of (js_name r) names ≡ Fixed
    go r true f is = subst (λ z. use_of z names ≡ Fixed) (sym (js_same r x f)) e
    go r false f is = refs r is

functions_refs : (fs : Functions) (ls : Lines) (names : Scope) (scope : proper.Scope) → Declares (function_lines fs ls) names → Refs names scope → Refs names (with_all (function_names fs) scope) × Declares ls names
functions_refs NoFunction ls names scope dc refs = (refs, dc)
functions_refs (MoreFunction title ps e fs) ls names scope dc refs =
    let whole = now (function 0 title.name ps e (λ loop next. emit next loop e)) in
    let rest = function_lines fs ls in
    functions_refs fs ls names (title.name ∷ scope) (later_declared (js_name title.name) whole rest names dc) (refs_more title.name names scope (first_declared (js_name title.name) whole rest names dc) refs)

functions_bound : (fs : Functions) (ls : Lines) (names : Scope) (scope : proper.Scope) → ProperFunctions scope fs → Refs names scope → lines_bound names ls ≡ true → lines_bound names (function_lines fs ls) ≡ true
functions_bound NoFunction ls names scope pr refs h = h
functions_bound (MoreFunction title ps e fs) ls names scope pr refs h =
    both (is_bound names (now (function 0 title.name ps e (λ loop next. emit next loop e)))) (lines_bound names (function_lines fs ls)) (top_function title.name ps e scope 0 pr.1.1.0 pr.1.1.1.0 names refs) (functions_bound fs ls names scope pr.1.1.1.1 refs h)

declared_bound : (ds : List Declaration) (names : Scope) (scope : proper.Scope) → ProperDeclarations scope ds → Declares (declaration_lines ds) names → Refs names scope → (lines_bound names (declaration_lines ds) ≡ true) × Refs names (after_declarations ds scope)
declared_bound [] names scope pr dc refs = (refl, refs)
declared_bound (tree.Given r k ∷ ds) names scope pr dc refs =
    let ls = declaration_lines ds in
    let value = bodiless_js (functions.Given k) in
    let rest = declared_bound ds names (r ∷ scope) pr.1 (later_declared (js_name r) value ls names dc) (refs_more r names scope (first_declared (js_name r) value ls names dc) refs) in
    (both (is_bound names value) (lines_bound names ls) (known_bound names k) rest.0, rest.1)
declared_bound (Define (Together fs) ∷ ds) names scope pr dc refs =
    let ls = declaration_lines ds in
    let big = with_all (function_names fs) scope in
    let all = functions_refs fs ls names scope dc refs in
    let rest = declared_bound ds names big pr.1 all.1 all.0 in
    (functions_bound fs ls names big pr.0.1.1 all.0 rest.0, rest.1)
declared_bound (Define (Constant title e) ∷ ds) names scope pr dc refs =
    let ls = declaration_lines ds in
    let value = now (emit 0 Outside e) in
    let rest = declared_bound ds names (title.name ∷ scope) pr.1 (later_declared (js_name title.name) value ls names dc) (refs_more title.name names scope (first_declared (js_name title.name) value ls names dc) refs) in
    (both (is_bound names value) (lines_bound names ls) ((sound e Outside scope 0 pr.0.1.1.1 (ok_outside scope 0)).gives tt names refs) rest.0, rest.1)
declared_bound (Define (Destructure p e) ∷ ds) names scope pr dc refs = let no_line = pr.0.0 in absurd (cc)

primitives_bound : (ps : List (Ref × Primitive)) (ls : Lines) (names : Scope) (scope : proper.Scope) → Declares (primitive_lines ps ls) names → Refs names scope → Refs names (with_all (names_of ps) scope) × Declares ls names
primitives_bound [] ls names scope dc refs = (refs, dc)
primitives_bound (p ∷ ps) ls names scope dc refs =
    let value = bodiless_js (Core p.1) in
    let rest = primitive_lines ps ls in
    primitives_bound ps ls names (p.0 ∷ scope) (later_declared (js_name p.0) value rest names dc) (refs_more p.0 names scope (first_declared (js_name p.0) value rest names dc) refs)

primitive_lines_bound : (ps : List (Ref × Primitive)) (ls : Lines) (names : Scope) → lines_bound names ls ≡ true → lines_bound names (primitive_lines ps ls) ≡ true
primitive_lines_bound [] ls names h = h
primitive_lines_bound (p ∷ ps) ls names h = both (is_bound names (bodiless_js (Core p.1))) (lines_bound names (primitive_lines ps ls)) (primitive_bound names p.1) (primitive_lines_bound ps ls names h)

-- ---- programs

pub programs_fit : ProgramsFit
programs_fit p proper written =
    let ds = p.declarations in
    let start = primitive_scope p.primitives in
    let lines = primitive_lines p.primitives (declaration_lines ds) in
    let names = lines_scope lines in
    let sp = declared_spelled ds start proper.declarations proper.sayable proper.few written.made (primitive_names p.primitives [] written.primitives (λ r is. absurd (cc))) in
    let main = sp.1 p.main proper.main in
    let prims = primitives_bound p.primitives (declaration_lines ds) names [] (λ x is. is) (λ r is. absurd (cc)) in
    let bd = declared_bound ds names start proper.declarations prims.1 prims.0 in
    both (is_program_spelled (Emit p)) (is_program_bound (Emit p))
    (both (lines_spelled lines) _ (primitives_spelled p.primitives (declaration_lines ds) written.primitives sp.0)
    (both (is_name (js_name p.main)) _ (name_spelled p.main main)
    (both (list_all is_unit (module_of p.main)) _ (module_spelled p.main main)
    (both (is_spelled (flags_decoder p.flags)) _ (flags_spelled p.flags proper.flags)
    (both (fields_spelled (in_decoders ds)) (list_all units (out_names ds)) (ins_spelled ds start proper.declarations proper.sayable) (outs_spelled ds start proper.declarations))))))
    (both (lines_bound names lines) _ (primitive_lines_bound p.primitives (declaration_lines ds) names bd.0)
    (both (may_read (use_of (js_name p.main) names)) _ (readable (js_name p.main) names (bd.1 p.main proper.main))
    (both (is_bound names (flags_decoder p.flags)) (fields_bound names (in_decoders ds)) (flags_bound names p.flags) (ins_bound names ds))))
