-- What the length of an output says of its program.
use Rattle.std.proofs.Common.{◌≡◌, ℕ, ◌+◌, ◌≤◌, ◌<◌, List, [], ◌∷◌, ◌++◌, length, length-append, ap, arith}
use Rattle.std.specs.Prelude.{codes}
use Rattle.elm_canon.specs.declared.reference.Ref.{Ref}
use Rattle.elm_meaning.specs.Functions.{Primitive}
use Rattle.elm_meaning.specs.Run.{Flags, AnyFlags, FlagsOf}
use Rattle.js_tree.specs.declared.runtime.TheConstants.{HEAD, TAIL}
use Rattle.js_tree.specs.Tree.{JText, JObject, NoField, MoreField, Lines, Program}
use Rattle.js_tree.specs.Text.{js_text, lines_text, main_text, main_object, outs_fields}
use Rattle.js_emit.specs.Codecs.{flags_decoder}
use Rattle.js_emit.specs.Program.{Emit, primitive_lines, declaration_lines}
use Rattle.emit_laws.specs.Programs.{ProperFlags, primitive_scope}
use Rattle.emit_size_laws.specs.Small.{SmallIsProper, FlagsHaveFields}
use Rattle.emit_size_laws.proofs.Lengths.{size, field_total, object_size, three}
use Rattle.emit_size_laws.proofs.Lines.{weight, weight_text, few_made, said}
use Rattle.emit_size_laws.proofs.Payloads.{decoded}

inside : (bytes a b c d : List ℕ) → bytes ≡ a ++ b ++ c ++ d → length b + length c ≤ length bytes
inside bytes a b c d e =
    let l : length (a ++ b ++ c ++ d) ≡ length a + length b + length c + length d = simp length-append in
    omega (arith, ap length e, l)

primitives_weight : (ps : List (Ref × Primitive)) (ls : Lines) → weight ls ≤ weight (primitive_lines ps ls)
primitives_weight [] ls = omega arith
primitives_weight (p ∷ ps) ls = omega (arith, primitives_weight ps ls)

main_total : (p : Program) → size p.flags + field_total p.ins ≤ length (main_text p)
main_total p =
    let outs = MoreField (codes "outs") (JObject (outs_fields p.outs)) NoField in
    let ins = MoreField (codes "ins") (JObject p.ins) outs in
    let flags = MoreField (codes "flags") p.flags ins in
    let whole = MoreField (codes "name") (JText p.name) (MoreField (codes "program") p.main flags) in
    omega (
      arith,
      object_size p.ins,
      object_size whole,
      three (codes "const _main=") (js_text (main_object p)) (codes ";\n"),
    )

flags_proper : (f : Flags) → FlagsHaveFields f → size (flags_decoder f) < 4294967296 → ProperFlags f
flags_proper AnyFlags h s = tt
flags_proper (FlagsOf t) h s = decoded t h s

pub small_is_proper : SmallIsProper
small_is_proper p bytes named small =
    let o = Emit p in
    let l : length (lines_text o.lines) + length (main_text o) ≤ length bytes = inside bytes HEAD.now (lines_text o.lines) (main_text o) TAIL.now small.text in
    let lines : weight (declaration_lines p.declarations) < 4294967296 =
    omega (arith, l, small.small, weight_text o.lines, primitives_weight p.primitives (declaration_lines p.declarations)) in
    let main : size o.flags + field_total o.ins < 4294967296 = omega (arith, l, small.small, main_total o) in
    let few = few_made (primitive_scope p.primitives) p.declarations named.declarations lines in (
      record {
        primitives = named.primitives;
        declarations = named.declarations;
        sayable = said (primitive_scope p.primitives) p.declarations named.declarations named.payloads lines (omega (arith, main));
        few = few.0;
        ports = named.ports;
        main = named.main;
        flags = flags_proper p.flags named.flags (omega (arith, main));
      },
      record { primitives = named.spelled; made = few.1 },
    )
