-- The texts of parts of an output: of declarations, of ports, and all of them joined.
use Rattle.std.specs.Prelude.{◌≡◌, ℕ, List, [], ◌∷◌, ◌++◌, map, codes}
use Rattle.elm_canon.specs.Names.{Name}
use Rattle.elm_canon.specs.declared.reference.Ref.{Ref}
use Rattle.elm_canon.specs.Tree.{Declaration}
use Rattle.elm_meaning.specs.Functions.{Primitive}
use Rattle.elm_meaning.specs.Run.{Program}
use Rattle.js_tree.specs.Tree.{NoLine, Fields, NoField, MoreField}
use Rattle.js_tree.specs.Text.{js_text, text_text, lines_text}
use Rattle.js_emit.specs.Codecs.{decoder, flags_decoder}
use Rattle.js_emit.specs.Program.{declaration_lines, primitive_lines}
use Rattle.emit_program.specs.Programs.{in_ports, out_ports}
use Rattle.emit_program.specs.declared.emit_text_ports.InPort as ports

-- ---- lines

abbrev pub declared_text : Declaration → List ℕ
declared_text d = lines_text (declaration_lines (d ∷ []))

abbrev pub core_text : Ref × Primitive → List ℕ
core_text p = lines_text (primitive_lines (p ∷ []) NoLine)

-- of a whole program, in order
abbrev pub program_texts : Program → List (List ℕ)
program_texts p = map core_text p.primitives ++ map declared_text p.declarations

-- one after the other
abbrev pub joined : List (List ℕ) → List ℕ
joined [] = []
joined (text ∷ texts) = text ++ joined texts

-- ---- ports

abbrev pub in_view : ports.InPort → Name × List ℕ
in_view p = (p.name, p.decoder.items)

-- the incoming ports in turn, with the texts of their decoders
abbrev pub in_texts : List Declaration → List (Name × List ℕ)
in_texts ds = map (λ p. (p.0, js_text (decoder p.1))) (in_ports ds)

-- fields by their names and the texts of what they are
abbrev pub fields_list : Fields → List (Name × List ℕ)
fields_list NoField = []
fields_list (MoreField k e fs) = (k, js_text e) ∷ fields_list fs

-- with commas between them
abbrev pub more_listed : List (Name × List ℕ) → List ℕ
more_listed [] = []
more_listed (p ∷ ps) = codes "," ++ text_text p.0 ++ codes ":" ++ p.1 ++ more_listed ps

abbrev pub listed : List (Name × List ℕ) → List ℕ
listed [] = []
listed (p ∷ ps) = text_text p.0 ++ codes ":" ++ p.1 ++ more_listed ps

-- what the line of `_main` is made of: the program's main, the text of the decoder of its flags, and its ports in turn
pub record IsMainOf (p : Program) (entry : Ref) (read : List ℕ) (incoming : List (Name × List ℕ)) (outgoing : List Name) : Type 0 where
  pub main : entry ≡ p.main
  pub flags : read ≡ js_text (flags_decoder p.flags)
  pub ins : incoming ≡ in_texts p.declarations
  pub outs : outgoing ≡ out_ports p.declarations
