-- An output has one text, whichever program it tells of.
use Rattle.std.proofs.Common.{◌≡◌, ℕ, List, [], ◌∷◌, ◌++◌, refl, sym, ap, ◌∙◌}
use Rattle.elm_canon.specs.Names.{Name}
use Rattle.elm_canon.specs.Tree.{Declaration, Given, Define, Maker, RecordMaker, OutPort, InPort}
use Rattle.elm_meaning.specs.Run.{Program}
use Rattle.js_tree.specs.declared.runtime.TheConstants.{HEAD, TAIL}
use Rattle.js_tree.specs.Text.{JsText, lines_text, main_text, fields_text, outs_fields}
use Rattle.js_emit.specs.Program.{Emit, in_decoders, out_names, put_port, module_of}
use Rattle.js_emit.specs.Names.{js_name}
use Rattle.js_tree.specs.Tree.{JVar}
use Rattle.js_tree.specs.Text.{js_text, text_text}
use Rattle.std.specs.Prelude.{codes}
use Rattle.emit_program.specs.Programs.{out_ports}
use Rattle.emit_program.specs.Texts.{joined, fields_list, listed, in_texts}
use Rattle.emit_program.proofs.Joined.{all_joined}
use Rattle.emit_program.proofs.Ordered.{put_all, texts_put, fields_listed}
use Rattle.emit_program.proofs.Pieces.{main_whole}
use Rattle.link.specs.Link.{Output}
use Rattle.link.specs.Programs.{Tells}
use Rattle.project_parts.specs.Outcomes.{IsTextOf}

-- ---- ports, in the order in which they are written

abbrev put_ports : List Name → List Name
put_ports [] = []
put_ports (x ∷ xs) = put_port x (put_ports xs)

outs_put : (ds : List Declaration) → put_ports (out_ports ds) ≡ out_names ds
outs_put [] = refl
outs_put (Given r (Maker a) ∷ ds) = outs_put ds
outs_put (Given r (RecordMaker ks) ∷ ds) = outs_put ds
outs_put (Given r (OutPort port t) ∷ ds) = ap (put_port port) (outs_put ds)
outs_put (Given r (InPort port t) ∷ ds) = outs_put ds
outs_put (Define g ∷ ds) = outs_put ds

module _ (o : Output) (p : Program) (t : Tells o p) where
  ins_are : fields_text (in_decoders p.declarations) ≡ listed (put_all o.ins)
  ins_are =
      sym (fields_listed (in_decoders p.declarations))
      ∙ ap listed (sym (texts_put p.declarations) ∙ ap put_all (sym t.main.ins))

  outs_are : out_names p.declarations ≡ put_ports o.outs
  outs_are = sym (outs_put p.declarations) ∙ ap put_ports (sym t.main.outs)

  abbrev line : List ℕ → List Name → List ℕ
  line ins outs =
      codes "const _main={\"name\":" ++ text_text (module_of o.main) ++ codes ",\"program\":"
      ++ js_text (JVar (js_name o.main)) ++ codes ",\"flags\":" ++ o.flags ++ codes ",\"ins\":{" ++ ins
      ++ codes "},\"outs\":{" ++ fields_text (outs_fields outs) ++ codes "}};\n"

  main_is : main_text (Emit p) ≡ line (listed (put_all o.ins)) (put_ports o.outs)
  main_is =
      sym (main_whole p o.main o.flags t.main.main t.main.flags)
      ∙ (ap (λ ins. line ins (out_names p.declarations)) ins_are
      ∙ ap (line (listed (put_all o.ins))) outs_are)

  abbrev whole : List ℕ
  whole = HEAD.now ++ joined o.lines ++ line (listed (put_all o.ins)) (put_ports o.outs) ++ TAIL.now

  pub written : HEAD.now ++ lines_text (Emit p).lines ++ main_text (Emit p) ++ TAIL.now ≡ whole
  written =
      ap (λ l. HEAD.now ++ l ++ main_text (Emit p) ++ TAIL.now) (sym (all_joined p) ∙ ap joined (sym t.lines))
      ∙ ap (λ m. HEAD.now ++ joined o.lines ++ m ++ TAIL.now) main_is

  pub text_is : (bytes : List ℕ) → JsText (Emit p) bytes → bytes ≡ whole
  text_is bytes h = h ∙ written

pub one_text : (o : Output) (a b : List ℕ) → IsTextOf o a → IsTextOf o b → a ≡ b
one_text o a b f g = text_is o f.0 f.1 a f.2 ∙ sym (text_is o g.0 g.1 b g.2)
