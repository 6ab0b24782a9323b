-- The line of `_main`, piece by piece.
use Rattle.std.proofs.Common.{◌≡◌, ℕ, List, [], ◌++◌, sym, ap, ◌∙◌, append_assoc, append-nil}
use Rattle.std.specs.Prelude.{codes}
use Rattle.elm_canon.specs.declared.reference.Ref.{Ref}
use Rattle.elm_meaning.specs.Run as run
use Rattle.js_tree.specs.Tree.{JVar, Program}
use Rattle.js_tree.specs.Text.{js_text, text_text, fields_text, main_text, outs_fields}
use Rattle.js_emit.specs.Names.{js_name}
use Rattle.js_emit.specs.Codecs.{flags_decoder}
use Rattle.js_emit.specs.Program.{Emit, module_of, in_decoders, out_names}

pieces : (front left right colon comma end a1 b1 a2 b2 a3 b3 a4 b4 a5 b5 : List ℕ)
    → front ++ (left ++ (a1 ++ colon ++ b1 ++ (comma ++ a2 ++ colon ++ b2 ++ (comma ++ a3 ++ colon ++ b3 ++ (comma ++ a4 ++ colon ++ (left ++ b4 ++ right) ++ (comma ++ a5 ++ colon ++ (left ++ b5 ++ right) ++ []))))) ++ right) ++ end
    ≡ (front ++ left ++ a1 ++ colon) ++ b1 ++ (comma ++ a2 ++ colon) ++ b2 ++ (comma ++ a3 ++ colon) ++ b3 ++ (comma ++ a4 ++ colon ++ left) ++ b4 ++ (right ++ comma ++ a5 ++ colon ++ left) ++ b5 ++ (right ++ right ++ end)
pieces front left right colon comma end a1 b1 a2 b2 a3 b3 a4 b4 a5 b5 = simp (append_assoc, append-nil)

whole : (p : Program)
    → main_text p
    ≡ codes "const _main={\"name\":" ++ text_text p.name ++ codes ",\"program\":" ++ js_text p.main ++ codes ",\"flags\":" ++ js_text p.flags
    ++ codes ",\"ins\":{" ++ fields_text p.ins ++ codes "},\"outs\":{" ++ fields_text (outs_fields p.outs) ++ codes "}};\n"
whole p =
    pieces (codes "const _main=") (codes "{") (codes "}") (codes ":") (codes ",") (codes ";\n") (text_text (codes "name")) (text_text p.name) (text_text (codes "program")) (js_text p.main)
    (text_text (codes "flags")) (js_text p.flags) (text_text (codes "ins")) (fields_text p.ins) (text_text (codes "outs")) (fields_text (outs_fields p.outs))

pub main_whole : (p : run.Program) (main : Ref) (flags : List ℕ) → main ≡ p.main → flags ≡ js_text (flags_decoder p.flags)
    → codes "const _main={\"name\":" ++ text_text (module_of main) ++ codes ",\"program\":" ++ js_text (JVar (js_name main)) ++ codes ",\"flags\":" ++ flags
    ++ codes ",\"ins\":{" ++ fields_text (in_decoders p.declarations) ++ codes "},\"outs\":{" ++ fields_text (outs_fields (out_names p.declarations)) ++ codes "}};\n"
    ≡ main_text (Emit p)
main_whole p main flags m f = rw (m, f) (sym (whole (Emit p)))

more : {s t : List ℕ} (x : List ℕ) → s ≡ t → s ++ x ≡ t ++ x
more x h = ap (λ (l : List ℕ). l ++ x) h

pub eleven : (a m b u c f d i e o z t0 t1 t2 t3 t4 t5 t6 t7 t8 t9 t10 t11 : List ℕ) → t0 ≡ [] → t1 ≡ t0 ++ a → t2 ≡ t1 ++ m → t3 ≡ t2 ++ b
    → t4 ≡ t3 ++ u → t5 ≡ t4 ++ c → t6 ≡ t5 ++ f → t7 ≡ t6 ++ d → t8 ≡ t7 ++ i → t9 ≡ t8 ++ e → t10 ≡ t9 ++ o → t11 ≡ t10 ++ z
    → t11 ≡ a ++ m ++ b ++ u ++ c ++ f ++ d ++ i ++ e ++ o ++ z
eleven a m b u c f d i e o z t0 t1 t2 t3 t4 t5 t6 t7 t8 t9 t10 t11 h0 h1 h2 h3 h4 h5 h6 h7 h8 h9 h10 h11 =
    h11 ∙ more z (h10 ∙ more o (h9 ∙ more e (h8 ∙ more i (h7 ∙ more d (h6 ∙ more f (h5 ∙ more c (h4 ∙ more u (h3 ∙ more b
    (h2 ∙ more m (h1 ∙ more a h0))))))))))
