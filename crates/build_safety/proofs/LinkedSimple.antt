-- The expressions of each piece of a linked program: `linked_simple`.
use Rattle.std.proofs.Common.{◌≡◌, List, [], ◌∷◌, ◌++◌, Bool, sym, ◌∙◌, subst, append_assoc}
use Rattle.std.specs.Prelude.{Option}
use Rattle.std.specs.List.{AllByRecursion}
use Rattle.elm_canon.specs.Names.{Name}
use Rattle.elm_canon.specs.Tree.{Payload}
use Rattle.elm_canon.specs.declared.reference.Ref.{Ref}
use Rattle.elm_canon.specs.Proper.{Scope}
use Rattle.elm_canon.specs.Declarations.{ProperDeclarations, after_declarations}
use Rattle.emit_laws.specs.Programs.{primitive_scope}
use Rattle.build_safety.proofs.Made.{made_fields}
use Rattle.typed_values.proofs.Names.{all_left, all_right}
use Rattle.program_safety.specs.Parts.{AreSome, bound_with, primitive_names}
use Rattle.build_safety.specs.Compiled.{Compiled, AreModules}
use Rattle.build_safety.proofs.Among.{compiled_here}
use Rattle.build_safety.specs.BuildWorlds.{world}
use Rattle.program_safety.specs.Ports.{KeepsPorts}
use Rattle.build_safety.specs.Placed.{Piece, modules_of, declarations_of}
use Rattle.build_safety.proofs.MakersMentions.{mentions_of_world}
use Rattle.build_safety.specs.SimplePieces.{IsPiece}
use Rattle.build_safety.proofs.SimplePieces.{pieces_simple}
use Rattle.build_safety.specs.LinkedPieces.{linked_pieces, linked_program, AreLinked}
use Rattle.build_safety.proofs.LinkedPieces.{links_have_pieces, proper_first, proper_later}
use Rattle.build_safety.specs.PlacedLinks.{AreSimple}
use Rattle.build_safety.specs.LinkedSimple.{LinkedPiecesAreSimple}

module _ (cs : List Compiled) (outs ins : Name → Option Payload) (all : AreModules cs) where
  -- a piece: some declarations of a module, proper in a scope
  is_piece : (before : List Compiled) (p : Piece) (after : List Compiled) → before ++ p.0 ∷ after ≡ cs →
      AreSome p.1 p.0.resolved.whole.declarations → (scope : Scope) → ProperDeclarations scope p.1 →
      AllByRecursion KeepsPorts p.1 → IsPiece (world cs outs ins) p.0 p.1
  is_piece before p after e some scope proper keeps =
      let c = p.0 in
      let is = compiled_here before c after (subst AreModules (sym e) all) in
      record {
        some = some;
        scope = scope;
        proper = proper;
        mentions = mentions_of_world cs outs ins before c after all e;
        keeps = keeps;
        fields = made_fields c.around c.text c.resolved.written c.resolved.whole p.1 is.typed.is_named.means some;
      }

  each_simple : (bound : Ref → Bool) (before : List Compiled) (ps : List Piece) (scope : Scope) →
      before ++ modules_of ps ≡ cs → AreLinked bound ps → ProperDeclarations scope (declarations_of ps) →
      AllByRecursion KeepsPorts (declarations_of ps) → AreSimple (world cs outs ins) ps
  each_simple bound before [] scope e linked proper keeps = tt
  each_simple bound before (p ∷ ps) scope e linked proper keeps =
      let rest = declarations_of ps in (
        pieces_simple (world cs outs ins) before p.0 (modules_of ps) p.1 (subst AreModules (sym e) all)
            (is_piece before p (modules_of ps) e linked.0.some scope (proper_first p.1 rest scope proper)
            (all_left KeepsPorts p.1 rest keeps)),
        each_simple (bound_with p.1 bound) (before ++ p.0 ∷ []) ps (after_declarations p.1 scope)
            (append_assoc before (p.0 ∷ []) (modules_of ps) ∙ e) linked.1 (proper_later p.1 rest scope proper)
            (all_right KeepsPorts p.1 rest keeps),
      )

pub linked_simple : LinkedPiecesAreSimple
linked_simple cs entry outs ins all named keeps =
    let h = links_have_pieces cs entry all named in
    let p = linked_program cs entry in
    let ps = linked_pieces cs entry.resolved.whole.name in
    each_simple cs outs ins all (primitive_names p.primitives) [] ps (primitive_scope p.primitives) h.modules h.linked
    (subst (ProperDeclarations (primitive_scope p.primitives)) h.declarations named.declarations)
    (subst (AllByRecursion KeepsPorts) h.declarations keeps)
