-- What a linked program has without a body: `linked_typed`.
use Rattle.std.proofs.Common.{◌≡◌, List, [], ◌∷◌, ◌++◌, Bool, Option, sym, ◌∙◌, subst, append_assoc}
use Rattle.std.specs.List.{AllByRecursion}
use Rattle.elm_canon.specs.Names.{Name}
use Rattle.elm_canon.specs.declared.reference.Ref.{Ref}
use Rattle.elm_canon.specs.Tree.{Declaration, Given, Define, Maker, RecordMaker, OutPort, InPort, Payload}
use Rattle.elm_meaning.specs.Run.{Program}
use Rattle.emit_size_laws.specs.Small.{PortsHaveFields}
use Rattle.program_safety.specs.Parts.{bound_with, primitive_names}
use Rattle.type_items.specs.Modules.{known_in}
use Rattle.type_safety.specs.Modules.{AreTyped}
use Rattle.build_safety.specs.Compiled.{Compiled, AreModules}
use Rattle.build_safety.specs.Told.{told}
use Rattle.build_safety.specs.BuildWorlds.{world}
use Rattle.program_safety.specs.Ports.{KeepsPorts}
use Rattle.build_safety.specs.Placed.{Piece, modules_of, declarations_of}
use Rattle.build_safety.specs.LinkedPieces.{linked_program, linked_pieces, AreLinked, HasPieces}
use Rattle.build_safety.proofs.LinkedPieces.{links_have_pieces}
use Rattle.build_safety.specs.PortWorlds.{outs_of, ins_of, Carries, AllCarry, program_world}
use Rattle.build_safety.proofs.PortWorlds.{links_carry}
use Rattle.build_safety.specs.TypedMakers.{PiecesAreTyped, LinkedAreTyped}
use Rattle.build_safety.proofs.TypedLists.{all_first, all_second}
use Rattle.build_safety.proofs.TypedGiven.{given_typed}

fields_first : (ds es : List Declaration) → PortsHaveFields (ds ++ es) → PortsHaveFields ds
fields_first [] es h = tt
fields_first (Given r (Maker a) ∷ ds) es h = fields_first ds es h
fields_first (Given r (RecordMaker ks) ∷ ds) es h = fields_first ds es h
fields_first (Given r (OutPort x t) ∷ ds) es h = (h.0, fields_first ds es h.1)
fields_first (Given r (InPort x t) ∷ ds) es h = (h.0, fields_first ds es h.1)
fields_first (Define g ∷ ds) es h = fields_first ds es h

fields_second : (ds es : List Declaration) → PortsHaveFields (ds ++ es) → PortsHaveFields es
fields_second [] es h = h
fields_second (Given r (Maker a) ∷ ds) es h = fields_second ds es h
fields_second (Given r (RecordMaker ks) ∷ ds) es h = fields_second ds es h
fields_second (Given r (OutPort x t) ∷ ds) es h = fields_second ds es h.1
fields_second (Given r (InPort x t) ∷ ds) es h = fields_second ds es h.1
fields_second (Define g ∷ ds) es h = fields_second ds es h

module _ (cs : List Compiled) (all : AreModules cs) (outs ins : Name → Option Payload) where
  pieces_typed : (done : List Compiled) (bound : Ref → Bool) (ps : List Piece) → done ++ modules_of ps ≡ cs →
      AreLinked bound ps → AllByRecursion (Carries outs ins) (declarations_of ps) →
      PortsHaveFields (declarations_of ps) → AllByRecursion KeepsPorts (declarations_of ps) →
      PiecesAreTyped (world cs outs ins) cs ps
  pieces_typed done bound [] e h c f k = tt
  pieces_typed done bound (p ∷ ps) e h c f k = (
    subst (λ ms. AreTyped (world ms outs ins) (known_in p.0.resolved.whole (told ms)) p.1) e
        (given_typed done p.0 (modules_of ps) outs ins p.1 (subst AreModules (sym e) all) (record {
          some = h.0.some;
          carried = all_first (Carries outs ins) p.1 (declarations_of ps) c;
          payloads = fields_first p.1 (declarations_of ps) f;
          keeps = all_first KeepsPorts p.1 (declarations_of ps) k;
        })),
    pieces_typed (done ++ p.0 ∷ []) (bound_with p.1 bound) ps (append_assoc done (p.0 ∷ []) (modules_of ps) ∙ e) h.1
        (all_second (Carries outs ins) p.1 (declarations_of ps) c) (fields_second p.1 (declarations_of ps) f)
        (all_second KeepsPorts p.1 (declarations_of ps) k),
  )

module _ (cs : List Compiled) (entry : Compiled) where
  abbrev p : Program
  p = linked_program cs entry

  abbrev ps : List Piece
  ps = linked_pieces cs entry.resolved.whole.name

  by_pieces : AreModules cs → HasPieces cs p ps → AllCarry p.declarations → PortsHaveFields p.declarations →
      AllByRecursion KeepsPorts p.declarations → PiecesAreTyped (program_world cs p) cs ps
  by_pieces all h carried fields keeps =
      pieces_typed cs all (outs_of p.declarations) (ins_of p.declarations) [] (primitive_names p.primitives) ps
      h.modules h.linked
      (subst (AllByRecursion (Carries (outs_of p.declarations) (ins_of p.declarations))) h.declarations carried)
      (subst PortsHaveFields h.declarations fields) (subst (AllByRecursion KeepsPorts) h.declarations keeps)

pub linked_typed : LinkedAreTyped
linked_typed cs entry number o all named at linked keeps =
    by_pieces cs entry all (links_have_pieces cs entry all named) (links_carry cs entry number o all named at linked)
    named.payloads keeps
