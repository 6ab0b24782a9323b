-- Modules of a build are parts of typed programs where they are placed: `modules_are_parts`, `placed_never_stuck`.
use Rattle.std.proofs.Common.{◌≡◌, List, [], ◌∷◌, ◌++◌, Bool, refl, sym, ap, ◌∙◌, subst, append_assoc}
use Rattle.elm_canon.specs.declared.reference.Ref.{Ref}
use Rattle.elm_canon.specs.Tree.{Declaration}
use Rattle.module_proper.specs.Laws.{Meets}
use Rattle.module_proper.proofs.Modules.{modules_meet}
use Rattle.elm_canon.specs.Mentions.{anything, DeclarationsMention}
use Rattle.type_items.specs.Solutions.{Values}
use Rattle.typed_values.specs.World.{World}
use Rattle.program_safety.specs.Parts.{Part, primitive_names, bound_with, IsPart, AreParts, all_declared, bound_after}
use Rattle.program_safety.specs.Programs.{IsMain, IsTypedProgram}
use Rattle.program_safety.proofs.Runs.{never_stuck}
use Rattle.told_modules.specs.Names.{HaveNames}
use Rattle.told_modules.specs.Parts.{IsPlaced}
use Rattle.told_modules.proofs.Placed.{inferred_parts}
use Rattle.told_modules.proofs.Uses.{have_names}
use Rattle.project_proper.specs.Resolved.{scope_after}
use Rattle.build_safety.specs.Compiled.{Compiled, home_of, resolved_of, AreModules}
use Rattle.build_safety.specs.Told.{told, part_of}
use Rattle.build_safety.proofs.Among.{is_next, is_proper}
use Rattle.build_safety.proofs.Told.{builds_inferred}
use Rattle.build_safety.specs.Placed.{Piece, modules_of, declarations_of, any_values, piece_part, ArePlaced, bound_by}
use Rattle.build_safety.specs.Placed.{ModulesAreParts, PlacedProgramsAreNeverStuck}

-- ---- a module

all_meet : Meets anything
all_meet = record { tuples = λ n. tt; nil = tt; cons = tt }

module _ (before : List Compiled) (c : Compiled) (after : List Compiled) (all : AreModules (before ++ c ∷ after)) where
  mentions : DeclarationsMention anything anything (home_of c) c.resolved.whole.declarations
  mentions =
      modules_meet anything anything c.resolved.setting c.resolved.written c.resolved.whole all_meet
      (is_next before c after all).is (λ x home u k e. tt) (λ x home u k e. tt)

  names : (w : World) (bound : Ref → Bool) (values : Values) (ds : List Declaration) →
      IsPlaced w (told (before ++ c ∷ after)) bound (part_of c values ds) →
      HaveNames c.resolved.whole.name ds c.resolved.whole.declarations
  names w bound values ds placed =
      subst (λ h. HaveNames h ds c.resolved.whole.declarations) (sym (is_next before c after all).is.name)
      (have_names (home_of c) ds c.resolved.whole.declarations
      (record { scope = scope_after (resolved_of before); proper = is_proper before c after all; mentions = mentions })
      placed.some)

pub modules_are_parts : ModulesAreParts
modules_are_parts w bound before c after values ds all placed =
    inferred_parts w (told (before ++ c ∷ after)) bound (part_of c values ds)
    (builds_inferred before c after values ds all) (names before c after all w bound values ds placed) placed

-- ---- programs

-- parts of these pieces
record Solved (w : World) (cs : List Compiled) (bound : Ref → Bool) (ps : List Piece) : Type 0 where
  parts : List Part
  are : AreParts w (told cs) bound parts
  declared : all_declared parts ≡ declarations_of ps
  after : bound_after parts bound ≡ bound_by ps bound

module _ (w : World) (cs : List Compiled) (all : AreModules cs) where
  solved : (done : List Compiled) (bound : Ref → Bool) (ps : List Piece) → done ++ modules_of ps ≡ cs →
      ArePlaced w cs bound ps → Solved w cs bound ps
  solved done bound [] e h = record { parts = []; are = tt; declared = refl; after = refl }
  solved done bound (p ∷ ps) e h =
      let one = part in
      let rest = solved (done ++ p.0 ∷ []) (bound_with p.1 bound) ps
      (append_assoc done (p.0 ∷ []) (modules_of ps) ∙ e) h.1 in record {
        parts = part_of p.0 one.0 p.1 ∷ rest.parts;
        are = (one.1, rest.are);
        declared = ap (λ ds. p.1 ++ ds) rest.declared;
        after = rest.after;
      }
    where
      part : (values : Values) × IsPart w (told cs) bound (part_of p.0 values p.1)
      part =
          subst (λ ds. (values : Values) × IsPart w (told ds) bound (part_of p.0 values p.1)) e
          (modules_are_parts w bound done p.0 (modules_of ps) any_values p.1 (subst AreModules (sym e) all)
          (subst (λ ds. IsPlaced w (told ds) bound (piece_part p)) (sym e) h.0))

pub placed_never_stuck : PlacedProgramsAreNeverStuck
placed_never_stuck w ps p is flags inputs fits n =
    never_stuck w (told cs) s.parts p typed flags n inputs fits
  where
    cs : List Compiled
    cs = modules_of ps

    s : Solved w cs (primitive_names p.primitives) ps
    s = solved w cs is.modules [] (primitive_names p.primitives) ps refl is.placed

    typed : IsTypedProgram w (told cs) s.parts p
    typed = record {
      sound = is.sound;
      worker = is.worker;
      known = is.known;
      primitives = is.primitives;
      parts = s.are;
      declarations = is.declarations ∙ sym s.declared;
      outs = is.outs;
      ins = is.ins;
      main = subst (λ b. IsMain (told cs) b p.main p.flags) (sym s.after) is.main;
    }
