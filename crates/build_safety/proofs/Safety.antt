-- Programs that a link makes of the modules of a build never get stuck: `linked_never_stuck`. One of them is what the
-- text of a build means: `builds_never_stuck`.
use Rattle.std.proofs.Common.{◌≡◌, ℕ, zero, suc, List, [], ◌∷◌, Some, map, refl, sym, ap, ◌∙◌, subst}
use Rattle.std.specs.Prelude.{Option, slice_get}
use Rattle.std.specs.List.{AllByRecursion}
use Rattle.elm_canon.specs.Names.{Name}
use Rattle.elm_canon.specs.Tree.{Payload}
use Rattle.elm_meaning.specs.Run.{Program}
use Rattle.emit_size_laws.specs.Small.{NamedProgram}
use Rattle.link.specs.Link as linked
use Rattle.link.specs.Link.{Output, Links, link}
use Rattle.link.specs.Programs.{part_of, program_of}
use Rattle.module_made.specs.Made.{Value}
use Rattle.import_graph.specs.Modules.{Module}
use Rattle.typed_values.specs.World.{World, KnownIn}
use Rattle.program_safety.specs.Parts.{ArePrimitives, primitive_names}
use Rattle.program_safety.specs.Programs.{IsMain}
use Rattle.project_parts.specs.Modules.{Part, parts_of, Values}
use Rattle.project_parts.specs.Laws.{AreOfBuild}
use Rattle.project_parts.specs.Laws as project
use Rattle.project_proper.specs.Resolved.{Resolved, source_of}
use Rattle.project_proper.specs.Builds.{LinksAreNamed}
use Rattle.build_safety.specs.Compiled.{Compiled, resolved_of, AreModules}
use Rattle.build_safety.specs.Told.{told}
use Rattle.build_safety.specs.Builds.{Builds, BuildsAreCompiled}
use Rattle.build_safety.specs.Placed.{Piece, ArePlaced, bound_by, IsPlacedProgram, PlacedProgramsAreNeverStuck}
use Rattle.program_safety.specs.Ports.{KeepsPorts}
use Rattle.build_safety.specs.BuildWorlds.{ModulesAreKnown}
use Rattle.build_safety.specs.LinkedPieces.{linked_pieces, linked_program, HasPieces, LinksHavePieces}
use Rattle.build_safety.specs.LinkedPrimitives.{LinksHavePrimitives}
use Rattle.build_safety.specs.SoundWorlds.{HasCore, IsSoundWorld, WorldsAreSound, BuildsHaveCore}
use Rattle.build_safety.specs.PortWorlds.{outs_of, ins_of, program_world, HasPorts, ProgramsHavePorts}
use Rattle.build_safety.specs.KeptLinks.{BuildsLeave, LinksLeavePorts}
use Rattle.build_safety.specs.LinkedSimple.{LinkedPiecesAreSimple}
use Rattle.build_safety.specs.TypedMakers.{LinkedAreTyped}
use Rattle.build_safety.specs.PlacedLinks.{LinksArePlaced}
use Rattle.build_safety.specs.LinkedMain.{LinksHaveMain}
use Rattle.build_safety.proofs.Meaning.{Linking, Running, Fitting, Meets, AllMeet, outputs_meet}
use Rattle.build_safety.specs.Safety.{IsNeverStuck, LinkedProgramsAreNeverStuck, BuildsAreNeverStuck}

-- ---- a link

module _ (worlds : WorldsAreSound) (known : ModulesAreKnown) (primitives : LinksHavePrimitives)
    (pieces : LinksHavePieces) (simple : LinkedPiecesAreSimple) (typed : LinkedAreTyped) (ports : ProgramsHavePorts)
    (placed : LinksArePlaced) (mains : LinksHaveMain) (never : PlacedProgramsAreNeverStuck)
    (leaving : BuildsLeave) (kept : LinksLeavePorts) where
  module _ (cs : List Compiled) (entry : Compiled) (number : ℕ) (o : Output) (modules : AreModules cs)
      (core : HasCore cs) (named : NamedProgram (linked_program cs entry)) (there : slice_get cs number ≡ Some entry)
      (links : link (map part_of (map source_of (resolved_of cs))) number ≡ Links o) where
    abbrev p : Program
    p = linked_program cs entry

    abbrev ps : List Piece
    ps = linked_pieces cs entry.resolved.whole.name

    abbrev w : World
    w = program_world cs p

    abbrev outs : Name → Option Payload
    outs = outs_of p.declarations

    abbrev ins : Name → Option Payload
    ins = ins_of p.declarations

    has : HasPieces cs p ps
    has = pieces cs entry modules named

    leaves : AllByRecursion KeepsPorts p.declarations
    leaves = kept cs entry (leaving cs modules)

    sound : IsSoundWorld w
    sound = worlds cs outs ins modules core

    is_placed : IsPlacedProgram w ps p
    is_placed = record {
      modules = subst AreModules (sym has.modules) modules;
      sound = sound.sound;
      worker = sound.worker;
      known = subst (λ ds. KnownIn w (told ds)) (sym has.modules) (known cs outs ins modules).all;
      primitives = subst (λ ds. ArePrimitives w (told ds) p.primitives) (sym has.modules)
          (primitives w cs entry modules);
      placed = subst (λ ds. ArePlaced w ds (primitive_names p.primitives) ps) (sym has.modules)
          (placed cs entry outs ins modules named (typed cs entry number o modules named there links leaves)
          (simple cs entry outs ins modules named leaves));
      declarations = has.declarations;
      outs = (ports cs p).outs;
      ins = (ports cs p).ins;
      main = subst (λ ds. IsMain (told ds) (bound_by ps (primitive_names p.primitives)) p.main p.flags)
          (sym has.modules) (mains cs number entry o modules there named links);
    }

    is_never_stuck : IsNeverStuck p
    is_never_stuck = never w ps p is_placed

  pub linked_never_stuck : LinkedProgramsAreNeverStuck
  linked_never_stuck cs entry number o modules core named there links =
      is_never_stuck cs entry number o modules core named there links

-- ---- a build

-- a module that was resolved is one that was compiled
record At (cs : List Compiled) (number : ℕ) (r : Resolved) : Type 0 where
  entry : Compiled
  there : slice_get cs number ≡ Some entry
  same : entry.resolved ≡ r

compiled_at : (cs : List Compiled) (number : ℕ) (r : Resolved) → slice_get (resolved_of cs) number ≡ Some r →
    At cs number r
compiled_at [] number r e = absurd cc
compiled_at (c ∷ cs) zero r e = record { entry = c; there = refl; same = cc }
compiled_at (c ∷ cs) (suc number) r e =
    let h = compiled_at cs number r e in record { entry = h.entry; there = h.there; same = h.same }

module _ (builds : project.Builds) (compiled : BuildsAreCompiled) (cores : BuildsHaveCore) (named : LinksAreNamed)
    (safe : LinkedProgramsAreNeverStuck) where
  module _ (core ms : List Module) (order : List ℕ) (values : List Value) (qs : List linked.Part)
      (b : AreOfBuild core ms order) (k : Builds (parts_of core ms order) values qs) where
    abbrev rs : List Resolved
    rs = resolved_of k.modules

    abbrev from : Resolved → Program
    from r = program_of (map source_of rs) (source_of r)

    each : (number : ℕ) (r : Resolved) (o : Output) → slice_get rs number ≡ Some r → link qs number ≡ Links o →
        NamedProgram (from r) × IsNeverStuck (from r)
    each number r o at is =
        let is_named : NamedProgram (from r) = named qs rs number r o k.are_linked at is in
        let h = compiled_at k.modules number r at in (
          is_named,
          subst (λ z. IsNeverStuck (from z)) h.same
              (safe k.modules h.entry number o (record { resolved = k.are_linked.resolved; compiled = k.compiled })
              (cores core ms order values k.modules b.are_core k.built)
              (subst (λ z. NamedProgram (from z)) (sym h.same) is_named) h.there
              (ap (λ z. link z number) k.are_linked.parts ∙ is)),
        )

  all_safe : AllMeet IsNeverStuck
  all_safe core ms order values qs b v e =
      let k = compiled (parts_of core ms order) values qs (builds core ms order b) v e in record {
        modules = resolved_of k.modules;
        built = k.built;
        parts = k.are_linked.parts;
        each = each core ms order values qs b k;
      }

  pub builds_never_stuck : Running → Fitting → Linking → BuildsAreNeverStuck
  builds_never_stuck runs fits tells = outputs_meet runs fits tells IsNeverStuck all_safe
