-- What a link takes of the modules of a build: `links_have_pieces`.
use Rattle.std.proofs.Common.{◌≡◌, ℕ, ◌+◌, List, [], ◌∷◌, ◌++◌, length, Bool, inl, inr, refl, sym, ◌∙◌, subst}
use Rattle.std.proofs.Common.{append_assoc}
use Rattle.std.specs.List.{AllByRecursion}
use Rattle.elm_canon.specs.declared.reference.Ref.{Ref}
use Rattle.elm_canon.specs.Tree.{Declaration}
use Rattle.elm_meaning.specs.Run.{Program}
use Rattle.elm_canon.specs.Proper.{Scope}
use Rattle.elm_canon.specs.Declarations.{ProperDeclarations, after_declarations}
use Rattle.module_proper.specs.Laws.{Meets}
use Rattle.module_proper.proofs.Modules.{modules_meet}
use Rattle.elm_canon.specs.Mentions.{anything, DeclarationMentions}
use Rattle.emit_laws.specs.Programs.{primitive_scope}
use Rattle.emit_size_laws.specs.Small.{NamedProgram}
use Rattle.link.specs.Reached.{kept}
use Rattle.link.specs.Programs.{declarations_in, reached_items, program_of}
use Rattle.program_safety.specs.Parts.{AreSome, bound_with, primitive_names}
use Rattle.build_safety.specs.Compiled.{Compiled, home_of, AreModules}
use Rattle.build_safety.proofs.Among.{is_next}
use Rattle.build_safety.specs.Placed.{Piece, declarations_of}
use Rattle.build_safety.specs.LinkedPieces.{items, pieces, linked_pieces, AreLinked, linked_program, HasPieces, LinksHavePieces}
use Rattle.build_safety.proofs.LinkedItems.{pieces_declare, pieces_modules, piece_some}
use Rattle.build_safety.proofs.LinkedBound.{Covers, still_covers, primitives_cover, used_bound}

all_meet : Meets anything
all_meet = record { tuples = λ n. tt; nil = tt; cons = tt }

-- what holds of all declarations holds of some of them
some_hold : (P : Declaration → Type 0) (ds es : List Declaration) → AreSome ds es → AllByRecursion P es →
    AllByRecursion P ds
some_hold P [] es s h = tt
some_hold P (d ∷ ds) [] s h = absurd s
some_hold P (d ∷ ds) (e ∷ es) (inl s) h = (subst P (sym s.0) h.0, some_hold P ds es s.1 h.1)
some_hold P (d ∷ ds) (e ∷ es) (inr s) h = some_hold P (d ∷ ds) es s h.1

pub proper_first : (ds es : List Declaration) (scope : Scope) → ProperDeclarations scope (ds ++ es) →
    ProperDeclarations scope ds
proper_first [] es scope p = tt
proper_first (d ∷ ds) es scope p = (p.0, proper_first ds es _ p.1)

pub proper_later : (ds es : List Declaration) (scope : Scope) → ProperDeclarations scope (ds ++ es) →
    ProperDeclarations (after_declarations ds scope) es
proper_later [] es scope p = p
proper_later (d ∷ ds) es scope p = proper_later ds es _ p.1

module _ (test : ℕ → Bool) (cs : List Compiled) (all : AreModules cs) where
  mentions : (before : List Compiled) (c : Compiled) (after : List Compiled) → before ++ c ∷ after ≡ cs →
      AllByRecursion (λ d. DeclarationMentions anything anything (home_of c) d) c.resolved.whole.declarations
  mentions before c after e =
      modules_meet anything anything c.resolved.setting c.resolved.written c.resolved.whole all_meet
      (is_next before c after (subst AreModules (sym e) all)).is (λ x home u k f. tt) (λ x home u k f. tt)

  linked : (n : ℕ) (before after : List Compiled) (scope : Scope) (bound : Ref → Bool) → before ++ after ≡ cs →
      ProperDeclarations scope (declarations_of (pieces test n after)) → Covers scope bound →
      AreLinked bound (pieces test n after)
  linked n before [] scope bound e p c = tt
  linked n before (d ∷ after) scope bound e p c =
      let ds = declarations_in (kept test n (items d)) in
      let rest = declarations_of (pieces test (n + length (items d)) after) in
      let own = proper_first ds rest scope p in (
        record {
          some = piece_some test n d;
          used = used_bound (home_of d) ds scope bound own
              (some_hold (λ x. DeclarationMentions anything anything (home_of d) x) ds d.resolved.whole.declarations
              (piece_some test n d) (mentions before d after e)) c;
        },
        linked (n + length (items d)) (before ++ d ∷ []) after (after_declarations ds scope) (bound_with ds bound)
            (append_assoc before (d ∷ []) after ∙ e) (proper_later ds rest scope p)
            (still_covers ds scope bound own c),
      )

module _ (cs : List Compiled) (entry : Compiled) (all : AreModules cs)
    (named : NamedProgram (linked_program cs entry)) where
  abbrev p : Program
  p = linked_program cs entry

  abbrev ps : List Piece
  ps = linked_pieces cs entry.resolved.whole.name

  declared : p.declarations ≡ declarations_of ps
  unfolding program_of reached_items
  declared = pieces_declare _ 0 cs

  pub has_pieces : HasPieces cs p ps
  has_pieces = record {
    modules = pieces_modules _ 0 cs;
    declarations = declared;
    linked = linked _ cs all 0 [] cs (primitive_scope p.primitives) (primitive_names p.primitives) refl
        (subst (ProperDeclarations (primitive_scope p.primitives)) declared named.declarations)
        (primitives_cover p.primitives);
  }

pub links_have_pieces : LinksHavePieces
links_have_pieces cs entry all named = has_pieces cs entry all named
