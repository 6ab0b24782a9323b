-- What is bound after the pieces of a program: `main_bound`.
use Rattle.std.proofs.Common.{◌≡◌, List, [], ◌∷◌, ◌++◌, Bool, true, refl, subst}
use Rattle.elm_canon.specs.declared.reference.Ref.{Ref}
use Rattle.elm_canon.specs.Tree.{Declaration}
use Rattle.elm_canon.specs.Proper.{Scope, among, with_all}
use Rattle.elm_canon.specs.Declarations.{ProperDeclarations, after_declarations, declared_names}
use Rattle.emit_laws.specs.Programs.{primitive_scope}
use Rattle.emit_size_laws.specs.Small.{NamedProgram}
use Rattle.program_safety.specs.Parts.{bound_with, primitive_names}
use Rattle.build_safety.specs.Compiled.{Compiled, AreModules}
use Rattle.build_safety.specs.Placed.{Piece, declarations_of, bound_by}
use Rattle.build_safety.specs.LinkedPieces.{linked_pieces, linked_program}
use Rattle.build_safety.proofs.LinkedBound.{Covers, still_covers, primitives_cover}
use Rattle.build_safety.proofs.LinkedPieces.{links_have_pieces}

proper_first : (ds es : List Declaration) (scope : Scope) → ProperDeclarations scope (ds ++ es) →
    ProperDeclarations scope ds
proper_first [] es scope p = tt
proper_first (d ∷ ds) es scope p = (p.0, proper_first ds es (with_all (declared_names d) scope) p.1)

proper_later : (ds es : List Declaration) (scope : Scope) → ProperDeclarations scope (ds ++ es) →
    ProperDeclarations (after_declarations ds scope) es
proper_later [] es scope p = p
proper_later (d ∷ ds) es scope p = proper_later ds es (with_all (declared_names d) scope) p.1

after_both : (ds es : List Declaration) (scope : Scope) →
    after_declarations (ds ++ es) scope ≡ after_declarations es (after_declarations ds scope)
after_both [] es scope = refl
after_both (d ∷ ds) es scope = after_both ds es (with_all (declared_names d) scope)

-- each name of the scope after pieces is bound after them
all_covered : (ps : List Piece) (scope : Scope) (bound : Ref → Bool) → ProperDeclarations scope (declarations_of ps) →
    Covers scope bound → Covers (after_declarations (declarations_of ps) scope) (bound_by ps bound)
all_covered [] scope bound p c y e = c y e
all_covered (q ∷ ps) scope bound p c y e =
    let own = proper_first q.1 (declarations_of ps) scope p in
    all_covered ps (after_declarations q.1 scope) (bound_with q.1 bound)
    (proper_later q.1 (declarations_of ps) scope p) (still_covers q.1 scope bound own c) y
    (subst (λ s. among y s ≡ true) (after_both q.1 (declarations_of ps) scope) e)

pub main_bound : (cs : List Compiled) (entry : Compiled) → AreModules cs → NamedProgram (linked_program cs entry) →
    bound_by (linked_pieces cs entry.resolved.whole.name) (primitive_names (linked_program cs entry).primitives)
    (linked_program cs entry).main ≡ true
main_bound cs entry all named =
    let p = linked_program cs entry in
    let ps = linked_pieces cs entry.resolved.whole.name in
    let declared = (links_have_pieces cs entry all named).declarations in
    all_covered ps (primitive_scope p.primitives) (primitive_names p.primitives)
    (subst (ProperDeclarations (primitive_scope p.primitives)) declared named.declarations)
    (primitives_cover p.primitives) p.main
    (subst (λ ds. among p.main (after_declarations ds (primitive_scope p.primitives)) ≡ true) declared named.main)
