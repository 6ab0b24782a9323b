-- The tasks for a program end well exactly when its names are bound.
use Rattle.std.proofs.Common.{◌≡◌, List, [], ◌∷◌, length, take, Bool, false, Option, Some, None, refl, sym, ap, ◌∙◌}
use Rattle.std.specs.Prelude.{◌&&◌}
use Rattle.js_tree.specs.Tree.{NoField, NoLine}
use Rattle.js_tree.specs.declared.tree.Node.{Node}
use Rattle.js_tree.specs.Postorder.{Tree, Expression, ItemsOf, MembersOf, StatementsOf, BlockOf, LinesOf, ProgramOf}
use Rattle.js_tree.specs.Postorder.{Members, LinesBefore, members_then, lines_then, trees_of, trees_at}
use Rattle.js_scope.specs.Bound.{names_bound}
use Rattle.js_scope.specs.Uses.{Uses, Nothing, Both, Block, fields_uses, lines_uses, line_names, members_uses}
use Rattle.js_scope.specs.Uses.{lines_before_uses, line_names_before}
use Rattle.js_scope.specs.Walk.{with_names, after, is_fine, Step, Walk, Declare, Leave, ends_well}
use Rattle.js_scope.specs.Parts.{program_of}
use Rattle.js_scope.proofs.Names.{and-true}
use Rattle.js_scope.proofs.Programs.{program_fine}
use Rattle.js_scope.proofs.Ends.{both_walked, three_walked, block_walked, members_whole, lines_whole, line_names_whole}

-- the uses are allowed, if there are any
abbrev pub are_fine : Option Uses → Bool
are_fine (Some u) = is_fine u 0 []
are_fine None = false

pub program_told : (t : Tree) → names_bound t ≡ are_fine (program_of t)
program_told (ProgramOf p) = sym (program_fine p)
program_told (Expression e) = refl
program_told (ItemsOf its) = refl
program_told (MembersOf fs) = refl
program_told (StatementsOf s) = refl
program_told (BlockOf s) = refl
program_told (LinesOf ls) = refl

-- all nodes
take_all : {A : Type 0} (xs : List A) → take (length xs) xs ≡ xs
take_all [] = refl
take_all (x ∷ xs) = ap (λ ys. x ∷ ys) (take_all xs)

pub whole : (nodes : List Node) → trees_of nodes ≡ trees_at nodes (length nodes)
whole nodes = ap trees_of (sym (take_all nodes))

pub program_walked : (ls : LinesBefore) (fs : Members) (flags main : Uses)
    → is_fine (Block (line_names (lines_then ls NoLine) []) (Both (fields_uses (members_then fs NoField) Nothing) (Both flags (Both main (lines_uses (lines_then ls NoLine) Nothing))))) 0 []
    ≡ ends_well (Declare (line_names_before ls []) ∷ Walk (members_uses fs) ∷ Walk flags ∷ Walk main ∷ Walk (lines_before_uses ls) ∷ Leave 0 0 ∷ []) 0 []
program_walked ls fs flags main =
    let names = line_names_before ls [] in
    let rest : List Step = Leave 0 0 ∷ [] in
    let later = after flags 0 (after (members_uses fs) 0 (with_names names [])) in
    ap (λ ns. is_fine (Block ns (Both (fields_uses (members_then fs NoField) Nothing) (Both flags (Both main (lines_uses (lines_then ls NoLine) Nothing))))) 0 []) (line_names_whole ls NoLine [])
    ∙ (ap (λ u. is_fine (Block names (Both u (Both flags (Both main (lines_uses (lines_then ls NoLine) Nothing))))) 0 []) (members_whole fs NoField)
    ∙ (ap (λ u. is_fine (Block names (Both (members_uses fs) (Both flags (Both main u)))) 0 []) (lines_whole ls NoLine)
    ∙ (sym (and-true (is_fine (Block names (Both (members_uses fs) (Both flags (Both main (lines_before_uses ls))))) 0 []))
    ∙ (block_walked names (Both (members_uses fs) (Both flags (Both main (lines_before_uses ls)))) [] 0 []
    ∙ (three_walked (members_uses fs) flags (Both main (lines_before_uses ls)) rest 0 (with_names names [])
    ∙ ap (λ b. is_fine (members_uses fs) 0 (with_names names []) && (is_fine flags 0 (after (members_uses fs) 0 (with_names names [])) && b)) (both_walked main (lines_before_uses ls) rest 0 later))))))
