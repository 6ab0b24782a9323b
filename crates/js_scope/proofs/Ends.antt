-- Steps that do the same.
use Rattle.std.proofs.Common.{◌≡◌, ℕ, List, [], ◌∷◌, length, false, refl, sym, ap, ◌∙◌}
use Rattle.std.specs.Prelude.{◌&&◌}
use Rattle.js_tree.specs.Tree.{Name, JsList, MoreJs, Fields, MoreField, Stmts, Const, Let, Assign, Return, If, While}
use Rattle.js_tree.specs.Tree.{Continue, Lines, MoreLine}
use Rattle.js_tree.specs.Postorder.{Items, NoItem, Item, Members, NoMember, Member, Before, NoStatement, ConstThen}
use Rattle.js_tree.specs.Postorder.{LetThen, AssignThen, LinesBefore, NoLineYet, LineThen, items_then, members_then}
use Rattle.js_tree.specs.Postorder.{statements_then, lines_then}
use Rattle.js_scope.specs.Uses.{Uses, Nothing, Assigns, Both, Block, Function, declared, uses, list_uses, fields_uses}
use Rattle.js_scope.specs.Uses.{block_uses, lines_uses, line_names, items_uses, members_uses, statements_uses}
use Rattle.js_scope.specs.Uses.{names_before, lines_before_uses, line_names_before}
use Rattle.js_scope.specs.Walk.{State, Bound, with_names, first_bound, is_settled, after, is_fine, Step, Walk, Declare}
use Rattle.js_scope.specs.Walk.{Leave, ends_well}
use Rattle.js_scope.proofs.Names.{and_assoc, and-true}

-- one after the other
pub both_walked : (u v : Uses) (steps : List Step) (start : ℕ) (bound : List Bound) → ends_well (Walk (Both u v) ∷ steps) start bound ≡ ends_well (Walk u ∷ Walk v ∷ steps) start bound
both_walked u v steps start bound =
    and_assoc (is_fine u start bound) (is_fine v start (after u start bound)) (ends_well steps start (after v start (after u start bound)))

pub last_walked : (u : Uses) (steps : List Step) (start : ℕ) (bound : List Bound) → ends_well (Walk (Both u Nothing) ∷ steps) start bound ≡ ends_well (Walk u ∷ steps) start bound
last_walked u steps start bound = ap (λ b. b && ends_well steps start (after u start bound)) (and-true (is_fine u start bound))

pub three_walked : (u v w : Uses) (steps : List Step) (start : ℕ) (bound : List Bound)
    → ends_well (Walk (Both u (Both v w)) ∷ steps) start bound ≡ ends_well (Walk u ∷ Walk v ∷ Walk w ∷ steps) start bound
three_walked u v w steps start bound =
    both_walked u (Both v w) steps start bound ∙ ap (λ b. is_fine u start bound && b) (both_walked v w steps start (after u start bound))

pub two_and_last : (u v w : Uses) (steps : List Step) (start : ℕ) (bound : List Bound)
    → ends_well (Walk (Both u (Both v (Both w Nothing))) ∷ steps) start bound ≡ ends_well (Walk u ∷ Walk v ∷ Walk w ∷ steps) start bound
two_and_last u v w steps start bound =
    three_walked u v (Both w Nothing) steps start bound
    ∙ ap (λ b. is_fine u start bound && (is_fine v start (after u start bound) && b)) (last_walked w steps start (after v start (after u start bound)))

-- what a block or a function binds, and its end
pub block_walked : (names : List Name) (u : Uses) (steps : List Step) (start : ℕ) (bound : List Bound)
    → ends_well (Walk (Block names u) ∷ steps) start bound ≡ ends_well (Declare names ∷ Walk u ∷ Leave (length bound) start ∷ steps) start bound
block_walked names u steps start bound =
    let later = after u start (with_names names bound) in
    and_assoc (is_fine u start (with_names names bound)) (is_settled (length bound) later) (ends_well steps start (first_bound (length bound) later))

pub function_walked : (names : List Name) (u : Uses) (steps : List Step) (start : ℕ) (bound : List Bound)
    → ends_well (Walk (Function names u) ∷ steps) start bound ≡ ends_well (Declare names ∷ Walk u ∷ Leave (length bound) start ∷ steps) (length bound) bound
function_walked names u steps start bound =
    let later = after u (length bound) (with_names names bound) in
    and_assoc (is_fine u (length bound) (with_names names bound)) (is_settled (length bound) later) (ends_well steps start (first_bound (length bound) later))

-- with what follows
pub items_whole : (before : Items) (es : JsList) → list_uses (items_then before es) Nothing ≡ list_uses es (items_uses before)
items_whole NoItem es = refl
items_whole (Item before e) es = items_whole before (MoreJs e es)

pub members_whole : (before : Members) (fs : Fields) → fields_uses (members_then before fs) Nothing ≡ fields_uses fs (members_uses before)
members_whole NoMember fs = refl
members_whole (Member before k e) fs = members_whole before (MoreField k e fs)

pub lines_whole : (before : LinesBefore) (ls : Lines) → lines_uses (lines_then before ls) Nothing ≡ lines_uses ls (lines_before_uses before)
lines_whole NoLineYet ls = refl
lines_whole (LineThen before x e) ls = lines_whole before (MoreLine x e ls)

pub statements_whole : (before : Before) (s : Stmts) → block_uses (statements_then before s) Nothing ≡ block_uses s (statements_uses before)
statements_whole NoStatement s = refl
statements_whole (ConstThen before x e) s = statements_whole before (Const x e s)
statements_whole (LetThen before x e) s = statements_whole before (Let x e s)
statements_whole (AssignThen before x e) s = statements_whole before (Assign x e s)

pub names_whole : (before : Before) (s : Stmts) (names : List Name) → declared (statements_then before s) names ≡ names_before before (declared s names)
names_whole NoStatement s names = refl
names_whole (ConstThen before x e) s names = names_whole before (Const x e s) names
names_whole (LetThen before x e) s names = names_whole before (Let x e s) names
names_whole (AssignThen before x e) s names = names_whole before (Assign x e s) names

pub line_names_whole : (before : LinesBefore) (ls : Lines) (names : List Name) → line_names (lines_then before ls) names ≡ line_names_before before (line_names ls names)
line_names_whole NoLineYet ls names = refl
line_names_whole (LineThen before x e) ls names = line_names_whole before (MoreLine x e ls) names

-- names that are bound one after the other
pub names_after : (before : Before) (names : List Name) (bound : List Bound) → with_names (names_before before names) bound ≡ with_names (names_before before []) (with_names names bound)
names_after NoStatement names bound = refl
names_after (ConstThen before x e) names bound = names_after before (x ∷ names) bound ∙ sym (names_after before (x ∷ []) (with_names names bound))
names_after (LetThen before x e) names bound = names_after before (x ∷ names) bound ∙ sym (names_after before (x ∷ []) (with_names names bound))
names_after (AssignThen before x e) names bound = names_after before names bound

pub line_names_after : (before : LinesBefore) (names : List Name) (bound : List Bound)
    → with_names (line_names_before before names) bound ≡ with_names (line_names_before before []) (with_names names bound)
line_names_after NoLineYet names bound = refl
line_names_after (LineThen before x e) names bound = line_names_after before (x ∷ names) bound ∙ sym (line_names_after before (x ∷ []) (with_names names bound))

pub declared_after : (s : Stmts) (names : List Name) (bound : List Bound) → with_names (declared s names) bound ≡ with_names (declared s []) (with_names names bound)
declared_after (Const x e s) names bound = ap (λ (bs : List Bound). record { name = x; assigned = false; captured = false } ∷ bs) (declared_after s names bound)
declared_after (Let x e s) names bound = ap (λ (bs : List Bound). record { name = x; assigned = false; captured = false } ∷ bs) (declared_after s names bound)
declared_after (Assign x e s) names bound = declared_after s names bound
declared_after (Return e) names bound = refl
declared_after (If c s t) names bound = refl
declared_after (While s) names bound = refl
declared_after Continue names bound = refl

-- statements before a block's last one, after it
pub block_then : (s : Stmts) (u : Uses) (steps : List Step) (start : ℕ) (bound : List Bound)
    → ends_well (Walk (block_uses s u) ∷ steps) start bound ≡ ends_well (Walk (block_uses s Nothing) ∷ Walk u ∷ steps) start bound
block_then (Const x e s) u steps start bound =
    block_then s (Both (uses e) u) steps start bound ∙ (ap (λ b. is_fine (block_uses s Nothing) start bound && b) (both_walked (uses e) u steps start (after (block_uses s Nothing) start bound))
    ∙ sym (block_then s (Both (uses e) Nothing) (Walk u ∷ steps) start bound ∙ ap (λ b. is_fine (block_uses s Nothing) start bound && b) (last_walked (uses e) (Walk u ∷ steps) start (after (block_uses s Nothing) start bound))))
block_then (Let x e s) u steps start bound =
    block_then s (Both (uses e) u) steps start bound ∙ (ap (λ b. is_fine (block_uses s Nothing) start bound && b) (both_walked (uses e) u steps start (after (block_uses s Nothing) start bound))
    ∙ sym (block_then s (Both (uses e) Nothing) (Walk u ∷ steps) start bound ∙ ap (λ b. is_fine (block_uses s Nothing) start bound && b) (last_walked (uses e) (Walk u ∷ steps) start (after (block_uses s Nothing) start bound))))
block_then (Assign x e s) u steps start bound =
    let later = after (block_uses s Nothing) start bound in
    block_then s (Both (Assigns x) (Both (uses e) u)) steps start bound ∙ (ap (λ b. is_fine (block_uses s Nothing) start bound && b) (three_walked (Assigns x) (uses e) u steps start later)
    ∙ sym (block_then s (Both (Assigns x) (Both (uses e) Nothing)) (Walk u ∷ steps) start bound
    ∙ ap (λ b. is_fine (block_uses s Nothing) start bound && b) (both_walked (Assigns x) (Both (uses e) Nothing) (Walk u ∷ steps) start later ∙ ap (λ b. is_fine (Assigns x) start later && b) (last_walked (uses e) (Walk u ∷ steps) start (after (Assigns x) start later)))))
block_then (Return e) u steps start bound = both_walked (uses e) u steps start bound ∙ sym (last_walked (uses e) (Walk u ∷ steps) start bound)
block_then (If c s t) u steps start bound =
    let a = Block (declared t []) (block_uses t Nothing) in
    let b = Block (declared s []) (block_uses s Nothing) in
    three_walked a b (Both (uses c) u) steps start bound
    ∙ (ap (λ k. is_fine a start bound && (is_fine b start (after a start bound) && k)) (both_walked (uses c) u steps start (after b start (after a start bound)))
    ∙ sym (two_and_last a b (uses c) (Walk u ∷ steps) start bound))
block_then (While s) u steps start bound =
    let a = Block (declared s []) (block_uses s Nothing) in both_walked a u steps start bound ∙ sym (last_walked a (Walk u ∷ steps) start bound)
block_then Continue u steps start bound = refl

-- a function, once its parameter is bound
pub arrow_walked : (s : Stmts) (x : Name) (u : Uses) (steps : List Step) (start : ℕ) (bound : List Bound) (n before : ℕ) (now : State)
    → n ≡ length bound → before ≡ start → now ≡ record { start = length bound; bound = with_names (x ∷ []) bound }
    → ends_well (Walk (Function (declared s (x ∷ [])) u) ∷ steps) start bound ≡ ends_well (Declare (declared s []) ∷ Walk u ∷ Leave n before ∷ steps) now.start now.bound
arrow_walked s x u steps start bound n before now p q r =
    function_walked (declared s (x ∷ [])) u steps start bound
    ∙ (ap (λ (bs : List Bound). ends_well (Walk u ∷ Leave (length bound) start ∷ steps) (length bound) bs) (declared_after s (x ∷ []) bound)
    ∙ (ap (λ k. ends_well (Declare (declared s []) ∷ Walk u ∷ Leave k start ∷ steps) (length bound) (with_names (x ∷ []) bound)) (sym p)
    ∙ (ap (λ k. ends_well (Declare (declared s []) ∷ Walk u ∷ Leave n k ∷ steps) (length bound) (with_names (x ∷ []) bound)) (sym q)
    ∙ ap (λ (st : State). ends_well (Declare (declared s []) ∷ Walk u ∷ Leave n before ∷ steps) st.start st.bound) (sym r))))

pub called_walked : (s : Stmts) (u : Uses) (steps : List Step) (start : ℕ) (bound : List Bound) (n before : ℕ) (now : State)
    → n ≡ length bound → before ≡ start → now ≡ record { start = length bound; bound = bound }
    → ends_well (Walk (Function (declared s []) u) ∷ steps) start bound ≡ ends_well (Declare (declared s []) ∷ Walk u ∷ Leave n before ∷ steps) now.start now.bound
called_walked s u steps start bound n before now p q r =
    function_walked (declared s []) u steps start bound
    ∙ (ap (λ k. ends_well (Declare (declared s []) ∷ Walk u ∷ Leave k start ∷ steps) (length bound) bound) (sym p)
    ∙ (ap (λ k. ends_well (Declare (declared s []) ∷ Walk u ∷ Leave n k ∷ steps) (length bound) bound) (sym q)
    ∙ ap (λ (st : State). ends_well (Declare (declared s []) ∷ Walk u ∷ Leave n before ∷ steps) st.start st.bound) (sym r)))

pub inner_walked : (names : List Name) (u : Uses) (steps : List Step) (start : ℕ) (bound : List Bound) (n before : ℕ) → n ≡ length bound → before ≡ start
    → ends_well (Walk (Block names u) ∷ steps) start bound ≡ ends_well (Declare names ∷ Walk u ∷ Leave n before ∷ steps) start bound
inner_walked names u steps start bound n before p q =
    block_walked names u steps start bound
    ∙ (ap (λ k. ends_well (Declare names ∷ Walk u ∷ Leave k start ∷ steps) start bound) (sym p) ∙ ap (λ k. ends_well (Declare names ∷ Walk u ∷ Leave n k ∷ steps) start bound) (sym q))
