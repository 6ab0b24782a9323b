-- Groups in order of use.
use Rattle.std.proofs.Common.{◌≡◌, ℕ, ◌+◌, ◌<◌, zero, suc, List, [], ◌∷◌, ◌++◌, Bool, false, length, map, take, get_or}
use Rattle.std.proofs.Common.{refl, sym, ap, ◌∙◌, subst, append_assoc, append-nil, arith, ⊎_elim, ◌⊎◌, inl, inr}
use Rattle.std.specs.List.{Contains, All}
use Rattle.std.proofs.lemmas.List.{get_or-map}
use Rattle.std.proofs.lemmas.List.Elements.{All-nil, All-cons}
use Rattle.decl_groups.specs.Groups.{IsOrder, all_placed, next, IsReady}
use Rattle.decl_groups.specs.InOrder.{is_recursive}
use Rattle.decl_groups.specs.View.{members_of, marks_of, joined}
use Rattle.decl_groups.specs.declared.grouping.Group.{Group}
use Rattle.decl_groups.proofs.Standing.{front_member}
use Rattle.canon_type.proofs.Fillings.{bad_next}
use Rattle.canon_type.proofs.Grouping.{at_member}

pub ready_at : (uses : List (List ℕ)) (placed : List ℕ) (groups : List Group) → IsOrder uses placed (members_of groups) →
    (k : ℕ) (g : Group) → k < length groups → g ≡ get_or groups k g →
    IsReady uses (placed ++ joined (members_of (take k groups))) g.members.items
ready_at uses placed [] o k g l is = absurd (omega (arith, l))
ready_at uses placed (h ∷ rest) (next n o) zero g l is =
    subst (λ ps. IsReady uses ps g.members.items) (sym (append-nil placed))
    (subst (λ (z : Group). IsReady uses placed z.members.items) (sym is) n.ready)
ready_at uses placed (h ∷ rest) (next n o) (suc k) g l is =
    subst (λ ps. IsReady uses ps g.members.items)
    (append_assoc placed h.members.items (joined (members_of (take k rest))))
    (ready_at uses (placed ++ h.members.items) rest o k g (omega (arith, l)) is)

pub mark_at : (uses : List (List ℕ)) (groups : List Group) →
    marks_of groups ≡ map (is_recursive uses) (members_of groups) → (k : ℕ) (g : Group) → k < length groups →
    g ≡ get_or groups k g → g.is_recursive ≡ is_recursive uses g.members.items
mark_at uses [] e k g l is = absurd (omega (arith, l))
mark_at uses (h ∷ rest) e zero g l is =
    let first : h.is_recursive ≡ is_recursive uses h.members.items = cc in
    ap (λ (z : Group). z.is_recursive) is ∙ first ∙ ap (λ (z : Group). is_recursive uses z.members.items) (sym is)
mark_at uses (h ∷ rest) e (suc k) g l is =
    let after : marks_of rest ≡ map (is_recursive uses) (members_of rest) = cc in
    mark_at uses rest after k g (omega (arith, l)) is

pub joined_next : (groups : List Group) (k : ℕ) (g : Group) → k < length groups → g ≡ get_or groups k g →
    joined (members_of (take k groups)) ++ g.members.items ≡ joined (members_of (take (k + 1) groups))
joined_next groups k g l is =
    bad_next (λ (ms : List ℕ). ms) (λ (z : Group). z.members.items) groups k g [] (joined (members_of (take k groups)))
    (joined (members_of (take k groups)) ++ g.members.items) l is refl refl

-- each place stands in a group
pub all_joined : (uses : List (List ℕ)) (placed : List ℕ) (gs : List (List ℕ)) → IsOrder uses placed gs → (i : ℕ) →
    i < length uses → Contains (placed ++ joined gs) i
all_joined uses placed [] (all_placed f) i l = front_member placed [] i (f i l)
all_joined uses placed (g ∷ gs) (next n o) i l =
    subst (λ ps. Contains ps i) (append_assoc placed g (joined gs)) (all_joined uses (placed ++ g) gs o i l)

-- members of groups are places
pub groups_within : (uses : List (List ℕ)) (placed : List ℕ) (groups : List Group) →
    IsOrder uses placed (members_of groups) → All (λ (g : Group). All (λ i. i < length uses) g.members.items) groups
groups_within uses placed [] o = All-nil (λ (g : Group). All (λ i. i < length uses) g.members.items)
groups_within uses placed (h ∷ rest) (next n o) =
    All-cons (λ (g : Group). All (λ i. i < length uses) g.members.items) h rest
    (λ k d l. ((n.ready.is_group.members (get_or h.members.items k d)).0 (at_member h.members.items k d l)).0)
    (groups_within uses (placed ++ h.members.items) rest o)
