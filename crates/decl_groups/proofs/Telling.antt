-- One more group is told.
use Rattle.std.proofs.Common.{◌≡◌, ℕ, List, [], ◌∷◌, ◌++◌, length, map, Vec, Global, sym, ap, ◌∙◌, subst, suc, arith}
use Rattle.std.specs.List.{All}
use Rattle.std.proofs.lemmas.List.{map-append, append_assoc, append-nil}
use Rattle.decl_groups.specs.Groups.{plain}
use Rattle.decl_groups.specs.declared.grouping.Group.{Group}
use Rattle.decl_groups.specs.InOrder as computed
use Rattle.decl_groups.specs.View.{members_of, marks_of}

abbrev Row : Type 0
Row = Vec ℕ Global

-- nothing is told yet
pub none_told : (told : List Group) (groups : List (List ℕ)) → told ≡ [] → members_of told ++ groups ≡ groups
none_told told groups e = ap (λ ts. members_of ts ++ groups) e

pub no_marks : (uses : List (List ℕ)) (told : List Group) → told ≡ [] → marks_of told ≡ map (computed.is_recursive uses) (members_of told)
no_marks uses told e = ap marks_of e ∙ sym (ap (λ ts. map (computed.is_recursive uses) (members_of ts)) e)

pub all_of : (told : List Group) (group : Group) (left rest : List Row) (groups : List (List ℕ)) → members_of told ++ plain left ≡ groups → left ≡ group.members ∷ rest
    → members_of (told ++ group ∷ []) ++ plain rest ≡ groups
all_of told group left rest groups e is =
    ap (λ ms. ms ++ plain rest) (map-append (λ (g : Group). g.members.items) told (group ∷ []))
    ∙ append_assoc (members_of told) (group.members.items ∷ []) (plain rest) ∙ ap (λ r. members_of told ++ plain r) (sym is) ∙ e

pub marks_are : (uses : List (List ℕ)) (told : List Group) (group : Group) → marks_of told ≡ map (computed.is_recursive uses) (members_of told)
    → group.is_recursive ≡ computed.is_recursive uses group.members.items → marks_of (told ++ group ∷ []) ≡ map (computed.is_recursive uses) (members_of (told ++ group ∷ []))
marks_are uses told group e is =
    let tells = computed.is_recursive uses in
    map-append (λ (g : Group). g.is_recursive) told (group ∷ []) ∙ ap (λ bs. bs ++ group.is_recursive ∷ []) e ∙ ap (λ b. map tells (members_of told) ++ b ∷ []) is
    ∙ sym (ap (map tells) (map-append (λ (g : Group). g.members.items) told (group ∷ [])) ∙ map-append tells (members_of told) (group.members.items ∷ []))

-- what holds of all holds of the first, and of all after it
module _ {X : Type 0} (P : X → Type 0) where
  pub of_first : (xs rest : List X) (x : X) → All P xs → xs ≡ x ∷ rest → P x
  of_first xs rest x all e = subst (All P) e all 0 x (omega arith)

  pub of_rest : (xs rest : List X) (x : X) → All P xs → xs ≡ x ∷ rest → All P rest
  of_rest xs rest x all e = λ k d l. subst (All P) e all (suc k) d (omega (arith, l))

-- nothing is left
pub all_told : (told : List Group) (left : List Row) (groups : List (List ℕ)) → members_of told ++ plain left ≡ groups → length left ≡ 0 → members_of told ≡ groups
all_told told [] groups e l = sym (append-nil (members_of told)) ∙ e
all_told told (x ∷ left) groups e l = absurd (omega (arith, l))
