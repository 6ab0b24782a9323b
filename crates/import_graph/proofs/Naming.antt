-- The name of an entry, directory by directory.
use Rattle.std.proofs.Common.{◌≡◌, ℕ, List, [], ◌∷◌, Some, None, sym, subst, ◌∙◌}
use Rattle.elm_base.specs.Path.{IsPathOf, dotted}
use Rattle.project_file.specs.Paths.{below}
use Rattle.import_graph.specs.Entries.{NamesBelow, NamesEntry, here, later}

same_some : {a b : List ℕ} → Some a ≡ Some b → a ≡ b
same_some e = cc

-- the one name below a directory
pub one_below : (directory path rest name : List ℕ) → below directory path ≡ Some rest → ((names : List (List ℕ)) → IsPathOf names rest → name ≡ dotted names) →
    (other : List ℕ) → NamesBelow directory path other → other ≡ name
one_below directory path rest name e only other n =
    let same : n.0 ≡ rest = same_some (sym n.1 ∙ e) in
    n.2.2 ∙ sym (only n.2.0 (subst (IsPathOf n.2.0) same n.2.1))

pub none_below : (directory path rest : List ℕ) → below directory path ≡ Some rest → ((names : List (List ℕ)) → IsPathOf names rest → ⊥) →
    (name : List ℕ) → NamesBelow directory path name → ⊥
none_below directory path rest e none name n =
    let same : n.0 ≡ rest = same_some (sym n.1 ∙ e) in
    none n.2.0 (subst (IsPathOf n.2.0) same n.2.1)

pub outside : (directory path : List ℕ) → below directory path ≡ None → (name : List ℕ) → NamesBelow directory path name → ⊥
outside directory path e name n = absurd (let z = sym n.1 ∙ e in cc)

-- the directories that are left name the entry as all do
pub record IsLeft (path : List ℕ) (left all : List (List ℕ)) : Type 0 where
  pub to : (name : List ℕ) → NamesEntry path left name → NamesEntry path all name
  pub from : (name : List ℕ) → NamesEntry path all name → NamesEntry path left name

pub all_left : (path : List ℕ) (all : List (List ℕ)) → IsLeft path all all
all_left path all = record { to = λ name n. n; from = λ name n. n }

tail_names : {path directory name : List ℕ} {directories : List (List ℕ)} → ((other : List ℕ) → NamesBelow directory path other → ⊥) →
    NamesEntry path (directory ∷ directories) name → NamesEntry path directories name
tail_names none (here {name = name} n) = absurd (none name n)
tail_names none (later other n) = n

-- the first of them names no module
pub one_passed : (path directory : List ℕ) (left all : List (List ℕ)) → IsLeft path (directory ∷ left) all → ((other : List ℕ) → NamesBelow directory path other → ⊥) → IsLeft path left all
one_passed path directory left all is none = record {
  to = λ name n. is.to name (later none n);
  from = λ name n. tail_names none (is.from name n);
}

-- the first of them names the module
first_names : {path directory name : List ℕ} {directories : List (List ℕ)} → (found : List ℕ) → NamesBelow directory path found →
    ((other : List ℕ) → NamesBelow directory path other → other ≡ found) → NamesEntry path (directory ∷ directories) name → name ≡ found
first_names found n only (here {name = name} m) = only name m
first_names found n only (later none m) = absurd (none found n)

pub one_entry : (path directory : List ℕ) (left all : List (List ℕ)) → IsLeft path (directory ∷ left) all → (found : List ℕ) → NamesBelow directory path found →
    ((other : List ℕ) → NamesBelow directory path other → other ≡ found) → (other : List ℕ) → NamesEntry path all other → other ≡ found
one_entry path directory left all is found n only other m = first_names found n only (is.from other m)

pub an_entry : (path directory : List ℕ) (left all : List (List ℕ)) → IsLeft path (directory ∷ left) all → (found : List ℕ) → NamesBelow directory path found → NamesEntry path all found
an_entry path directory left all is found n = is.to found (here n)

none_left : {path name : List ℕ} → NamesEntry path [] name → ⊥
none_left n = elim n [ ]

pub no_entry : (path : List ℕ) (left all : List (List ℕ)) → left ≡ [] → IsLeft path left all → (name : List ℕ) → NamesEntry path all name → ⊥
no_entry path left all e is name n = none_left (subst (λ ds. NamesEntry path ds name) e (is.from name n))
