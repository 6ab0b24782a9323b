-- Parts of lists, in order.
use Rattle.std.proofs.Common.{ℕ, suc, List, [], ◌∷◌, ◌++◌, Bool, true, false, if◌then◌else◌, ⊎_elim}
use Rattle.std.proofs.Common.{map, sym, ◌∙◌}
use Rattle.std.proofs.lemmas.Bool.{false≢true}
use Rattle.elm_canon.specs.declared.reference.Ref.{Ref}
use Rattle.elm_canon.specs.Tree.{Declaration, Given, Define, Maker, RecordMaker, OutPort, InPort}
use Rattle.elm_canon.specs.Proper.{Scope, among, IsIn, AreFresh}
use Rattle.elm_canon.specs.Declarations.{declared_names}
use Rattle.emit_size_laws.specs.Programs.{AllSpelled}
use Rattle.emit_size_laws.specs.Small.{PortsHaveFields}
use Rattle.decl_groups.proofs.Ordering.{not_true}
use Rattle.canon_proper.proofs.Apart.{in_either, in_left, in_right}
use Rattle.canon_proper.proofs.Scopes.{in_later}
use Rattle.link.specs.Reached.{kept}

pub data Sub {X : Type 0} : List X → List X → Type 0 where
  none : Sub [] []
  take : {x : X} {xs ys : List X} → Sub xs ys → Sub (x ∷ xs) (x ∷ ys)
  skip : {x : X} {xs ys : List X} → Sub xs ys → Sub xs (x ∷ ys)

pub kept_sub : {X : Type 0} (test : ℕ → Bool) (n : ℕ) (xs : List X) → Sub (kept test n xs) xs
kept_sub test n [] = none
kept_sub {X} test n (x ∷ xs) = by (test n) (kept_sub test (suc n) xs)
  where
    by : (b : Bool) → Sub (kept test (suc n) xs) xs →
        Sub (if b then x ∷ kept test (suc n) xs else kept test (suc n) xs) (x ∷ xs)
    by true s = take s
    by false s = skip s

pub sub_map : {X Y : Type 0} (f : X → Y) {xs ys : List X} → Sub xs ys → Sub (map f xs) (map f ys)
sub_map f none = none
sub_map f (take s) = take (sub_map f s)
sub_map f (skip s) = skip (sub_map f s)

-- ---- names

pub fresh_sub : {xs ys : List Ref} → Sub xs ys → (a b : Scope) → ((r : Ref) → IsIn r b → IsIn r a) → AreFresh ys a
    → AreFresh xs b
fresh_sub none a b less f = tt
fresh_sub (take {x = x} s) a b less f = (
  not_true (among x b) (λ e. false≢true (sym f.0 ∙ less x e)),
  fresh_sub s (x ∷ a) (x ∷ b) (λ r e. more r e) f.1,
)
  where
    more : (r : Ref) → IsIn r (x ∷ b) → IsIn r (x ∷ a)
    more r e = ⊎_elim (λ h. in_left r (x ∷ []) a h) (λ h. in_later r x a (less r h)) (in_either r (x ∷ []) b e)
fresh_sub (skip {x = x} s) a b less f = fresh_sub s (x ∷ a) b (λ r e. in_later r x a (less r e)) f.1

pub spelled_sub : {xs ys : List Ref} → Sub xs ys → AllSpelled ys → AllSpelled xs
spelled_sub none a = tt
spelled_sub (take s) a = (a.0, spelled_sub s a.1)
spelled_sub (skip s) a = spelled_sub s a.1

pub among_sub : {xs ys : List Ref} → Sub xs ys → (r : Ref) → IsIn r xs → IsIn r ys
among_sub none r e = e
among_sub (take {x = x} {xs = xs} {ys = ys} s) r e =
    ⊎_elim (in_left r (x ∷ []) ys) (λ h. in_right r (x ∷ []) ys (among_sub s r h)) (in_either r (x ∷ []) xs e)
among_sub (skip {x = x} {ys = ys} s) r e = in_right r (x ∷ []) ys (among_sub s r e)

-- ---- declarations

-- the names of all
abbrev pub names_all : List Declaration → List Ref
names_all [] = []
names_all (d ∷ ds) = declared_names d ++ names_all ds

pub names_sub : {xs ys : List Declaration} → Sub xs ys → (r : Ref) → IsIn r (names_all xs) → IsIn r (names_all ys)
names_sub none r e = e
names_sub (take {x = d} {xs = xs} {ys = ys} s) r e =
    ⊎_elim (λ h. in_left r (declared_names d) (names_all ys) h)
    (λ h. in_right r (declared_names d) (names_all ys) (names_sub s r h))
    (in_either r (declared_names d) (names_all xs) e)
names_sub (skip {x = d} {ys = ys} s) r e = in_right r (declared_names d) (names_all ys) (names_sub s r e)

payloads_rest : (d : Declaration) (ds : List Declaration) → PortsHaveFields (d ∷ ds) → PortsHaveFields ds
payloads_rest (Given r (Maker a)) ds p = p
payloads_rest (Given r (RecordMaker ks)) ds p = p
payloads_rest (Given r (OutPort x t)) ds p = p.1
payloads_rest (Given r (InPort x t)) ds p = p.1
payloads_rest (Define g) ds p = p

payloads_more : (d : Declaration) (ds es : List Declaration) → PortsHaveFields (d ∷ ds) → PortsHaveFields es
    → PortsHaveFields (d ∷ es)
payloads_more (Given r (Maker a)) ds es p q = q
payloads_more (Given r (RecordMaker ks)) ds es p q = q
payloads_more (Given r (OutPort x t)) ds es p q = (p.0, q)
payloads_more (Given r (InPort x t)) ds es p q = (p.0, q)
payloads_more (Define g) ds es p q = q

pub payloads_sub : {xs ys : List Declaration} → Sub xs ys → PortsHaveFields ys → PortsHaveFields xs
payloads_sub none p = tt
payloads_sub (take {x = d} {xs = xs} {ys = ys} s) p = payloads_more d ys xs p (payloads_sub s (payloads_rest d ys p))
payloads_sub (skip {x = d} {ys = ys} s) p = payloads_sub s (payloads_rest d ys p)
