-- Definitions of the program in turn.
use Rattle.std.proofs.Common.{◌≡◌, ℕ, zero, suc, ◌+◌, ◌<◌, List, [], ◌∷◌, ◌++◌, length, map, take, get_or, Some}
use Rattle.std.proofs.Common.{Result, Ok, Err, IfOk, refl, sym, ap, ◌∙◌, subst, arith}
use Rattle.std.specs.Prelude.{slice_get, is_none, if◌then◌else◌, All}
use Rattle.std.specs.List.{AllZip, AllByRecursion}
use Rattle.std.specs.declared.alloc.Global.{Global}
use Rattle.std.specs.declared.vec.Vec.{Vec}
use Rattle.std.proofs.lemmas.List.{take_more, map-append, length-map}
use Rattle.std.proofs.lemmas.List.Elements.{All-map, recursion_from_All}
use Rattle.decl_groups.specs.Groups.{plain}
use Rattle.elm_canon.specs.declared.reference.Ref.{Ref}
use Rattle.elm_canon.specs.Tree.{Group}
use Rattle.type_items.specs.Definitions as plain
use Rattle.infer_order.specs.Owners.{Numbers, put_all, put_from, nothing}
use Rattle.infer_order.specs.Order.{StandsAt, IsDefinition, AreDefinitions}
use Rattle.infer_order.specs.declared.order.Definition.{Definition}
use Rattle.infer_order.specs.declared.order.Spot.{Spot}
use Rattle.infer_order.proofs.Owning.{take_next}
use Rattle.infer_order.proofs.Zips.{zip_push, zip_last, zip_length, zip_beside}
use Rattle.infer_order.proofs.Rows.{one_same, from_more, length_rows}

take_at : {X : Type 0} (xs : List X) (k : ℕ) (x : X) → slice_get xs k ≡ Some x → take (k + 1) xs ≡ take k xs ++ x ∷ []
take_at [] k x is = absurd cc
take_at (y ∷ ys) zero x is = let same : y ≡ x = cc in ap (λ l. y ∷ l) (nothing_taken ys) ∙ ap (λ z. z ∷ []) same
  where
    nothing_taken : {X : Type 0} (xs : List X) → take 0 xs ≡ []
    nothing_taken [] = refl
    nothing_taken (x ∷ xs) = refl
take_at (y ∷ ys) (suc k) x is =
    ap (λ n. take n (y ∷ ys)) (let e : suc k + 1 ≡ suc (k + 1) = omega arith in e) ∙ ap (λ l. y ∷ l) (take_at ys k x is)

take_count : {X : Type 0} (xs : List X) (k : ℕ) (x : X) → slice_get xs k ≡ Some x → length (take k xs) ≡ k
take_count [] k x is = absurd cc
take_count (y ∷ ys) zero x is = refl
take_count (y ∷ ys) (suc k) x is = ap suc (take_count ys k x is)

pub next_definition : (gs : List Group) (spots : List Spot) (i : ℕ) (s : Spot) (x : Definition)
    (old new : List Definition) → i < length spots
    → new ≡ old ++ x ∷ [] → ((ds : List plain.Definition) → AllZip (StandsAt gs) (take i spots) ds → AreDefinitions gs
    old ds)
    → ((d : plain.Definition) → StandsAt gs (get_or spots i s) d → IsDefinition gs x d)
    → (ds : List plain.Definition) → AllZip (StandsAt gs) (take (i + 1) spots) ds → AreDefinitions gs new ds
next_definition gs spots i s x old new lt more before one ds h =
    let l = zip_last (StandsAt gs) (take i spots) (get_or spots i s) ds
    (subst (λ t. AllZip (StandsAt gs) t ds) (take_more spots i s lt) h) in
    subst (λ t. AreDefinitions gs t ds) (sym more)
    (subst (λ t. AreDefinitions gs (old ++ x ∷ []) t) (sym l.is)
    (zip_push (IsDefinition gs) old l.front x l.last (before l.front l.fronts) (one l.last l.lasts)))

pub next_row : (gs : List Group) (xs : List Definition) (i : ℕ) (x : Definition) (f : plain.Definition → List ℕ)
    (old new : List (Vec ℕ Global)) (row : Vec ℕ Global)
    → i < length xs → x ≡ get_or xs i x → new ≡ old ++ row ∷ []
    → ((ds : List plain.Definition) → AreDefinitions gs (take i xs) ds → plain old ≡ map f ds)
    → ((d : plain.Definition) → IsDefinition gs x d → row.items ≡ f d)
    → (ds : List plain.Definition) → AreDefinitions gs (take (i + 1) xs) ds → plain new ≡ map f ds
next_row gs xs i x f old new row lt is more before one ds h =
    let l = zip_last (IsDefinition gs) (take i xs) x ds (subst (λ t. AreDefinitions gs t ds) (take_next xs i x lt is) h)
    in
    ap plain more ∙ map-append (λ (v : Vec ℕ Global). v.items) old (row ∷ [])
    ∙ ap (λ t. t ++ row.items ∷ []) (before l.front l.fronts) ∙ ap (λ t. map f l.front ++ t ∷ []) (one l.last l.lasts)
    ∙ sym (map-append f l.front (l.last ∷ [])) ∙ ap (map f) (sym l.is)

pub next_owner : (gs : List Group) (xs : List Definition) (n : ℕ) (x : Definition) (old new : Numbers) → n < length xs
    → x ≡ get_or xs n x
    → ((ds : List plain.Definition) → AreDefinitions gs xs ds → (y : Ref) → old y ≡ put_from 0 (take n ds) nothing y)
    → ((d : plain.Definition) → IsDefinition gs x d → (y : Ref) → new y ≡
    (if is_none d.annotation then put_all d.names n old else old) y)
    → (ds : List plain.Definition) → AreDefinitions gs xs ds → (y : Ref) → new y ≡ put_from 0 (take (n + 1) ds) nothing
    y
next_owner gs xs n x old new lt is before one ds h y =
    let b = zip_beside (IsDefinition gs) xs ds n x h lt is in
    let d = b.other in
    one d b.related y
    ∙ one_same (is_none d.annotation) d.names n old (put_from 0 (take n ds) nothing) (before ds h) y
    ∙ sym (from_more 0 n (take n ds) d nothing y (omega (arith, take_count ds n d b.is)))
    ∙ ap (λ l. put_from 0 l nothing y) (sym (take_at ds n d b.is))

pub rows_count : (gs : List Group) (xs : List Definition) (ds : List plain.Definition) (f : plain.Definition → List ℕ)
    (rows : List (Vec ℕ Global))
    → AreDefinitions gs xs ds → plain rows ≡ map f ds → length rows ≡ length xs
rows_count gs xs ds f rows h e =
    sym (length-map rows (λ (v : Vec ℕ Global). v.items)) ∙ length_rows f (plain rows) ds e ∙ sym
    (zip_length (IsDefinition gs) xs ds h)

pub if_ok_so : {T E : Type 0} (r : Result T E) (P Q : T → Type 0) → ((x : T) → P x → Q x) → IfOk r P → IfOk r Q
if_ok_so (Ok x) P Q h p = h x p
if_ok_so (Err e) P Q h p = tt

pub inside_of : (n : ℕ) (found : List (Vec ℕ Global)) → All (λ (g : Vec ℕ Global). All (λ i. i < n) g.items) found
    → AllByRecursion (All (λ i. i < n)) (plain found)
inside_of n found h =
    recursion_from_All (All (λ i. i < n)) (plain found)
    (All-map (All (λ i. i < n)) (λ (v : Vec ℕ Global). v.items) found h)
