-- Items that are kept, module after module.
use Rattle.std.proofs.Common.{◌≡◌, ℕ, suc, ◌+◌, List, [], ◌∷◌, ◌++◌, map, length, Bool, true, false, inl, inr, refl, sym}
use Rattle.std.proofs.Common.{ap, ◌∙◌, subst, arith, if◌then◌else◌, append-nil}
use Rattle.std.specs.Prelude.{flat_map}
use Rattle.elm_canon.specs.Tree.{Declaration}
use Rattle.link.specs.Cores.{others}
use Rattle.link.specs.Reached.{kept}
use Rattle.link.specs.Programs.{Item, Core, Declared, items_of, declarations_in}
use Rattle.project_proper.proofs.Sublists.{Sub, none, take, skip, kept_sub}
use Rattle.project_proper.proofs.Ports.{sub_declarations, source_declares}
use Rattle.program_safety.specs.Parts.{AreSome}
use Rattle.project_proper.specs.Resolved.{source_of}
use Rattle.project_proper.proofs.Moved.{others_sub}
use Rattle.build_safety.specs.Compiled.{Compiled, resolved_of}
use Rattle.build_safety.specs.Placed.{modules_of, declarations_of}
use Rattle.build_safety.specs.LinkedPieces.{items, pieces}

kept_both : {X : Type 0} (test : ℕ → Bool) (n : ℕ) (xs ys : List X) →
    kept test n (xs ++ ys) ≡ kept test n xs ++ kept test (n + length xs) ys
kept_both test n [] ys = ap (λ k. kept test k ys) (omega arith)
kept_both test n (x ∷ xs) ys =
    by (test n)
    (kept_both test (suc n) xs ys ∙ ap (λ k. kept test (suc n) xs ++ kept test k ys) (omega arith))
  where
    by : (b : Bool) →
        kept test (suc n) (xs ++ ys) ≡ kept test (suc n) xs ++ kept test (n + length (x ∷ xs)) ys →
        (if b then x ∷ kept test (suc n) (xs ++ ys) else kept test (suc n) (xs ++ ys))
        ≡ (if b then x ∷ kept test (suc n) xs else kept test (suc n) xs) ++ kept test (n + length (x ∷ xs)) ys
    by true e = ap (λ zs. x ∷ zs) e
    by false e = e

declared_both : (xs ys : List Item) → declarations_in (xs ++ ys) ≡ declarations_in xs ++ declarations_in ys
declared_both [] ys = refl
declared_both (Core p ∷ xs) ys = declared_both xs ys
declared_both (Declared ports d ∷ xs) ys = ap (λ ds. d ∷ ds) (declared_both xs ys)

-- the declarations that are kept of all modules
pub pieces_declare : (test : ℕ → Bool) (n : ℕ) (cs : List Compiled) →
    declarations_in (kept test n (flat_map items_of (map source_of (resolved_of cs)))) ≡ declarations_of (pieces test n cs)
pieces_declare test n [] = refl
pieces_declare test n (c ∷ cs) =
    let rest = flat_map items_of (map source_of (resolved_of cs)) in
    ap declarations_in (kept_both test n (items c) rest)
    ∙ declared_both (kept test n (items c)) (kept test (n + length (items c)) rest)
    ∙ ap (λ ds. declarations_in (kept test n (items c)) ++ ds) (pieces_declare test (n + length (items c)) cs)

pub pieces_modules : (test : ℕ → Bool) (n : ℕ) (cs : List Compiled) → modules_of (pieces test n cs) ≡ cs
pieces_modules test n [] = refl
pieces_modules test n (c ∷ cs) = ap (λ ds. c ∷ ds) (pieces_modules test (n + length (items c)) cs)

-- ---- some of the declarations of a module

sub_sub : {X : Type 0} {xs ys zs : List X} → Sub xs ys → Sub ys zs → Sub xs zs
sub_sub none none = none
sub_sub s (skip t) = skip (sub_sub s t)
sub_sub (take s) (take t) = take (sub_sub s t)
sub_sub (skip s) (take t) = skip (sub_sub s t)

one_later : (ds : List Declaration) (e : Declaration) (es : List Declaration) → AreSome ds es → AreSome ds (e ∷ es)
one_later [] e es h = tt
one_later (d ∷ ds) e es h = inr h

sub_some : {ds es : List Declaration} → Sub ds es → AreSome ds es
sub_some none = tt
sub_some (take s) = inl (refl, sub_some s)
sub_some (skip {x = e} {xs = ds} {ys = es} s) = one_later ds e es (sub_some s)

pub piece_some : (test : ℕ → Bool) (n : ℕ) (c : Compiled) →
    AreSome (declarations_in (kept test n (items c))) c.resolved.whole.declarations
piece_some test n c =
    let whole = c.resolved.whole.declarations in
    let all : declarations_in (items c) ≡ others whole =
    ap declarations_in (sym (append-nil (items c))) ∙ source_declares (source_of c.resolved) []
    ∙ append-nil (others whole) in
    sub_some
    (sub_sub (subst (Sub (declarations_in (kept test n (items c)))) all (sub_declarations (kept_sub test n (items c))))
    (others_sub whole))
