-- Faults in order: what the order does not tell apart is one fault, and one list has given faults in order.
use Rattle.std.proofs.Common.{◌≡◌, ℕ, ◌<◌, List, [], ◌∷◌, true, if◌then◌else◌, refl, sym, ap, ◌∙◌}
use Rattle.std.proofs.Common.{get_or, subst, arith}
use Rattle.std.specs.Prelude.{Contains, ◌⊎◌}
use mathlib.Core.Logic.{inl, inr, ⊎_elim}
use Rattle.std.proofs.lemmas.List.Elements.{Contains-append_cases, Contains-append_right}
use Rattle.std.specs.declared.cmp.Ordering.{Ordering}
use Rattle.std.specs.declared.cmp.Ordering.TheVariants.{Less, Equal, Greater}
use Rattle.std.specs.Ordering.{ordering_then, nat_cmp, is_lt, is_eq, eq_by_cmp, MatchOrdering}
use Rattle.std.specs.Str.{bytes_eq}
use Rattle.std.specs.List.Sorted.{IsStrictlySortedBy}
use Rattle.std.specs.Cmp.{Equal-is}
use Rattle.std.specs.Cmp.Lexicographic.{slice_cmp, texts_ties}
use Rattle.std.proofs.lemmas.Cmp.{ranked, tied_itself}
use Rattle.std.proofs.lemmas.Slice.Eq.{bytes_eq-Decides}
use Rattle.elm_base.specs.declared.fault.Code.{Code}
use Rattle.elm_base.specs.declared.fault.Code.TheVariants as code
use Rattle.elm_base.specs.Code.{code_text}
use Rattle.canon_env.specs.declared.finding.Finding.{Finding}
use Rattle.canon_env.specs.Order.{finding_cmp, finding_total, comes_before, Ascends}

-- ---- codes are told apart by their texts

all_codes : List Code
all_codes =
    code.NotUtf8 ∷ code.Tab ∷ code.Syntax ∷ code.FloatLiteral ∷ code.IntTooLarge ∷ code.BadEscape ∷ code.Unclosed ∷
    code.TooDeep ∷ code.FileTooLarge ∷ code.NameMismatch ∷ code.ImportNotFound ∷ code.ImportAmbiguous ∷
    code.ImportCycle ∷ code.DuplicateName ∷ code.ImportExposing ∷ code.ExportUnknown ∷ code.Shadowing ∷
    code.UnknownType ∷ code.TypeArity ∷ code.AliasRecursion ∷ code.UnknownValue ∷ code.UnknownConstructor ∷
    code.ConstructorArity ∷ code.DuplicateField ∷ code.DuplicateBinding ∷ code.Ambiguous ∷ code.UnboundTypeVariable ∷
    code.UnusedTypeVariable ∷ code.DuplicateTypeVariable ∷ code.BadExtension ∷ code.PortInPlainModule ∷
    code.MixedOperators ∷ code.TupleTooLarge ∷ code.LoneAnnotation ∷ code.RecursiveValue ∷ code.UnknownOperator ∷
    code.PortPayload ∷ code.PortType ∷ code.MainType ∷ code.MainFlags ∷ code.PortClash ∷ code.TypeMismatch ∷
    code.TypeTooLarge ∷ code.MissingPatterns ∷ code.RedundantPattern ∷ code.PartialParameter ∷
    code.FileMissing ∷ code.NotElmcOutput ∷ code.BadInputLine ∷ code.UnknownPort ∷ code.GivenFileTooLarge ∷
    code.BadScript ∷ code.ProjectMissing ∷ code.NotJson ∷ code.NotApplication ∷ code.OtherVersion ∷
    code.EntryNotFound ∷ code.TooManyModules ∷ code.BadOutput ∷ []

-- the first that is printed so
among : List Code → List ℕ → Code
among [] t = code.NotUtf8
among (c ∷ cs) t = if bytes_eq (code_text c) t then c else among cs t

found : (c : Code) → among all_codes (code_text c) ≡ c
unfolding code_text all_codes among
found code.NotUtf8 = refl
found code.Tab = refl
found code.Syntax = refl
found code.FloatLiteral = refl
found code.IntTooLarge = refl
found code.BadEscape = refl
found code.Unclosed = refl
found code.TooDeep = refl
found code.FileTooLarge = refl
found code.NameMismatch = refl
found code.ImportNotFound = refl
found code.ImportAmbiguous = refl
found code.ImportCycle = refl
found code.DuplicateName = refl
found code.ImportExposing = refl
found code.ExportUnknown = refl
found code.Shadowing = refl
found code.UnknownType = refl
found code.TypeArity = refl
found code.AliasRecursion = refl
found code.UnknownValue = refl
found code.UnknownConstructor = refl
found code.ConstructorArity = refl
found code.DuplicateField = refl
found code.DuplicateBinding = refl
found code.Ambiguous = refl
found code.UnboundTypeVariable = refl
found code.UnusedTypeVariable = refl
found code.DuplicateTypeVariable = refl
found code.BadExtension = refl
found code.PortInPlainModule = refl
found code.MixedOperators = refl
found code.TupleTooLarge = refl
found code.LoneAnnotation = refl
found code.RecursiveValue = refl
found code.UnknownOperator = refl
found code.PortPayload = refl
found code.PortType = refl
found code.MainType = refl
found code.MainFlags = refl
found code.PortClash = refl
found code.TypeMismatch = refl
found code.TypeTooLarge = refl
found code.MissingPatterns = refl
found code.RedundantPattern = refl
found code.PartialParameter = refl
found code.FileMissing = refl
found code.NotElmcOutput = refl
found code.BadInputLine = refl
found code.UnknownPort = refl
found code.GivenFileTooLarge = refl
found code.BadScript = refl
found code.ProjectMissing = refl
found code.NotJson = refl
found code.NotApplication = refl
found code.OtherVersion = refl
found code.EntryNotFound = refl
found code.TooManyModules = refl
found code.BadOutput = refl

one_code : (c d : Code) → code_text c ≡ code_text d → c ≡ d
one_code c d e = sym (found c) ∙ ap (among all_codes) e ∙ found d

-- ---- what ties is one

both : (a b : Ordering) → ordering_then a b ≡ Equal → (a ≡ Equal) × (b ≡ Equal)
both Less b e = absurd cc
both Equal b e = (refl, e)
both Greater b e = absurd cc

one_number : (x y : ℕ) → nat_cmp x y ≡ Equal → x ≡ y
one_number x y e = subst (λ o. MatchOrdering o (x < y) (x ≡ y) (y < x)) e (ranked x y (nat_cmp x y) refl)

one_text : (xs ys : List ℕ) → slice_cmp nat_cmp xs ys ≡ Equal → xs ≡ ys
one_text xs ys e = (bytes_eq-Decides xs ys).0 (texts_ties xs ys ∙ ap is_eq e)

pub one_finding : (f g : Finding) → eq_by_cmp finding_cmp f g ≡ true → f ≡ g
one_finding f g e =
    let ties = (Equal-is (finding_cmp f g)).0 e in
    let by_row = both (nat_cmp f.place.row g.place.row) _ ties in
    let by_column = both (nat_cmp f.place.column g.place.column) _ by_row.1 in
    let by_code = both (slice_cmp nat_cmp (code_text f.code) (code_text g.code)) _ by_column.1 in
    let row = one_number f.place.row g.place.row by_row.0 in
    let column = one_number f.place.column g.place.column by_column.0 in
    let kind = one_code f.code g.code (one_text (code_text f.code) (code_text g.code) by_code.0) in
    let detail = one_text f.detail g.detail by_code.1 in
    λ i. record { code = kind i; place = record { row = row i; column = column i }; detail = detail i }

-- ---- ascending lists

pub ascends : (fs : List Finding) → IsStrictlySortedBy finding_cmp fs → Ascends fs
unfolding IsStrictlySortedBy
ascends [] h = tt
ascends (f ∷ []) h = tt
ascends (f ∷ g ∷ rest) h = (ap is_lt h.0.0, ascends (g ∷ rest) h.1)

-- ---- one list

less : (o : Ordering) → is_lt o ≡ true → o ≡ Less
less Less e = refl
less Equal e = absurd cc
less Greater e = absurd cc

later : (f g h : Finding) → comes_before f g → comes_before g h → comes_before f h
later f g h a b =
    ap is_lt (finding_total.trans f g h (less (finding_cmp f g) a) (less (finding_cmp g h) b))

never_itself : (f : Finding) → comes_before f f → ⊥
never_itself f a = let e = tied_itself finding_total f in let l = less (finding_cmp f f) a in absurd cc

one_item : (y x : Finding) → Contains (y ∷ []) x → y ≡ x
one_item y x h = let e : h.0 ≡ 0 = omega (arith, h.1) in subst (λ k. get_or (y ∷ []) k x ≡ x) e h.2

-- x is the first or one of the rest
first_or : (y : Finding) (ys : List Finding) (x : Finding) → Contains (y ∷ ys) x → (y ≡ x) ⊎ Contains ys x
first_or y ys x h = ⊎_elim (λ a. inl (one_item y x a)) (λ b. inr b) (Contains-append_cases (y ∷ []) ys x h)

first_in : (y : Finding) (ys : List Finding) → Contains (y ∷ ys) y
first_in y ys = (0, omega arith, refl)

rest_in : (y : Finding) (ys : List Finding) (x : Finding) → Contains ys x → Contains (y ∷ ys) x
rest_in y ys x h = Contains-append_right (y ∷ []) ys x h

none_in : (x : Finding) → Contains [] x → ⊥
none_in x h = absurd (omega (arith, h.1))

ascends_rest : (f : Finding) (fs : List Finding) → Ascends (f ∷ fs) → Ascends fs
ascends_rest f [] h = tt
ascends_rest f (g ∷ rest) h = h.1

all_later : (f : Finding) (fs : List Finding) → Ascends (f ∷ fs) → (x : Finding) → Contains fs x → comes_before f x
all_later f [] h x c = absurd (none_in x c)
all_later f (g ∷ rest) h x c =
    ⊎_elim (λ e. subst (comes_before f) e h.0) (λ d. later f g x h.0 (all_later g rest h.1 x d)) (first_or g rest x c)

pub one_order : (a b : List Finding) → Ascends a → Ascends b → ((f : Finding) → Contains a f → Contains b f) →
    ((f : Finding) → Contains b f → Contains a f) → a ≡ b
one_order [] [] p q to from = refl
one_order [] (y ∷ ys) p q to from = absurd (none_in y (from y (first_in y ys)))
one_order (x ∷ xs) [] p q to from = absurd (none_in x (to x (first_in x xs)))
one_order (x ∷ xs) (y ∷ ys) p q to from =
    let first : x ≡ y =
    ⊎_elim (λ e. sym e) (λ in_ys. ⊎_elim (λ e. e)
    (λ in_xs. absurd (never_itself x (later x y x (all_later x xs p y in_xs) (all_later y ys q x in_ys))))
    (first_or x xs y (from y (first_in y ys)))) (first_or y ys x (to x (first_in x xs))) in
    let others : xs ≡ ys =
    one_order xs ys (ascends_rest x xs p) (ascends_rest y ys q)
    (λ f c. ⊎_elim (λ e. absurd (never_itself x (subst (comes_before x) (sym (first ∙ e)) (all_later x xs p f c)))) (λ d. d)
    (first_or y ys f (to f (rest_in x xs f c))))
    (λ f c. ⊎_elim (λ e. absurd (never_itself y (subst (comes_before y) (sym (sym first ∙ e)) (all_later y ys q f c)))) (λ d. d)
    (first_or x xs f (from f (rest_in y ys f c)))) in
    cc
