-- What good modules link to.
use Rattle.std.proofs.Common.{◌≡◌, ℕ, zero, suc, ◌+◌, ◌<◌, List, [], ◌∷◌, length, map, Option, Some, None, refl, sym}
use Rattle.std.proofs.Common.{Vec, Global}
use Rattle.std.proofs.Common.{ap, ◌∙◌, subst, arith}
use Rattle.std.specs.Prelude.{slice_get, option_map}
use Rattle.std.specs.List.{zip, filter_map}
use Rattle.std.proofs.lemmas.List.{length-map}
use Rattle.elm_meaning.specs.Run.{Program}
use Rattle.js_emit.specs.Program.{Emit}
use Rattle.js_tree.specs.Text.{JsText}
use Rattle.link.specs.View.{part_view}
use Rattle.link.specs.declared.part.Part as taken
use Rattle.link.specs.Link.{Part, Links, Output, link}
use Rattle.link.specs.Programs.{Source, part_of, program_of, Tells}
use Rattle.module_made.specs.Made.{Value, Good, Bad, Blocked}
use Rattle.project_parts.specs.Modules as built
use Rattle.project_parts.specs.Modules.{Values}
use Rattle.project_parts.specs.Outcomes.{Text, IsLinked, linked_parts}
use Rattle.elm_make.specs.Outcome.{AreOfSources}

-- ---- the link

-- the law of the link
abbrev pub LinkTells : Type 0
LinkTells =
    (sources : List Source) (entry : ℕ) (s : Source) (o : Output) → slice_get sources entry ≡ Some s
    → link (map part_of sources) entry ≡ Links o → Tells o (program_of sources s)

-- one of a list
there : {X : Type 0} (xs : List X) (n : ℕ) → n < length xs → (x : X) × (slice_get xs n ≡ Some x)
there [] n l = absurd (omega (arith, l))
there (x ∷ xs) zero l = (x, refl)
there (x ∷ xs) (suc n) l = there xs n (omega (arith, l))

-- some program is told
told : LinkTells → (qs : List Part) (entry : ℕ) (o : Output) → AreOfSources qs → entry < length qs
    → link qs entry ≡ Links o → (p : Program) × Tells o p
told law qs entry o (sources, are) l e =
    let many : length qs ≡ length sources = ap length (sym are) ∙ length-map sources part_of in
    let s = there sources entry (omega (arith, l, many)) in
    (program_of sources s.0, law sources entry s.0 o s.1 (ap (λ ps. link ps entry) are ∙ e))

-- the bytes are the text of each program that is told
abbrev pub IsOutput : List Part → ℕ → List ℕ → Type 0
IsOutput qs entry bytes =
    (o : Output) × (link qs entry ≡ Links o) × ((p : Program) → Tells o p → JsText (Emit p) bytes)

pub text_linked : LinkTells → (qs : List Part) (entry : ℕ) (bytes : List ℕ) → AreOfSources qs → entry < length qs
    → IsOutput qs entry bytes → IsLinked (link qs entry) (Text bytes)
text_linked law qs entry bytes a l (o, e, h) =
    let t = told law qs entry o a l e in
    subst (λ k. IsLinked k (Text bytes)) (sym e) (bytes, (t.0, t.1, h t.0 t.1), refl)

-- ---- as many values as modules, and as many modules are linked

values_long : (ps : List built.Part) (vs : List Value) → Values ps vs → length vs ≡ length ps
values_long ps vs v = v.each ∙ length-map ps (λ p. filter_map (built.number_of ps) (built.imported_names p))

more_parts : (n : ℕ) (p : built.Part) (v : Value) (rest : List (built.Part × Value)) (qs : List Part)
    → ((ps : List Part) → linked_parts rest ≡ Some ps → length ps ≡ n) → linked_parts ((p, v) ∷ rest) ≡ Some qs
    → length qs ≡ n + 1
more_parts n p (Good i f) rest qs h e =
    go (record { name = built.home_of p; path = p.module_.source.path; fragment = f }) (linked_parts rest) refl e
  where
    go : (q : Part) (o : Option (List Part)) → linked_parts rest ≡ o → option_map (λ ps. q ∷ ps) o ≡ Some qs
        → length qs ≡ n + 1
    go q None r e = absurd (let w : None ≡ Some qs = e in cc)
    go q (Some ps) r e = let w : q ∷ ps ≡ qs = cc in sym (ap length w) ∙ omega (arith, h ps r)
more_parts n p (Bad fs) rest qs h e = absurd (let w : None ≡ Some qs = e in cc)
more_parts n p Blocked rest qs h e = absurd (let w : None ≡ Some qs = e in cc)

all_parts : (ps : List built.Part) (vs : List Value) (qs : List Part) → length vs ≡ length ps
    → linked_parts (zip ps vs) ≡ Some qs → length qs ≡ length ps
all_parts [] vs qs l e = let w : [] ≡ qs = cc in sym (ap length w)
all_parts (p ∷ ps) [] qs l e = absurd (omega (arith, l))
all_parts (p ∷ ps) (v ∷ vs) qs l e =
    let m = more_parts (length ps) p v (zip ps vs) qs (λ rs r. all_parts ps vs rs (omega (arith, l)) r) e in
    omega (arith, m)

-- ---- good modules, as the program takes them

abbrev Taken : Type 0
Taken = Vec taken.Part Global

abbrev pub taken_view : Option Taken → Option (List Part)
taken_view o = option_map (λ v. map part_view v.items) o

are_good : (o : Option Taken) (v : Taken) (l : Option (List Part)) → taken_view o ≡ l → o ≡ Some v
    → l ≡ Some (map part_view v.items)
are_good o v l e f = sym e ∙ ap taken_view f

pub entry_within : (ps : List built.Part) (vs : List Value) (o : Option Taken) (v : Taken) (xs : List taken.Part)
    (n entry : ℕ) → Values ps vs → length ps ≡ n → entry < n → taken_view o ≡ linked_parts (zip ps vs) → o ≡ Some v
    → xs ≡ v.items → entry < length xs
entry_within ps vs o v xs n entry k m e is some q =
    let good = are_good o v (linked_parts (zip ps vs)) is some in
    omega (
      arith,
      e,
      m,
      all_parts ps vs (map part_view v.items) (values_long ps vs k) good,
      length-map v.items part_view,
      ap length q,
    )
