-- The loop over a text: what was found, and then what the rest has, is what the text has.
use Rattle.std.proofs.Common.{◌≡◌, ℕ, ◌-◌, ◌<◌, List, [], ◌∷◌, ◌++◌, length, take, drop, map, Bool, true, false, Option}
use Rattle.std.proofs.Common.{None, sym, refl, ap, subst, ◌∙◌, arith, append_assoc, append-nil, length-append}
use Rattle.std.proofs.Common.{◌==◌}
use Rattle.std.proofs.lemmas.Bool.Decides.{nat_tests}
use Rattle.std.specs.Str.{IsUtf8, IsCharBoundary}
use Rattle.std.proofs.lemmas.Str.{IsCharBoundary-from_drop, IsCharBoundary-at_seam}
use Rattle.elm_base.specs.declared.fault.Code.{Code}
use Rattle.elm_base.specs.declared.fault.Code.TheVariants as fault_code
use Rattle.elm_lexer.specs.declared.token.Kind.{Kind}
use Rattle.elm_lexer.specs.declared.first.First.{First}
use Rattle.elm_lexer.specs.declared.first.First.TheVariants as first
use Rattle.elm_lexer.specs.Firsts.{IsFirst, first_in}
use Rattle.elm_lexer.specs.Gaps.{begins_gap, IsGap}
use Rattle.elm_lexer.specs.Tokens.{Place, Token, Fault, place_after, token_at, fault_at, Reads, no_more, open_comment, token}
use Rattle.elm_lexer.specs.Tokens.{first_place, HasFault, not_utf8, ends}
use Rattle.elm_lexer.proofs.Basics.{front_of}
use Rattle.elm_lexer.proofs.Blocks.{gap_end}
use Rattle.elm_lexer.proofs.Starts.{first_is, token_cut}
use Rattle.elm_lexer.proofs.Texts.{gap_text}
use Rattle.elm_lexer.proofs.Steps.{gap_whole, fault_whole}

-- the tokens of the text are those found and then those of the rest, and it ends as the rest does
pub record Cuts (text : List ℕ) (found : List Token) (p : Place) (touched : Bool) (rest : List ℕ) : Type 0 where
  pub whole : (ts : List Token) (end : Option Fault) → Reads p touched rest ts end → Reads first_place false text (found ++ ts) end

-- before the first turn nothing is found
pub cuts_start : (text whole : List ℕ) (found : List Token) → whole ≡ text → found ≡ [] → Cuts text found first_place false whole
cuts_start text whole found e f = subst (λ x. Cuts text x first_place false whole) (sym f) (subst (λ x. Cuts text [] first_place false x) (sym e) (record { whole = λ ts end h. h }))

-- what a gap takes of the text
gap_body : (t r : List ℕ) → IsGap t r → t ≡ take (length t - length r) t ++ r
gap_body t r g = let w = gap_end t r g in at w.0 w.1
  where
    at : (body : List ℕ) → t ≡ body ++ r → t ≡ take (length t - length r) t ++ r
    at body e =
        let s = front_of t body r (length t - length r) e (omega (arith, length-append body r, ap length e)) in
        e ∙ ap (λ x. x ++ r) s.0

gap_turn : (text : List ℕ) (found : List Token) (p q : Place) (touched : Bool) (t r body : List ℕ) → Cuts text found p touched t → IsGap t r → body ≡ take (length t - length r) t → q ≡ place_after p body → Cuts text found q true r
gap_turn text found p q touched t r body h g i e = subst (λ x. Cuts text found x true r) (sym e) (record { whole = whole })
  where
    whole_text : t ≡ body ++ r
    whole_text = gap_body t r g ∙ ap (λ x. x ++ r) (sym i)

    whole : (ts : List Token) (end : Option Fault) → Reads (place_after p body) true r ts end → Reads first_place false text (found ++ ts) end
    whole ts end k = h.whole ts end (gap_whole p touched t r body ts end whole_text g k)

pub token_turn : (text : List ℕ) (found more : List Token) (p q : Place) (touched : Bool) (t rest : List ℕ) (kind : Kind) (n : ℕ) → Cuts text found p touched t → begins_gap t ≡ false → IsFirst t (first.Token kind n) → rest ≡ drop n t → more ≡ found ++ token_at p touched (take n t) kind (drop n t) ∷ [] → q ≡ place_after p (take n t) → Cuts text more q false rest
token_turn text found more p q touched t rest kind n h b f j m e =
    subst (λ x. Cuts text more q false x) (sym j) (subst (λ x. Cuts text more x false (drop n t)) (sym e) (subst (λ x. Cuts text x (place_after p (take n t)) false (drop n t)) (sym m) (record { whole = whole })))
  where
    whole : (ts : List Token) (end : Option Fault) → Reads (place_after p (take n t)) false (drop n t) ts end → Reads first_place false text (found ++ token_at p touched (take n t) kind (drop n t) ∷ [] ++ ts) end
    whole ts end a =
        subst (λ x. Reads first_place false text x end) (sym (append_assoc found (token_at p touched (take n t) kind (drop n t) ∷ []) ts))
        (h.whole _ end (token b f a))

-- ---- the end of the text, and faults

pub end_found : (text : List ℕ) (found : List Token) (p : Place) (touched : Bool) (t : List ℕ) → Cuts text found p touched t → length t ≡ 0 → Reads first_place false text found None
end_found text found p touched [] h e = subst (λ x. Reads first_place false text x None) (append-nil found) (h.whole [] None no_more)
end_found text found p touched (c ∷ cs) h e = absurd (omega (arith, e))

pub open_found : (text : List ℕ) (found : List Token) (p : Place) (touched : Bool) (t : List ℕ) (f : Fault) → IsUtf8 text → Cuts text found p touched t → begins_gap t ≡ true → ((r : List ℕ) → IsGap t r → ⊥) → f ≡ fault_at p t fault_code.Unclosed 0 0 → HasFault text f
open_found text found p touched t f u h b never e = subst (λ x. HasFault text x) (sym e) (ends (found ++ []) u (h.whole [] _ (open_comment b never)))

pub fault_found : (text : List ℕ) (found : List Token) (p : Place) (touched : Bool) (t : List ℕ) (c : Code) (before detail : ℕ) (f : Fault) → IsUtf8 text → Cuts text found p touched t → begins_gap t ≡ false → 0 < length t → IsFirst t (first.Fault c before detail) → f ≡ fault_at p t c before detail → HasFault text f
fault_found text found p touched t c before detail f u h b some i e = subst (λ x. HasFault text x) (sym e) (ends (found ++ []) u (h.whole [] _ (fault_whole p touched t c before detail b some i)))

-- bytes that are no characters
pub no_text_found : (text : List ℕ) (f : Fault) → (IsUtf8 text → ⊥) → f ≡ fault_at first_place text fault_code.NotUtf8 0 0 → HasFault text f
no_text_found text f never e = subst (λ x. HasFault text x) (sym (e ∙ ap at (nothing text))) (not_utf8 never)
  where
    nothing : (t : List ℕ) → take 0 t ≡ []
    nothing [] = refl
    nothing (c ∷ cs) = refl

    at : List ℕ → Fault
    at front = record { code = fault_code.NotUtf8; place = place_after first_place front; detail = front }

-- ---- from the program's tests

pub some_of : (n : ℕ) → false ≡ (n == 0) → 0 < n
some_of n e = grind (arith, nat_tests)

pub none_of : (n : ℕ) → true ≡ (n == 0) → n ≡ 0
none_of n e = grind (arith, nat_tests)

pub map_push : {A B : Type 0} (f : A → B) (xs : List A) (x : A) → map f (xs ++ x ∷ []) ≡ map f xs ++ f x ∷ []
map_push f [] x = refl
map_push f (y ∷ ys) x = ap (λ (zs : List _). f y ∷ zs) (map_push f ys x)

-- what the program found is what the text begins with
pub first_found : (t : List ℕ) (f g : First) → IsUtf8 t → f ≡ first_in t → f ≡ g → IsFirst t g
first_found t f g u e k = subst (λ x. IsFirst t x) (sym e ∙ k) (first_is t u)

-- ---- where the program cuts the text

-- a gap ends between characters, and what follows it is what the program keeps
pub gap_cut : (t bytes r : List ℕ) (n : ℕ) → IsUtf8 t → bytes ≡ t → IsGap bytes r → n ≡ length bytes - length r → IsCharBoundary t n × (r ≡ drop n t)
gap_cut t bytes r n u same g l = at (gap_end t r own)
  where
    own : IsGap t r
    own = subst (λ x. IsGap x r) same g

    at : (body : List ℕ) × (t ≡ body ++ r) → IsCharBoundary t n × (r ≡ drop n t)
    at w =
        let long : length w.0 ≡ n = omega (arith, l, ap length same, ap length w.1, length-append w.0 r) in
        let s = front_of t w.0 r n w.1 long in
        (subst (λ k. IsCharBoundary t k) long (IsCharBoundary-at_seam t w.0 r w.1 (gap_text t r u own)), s.1)

pub gap_step : (text : List ℕ) (found : List Token) (p q : Place) (touched : Bool) (t bytes r body rest : List ℕ) (n : ℕ) → Cuts text found p touched t → IsUtf8 t → bytes ≡ t → IsGap bytes r → n ≡ length bytes - length r → body ≡ take n bytes → rest ≡ drop n t → q ≡ place_after p body → Cuts text found q true rest
gap_step text found p q touched t bytes r body rest n h u same g l i j e =
    let cut = gap_cut t bytes r n u same g l in
    let own : IsGap t r = subst (λ x. IsGap x r) same g in
    let front : body ≡ take (length t - length r) t = i ∙ ap (λ k. take k bytes) l ∙ ap (λ x. take (length x - length r) x) same in
    subst (λ x. Cuts text found q true x) (cut.1 ∙ sym j) (gap_turn text found p q touched t r body h own front e)

-- a token ends between characters too
pub token_boundary : (t : List ℕ) (kind : Kind) (n : ℕ) → IsUtf8 t → IsFirst t (first.Token kind n) → IsCharBoundary t n
token_boundary t kind n u f = let c = token_cut t kind n f in IsCharBoundary-from_drop t n c.within (c.after u)

-- a token by its parts
abbrev pub token_made : Place → Bool → Kind → List ℕ → Bool → Token
token_made p touched kind piece b = record { kind = kind; text = piece; start = p; space_before = touched; space_after = b }

pub token_step : (text : List ℕ) (found more : List Token) (p q : Place) (touched b : Bool) (t bytes piece after rest : List ℕ) (kind : Kind) (n : ℕ) → Cuts text found p touched t → bytes ≡ t → begins_gap bytes ≡ false → IsFirst t (first.Token kind n) → piece ≡ take n bytes → after ≡ drop n bytes → b ≡ begins_gap after → more ≡ found ++ token_made p touched kind piece b ∷ [] → q ≡ place_after p piece → rest ≡ drop n t → Cuts text more q false rest
token_step text found more p q touched b t bytes piece after rest kind n h same gap f i j k m e l =
    token_turn text found more p q touched t rest kind n h (ap begins_gap (sym same) ∙ gap) f l (m ∙ ap (λ (x : Token). found ++ x ∷ []) made) (e ∙ ap (λ x. place_after p x) front)
  where
    front : piece ≡ take n t
    front = i ∙ ap (λ (x : List ℕ). take n x) same

    made : token_made p touched kind piece b ≡ token_at p touched (take n t) kind (drop n t)
    made =
        ap (λ (x : List ℕ). token_made p touched kind x b) front
        ∙ ap (λ (x : Bool). token_made p touched kind (take n t) x) (k ∙ ap begins_gap (j ∙ ap (λ (x : List ℕ). drop n x) same))
