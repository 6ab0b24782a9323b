-- One turn of the scans of literals.
use Rattle.std.proofs.Common.{◌≡◌, ℕ, ◌+◌, ◌<◌, List, [], ◌∷◌, ◌++◌, length, get_or, drop, Bool, true, false, not, ◌&&◌}
use Rattle.std.proofs.Common.{◌==◌, Some, None, sym, refl, ap, ◌∙◌, arith, append_assoc, append-nil}
use Rattle.elm_lexer.specs.declared.reading.Reading.{Reading}
use Rattle.elm_lexer.specs.declared.reading.Reading.TheVariants.{Plain}
use Rattle.elm_lexer.specs.Literals.{begins_lines, escapes, closes, line_length, lines_length, begins_escape}
use Rattle.elm_lexer.specs.Literals.{bad_escape, units_at, reading_after, units_from}

-- ---- a literal of one line

pub line_none : (q : ℕ) (e : Bool) (n : ℕ) (t : List ℕ) → length t ≡ 0 → line_length q e n t ≡ None
line_none q e n [] h = refl
line_none q e n (c ∷ cs) h = absurd (omega (arith, h))

pub line_stop : (q : ℕ) (e : Bool) (n : ℕ) (t : List ℕ) → 0 < length t → get_or t 0 0 ≡ 10 → line_length q e n t ≡ None
line_stop q e n [] h k = absurd (omega arith)
line_stop q e n (c ∷ cs) h k = rw k refl

pub line_close : (q : ℕ) (e : Bool) (n : ℕ) (t : List ℕ) → 0 < length t → (get_or t 0 0 == 10) ≡ false → closes q e (get_or t 0 0) ≡ true → line_length q e n t ≡ Some (n + 1)
line_close q e n [] h k i = absurd (omega arith)
line_close q e n (c ∷ cs) h k i = rw (k, i) refl

pub line_step : (q : ℕ) (e : Bool) (n : ℕ) (t : List ℕ) → 0 < length t → (get_or t 0 0 == 10) ≡ false → closes q e (get_or t 0 0) ≡ false → line_length q e n t ≡ line_length q (escapes e (get_or t 0 0)) (n + 1) (drop 1 t)
line_step q e n [] h k i = absurd (omega arith)
line_step q e n (c ∷ cs) h k i = rw (k, i) refl

-- ---- a literal of several lines

pub lines_none : (e : Bool) (n : ℕ) (t : List ℕ) → length t ≡ 0 → lines_length e n t ≡ None
lines_none e n [] h = refl
lines_none e n (c ∷ cs) h = absurd (omega (arith, h))

pub lines_close : (e : Bool) (n : ℕ) (t : List ℕ) → 0 < length t → (not e && begins_lines t) ≡ true → lines_length e n t ≡ Some (n + 3)
lines_close e n [] h i = absurd (omega arith)
lines_close e n (c ∷ cs) h i = rw i refl

pub lines_step : (e : Bool) (n : ℕ) (t : List ℕ) → 0 < length t → (not e && begins_lines t) ≡ false → lines_length e n t ≡ lines_length (escapes e (get_or t 0 0)) (n + 1) (drop 1 t)
lines_step e n [] h i = absurd (omega arith)
lines_step e n (c ∷ cs) h i = rw i refl

-- ---- bad escapes

pub escape_bad : (e : Bool) (n : ℕ) (t : List ℕ) → 0 < length t → (escapes e (get_or t 0 0) && not (begins_escape (drop 1 t))) ≡ true → bad_escape e n t ≡ Some n
escape_bad e n [] h i = absurd (omega arith)
escape_bad e n (c ∷ cs) h i = rw i refl

pub escape_step : (e : Bool) (n : ℕ) (t : List ℕ) → 0 < length t → (escapes e (get_or t 0 0) && not (begins_escape (drop 1 t))) ≡ false → bad_escape e n t ≡ bad_escape (escapes e (get_or t 0 0)) (n + 1) (drop 1 t)
escape_step e n [] h i = absurd (omega arith)
escape_step e n (c ∷ cs) h i = rw i refl

pub escape_end : (e : Bool) (n : ℕ) (t : List ℕ) → length t ≡ 0 → bad_escape e n t ≡ None
escape_end e n [] h = refl
escape_end e n (c ∷ cs) h = absurd (omega (arith, h))

-- ---- units

pub units_turn : (items more : List ℕ) (reading next : Reading) (yielded : List ℕ) (c : ℕ) → more ≡ items ++ units_at reading c → next ≡ reading_after reading c → ((rest : List ℕ) → items ++ units_from reading rest ≡ units_from Plain (yielded ++ rest)) → (rest : List ℕ) → more ++ units_from next rest ≡ units_from Plain ((yielded ++ c ∷ []) ++ rest)
units_turn items more reading next yielded c e f h rest =
    ap (λ (x : List ℕ). x ++ units_from next rest) e
    ∙ (ap (λ (x : Reading). (items ++ units_at reading c) ++ units_from x rest) f
    ∙ (append_assoc items (units_at reading c) (units_from (reading_after reading c) rest)
    ∙ (h (c ∷ rest) ∙ sym (ap (units_from Plain) (append_assoc yielded (c ∷ []) rest)))))

pub units_end : (items : List ℕ) (reading : Reading) (yielded : List ℕ) → ((rest : List ℕ) → items ++ units_from reading rest ≡ units_from Plain (yielded ++ rest)) → items ≡ units_from Plain yielded
units_end items reading yielded h = sym (append-nil items) ∙ (h [] ∙ ap (units_from Plain) (append-nil yielded))
