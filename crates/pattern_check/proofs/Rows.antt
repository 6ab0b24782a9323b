-- Rows that are joined: what holds of them holds part by part.
use Rattle.std.proofs.Common.{◌≡◌, ℕ, zero, suc, Bool, true, false, ◌&&◌, refl, ap, ◌∙◌, arith}
use Rattle.pattern_check.specs.Shapes.{Shape, Open, Begins, Shapes, NoShape, MoreShape, width, AreProper}
use Rattle.pattern_check.specs.Shapes.{Fits, AllFit, overlaps, all_overlap, AreSpecial}
use Rattle.pattern_check.specs.Missing.{joined, opens, front, back, rest_of}

pub joined_cut : (n : ℕ) (ss : Shapes) → joined (front n ss) (back n ss) ≡ ss
joined_cut zero ss = refl
joined_cut (suc n) NoShape = refl
joined_cut (suc n) (MoreShape s ss) = ap (MoreShape s) (joined_cut n ss)

-- ---- special cases

pub special_cut : (a b s : Shapes) → AreSpecial (joined a b) s →
    (width (front (width a) s) ≡ width a) × AreSpecial a (front (width a) s) × AreSpecial b (back (width a) s)
special_cut NoShape b s h = (refl, tt, h)
special_cut (MoreShape p a) b NoShape h = absurd h
special_cut (MoreShape p a) b (MoreShape t s) h = let r = special_cut a b s h.1 in (ap suc r.0, (h.0, r.1), r.2)

pub special_join : (a b c d : Shapes) → AreSpecial a c → AreSpecial b d → AreSpecial (joined a b) (joined c d)
special_join NoShape b NoShape d h k = k
special_join NoShape b (MoreShape t c) d h k = absurd h
special_join (MoreShape p a) b NoShape d h k = absurd h
special_join (MoreShape p a) b (MoreShape t c) d h k = (h.0, special_join a b c d h.1 k)

-- ---- fitting

pub fit_join : (a b c d : Shapes) → AllFit a c → AllFit b d → AllFit (joined a b) (joined c d)
fit_join NoShape b NoShape d h k = k
fit_join NoShape b (MoreShape t c) d h k = absurd h
fit_join (MoreShape p a) b NoShape d h k = absurd h
fit_join (MoreShape p a) b (MoreShape t c) d h k = (h.0, fit_join a b c d h.1 k)

pub fit_cut : (a b c d : Shapes) → width a ≡ width c → AllFit (joined a b) (joined c d) → AllFit a c × AllFit b d
fit_cut NoShape b NoShape d e h = (tt, h)
fit_cut NoShape b (MoreShape t c) d e h = absurd (omega (arith, e))
fit_cut (MoreShape p a) b NoShape d e h = absurd (omega (arith, e))
fit_cut (MoreShape p a) b (MoreShape t c) d e h =
    let r = fit_cut a b c d (omega (arith, e)) h.1 in ((h.0, r.0), r.1)

pub fit_rest : (p r : Shapes) → AllFit p r → AllFit (rest_of p) (rest_of r)
fit_rest NoShape NoShape h = tt
fit_rest NoShape (MoreShape s r) h = absurd h
fit_rest (MoreShape s p) NoShape h = absurd h
fit_rest (MoreShape s p) (MoreShape t r) h = h.1

pub fits_open : (s : Shape) → Fits s Open
fits_open Open = tt
fits_open (Begins h ss) = tt

-- ---- what is proper

pub proper_join : (a b : Shapes) → AreProper a → AreProper b → AreProper (joined a b)
proper_join NoShape b h k = k
proper_join (MoreShape s a) b h k = (h.0, proper_join a b h.1 k)

pub proper_cut : (a b : Shapes) → AreProper (joined a b) → AreProper a × AreProper b
proper_cut NoShape b h = (tt, h)
proper_cut (MoreShape s a) b h = let r = proper_cut a b h.1 in ((h.0, r.0), r.1)

pub proper_rest : (r : Shapes) → AreProper r → AreProper (rest_of r)
proper_rest NoShape h = tt
proper_rest (MoreShape s r) h = h.1

-- ---- overlaps

and_joined : (x y z : Bool) → (x && (y && z)) ≡ ((x && y) && z)
and_joined true y z = refl
and_joined false y z = refl

pub overlap_join : (a b c d : Shapes) → width a ≡ width c →
    all_overlap (joined a b) (joined c d) ≡ (all_overlap a c && all_overlap b d)
overlap_join NoShape b NoShape d e = refl
overlap_join NoShape b (MoreShape t c) d e = absurd (omega (arith, e))
overlap_join (MoreShape p a) b NoShape d e = absurd (omega (arith, e))
overlap_join (MoreShape p a) b (MoreShape t c) d e =
    ap (λ z. overlaps p t && z) (overlap_join a b c d (omega (arith, e)))
    ∙ and_joined (overlaps p t) (all_overlap a c) (all_overlap b d)

pub overlaps_open : (s : Shape) → overlaps s Open ≡ true
overlaps_open Open = refl
overlaps_open (Begins h ss) = refl

-- ---- what is open

pub width_opens : (n : ℕ) → width (opens n) ≡ n
width_opens zero = refl
width_opens (suc n) = ap suc (width_opens n)

pub opens_special : (n : ℕ) (ss : Shapes) → width ss ≡ n → AreSpecial (opens n) ss
opens_special zero NoShape e = tt
opens_special zero (MoreShape s ss) e = absurd (omega (arith, e))
opens_special (suc n) NoShape e = absurd (omega (arith, e))
opens_special (suc n) (MoreShape s ss) e = (tt, opens_special n ss (omega (arith, e)))

pub opens_fit : (n : ℕ) (ss : Shapes) → width ss ≡ n → AllFit (opens n) ss
opens_fit zero NoShape e = tt
opens_fit zero (MoreShape s ss) e = absurd (omega (arith, e))
opens_fit (suc n) NoShape e = absurd (omega (arith, e))
opens_fit (suc n) (MoreShape s ss) e = (tt, opens_fit n ss (omega (arith, e)))

pub fit_opens : (n : ℕ) (ss : Shapes) → width ss ≡ n → AllFit ss (opens n)
fit_opens zero NoShape e = tt
fit_opens zero (MoreShape s ss) e = absurd (omega (arith, e))
fit_opens (suc n) NoShape e = absurd (omega (arith, e))
fit_opens (suc n) (MoreShape s ss) e = (fits_open s, fit_opens n ss (omega (arith, e)))

pub opens_proper : (n : ℕ) → AreProper (opens n)
opens_proper zero = tt
opens_proper (suc n) = (tt, opens_proper n)

pub opens_overlap : (n : ℕ) (ss : Shapes) → width ss ≡ n → all_overlap (opens n) ss ≡ true
opens_overlap zero NoShape e = refl
opens_overlap zero (MoreShape s ss) e = absurd (omega (arith, e))
opens_overlap (suc n) NoShape e = absurd (omega (arith, e))
opens_overlap (suc n) (MoreShape s ss) e = opens_overlap n ss (omega (arith, e))
