-- Steps of the search.
use Rattle.std.proofs.Common.{◌≡◌, ℕ, zero, suc, ◌+◌, ◌<◌, ◌≤◌, List, [], ◌∷◌, ◌++◌, Bool, true, false, Option, Some, None}
use Rattle.std.proofs.Common.{map, Vec, Global, length, take, drop, get_or, ◌-◌, if◌then◌else◌, refl, sym, ap, ◌∙◌, append_assoc, arith}
use Rattle.std.specs.Prelude.{option_map}
use Rattle.pattern_check.specs.Shapes.{Head}
use Rattle.pattern_check.specs.Missing.{candidates}
use Rattle.pattern_check.specs.Flat.{Part, open_parts, append_open, first_part, first_head, lists_where, list_heads}
use Rattle.pattern_check.specs.Flat.{tail_of, or_list, first_list, Search, found_where, found_at, found_in, some_open_list}
use Rattle.pattern_check.specs.Starts.{start_view, starts_view, parts_view, rows_view}
use Rattle.pattern_check.specs.Search.{from_last, try_with, wanted_after, frame_try, frame_left, frame_found}
use Rattle.pattern_check.specs.Search.{frames_found, work_of_list, work_with, work_at, work_in, Work, frame_step}
use Rattle.pattern_check.specs.Search.{frame_work, frames_work}
use Rattle.std.proofs.lemmas.List.{take_all}
use Rattle.pattern_check.proofs.Listing.{pushed}
use Rattle.pattern_check.specs.declared.start.Start.{Start}
use Rattle.pattern_check.specs.declared.row.Row.{Row}
use Rattle.pattern_check.specs.declared.search.Frame.{Frame}

pub append_none : {X : Type 0} (xs : List X) → xs ++ [] ≡ xs
append_none [] = refl
append_none (x ∷ xs) = ap (λ z. x ∷ z) (append_none xs)

pub no_items : {X : Type 0} (xs : List X) → length xs ≡ 0 → xs ≡ []
no_items [] e = refl
no_items (x ∷ xs) e = absurd (omega (arith, e))

-- ---- lists of starts

pub starts_push : (ss : List Start) (s : Start) → starts_view (ss ++ s ∷ []) ≡ starts_view ss ++ start_view s ∷ []
starts_push [] s = refl
starts_push (t ∷ ss) s = ap (λ z. start_view t ∷ z) (starts_push ss s)

from_last_push : (cs : List Head) (c : Head) (others : List Head) → from_last (cs ++ c ∷ []) others ≡ c ∷ from_last cs others
from_last_push [] c others = refl
from_last_push (d ∷ cs) c others = from_last_push cs c (d ∷ others)

-- the last is the next
pub last_next : (old new : List Start) (s : Start) → old ≡ new ++ s ∷ [] →
    from_last (starts_view old) [] ≡ start_view s ∷ from_last (starts_view new) []
last_next old new s e =
    ap (λ z. from_last (starts_view z) []) e ∙ ap (λ z. from_last z []) (starts_push new s)
    ∙ from_last_push (starts_view new) (start_view s) []

pub turned : (old new out out2 : List Start) (s : Start) → old ≡ new ++ s ∷ [] → out2 ≡ out ++ s ∷ [] →
    starts_view new ++ from_last (starts_view out2) [] ≡ starts_view old ++ from_last (starts_view out) []
turned old new out out2 s e f =
    ap (λ z. starts_view new ++ z) (last_next out2 out s f)
    ∙ sym (append_assoc (starts_view new) (start_view s ∷ []) (from_last (starts_view out) []))
    ∙ ap (λ z. z ++ from_last (starts_view out) []) (sym (ap starts_view e ∙ starts_push new s))

-- ---- open parts

pub open_push : (n : ℕ) → open_parts n ++ None ∷ [] ≡ open_parts (n + 1)
open_push zero = refl
open_push (suc n) =
    let e : suc (n + 1) ≡ suc n + 1 = omega arith in ap (λ z. None ∷ z) (open_push n) ∙ ap open_parts e

open_then : (n : ℕ) (ps : List Part) → append_open (n + 1) ps ≡ append_open n (None ∷ ps)
open_then n ps = ap (λ z. z ++ ps) (sym (open_push n)) ∙ append_assoc (open_parts n) (None ∷ []) ps

-- ---- a column that is passed over

map_two : (f g h : List Part → List Part) → ((ps : List Part) → h ps ≡ f (g ps)) → (o : Option (List Part)) →
    option_map h o ≡ option_map f (option_map g o)
map_two f g h e None = refl
map_two f g h e (Some ps) = ap Some (e ps)

no_heads : (hs : List Head) → first_head hs ≡ None → hs ≡ []
no_heads [] e = refl
no_heads (h ∷ hs) e = absurd cc

first_of_heads : (hs : List Head) (h : Head) → first_head hs ≡ Some h → (gs : List Head) × (hs ≡ h ∷ gs)
first_of_heads [] h e = absurd cc
first_of_heads (g ∷ gs) h e = (gs, let k : g ≡ h = cc in ap (λ z. z ∷ gs) k)

pub found_passed : (b : ℕ) (q : List Part) (rows : List (List Part)) → list_heads rows ≡ [] →
    found_at (found_in b) (None ∷ q) rows ≡ option_map (λ ps. None ∷ ps) (found_at (found_in b) q (map tail_of rows))
found_passed b q rows e = ap (λ hs. Rattle.pattern_check.specs.Flat.found_by (found_in b) q rows hs (found_at (found_in b) q (map tail_of rows))) e

work_passed : (b : ℕ) (q : List Part) (rows : List (List Part)) → list_heads rows ≡ [] →
    work_at (work_in b) (None ∷ q) rows ≡ work_at (work_in b) q (map tail_of rows)
work_passed b q rows e = ap (λ hs. Rattle.pattern_check.specs.Search.work_by (work_in b) q rows hs (work_at (work_in b) q (map tail_of rows))) e

pub pass_found : (b n : ℕ) (q q2 : List Part) (rows rows2 : List (List Part)) → first_part q ≡ Some None →
    first_head (list_heads rows) ≡ None → q2 ≡ tail_of q → rows2 ≡ map tail_of rows →
    option_map (append_open (n + 1)) (found_at (found_in b) q2 rows2)
    ≡ option_map (append_open n) (found_at (found_in b) q rows)
pass_found b n [] q2 rows rows2 e h f g = absurd cc
pass_found b n (Some c ∷ q) q2 rows rows2 e h f g = absurd cc
pass_found b n (None ∷ q) q2 rows rows2 e h f g =
    ap (λ z. option_map (append_open (n + 1)) (found_at (found_in b) z rows2)) f
    ∙ ap (λ z. option_map (append_open (n + 1)) (found_at (found_in b) q z)) g
    ∙ map_two (append_open n) (λ ps. None ∷ ps) (append_open (n + 1)) (open_then n) (found_at (found_in b) q (map tail_of rows))
    ∙ ap (option_map (append_open n)) (sym (found_passed b q rows (no_heads (list_heads rows) h)))

pub pass_work : (b : ℕ) (q q2 : List Part) (rows rows2 : List (List Part)) → first_part q ≡ Some None →
    first_head (list_heads rows) ≡ None → q2 ≡ tail_of q → rows2 ≡ map tail_of rows →
    work_at (work_in b) q2 rows2 ≡ work_at (work_in b) q rows
pass_work b [] q2 rows rows2 e h f g = absurd cc
pass_work b (Some c ∷ q) q2 rows rows2 e h f g = absurd cc
pass_work b (None ∷ q) q2 rows rows2 e h f g =
    ap (λ z. work_at (work_in b) z rows2) f ∙ ap (work_at (work_in b) q) g
    ∙ sym (work_passed b q rows (no_heads (list_heads rows) h))

pub pass_less : (q q2 : List Part) (p : Part) → first_part q ≡ Some p → q2 ≡ tail_of q → length q2 < length q
pass_less [] q2 p e f = absurd cc
pass_less (x ∷ q) q2 p e f = omega (arith, ap length f)

-- ---- the end of the row

pub end_found : (b n : ℕ) (q : List Part) → first_part q ≡ None →
    option_map (append_open n) (found_at (found_in b) q []) ≡ Some (open_parts n)
end_found b n [] e = ap Some (append_none (open_parts n))
end_found b n (p ∷ q) e = absurd cc

pub end_none : (b n : ℕ) (q : List Part) (row : List Part) (rows : List (List Part)) → first_part q ≡ None →
    option_map (append_open n) (found_at (found_in b) q (row ∷ rows)) ≡ None
end_none b n [] row rows e = refl
end_none b n (p ∷ q) row rows e = absurd cc

-- ---- a column in which candidates are tried

or_none : (o : Option (List Part)) → or_list o None ≡ o
or_none None = refl
or_none (Some ps) = refl

pub asked_found : (b n : ℕ) (q q2 : List Part) (rows : List (List Part)) (c : Head) → first_part q ≡ Some (Some c) →
    q2 ≡ tail_of q →
    option_map (append_open n) (or_list None (first_list (try_with b true q2 rows) (c ∷ [])))
    ≡ option_map (append_open n) (found_at (found_in b) q rows)
asked_found b n [] q2 rows c e f = absurd cc
asked_found b n (None ∷ q) q2 rows c e f = absurd cc
asked_found b n (Some d ∷ q) q2 rows c e f =
    let k : d ≡ c = cc in
    ap (option_map (append_open n)) (or_none (try_with b true q2 rows c)
    ∙ ap (λ z. found_where (found_in b) c z rows) f
    ∙ ap (λ z. found_where (found_in b) z q rows) (sym k))

pub asked_work : (b : ℕ) (q q2 : List Part) (rows : List (List Part)) (c : Head) → first_part q ≡ Some (Some c) →
    q2 ≡ tail_of q → work_of_list (work_with (work_in b) true q2 rows) (c ∷ []) ≤ work_at (work_in b) q rows
asked_work b [] q2 rows c e f = absurd cc
asked_work b (None ∷ q) q2 rows c e f = absurd cc
asked_work b (Some d ∷ q) q2 rows c e f =
    let k : d ≡ c = cc in
    let w : work_in b q2 (lists_where c rows) ≡ work_in b q (lists_where d rows) =
    ap (λ z. work_in b z (lists_where c rows)) f ∙ ap (λ z. work_in b q (lists_where z rows)) (sym k) in
    omega (arith, w)

pub open_found : (b n : ℕ) (q q2 : List Part) (rows : List (List Part)) (c : Head) (cs : List Head) →
    first_part q ≡ Some None → q2 ≡ tail_of q → first_head (list_heads rows) ≡ Some c →
    ((hs : List Head) → list_heads rows ≡ c ∷ hs → cs ≡ candidates c hs) →
    option_map (append_open n) (or_list None (first_list (try_with b false q2 rows) cs))
    ≡ option_map (append_open n) (found_at (found_in b) q rows)
open_found b n [] q2 rows c cs e f h g = absurd cc
open_found b n (Some d ∷ q) q2 rows c cs e f h g = absurd cc
open_found b n (None ∷ q) q2 rows c cs e f h g =
    let k = first_of_heads (list_heads rows) c h in
    ap (option_map (append_open n))
    (ap (first_list (try_with b false q2 rows)) (g k.0 k.1)
    ∙ ap (λ z. first_list (try_with b false z rows) (candidates c k.0)) f
    ∙ ap (λ hs. Rattle.pattern_check.specs.Flat.found_by (found_in b) q rows hs (found_at (found_in b) q (map tail_of rows))) (sym k.1))

pub open_work : (b : ℕ) (q q2 : List Part) (rows : List (List Part)) (c : Head) (cs : List Head) →
    first_part q ≡ Some None → q2 ≡ tail_of q → first_head (list_heads rows) ≡ Some c →
    ((hs : List Head) → list_heads rows ≡ c ∷ hs → cs ≡ candidates c hs) →
    work_of_list (work_with (work_in b) false q2 rows) cs ≡ work_at (work_in b) q rows
open_work b [] q2 rows c cs e f h g = absurd cc
open_work b (Some d ∷ q) q2 rows c cs e f h g = absurd cc
open_work b (None ∷ q) q2 rows c cs e f h g =
    let k = first_of_heads (list_heads rows) c h in
    ap (work_of_list (work_with (work_in b) false q2 rows)) (g k.0 k.1)
    ∙ ap (λ z. work_of_list (work_with (work_in b) false z rows) (candidates c k.0)) f
    ∙ ap (λ hs. Rattle.pattern_check.specs.Search.work_by (work_in b) q rows hs (work_at (work_in b) q (map tail_of rows))) (sym k.1)

-- ---- frames

pub frames_push : (fs : List Frame) (f : Frame) (r : Option (List Part)) →
    frames_found (fs ++ f ∷ []) r ≡ frames_found fs (frame_found f r)
frames_push [] f r = refl
frames_push (g ∷ fs) f r = ap (frame_found g) (frames_push fs f r)

pub work_push : (fs : List Frame) (f : Frame) → frames_work (fs ++ f ∷ []) ≡ frames_work fs + frame_work f
work_push [] f = omega arith
work_push (g ∷ fs) f = omega (arith, work_push fs f)

-- ---- the path of the frames

frames_some : (fs : List Frame) (r : List Part) → (x : List Part) × (frames_found fs (Some r) ≡ Some x)
frames_some [] r = (r, refl)
frames_some (f ∷ fs) r =
    let k = frames_some fs r in
    (append_open f.opens (Some (start_view f.start) ∷ k.0), ap (frame_found f) k.1)

along : (o p1 p2 : List (Option Start)) (n : ℕ) (s : Start) (x : List Part) → parts_view p1 ≡ parts_view o ++ open_parts n →
    p2 ≡ p1 ++ Some s ∷ [] → parts_view p2 ++ x ≡ parts_view o ++ append_open n (Some (start_view s) ∷ x)
along o p1 p2 n s x e f =
    ap (λ z. z ++ x) (pushed p1 p2 (Some s) f)
    ∙ append_assoc (parts_view p1) (Some (start_view s) ∷ []) x
    ∙ ap (λ z. z ++ (Some (start_view s) ∷ x)) e
    ∙ append_assoc (parts_view o) (open_parts n) (Some (start_view s) ∷ x)

pub path_step : (rest : List Frame) (frame : Frame) (o p1 p2 : List (Option Start)) (r : List Part) → 1 ≤ length rest →
    frame ≡ get_or rest 0 frame → parts_view p1 ≡ parts_view o ++ open_parts frame.opens → p2 ≡ p1 ++ Some frame.start ∷ [] →
    option_map (λ ps. parts_view p2 ++ ps) (frames_found (take (length rest - 1) (drop 1 rest)) (Some r))
    ≡ option_map (λ ps. parts_view o ++ ps) (frames_found rest (Some r))
path_step [] frame o p1 p2 r l i e f = absurd (omega (arith, l))
path_step (g ∷ rest) frame o p1 p2 r l i e f =
    let k = frames_some rest r in
    ap (λ z. option_map (λ ps. parts_view p2 ++ ps) (frames_found z (Some r))) (take_all (length (g ∷ rest) - 1) rest (omega arith))
    ∙ ap (option_map (λ ps. parts_view p2 ++ ps)) k.1
    ∙ ap Some (along o p1 p2 frame.opens frame.start k.0 e f)
    ∙ ap (λ z. Some (parts_view o ++ append_open z.opens (Some (start_view z.start) ∷ k.0))) i
    ∙ sym (ap (λ z. option_map (λ ps. parts_view o ++ ps) (frame_found g z)) k.1)

-- ---- the next candidate

abbrev pub moved_on : Frame → Start → Vec Start Global → Frame
moved_on f s v =
    record { opens = f.opens; bound = f.bound; asked = f.asked; wanted = f.wanted; rows = f.rows; start = s; candidates = v }

pub advance_found : (fs old new : List Frame) (f : Frame) (s : Start) (v : Vec Start Global) (t : Option (List Part)) →
    old ≡ fs ++ f ∷ [] → new ≡ fs ++ moved_on f s v ∷ [] → f.candidates.items ≡ v.items ++ s ∷ [] →
    option_map (λ ps. Some (start_view s) ∷ ps) t ≡ frame_try f (start_view s) → frames_found new t ≡ frames_found old None
advance_found fs old new f s v t e g l h =
    ap (λ z. frames_found z t) g ∙ frames_push fs (moved_on f s v) t
    ∙ ap (frames_found fs)
    (ap (λ z. option_map (append_open f.opens) (or_list z (first_list (frame_try f) (frame_left (moved_on f s v))))) h
    ∙ ap (λ z. option_map (append_open f.opens) (first_list (frame_try f) z)) (sym (last_next f.candidates.items v.items s l)))
    ∙ sym (frames_push fs f None) ∙ sym (ap (λ z. frames_found z None) e)

pub advance_work : (fs old new : List Frame) (f : Frame) (s : Start) (v : Vec Start Global) (t : ℕ) →
    old ≡ fs ++ f ∷ [] → new ≡ fs ++ moved_on f s v ∷ [] → f.candidates.items ≡ v.items ++ s ∷ [] →
    t ≡ frame_step f (start_view s) → frames_work new + suc t ≤ frames_work old
advance_work fs old new f s v t e g l h =
    let a : frames_work old ≡ frames_work fs + frame_work f = ap frames_work e ∙ work_push fs f in
    let b : frames_work new ≡ frames_work fs + frame_work (moved_on f s v) = ap frames_work g ∙ work_push fs (moved_on f s v) in
    let d : frame_work f ≡ suc (frame_step f (start_view s)) + frame_work (moved_on f s v) =
    ap (work_of_list (frame_step f)) (last_next f.candidates.items v.items s l) in
    omega (arith, a, b, d, h)

none_left : (f : Frame) → f.candidates.items ≡ [] → frame_left f ≡ []
none_left f e = ap (λ z. from_last (starts_view z) []) e

pub dropped_found : (fs old : List Frame) (f : Frame) → old ≡ fs ++ f ∷ [] → f.candidates.items ≡ [] →
    frames_found fs None ≡ frames_found old None
dropped_found fs old f e l =
    ap (λ z. frames_found fs (option_map (append_open f.opens) (first_list (frame_try f) z))) (sym (none_left f l))
    ∙ sym (frames_push fs f None) ∙ sym (ap (λ z. frames_found z None) e)

pub dropped_work : (fs old : List Frame) (f : Frame) → old ≡ fs ++ f ∷ [] → frames_work fs ≤ frames_work old
dropped_work fs old f e = omega (arith, ap frames_work e, work_push fs f)

-- ---- a task that is looked at

pub bound_found : (b : ℕ) (q : List Part) (rows : List (List Part)) → 0 < b → some_open_list rows ≡ false →
    found_at (found_in (b - 1)) q rows ≡ found_in b q rows
bound_found zero q rows l e = absurd (omega (arith, l))
bound_found (suc b) q rows l e =
    let k : suc b - 1 ≡ b = omega arith in
    ap (λ z. found_at (found_in z) q rows) k ∙ sym (ap (λ o. if o then None else found_at (found_in b) q rows) e)

pub bound_work : (b : ℕ) (q : List Part) (rows : List (List Part)) → 0 < b →
    work_at (work_in (b - 1)) q rows ≡ work_in b q rows
bound_work zero q rows l = absurd (omega (arith, l))
bound_work (suc b) q rows l = let k : suc b - 1 ≡ b = omega arith in ap (λ z. work_at (work_in z) q rows) k

pub closed_rows : (rows rows2 : List Row) (b : Bool) → b ≡ some_open_list (rows_view rows) → b ≡ false → rows ≡ rows2 →
    some_open_list (rows_view rows2) ≡ false
closed_rows rows rows2 b e f g = ap (λ z. some_open_list (rows_view z)) (sym g) ∙ sym e ∙ f

pub nothing_found : (fs : List Frame) (t total r : Option (List Part)) → frames_found fs t ≡ total → None ≡ t →
    r ≡ frames_found fs None → r ≡ total
nothing_found fs t total r e f g = g ∙ ap (frames_found fs) f ∙ e

pub split_found : (fs new : List Frame) (f : Frame) (t total r : Option (List Part)) → frames_found fs t ≡ total →
    frame_found f None ≡ t → new ≡ fs ++ f ∷ [] → r ≡ frames_found new None → r ≡ total
split_found fs new f t total r e k n g =
    g ∙ ap (λ z. frames_found z None) n ∙ frames_push fs f None ∙ ap (frames_found fs) k ∙ e
