-- Turns of the loop over the tasks.
use Rattle.std.proofs.Common.{◌≡◌, ℕ, ◌<◌, List, [], ◌∷◌, ◌++◌, length, sym, ap, ◌∙◌, subst, append-nil, arith}
use Rattle.std.proofs.lemmas.List.{take_all}
use Rattle.js_tree.specs.declared.tree.Node.{Node}
use Rattle.js_tree.specs.Postorder.{top, trees_of, trees_at}
use Rattle.js_printer.specs.declared.task.Task.{Task}
use Rattle.js_printer.specs.Whole.{tree_text}
use Rattle.js_printer.specs.Tasks.{task_text, left_text, tasks_weight, IsInside, AreInside, IsStep}
use Rattle.js_printer.proofs.Splits.{left_text-append, tasks_weight-append}

-- what is written, followed by what is left, is the whole
pub record Comes (ns : List Node) (whole text : List ℕ) (tasks : List Task) : Type 0 where
  pub text_is : text ++ left_text ns tasks ≡ whole
  pub inside : AreInside (length ns) tasks

inside_front : (n : ℕ) (ts us : List Task) → AreInside n (ts ++ us) → AreInside n ts
inside_front n [] us h = tt
inside_front n (t ∷ ts) us h = (h.0, inside_front n ts us h.1)

inside_end : (n : ℕ) (ts us : List Task) → AreInside n (ts ++ us) → AreInside n us
inside_end n [] us h = h
inside_end n (t ∷ ts) us h = inside_end n ts us h.1

-- the first task of one tree
pub comes_first : (ns : List Node) (t : Task) (place : ℕ) → place ≡ length ns → task_text ns t ≡ tree_text (top (trees_at ns place)) → IsInside (length ns) t → Comes ns (tree_text (top (trees_of ns))) [] (t ∷ [])
comes_first ns t place h e i = record {
  text_is = e ∙ ap (λ ts. tree_text (top ts)) (ap trees_of (take_all place ns (omega arith)));
  inside = (i, tt);
}

pub next_inside : (ns : List Node) (whole text : List ℕ) (before tasks : List Task) (t : Task) → Comes ns whole text before → before ≡ tasks ++ t ∷ [] → IsInside (length ns) t
next_inside ns whole text before tasks t c e = (inside_end (length ns) tasks (t ∷ []) (subst (AreInside (length ns)) e c.inside)).0

pub comes_next : (ns : List Node) (whole text text_then : List ℕ) (before tasks tasks_then : List Task) (t : Task)
    → Comes ns whole text before → before ≡ tasks ++ t ∷ [] → IsStep ns t text tasks text_then tasks_then → Comes ns whole text_then tasks_then
comes_next ns whole text text_then before tasks tasks_then t c e s = record {
  text_is =
      s.whole
      ∙ (ap (λ x. text ++ x) (sym (ap (left_text ns) e ∙ left_text-append ns tasks (t ∷ [])))
      ∙ c.text_is);
  inside = s.inside (inside_front (length ns) tasks (t ∷ []) (subst (AreInside (length ns)) e c.inside));
}

pub less_left : (ns : List Node) (text text_then : List ℕ) (before tasks tasks_then : List Task) (t : Task)
    → before ≡ tasks ++ t ∷ [] → IsStep ns t text tasks text_then tasks_then → tasks_weight tasks_then < tasks_weight before
less_left ns text text_then before tasks tasks_then t e s =
    let f : tasks_weight before ≡ tasks_weight (tasks ++ t ∷ []) = ap tasks_weight e in
    let g = tasks_weight-append tasks (t ∷ []) in
    let l = s.lighter in
    omega arith

-- nothing is left
pub comes_last : (ns : List Node) (whole text : List ℕ) (tasks : List Task) → Comes ns whole text tasks → length tasks ≡ 0 → text ≡ whole
comes_last ns whole text [] c e = sym (append-nil text) ∙ c.text_is
comes_last ns whole text (t ∷ ts) c e = absurd (omega arith)
