-- The nodes of tasks.
use Rattle.std.proofs.Common.{◌≡◌, ℕ, suc, ◌<◌, List, [], ◌∷◌, ◌++◌, map, length, reverse, refl, sym, ap, ◌∙◌, subst}
use Rattle.std.proofs.Common.{arith, append_assoc, append-nil}
use Rattle.std.specs.List.{AllByRecursion}
use Rattle.std.proofs.lemmas.List.{length-append}
use Rattle.elm_type.specs.Types.{Rigid, End, Made, Record, count, count_fields, types_of, variable, Leaf, Free, Fixed}
use Rattle.elm_type.specs.Spelling.{record_node, spell, spell_all, spell_fields}
use Rattle.elm_type.specs.declared.head.Head.{Head}
use Rattle.elm_type.specs.declared.node.Leaf.TheVariants as leaf
use Rattle.elm_type.specs.declared.node.Node.{Node}
use Rattle.elm_type.specs.declared.node.Node.TheVariants as node
use Rattle.type_store.specs.Store.{Cell, Open, Built, Constant, Store, slot_at, field_slots}
use Rattle.type_store.specs.Shape.{IsStore, parts_of}
use Rattle.type_store.specs.declared.slot.FieldSlot as stored
use Rattle.type_store.specs.View.{field_view}
use Rattle.type_schemes.specs.Order.{IsListed, PartsFirst}
use Rattle.type_schemes.specs.Reading.{Graph, read_row, read_cell, read_in}
use Rattle.type_schemes.specs.Bases.{type_in}
use Rattle.type_schemes.proofs.Types.{read_is}
use Rattle.type_schemes.specs.declared.writing.Task.{Task}
use Rattle.type_schemes.specs.declared.writing.Task.TheVariants.{Whole, Part}
use Rattle.type_schemes.specs.declared.writing.Writer.{Writer}
use Rattle.type_schemes.specs.Rows.{CanRead, IsRow}
use Rattle.type_schemes.specs.Tasks.{task_variable, task_nodes, all_nodes, tasks_of, AreKnown, Writes}
use Rattle.type_schemes.proofs.Listed.{parts_known}

pub append_none : {X : Type 0} (xs : List X) → xs ≡ xs ++ []
append_none xs = sym (append-nil xs)

module _ (f : ℕ → Graph) where
  pub nodes_append : (xs ys : List Task) → all_nodes f (xs ++ ys) ≡ all_nodes f xs ++ all_nodes f ys
  nodes_append [] ys = refl
  nodes_append (x ∷ xs) ys =
      ap (λ ns. task_nodes f x ++ ns) (nodes_append xs ys) ∙ sym
      (append_assoc (task_nodes f x) (all_nodes f xs) (all_nodes f ys))

  count_parts : (ws : List ℕ) → count (types_of (map f ws)) ≡ length ws
  count_parts [] = refl
  count_parts (w ∷ ws) = ap suc (count_parts ws)

  part_nodes : (ws : List ℕ) → spell_all (types_of (map f ws)) ≡ all_nodes f (map Whole ws)
  unfolding spell_all
  part_nodes [] = refl
  part_nodes (w ∷ ws) = ap (λ ns. spell (f w) ++ ns) (part_nodes ws)

  count_row : (fs : List stored.FieldSlot) → count_fields (read_row f (map field_view fs)) ≡ length fs
  count_row [] = refl
  count_row (x ∷ fs) = ap suc (count_row fs)

  field_nodes : (fs : List stored.FieldSlot) → spell_fields (read_row f (map field_view fs)) ≡ all_nodes f (map Part fs)
  unfolding spell_fields
  field_nodes [] = refl
  field_nodes (x ∷ fs) = ap (λ ns. node.Field x.name ∷ (spell (f x.slot) ++ ns)) (field_nodes fs)

  -- the nodes of a type of parts
  pub built_nodes : (h : Head) (ws : List ℕ)
      → spell (Made h (types_of (map f ws))) ≡ node.Made h (length ws) ∷ all_nodes f (map Whole ws)
  unfolding spell
  built_nodes h ws =
      ap (λ n. node.Made h n ∷ spell_all (types_of (map f ws))) (count_parts ws) ∙ ap
      (λ ns. node.Made h (length ws) ∷ ns) (part_nodes ws)

  -- and of a record
  pub record_nodes : (fs : List stored.FieldSlot) (end : End (Leaf ℕ))
      → spell (Record (read_row f (map field_view fs)) end) ≡ record_node (length fs) end ∷ all_nodes f (map Part fs)
  unfolding spell
  record_nodes fs end =
      ap (λ n. record_node n end ∷ spell_fields (read_row f (map field_view fs))) (count_row fs)
      ∙ ap (λ ns. record_node (length fs) end ∷ ns) (field_nodes fs)

pub open_nodes : (v : ℕ) → spell (variable (Free v)) ≡ node.Open (leaf.Free v) 0 ∷ []
unfolding spell
open_nodes v = refl

pub constant_nodes : (r : Rigid) → spell (variable (Fixed r)) ≡ node.Open (leaf.Fixed r) 0 ∷ []
unfolding spell
constant_nodes r = refl

-- ---- what is known of tasks

module _ (s : Store) (older : List ℕ) where
  known_both : (xs ys : List Task) → AreKnown s older xs → AreKnown s older ys → AreKnown s older (xs ++ ys)
  known_both [] ys h k = k
  known_both (x ∷ xs) ys h k = (h.0, known_both xs ys h.1 k)

  pub known_parts : (ws : List ℕ) → AllByRecursion (CanRead s older) ws → AreKnown s older (map Whole ws)
  known_parts [] h = tt
  known_parts (w ∷ ws) h = (h.0, known_parts ws h.1)

  pub known_fields : (fs : List stored.FieldSlot) → AllByRecursion (CanRead s older) (field_slots (map field_view fs))
      → AreKnown s older (map Part fs)
  known_fields [] h = tt
  known_fields (x ∷ fs) h = (h.0, known_fields fs h.1)

  -- ---- what is written

  -- one node, and tasks for what follows
  pub writes_one : (f : ℕ → Graph) (n : Node) (tasks : List Task) (nodes : List Node) (old new : Writer)
      → nodes ≡ n ∷ all_nodes f tasks
      → new.nodes.items ≡ old.nodes.items ++ n ∷ [] → tasks_of new ≡ tasks ++ tasks_of old → AreKnown s older tasks
      → Writes s older f nodes old new
  writes_one f n tasks nodes old new e a b k = record {
    written = n ∷ [];
    some = omega arith;
    nodes = a;
    rest =
        ap (λ ts. n ∷ all_nodes f ts) b
        ∙ (ap (λ ns. n ∷ ns) (nodes_append f tasks (tasks_of old)) ∙ ap (λ ns. ns ++ all_nodes f (tasks_of old))
        (sym e));
    known = λ h. subst (AreKnown s older) (sym b) (known_both tasks (tasks_of old) k h);
  }

  -- a node, and what is written then
  pub writes_after : (f : ℕ → Graph) (n : Node) (nodes : List Node) (old mid new : Writer)
      → mid.nodes.items ≡ old.nodes.items ++ n ∷ []
      → tasks_of mid ≡ tasks_of old → Writes s older f nodes mid new → Writes s older f (n ∷ nodes) old new
  writes_after f n nodes old mid new a b w = record {
    written = n ∷ w.written;
    some = omega arith;
    nodes = w.nodes ∙ (ap (λ ns. ns ++ w.written) a ∙ append_assoc old.nodes.items (n ∷ []) w.written);
    rest = ap (λ ns. n ∷ ns) (w.rest ∙ ap (λ ts. nodes ++ all_nodes f ts) b);
    known = λ h. w.known (subst (AreKnown s older) (sym b) h);
  }

  -- ---- all that is written

  pub record Writing (f : ℕ → Graph) (whole : List Node) (writer : Writer) : Type 0 where
    pub known : AreKnown s older (tasks_of writer)
    pub is : writer.nodes.items ++ all_nodes f (tasks_of writer) ≡ whole

  module _ (f : ℕ → Graph) (whole : List Node) (old mid new : Writer) (task : Task)
      (next : tasks_of old ≡ task ∷ tasks_of mid)
      (same : mid.nodes.items ≡ old.nodes.items) (w : Writes s older f (task_nodes f task) mid new) where
    pub next_known : Writing f whole old → CanRead s older (task_variable task)
    next_known h = (subst (AreKnown s older) next h.known).0

    pub writing_on : Writing f whole old → Writing f whole new
    writing_on h = record {
      known = w.known (subst (AreKnown s older) next h.known).1;
      is =
          ap (λ ns. ns ++ all_nodes f (tasks_of new)) w.nodes
          ∙ (append_assoc mid.nodes.items w.written (all_nodes f (tasks_of new))
          ∙ (ap (λ ns. mid.nodes.items ++ ns) w.rest
          ∙ (ap (λ ns. ns ++ (task_nodes f task ++ all_nodes f (tasks_of mid))) same
          ∙ (ap (λ ts. old.nodes.items ++ all_nodes f ts) (sym next) ∙ h.is))));
    }

    pub fewer : length (all_nodes f (tasks_of new)) < length (all_nodes f (tasks_of old))
    fewer =
        let a : length (w.written ++ all_nodes f (tasks_of new)) ≡ length (all_nodes f (tasks_of old)) =
        ap length (w.rest ∙ sym (ap (all_nodes f) next)) in
        let b = length-append w.written (all_nodes f (tasks_of new)) in
        omega (arith, a, b, w.some)

  pub writing_done : (f : ℕ → Graph) (whole : List Node) (writer : Writer) → writer.todo.items ≡ []
      → Writing f whole writer → writer.nodes.items ≡ whole
  writing_done f whole writer e h =
      append_none writer.nodes.items ∙ (ap (λ ts. writer.nodes.items ++ all_nodes f (reverse ts)) (sym e) ∙ h.is)

  -- ---- the nodes of the type of a variable

  module _ (whole : IsStore s) (first : PartsFirst 0 s older) (v : ℕ) (listed : IsListed older v) where
    spelled_as : (c : Cell) → (slot_at s v).cell ≡ c
        → spell (read_in s older v) ≡ spell (read_cell (type_in s older) v c)
    spelled_as c e = ap spell (read_is s older v first listed ∙ ap (read_cell (type_in s older) v) e)

    pub open_written : (slot_at s v).cell ≡ Open → spell (read_in s older v) ≡ node.Open (leaf.Free v) 0 ∷ []
    open_written e = spelled_as Open e ∙ open_nodes v

    pub constant_written : (r : Rigid) → (slot_at s v).cell ≡ Constant r
        → spell (read_in s older v) ≡ node.Open (leaf.Fixed r) 0 ∷ []
    constant_written r e = spelled_as (Constant r) e ∙ constant_nodes r

    pub built_written : (h : Head) (ws : List ℕ) → (slot_at s v).cell ≡ Built h ws
        → spell (read_in s older v) ≡ node.Made h (length ws) ∷ all_nodes (type_in s older) (map Whole ws)
    built_written h ws e = spelled_as (Built h ws) e ∙ built_nodes (type_in s older) h ws

    pub built_known : (h : Head) (ws : List ℕ) → (slot_at s v).cell ≡ Built h ws → AreKnown s older (map Whole ws)
    built_known h ws e =
        known_parts ws (subst (λ c. AllByRecursion (CanRead s older) (parts_of c)) e
        (parts_known s whole older v first listed))

  pub row_written : (v : ℕ) (fs : List stored.FieldSlot) (end : End (Leaf ℕ)) → IsRow s older v (map field_view fs) end
      → spell (read_in s older v) ≡ record_node (length fs) end ∷ all_nodes (type_in s older) (map Part fs)
  row_written v fs end h = ap spell h.is ∙ record_nodes (type_in s older) fs end
