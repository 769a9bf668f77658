-- The world that replicas and a table are.
use Rattle.std.specs.Option.{option_map_or}
use Rattle.std.specs.Prelude.{ℕ, ◌&&◌, ◌==◌, nat_lt, if◌then◌else◌, List, map, take, slice_index, slice_index_or, Option, None, Some, option_map}
use Rattle.dr_entry.specs.declared.{end.End.End, entry.{Entry.Entry, Item.TheVariants.Null}}
use Rattle.dr_rows.specs.Words.{own, seen}
use Rattle.dr_words.specs.Layout.{word_index_of}
use Rattle.dr_machine.specs.{Group.{Group, banks, roster, columns}, World.{World, opening_world}}
use Rattle.dr_machine.specs.declared.step.Step.{Step}
use Rattle.dr_program.specs.{Presence.present_at, Program.{Program, comes_to}}
use Rattle.dr_program.specs.Replica.{LeftView, Replica, me, count, item, nothing_left, promise}
use Rattle.dr_program.specs.{Running.{Running, next_step}, declared.outcome.Outcome.Outcome}

-- what member m has of something, and at the opening's where it is absent
abbrev pub of_member : {A : Type 0} → List (Option Replica) → (Replica → A) → (ℕ → A) → ℕ → A
of_member rs f opening m = option_map_or f (present_at rs m) (opening m)

-- what replica r has in the view numbered v: in its own what it has now, and in another what it has kept of
-- it
abbrev pub in_view : {A : Type 0} → Replica → ℕ → A → A → A
in_view r v x kept = if v == r.view then x else kept

-- what it has kept of a view: nothing of one that it hasn't left
abbrev pub left_in : Replica → ℕ → LeftView
left_in r v = slice_index_or r.left v nothing_left

abbrev pub kept_word : Replica → ℕ → ℕ → ℕ
kept_word r v c = slice_index (left_in r v).own c

abbrev pub kept_count : Replica → ℕ → ℕ → ℕ
kept_count r v s = slice_index (left_in r v).counts s

-- the word of a bank, a copy, a row and a column of the table
abbrev pub word_of : Group → List ℕ → ℕ → ℕ → ℕ → ℕ → ℕ
word_of g table v j i c =
    if (nat_lt v (banks g) && nat_lt j (roster g)) && (nat_lt i (roster g) && nat_lt c (columns g))
    then slice_index table (word_index_of (roster g) g.window v j i c) else 0

-- what the members share: the words of the table, by index, and the letters for late members, by number
pub record Shared : Type 0 where
  pub words : List ℕ
  pub letters : List (Option (List Entry))

-- the letters for the members, by number, in a world
abbrev pub letters_of : List (Option (List Entry)) → ℕ → Option (List Entry)
letters_of letters m = slice_index_or letters m None

-- the world of these replicas and this table
abbrev pub world_of : Group → List (Option Replica) → Shared → World
world_of g rs table =
    let o = opening_world g in record {
      past = record {
        view = of_member rs (λ r. r.view) o.past.view;
        own = of_member rs (λ r v c. in_view r v (own r.rows c) (kept_word r v c)) o.past.own;
        count = of_member rs (λ r v s. in_view r v (count r s) (kept_count r v s)) o.past.count;
        sent = of_member rs (λ r v. in_view r v r.sent (left_in r v).sent) o.past.sent;
        history = of_member rs (λ r. r.history) o.past.history;
        log = of_member rs (λ r. take r.logged r.history) o.past.log;
        votes = of_member rs (λ r. r.votes) o.past.votes;
        durable = of_member rs (λ r. r.durable) o.past.durable;
        acts = of_member rs (λ r. r.acts) o.past.acts;
      };
      members = of_member rs (λ r. r.members) o.members;
      came_from = of_member rs (λ r. r.came_from) o.came_from;
      given = of_member rs (λ r. r.given) o.given;
      suspects = of_member rs (λ r. r.suspects) o.suspects;
      promise = of_member rs promise o.promise;
      tag = of_member rs (λ r. r.tag) o.tag;
      value = of_member rs (λ r. r.value) o.value;
      committed = of_member rs (λ r. r.committed) o.committed;
      pending = of_member rs (λ r. r.pending) o.pending;
      item = of_member rs (λ r s k. if nat_lt s (roster g) then item r s k else Null) o.item;
      next = of_member rs (λ r. r.next) o.next;
      base = of_member rs (λ r. r.base) o.base;
      seen = of_member rs (λ r i c. if i == me r then 0 else seen r.rows i c) o.seen;
      turns = of_member rs (λ r. r.turns) o.turns;
      end = of_member rs (λ r. r.end) o.end;
      table = word_of g table.words;
      letter = letters_of table.letters;
    }

-- the table of a program
abbrev pub table_of : Program → Shared
table_of p = record { words = p.table; letters = p.letters }

-- the world of a program
abbrev pub world : Group → Program → World
world g p = world_of g (map (option_map (λ (r : Running). r.replica)) p.members) (table_of p)

-- the step that is due to a running member, unless it has ended
abbrev pub step_due : Running → Option End → Option Step
step_due r None = Some (next_step r)
step_due r (Some end) = None

abbrev pub step_of_member : Running → Option Step
step_of_member r = step_due r r.replica.end

-- the step of the machine that the next deed of a running member comes to, where an append has this outcome, and
-- it finds this letter
abbrev pub step_by : Option (List Entry) → Running → Outcome → Option Step
step_by letter r outcome = comes_to letter (step_of_member r) outcome
