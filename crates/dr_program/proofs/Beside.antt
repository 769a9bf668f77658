-- What of a replica is beside its words and items may count on, and be noted, without them.
use Rattle.std.proofs.Common.{◌≡◌, ℕ, ◌+◌, ◌*◌, ◌^◌, ◌<◌, ◌≤◌, false, List, [], length, Option, None, Some, arith}
use Rattle.dr_entry.specs.{declared.{end.End.End, entry.Entry.Entry}, declared.record.{Value.Value, Vote.Vote}}
use Rattle.dr_machine.specs.Group.{roster}
use Rattle.dr_machine.specs.declared.event.Act.TheVariants as acts
use Rattle.dr_program.specs.{Form.{HasForm, IsVoteDue, waiting}, Replica.{Replica, is_inside, promise}}
use Rattle.dr_program.specs.Running.{columns, members}

-- a replica keeps its form where these are within their bounds
pub beside_form : (r : Replica) (next logged durable turns acts : ℕ) (history : List Entry)
    (end : Option End) (committed : Option Value) (pending : Option Vote) (votes : List Vote) → HasForm r
    → r.logged ≤ logged → logged ≤ length history → length history ≤ r.room → r.acts ≤ acts → acts < 2 ^ 64
    → ((x : Vote) → pending ≡ Some x → IsVoteDue r.roster r.tag (promise r) x)
    → length votes ≤ r.view * r.roster + r.tag + waiting pending
    → ((x : Value) → committed ≡ Some x → x.leavers < 2 ^ r.roster)
    → (is_inside r ≡ false → (votes ≡ []) × (pending ≡ None) × (logged ≡ length history)) → HasForm (record r {
      next = next;
      history = history;
      logged = logged;
      durable = durable;
      turns = turns;
      acts = acts;
      end = end;
      committed = committed;
      pending = pending;
      votes = votes;
    })
beside_form r next logged durable turns acts history end committed pending votes f more within room rises
    small waits few decided out = record {
      rows = f.rows;
      members = f.members;
      columns = f.columns;
      words = f.words;
      some_slot = f.some_slot;
      most_slots = f.most_slots;
      number = f.number;
      trusted = f.trusted;
      named = f.named;
      frozen = f.frozen;
      bank = f.bank;
      left = f.left;
      roster = f.roster;
      late = f.late;
      outside = λ e. let o = f.outside e in
          let t = out e in record {
            late = o.late;
            first = o.first;
            trusting = o.trusting;
            none = t.0;
            idle = t.1;
            all = t.2;
          };
      given = f.given;
      decided = decided;
      counts = f.counts;
      bounded = f.bounded;
      few = f.few;
      items = f.items;
      suspected = f.suspected;
      recv = f.recv;
      accept = f.accept;
      tagged = f.tagged;
      valued = f.valued;
      low = f.low;
      waits = waits;
      votes = few;
      received = f.received;
      beat = omega (arith, f.beat);
      acts = small;
      published = omega (arith, f.published);
      ring = f.ring;
      messages = f.messages;
      short = f.short;
      bytes = f.bytes;
      put = f.put;
      order = f.order;
      logged = within;
      room = room;
      small = f.small;
    }
