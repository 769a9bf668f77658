-- What a member leaves on its log is what a stop may leave in the world of the program.
use Rattle.std.specs.Prelude.{None, slice_get}
use Rattle.std.proofs.lemmas.List.{Elements.Contains-append_cases, take-append-drop}
use Rattle.std.proofs.Common.{◌≡◌, refl, ap, sym, ◌∙◌, ◌⊎◌, inl, inr, subst, ℕ, ◌<◌, List, [], ◌∷◌, ◌++◌, append_assoc, take, Contains, Option, Some}
use Rattle.dr_entry.specs.{declared.entry.Entry.Entry, declared.record.{Record.Record, Vote.Vote}}
use Rattle.dr_entry.proofs.{ListParts.{in-cases, in-nothing}, ListPlaces.read-in, Records.none_later}
use Rattle.dr_entry.specs.declared.record.Record.TheVariants as records
use Rattle.dr_history.{specs.History.IsPrefixOf, proofs.Lists.entry_more}
use Rattle.dr_log_bytes.specs.Content.{OnLog, with_record}
use Rattle.dr_machine.specs.{Group.{Group, IsGroup}, World.World}
use Rattle.dr_program.specs.{Form.IsRunningMember, Presence.present_at, Program.Program, Reading.{table_of, world}, Replica.Replica}
use Rattle.dr_program.{specs.Running.Running, proofs.Holdings.{Holding, held, held_of, holding_of}}
use Rattle.dr_program.proofs.{Present.replica_at, Replicas.{MayCome, replicas_of}}
use Rattle.dr_restart.specs.{Groups.group_of, Left.{IsLeftByMember, MayLogVote, votes_of_age}}
use Rattle.dr_restart.{specs.declared.start.Start.Start, proofs.LeftVotes.of_age}
use Rattle.dr_script.specs.declared.script.Script.{Script}
use Rattle.dr_refine.{specs.Programs.IsProgram, proofs.Programs.member_at}
use Rattle.dr_log.specs.Standing.{with_entries}
use Rattle.dr_served.{specs.Served.entries_due, proofs.Leaving.next_age_votes}
use Rattle.dr_program_laws.proofs.Later.{vote_may}
use Rattle.dr_world_laws.proofs.Worlds.{Known}
use Rattle.dr_opening.{specs.Lists.as_lists, proofs.Ways.base_votes}
use Rattle.dr_kept.{specs.Leaving.{HasBegunAll, HasJustLogged, IsAgeOfChoice, IsLeftAt, LeavesSo}, proofs.Appending.may_come}
use Rattle.dr_kept.proofs.Chosen.{IsKnownAge, age_above}

-- ---- the record that may come

pub age_votes_stay : (base : OnLog) (r : Running) (c : OnLog) → IsRunningMember r → LeavesSo base r c
    → c.age_votes ≡ base.age_votes
age_votes_stay base r c form (inl just) = just.age_votes
age_votes_stay base r c form (inr (inr all)) = ap (λ (d : OnLog). d.age_votes) all.is ∙ all.logged.age_votes
age_votes_stay base r c form (inr (inl begun)) = ap (λ (d : OnLog). d.age_votes) begun.is
    ∙ next_age_votes r.replica begun.next begun.before (may_come r begun.next form begun.begun)
    ∙ begun.logged.age_votes

-- ---- the log of a member

-- the record that an append may have left stands there besides
pub record MayLeave (base : OnLog) (r : Replica) (c : OnLog) : Type 0 where
  pub next : Record
  pub may : MayCome r next
  pub idle : r.pending ≡ None
  pub before : OnLog
  pub logged : HasJustLogged base r before
  pub is : c ≡ with_record next before

-- what a member leaves there: what it has logged, or besides what an append was to bring
abbrev pub HasLeft : OnLog → Replica → OnLog → Type 0
HasLeft base r c = HasJustLogged base r c ⊎ MayLeave base r c ⊎ HasBegunAll base r c

-- a member of a program, in a world that is reached, whose log was open with votes of earlier ages alone
pub record IsServed (g : Group) (p : Program) (m : ℕ) (r : Running) (base : OnLog) : Type 0 where
  pub group : IsGroup g
  pub form : IsProgram g p
  pub known : Known g (world g p)
  pub there : present_at p.members m ≡ Some r
  pub earlier : (x : Vote) → Contains base.votes x → x.age < g.opening.age

-- what it leaves there is what a stop may leave
pub left_by_running : (g : Group) (p : Program) (m : ℕ) (r : Running) (base c : OnLog) → IsServed g p m r base
    → HasLeft base r.replica c → IsLeftByMember g (world g p) m (as_lists c)
left_by_running g p m r base c k = by
  where
    w : World
    w = world g p

    has_of : held (world g p) m ≡ holding_of g r.replica
    has_of = held_of g (replicas_of p) (table_of p) m r.replica (replica_at p m r k.there)

    log : (world g p).past.log m ≡ take r.replica.logged r.replica.history
    log = ap (λ (h : Holding). h.log) has_of

    history : (world g p).past.history m ≡ r.replica.history
    history = ap (λ (h : Holding). h.history) has_of

    cast : (world g p).past.votes m ≡ r.replica.votes
    cast = ap (λ (h : Holding). h.votes) has_of

    own : (x : Vote) → Contains r.replica.votes x → x.age ≡ g.opening.age
    own x h = ap (λ (z : Vote). z.age) (k.known.chosen.voting.valid.own m x
        (read-in (w.past.votes m) x (subst (λ votes. Contains votes x) (sym cast) h)))

    just : (d : OnLog) → HasJustLogged base r.replica d → IsLeftByMember g (world g p) m (as_lists d)
    just d j = record {
      left = inl (
        j.entries ∙ sym log,
        ap (votes_of_age g.opening.age) j.votes ∙ of_age g.opening.age base.votes r.replica.votes k.earlier own
            ∙ sym cast,
      );
      votes = none_later g.opening.age base.votes r.replica.votes d.votes j.votes k.earlier own;
    }

    entry : (e : Entry) (d : OnLog) → HasJustLogged base r.replica d
        → slice_get r.replica.history r.replica.logged ≡ Some e
        → IsLeftByMember g (world g p) m (as_lists (with_record (records.Entry e) d))
    entry e d j due = record {
      left = inr (inl (
        e,
        ap (λ es. es ++ e ∷ []) (j.entries ∙ sym log),
        subst (IsPrefixOf (d.entries ++ e ∷ [])) (sym history) (subst
            (λ es. IsPrefixOf (es ++ e ∷ []) r.replica.history) (sym j.entries)
            (entry_more r.replica.history r.replica.logged e due)),
        ap (votes_of_age g.opening.age) j.votes ∙ of_age g.opening.age base.votes r.replica.votes k.earlier own
            ∙ sym cast,
      ));
      votes = none_later g.opening.age base.votes r.replica.votes d.votes j.votes k.earlier own;
    }

    all : (d : OnLog) → HasJustLogged base r.replica d
        → IsLeftByMember g (world g p) m (as_lists (with_entries (entries_due r.replica) d))
    all d j = record {
      left = inr (inr (inl (
        ap (λ es. es ++ entries_due r.replica) j.entries ∙ take-append-drop r.replica.logged r.replica.history
            ∙ sym history,
        ap (votes_of_age g.opening.age) j.votes ∙ of_age g.opening.age base.votes r.replica.votes k.earlier own
            ∙ sym cast,
      )));
      votes = none_later g.opening.age base.votes r.replica.votes d.votes j.votes k.earlier own;
    }

    vote : (v : Vote) (d : OnLog) → HasJustLogged base r.replica d → MayLogVote g (world g p) m v
        → IsLeftByMember g (world g p) m (as_lists (with_record (records.Vote v) d))
    vote v d j may = record {
      left = inr (inr (inr (
        v,
        j.entries ∙ sym log,
        ap (votes_of_age g.opening.age) more
            ∙ of_age g.opening.age base.votes (r.replica.votes ++ v ∷ []) k.earlier with_it
            ∙ ap (λ votes. votes ++ v ∷ []) (sym cast),
        may,
      )));
      votes = none_later g.opening.age base.votes (r.replica.votes ++ v ∷ []) (d.votes ++ v ∷ []) more k.earlier with_it;
    }
      where
        more : d.votes ++ v ∷ [] ≡ base.votes ++ (r.replica.votes ++ v ∷ [])
        more = ap (λ votes. votes ++ v ∷ []) j.votes ∙ append_assoc base.votes r.replica.votes (v ∷ [])

        with_it : (x : Vote) → Contains (r.replica.votes ++ v ∷ []) x → x.age ≡ g.opening.age
        with_it x h = either (Contains-append_cases r.replica.votes (v ∷ []) x h)
          where
            last : (v ≡ x) ⊎ Contains [] x → x.age ≡ g.opening.age
            last (inl e) = ap (λ (z : Vote). z.age) (sym e ∙ may.2)
            last (inr none) = absurd (in-nothing x none)

            either : Contains r.replica.votes x ⊎ Contains (v ∷ []) x → x.age ≡ g.opening.age
            either (inl old) = own x old
            either (inr new) = last (in-cases v x [] new)

    next_is : (next : Record) (d : OnLog) → HasJustLogged base r.replica d → MayCome r.replica next
        → r.replica.pending ≡ None → IsLeftByMember g (world g p) m (as_lists (with_record next d))
    next_is (records.Entry e) d j may idle = entry e d j may
    next_is (records.Vote v) d j may idle = vote v d j
        (subst (MayLogVote g w m) (sym may.2) (vote_may g (replicas_of p) (table_of p) m r.replica may.0
        (member_at g p m r k.group k.form k.there) idle may.1))
    next_is (records.AgeVote v) d j may idle = absurd may
    next_is (records.Cut keep) d j may idle = absurd may
    next_is records.Upgrade d j may idle = absurd may

    by : HasLeft base r.replica c → IsLeftByMember g (world g p) m (as_lists c)
    by (inl j) = just c j
    by (inr (inr a)) = subst (λ (d : OnLog). IsLeftByMember g (world g p) m (as_lists d)) (sym a.is)
        (all a.before a.logged)
    by (inr (inl b)) = subst (λ (d : OnLog). IsLeftByMember g (world g p) m (as_lists d)) (sym b.is)
        (next_is b.next b.before b.logged b.may b.idle)

-- so it is behind an age that began with what was chosen
pub left_by_member : (script : Script) (start : Start) (nth : ℕ) (found : List (Option OnLog)) (p : Program) (m : ℕ)
    (c : OnLog) → IsAgeOfChoice script start nth found p → IsKnownAge script start p → IsLeftAt start found p m c
    → IsLeftByMember (group_of script start) (world (group_of script start) p) m (as_lists c)
left_by_member script start nth found p m c is k l =
    left_by_running (group_of script start) p m l.member l.base c (record {
      group = k.group;
      form = k.form;
      known = k.known;
      there = l.there;
      earlier = λ x h. age_above script start nth found p m x.age l.first is l.on
          (inr (inl (x, subst (λ votes. Contains votes x) (base_votes start l.first l.base l.opened) h, refl)));
    }) (by l.leaves)
  where
    by : LeavesSo l.base l.member c → HasLeft l.base l.member.replica c
    by (inl j) = inl j
    by (inr (inr all)) = inr (inr all)
    by (inr (inl b)) = inr (inl (record {
      next = b.next;
      may = may_come l.member b.next (k.form.form m l.member l.there) b.begun;
      idle = k.idle m l.member b.next l.there b.begun;
      before = b.before;
      logged = b.logged;
      is = b.is;
    }))
