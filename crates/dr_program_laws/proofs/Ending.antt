-- Members that have all ended have ended as they should.
use Rattle.std.specs.Prelude.{IsTrue, Option, None, Some, is_some, unwrap_or}
use Rattle.std.proofs.Common.{◌≡◌, ◌⊎◌, refl, sym, ap, ap₂, ◌∙◌, inl, inr, subst, if◌then◌else◌, ℕ, ◌==◌, ◌+◌, ◌≤◌, List, [], ◌∷◌, ◌++◌, length, take, true, false, Contains, append-nil, length-append, arith}
use Rattle.std.proofs.lemmas.List.{length-take, nil_from_length}
use Rattle.dr_entry.specs.declared.{end.{End.End, MemberEnd.MemberEnd, SentItem.SentItem}, entry.Entry.Entry}
use Rattle.dr_entry.{specs.declared.entry.Entry.TheVariants.View, proofs.{Ends.told_done, NumberFacts.same_number}}
use Rattle.dr_entry.specs.declared.end.End.TheVariants as ends
use Rattle.dr_faithful.specs.{Chosen.{endings_by, views_by}, Faithful.StandsOnLogs}
use Rattle.dr_faithful.proofs.ChosenViews.{views-leaves, views-there, outside-sent}
use Rattle.dr_history.{specs.Agreement.{EndsAgreed, accounts_of}, proofs.Keeping.{prefix_beside, prefix_shorter}}
use Rattle.dr_history.{specs.History.{GroupView, IsPrefixOf, view_of}, proofs.NumberedLemmas.length-numbered_messages}
use Rattle.dr_history.{specs.{Members.{has, members_of}, declared.opening.Opening.Opening}, proofs.Lists.prefix-trans}
use Rattle.dr_history.specs.Order.{IsLateIn, first_entries, messages_from, numbered_messages}
use Rattle.dr_history_laws.{specs.Remaining.remaining, proofs.Courses.head-first}
use Rattle.dr_program.specs.{Net.IsRanOverNet, Presence.present_at}
use Rattle.dr_program.specs.Program.{Program, AllEnded, AreSetups, IsRanFrom, absent_end, begun_program, end_of, member_end, sent_before}
use Rattle.dr_program.specs.{Reading.{left_in, world}, Running.Running, declared.setup.CrashPoint.CrashPoint}
use Rattle.dr_program.{specs.declared.setup.Setup.Setup, proofs.{Deeds.of_there, Outside.{AreApart, IsApart}}}
use Rattle.dr_program.proofs.{Present.{ended_there, all_ends, end_is, end_there}, Programs.ends_of}
use Rattle.dr_machine.specs.{Group.{Group, IsGroup, IsPresent, roster}, Guards.IsFault, World.{World, opening_world}}
use Rattle.dr_machine.{specs.Run.IsReached, proofs.{Ends.IsFaulty, Exclusions.excluded_so, Presence.in_roster}}
use Rattle.dr_refine.specs.Programs.{IsProgram}
use Rattle.dr_refine.proofs.Programs.{stands_there, IsThere, members_are, within, history_is, view_is, ended_is, durable_is, beside, log_is, there_is, none_of_it, own_view, are_accounts, all_told}
use Rattle.dr_script.specs.declared.script.Script.{Script}
use Rattle.dr_restart.specs.{Groups.group_of, Setups.{IsBegun, crashes_of}, declared.start.Start.Start}
use Rattle.dr_restart.proofs.Setups.{are_setups}
use Rattle.dr_words.specs.Masks.{IsInRoster, IsMajorityOf}
use Rattle.dr_world_laws.proofs.Agreeing.{done-lacks-none, done-on-logs, done-same, either-prefix, the-view}
use Rattle.dr_world_laws.proofs.{Holding.view-held, Joining.outside-history, Leavings.IsLeftSo}
use Rattle.dr_world_laws.proofs.Worlds.{Known, commits, done-durable, done-whole, first_durable, holds-remaining, in-order, known, left_so, agreed-by}
use Rattle.dr_program_laws.{specs.Causes.{HasCause, IsVotedOut}, proofs.Standing.{IsProper, Stands}}
use Rattle.dr_program_laws.specs.Ended.{GoOnWithout, HasEnded, HasEndedOutside, HasReason, HaveEnded, IsComplete, LastViewIs, IsLeftOut, IsWhole, is_log_end, HasCrashed, IsSpent}
use Rattle.dr_program_laws.{specs.Failing.{AreFailing, IsFailing, has_log_end}, proofs.Outside.{net_apart, ran_apart}}
use Rattle.dr_program_laws.proofs.{Failing.{all_fail, net_fails}, Keeping.deeds_kept, Nets.{net_keeps, net_reached}}
use Rattle.dr_program_laws.proofs.Programs.{AllStand, all_stand, begun_stands, missed_stands, move_stands}

-- ---- a member in its world

known_of : (g : Group) (p : Program) (m : ℕ) (r : Running) → IsThere g p m r → Known g (world g p)
known_of g p m r is = known g (world g p) is.group is.reached

-- the members of its view are those that the world knows of it
views_are : (g : Group) (p : Program) (m : ℕ) (r : Running) (is : IsThere g p m r)
    → views_by g (known_of g p m r is).values ((world g p).past.view m) ≡ r.replica.members
views_are g p m r is = sym ((known_of g p m r is).chosen.faithful.views.own m) ∙ members_are g p m r is

-- its history is in the view that it is in
in_view : (g : Group) (p : Program) (m : ℕ) (r : Running) → IsThere g p m r
    → LastViewIs g.opening r.replica.view r.replica.members r.replica.history
in_view g p m r is = ap view_of (sym (history_is g p m r is)) ∙ the-view g y.values (world g p) m is.group y.chosen
    (within g p m r is) ∙ ap (λ mask. Some (view_with ((world g p).past.view m) mask)) (views_are g p m r is)
    ∙ ap (λ v. Some (view_with v r.replica.members)) (view_is g p m r is)
  where
    y : Known g (world g p)
    y = known_of g p m r is

    view_with : ℕ → ℕ → GroupView
    view_with number mask = record { age = g.opening.age; number = number; members = members_of mask }

-- each member of the view stands at its place
beside_it : (g : Group) (p : Program) (m : ℕ) (r : Running) (i : ℕ) → IsThere g p m r
    → has r.replica.members i ≡ true → (q : Running) × (present_at p.members i ≡ Some q)
beside_it g p m r i is member = stands_there g p i is.group is.program (views-there g (known_of g p m r is).values
    ((world g p).past.view m) i is.group (ap (λ mask. has mask i) (views_are g p m r is) ∙ member))

-- ---- a member that is done

-- it has all messages of the members of its view
done_whole : (g : Group) (p : Program) (m : ℕ) (r : Running) → IsThere g p m r → r.replica.end ≡ Some ends.Done
    → (s : ℕ) → has r.replica.members s ≡ true → messages_from s r.replica.history ≡ numbered_messages g.opening s
done_whole g p m r is end s member = ap (messages_from s) (sym (history_is g p m r is))
    ∙ all (messages_from s ((world g p).past.history m)) numbered.0 (numbered_messages g.opening s) numbered.1
    (done-whole g (world g p) m is.group y (within g p m r is) (ended_is g p m r ends.Done is end) s
    (ap (λ mask. has mask s) (members_are g p m r is) ∙ member) ∙ sym (length-numbered_messages g.opening s))
  where
    y : Known g (world g p)
    y = known_of g p m r is

    numbered : IsPrefixOf (messages_from s ((world g p).past.history m)) (numbered_messages g.opening s)
    numbered = (in-order g (world g p) m is.group y (within g p m r is)).numbered s

    all : (xs rest ys : List Entry) → xs ++ rest ≡ ys → length xs ≡ length ys → xs ≡ ys
    all xs rest ys front same =
        let none : length rest ≡ 0 = omega (arith, same, ap length front, length-append xs rest) in
        sym (append-nil xs) ∙ ap (λ es. xs ++ es) (sym (nil_from_length rest none)) ∙ front

-- all of it is durable
done_durable : (g : Group) (p : Program) (m : ℕ) (r : Running) → IsThere g p m r
    → r.replica.end ≡ Some ends.Done → r.replica.durable ≡ length r.replica.history
done_durable g p m r is end = sym (durable_is g p m r is) ∙ done-durable g (world g p) m
    (known_of g p m r is) (within g p m r is) (ended_is g p m r ends.Done is end) ∙ ap length (history_is g p m r is)

-- who has so much on its log has it all
done_held : (g : Group) (p : Program) (m : ℕ) (r : Running) (i : ℕ) (q : Running) → IsThere g p m r
    → r.replica.end ≡ Some ends.Done → present_at p.members i ≡ Some q
    → (world g p).past.durable m ≤ length ((world g p).past.log i)
    → IsPrefixOf r.replica.history (take q.replica.logged q.replica.history)
done_held g p m r i q is end at enough = subst (λ h. IsPrefixOf h (take q.replica.logged q.replica.history))
    (history_is g p m r is) (subst (IsPrefixOf (w.past.history m)) (log_is g p i q other)
    (by (either-prefix g y.values w m i is.group y.chosen (within g p m r is) (within g p i q other))))
  where
    w : World
    w = world g p

    y : Known g (world g p)
    y = known_of g p m r is

    other : IsThere g p i q
    other = beside g p m r i q is at

    front : IsPrefixOf ((world g p).past.log i) ((world g p).past.history i)
    front = y.chosen.faithful.logs.front i

    long : length ((world g p).past.history m) ≤ length ((world g p).past.log i)
    long = omega (arith, enough, done-durable g w m y (within g p m r is) (ended_is g p m r ends.Done is end))

    by : IsPrefixOf ((world g p).past.history m) ((world g p).past.history i)
        ⊎ IsPrefixOf ((world g p).past.history i) ((world g p).past.history m)
        → IsPrefixOf ((world g p).past.history m) ((world g p).past.log i)
    by (inl less) = prefix_beside (w.past.history m) (w.past.log i) (w.past.history i) less front long
    by (inr more) = prefix_beside (w.past.history m) (w.past.log i) (w.past.history m)
        ([], append-nil (w.past.history m))
        (prefix-trans (w.past.log i) (w.past.history i) (w.past.history m) front more) long

-- what it knows to be durable stands on logs
safe_is : (g : Group) (p : Program) (m : ℕ) (r : Running) (is : IsThere g p m r)
    → StandsOnLogs g (views_by g (known_of g p m r is).values) (world g p).past.log ((world g p).past.history m) m
    ((world g p).past.view m) ((world g p).past.durable m)
safe_is g p m r is = (known_of g p m r is).chosen.faithful.logs.safe m (there_is g p m r is)

-- and where it is done each member of its view has it all on its log
done_kept : (g : Group) (p : Program) (m : ℕ) (r : Running) (i : ℕ) (q : Running) → IsThere g p m r
    → r.replica.end ≡ Some ends.Done → has r.replica.members i ≡ true → present_at p.members i ≡ Some q
    → IsPrefixOf r.replica.history (take q.replica.logged q.replica.history)
done_kept g p m r i q is end member at =
    let y = known_of g p m r is in
    done_held g p m r i q is end at (done-on-logs g y.values (world g p) m i is.group y.chosen (there_is g p m r is)
    (ended_is g p m r ends.Done is end) (ap (λ mask. has mask i) (views_are g p m r is) ∙ member))

-- it has itself all of it on its log
done_logged : (g : Group) (p : Program) (m : ℕ) (r : Running) → IsThere g p m r
    → r.replica.end ≡ Some ends.Done → r.replica.logged ≡ length r.replica.history
done_logged g p m r is end = omega (
  arith,
  (is.program.form m r is.there).replica.logged,
  length-take r.replica.logged r.replica.history,
  prefix_shorter r.replica.history (take r.replica.logged r.replica.history)
      (done_held g p m r m r is end is.there (safe_is g p m r is).own),
)

-- nobody has a message that it lacks, but of late members that aren't in its view
done_lacks : (g : Group) (p : Program) (m : ℕ) (r : Running) (s i : ℕ) (q : Running) → IsThere g p m r
    → (¬ IsLateIn g.opening s) ⊎ (has r.replica.members s ≡ true) → r.replica.end ≡ Some ends.Done
    → present_at p.members i ≡ Some q
    → IsPrefixOf (messages_from s q.replica.history) (messages_from s r.replica.history)
done_lacks g p m r s i q is either end at =
    let y = known_of g p m r is in
    let other = beside g p m r i q is at in
    subst (λ h. IsPrefixOf (messages_from s h) (messages_from s r.replica.history)) (history_is g p i q other)
    (subst (λ h. IsPrefixOf (messages_from s ((world g p).past.history i)) (messages_from s h))
    (history_is g p m r is) (done-lacks-none g y.values (world g p) m i s is.group y.chosen
    (subst (λ mask. (¬ IsLateIn g.opening s) ⊎ (has mask s ≡ true)) (sym (members_are g p m r is)) either)
    (within g p m r is) (ended_is g p m r ends.Done is end) (within g p i q other)))

-- who is done in the same view has the same history
done_same : (g : Group) (p : Program) (m : ℕ) (r : Running) (i : ℕ) (q : Running) → IsThere g p m r
    → r.replica.end ≡ Some ends.Done → present_at p.members i ≡ Some q → q.replica.end ≡ Some ends.Done
    → LastViewIs g.opening r.replica.view r.replica.members q.replica.history → q.replica.history ≡ r.replica.history
done_same g p m r i q is end at done here =
    let y = known_of g p m r is in
    let other = beside g p m r i q is at in
    let view : q.replica.view ≡ r.replica.view = ap number (sym (in_view g p i q other) ∙ here) in
    sym (history_is g p i q other) ∙ sym (done-same g y.values (world g p) m i is.group y.chosen (within g p m r is)
    (ended_is g p m r ends.Done is end) (within g p i q other) (ended_is g p i q ends.Done other done)
    (view_is g p m r is ∙ sym view ∙ sym (view_is g p i q other))) ∙ history_is g p m r is
  where
    number : Option GroupView → ℕ
    number None = 0
    number (Some v) = v.number

-- in the first view its history is what the script and the start alone determine
done_first : (g : Group) (p : Program) (m : ℕ) (r : Running) → IsThere g p m r → r.replica.end ≡ Some ends.Done
    → r.replica.view ≡ 0 → r.replica.history ≡ first_entries g.opening ++ remaining g.opening
done_first g p m r is end first =
    let y = known_of g p m r is in
    sym (history_is g p m r is) ∙ holds-remaining g (world g p) m is.group y (within g p m r is) (view_is g p m r is
    ∙ first) (done-whole g (world g p) m is.group y (within g p m r is) (ended_is g p m r ends.Done is end))

-- so a member that has ended as done there is complete
pub complete : (g : Group) (p : Program) (m : ℕ) (r : Running) → IsThere g p m r
    → r.replica.end ≡ Some ends.Done → r.replica.view ≡ 0 → IsComplete g.opening (end_of r)
complete g p m r is end first = record {
  end = ap (λ o. unwrap_or o ends.Done) end;
  history = done_first g p m r is end first;
  logged = done_logged g p m r is end;
  durable = done_durable g p m r is end;
}

whole : (g : Group) (p : Program) (m : ℕ) (r : Running) → IsThere g p m r → AllEnded p
    → r.replica.end ≡ Some ends.Done → IsWhole g.opening (ends_of p) r.replica.view r.replica.members (end_of r)
whole g p m r is ended end = record {
  end = ap (λ o. unwrap_or o ends.Done) end;
  whole = done_whole g p m r is end;
  lacks_none = λ s either. all_ends (λ (e : MemberEnd). IsPrefixOf (messages_from s e.history)
      (messages_from s r.replica.history)) p (messages_from s r.replica.history, refl)
      (λ i q at. done_lacks g p m r s i q is either end at);
  logged = done_logged g p m r is end;
  durable = done_durable g p m r is end;
  kept = λ i e member at. let q = beside_it g p m r i is member in
      subst (λ (x : MemberEnd). IsPrefixOf r.replica.history (take x.logged x.history))
      (end_is p i q.0 e q.1 at) (done_kept g p m r i q.0 is end member q.1);
  same = λ i e at done here. so i e done here (end_there p i e at);
  first = done_first g p m r is end;
}
  where
    so : (i : ℕ) (e : MemberEnd) → e.end ≡ ends.Done → LastViewIs g.opening r.replica.view r.replica.members e.history
        → (e ≡ absent_end) ⊎ ((q : Running) × (present_at p.members i ≡ Some q) × (end_of q ≡ e))
        → e.history ≡ r.replica.history
    so i e done here (inl absent) = absurd (cc (ap (λ (x : MemberEnd). x.end) absent, done))
    so i e done here (inr (q, at, same)) = ap (λ (x : MemberEnd). x.history) (sym same)
        ∙ done_same g p m r i q is end at (told_done q.replica.end (ended_there p i q ended at)
        (ap (λ (x : MemberEnd). x.end) same ∙ done)) (ap (λ (x : MemberEnd). view_of x.history) same ∙ here)

-- ---- a member that is left out

-- it has committed a value that names it
voted_out : (g : Group) (p : Program) (m : ℕ) (r : Running) (view : ℕ) → IsThere g p m r
    → r.replica.end ≡ Some (ends.Excluded view) → IsVotedOut (world g p) m view
voted_out g p m r view is end =
    let out = excluded_so g (world g p) m view is.reached (ended_is g p m r (ends.Excluded view) is end) in
    let most = commits g (world g p) m out.value (known_of g p m r is) out.committed in record {
      value = out.value;
      committed = out.committed;
      ballot = most.0;
      voted = most.1;
      named = out.named;
      next = out.next;
    }

-- so the next view goes on without it
without_it : (g : Group) (p : Program) (m : ℕ) (r : Running) (view : ℕ) → IsThere g p m r
    → r.replica.end ≡ Some (ends.Excluded view) → GoOnWithout g.opening (ends_of p) view m
without_it g p m r view is end =
    all_ends (λ (e : MemberEnd). (members : ℕ) → Contains e.history (View g.opening.age view members)
    → has members m ≡ false) p (λ members held. absurd (omega (arith, held.1))) (λ i q at members held. let other = beside g p m r i q is at in
    left members (view-held g y.values (world g p) i ((world g p).past.view m + 1) members is.group
    y.chosen.laid.historic (within g p i q other) (subst (λ h. Contains h (View g.opening.age ((world g p).past.view m + 1) members))
    (sym (history_is g p i q other))
    (subst (λ v. Contains q.replica.history (View g.opening.age v members)) out.next held))).1)
  where
    y : Known g (world g p)
    y = known_of g p m r is

    out : IsVotedOut (world g p) m view
    out = voted_out g p m r view is end

    here : has (views_by g y.values ((world g p).past.view m)) m ≡ true
    here = y.chosen.faithful.suspicions.inside m (y.chosen.wedged m out.value out.committed)

    left : (members : ℕ) → views_by g y.values ((world g p).past.view m + 1) ≡ members → has members m ≡ false
    left members same = ap (λ mask. has mask m) (sym same) ∙ views-leaves g y.values ((world g p).past.view m) m here
        (ap (λ x. has x.leavers m) (sym (y.by.now m out.value out.committed)) ∙ out.named)

-- an end by suspicion is as the world has it
left_so_there : (g : Group) (p : Program) (m : ℕ) (r : Running) (end : End) → IsThere g p m r
    → r.replica.end ≡ Some end → IsLeftSo (world g p) m (Some end)
left_so_there g p m r end is e = subst (IsLeftSo (world g p) m) (ended_is g p m r end is e)
    (left_so g (world g p) is.group (known_of g p m r is) m (within g p m r is))

-- the end of a member has its cause
pub has_cause : (g : Group) (p : Program) (m : ℕ) (r : Running) (end : End) → IsThere g p m r
    → r.replica.end ≡ Some end → HasCause g (world g p) m end
has_cause g p m r ends.Done is e =
    let y = known_of g p m r is in
    let over = ended_is g p m r ends.Done is e in (
      done-whole g (world g p) m is.group y (within g p m r is) over,
      done-durable g (world g p) m y (within g p m r is) over,
    )
has_cause g p m r (ends.Suspected other) is e = left_so_there g p m r (ends.Suspected other) is e
has_cause g p m r (ends.NoMajority mask) is e = left_so_there g p m r (ends.NoMajority mask) is e
has_cause g p m r (ends.Excluded view) is e = voted_out g p m r view is e
has_cause g p m r end is e = tt

-- ---- a member that has ended

has_reason : (g : Group) (p : Program) (limit : ℕ) (points : List CrashPoint) (m : ℕ) (r : Running)
    → IsThere g p m r → AllEnded p → IsTrue (is_some r.replica.end) → Stands limit points r
    → HasReason g.opening (ends_of p) r.replica.view r.replica.members limit m points (end_of r)
has_reason g p limit points m r is all ended v = by r.replica.end refl ended v.proper
  where
    Reason : Type 0
    Reason = HasReason g.opening (ends_of p) r.replica.view r.replica.members limit m points (end_of r)

    members : (i : ℕ) → has ((world g p).members m) i ≡ has r.replica.members i
    members i = ap (λ mask. has mask i) (members_are g p m r is)

    stopped : (end : End) → r.replica.end ≡ Some end → is_log_end end ≡ true → Reason
    stopped end e by_log = inr (inr (inr (inl (record {
      end = ap (λ o. is_log_end (unwrap_or o ends.Done)) e ∙ by_log;
      first = v.later;
    }))))

    left : (end : End) → r.replica.end ≡ Some end
        → IsLeftOut g.opening (ends_of p) r.replica.view r.replica.members m end → Reason
    left end e out = inr (inr (inr (inr (record {
      end = subst (λ o. IsLeftOut g.opening (ends_of p) r.replica.view r.replica.members m
          (unwrap_or o ends.Done)) (sym e) out;
      first = v.later;
    }))))

    by : (o : Option End) → r.replica.end ≡ o → IsTrue (is_some o) → IsProper limit points r.replica.turns o → Reason
    by None e t so = absurd (cc)
    by (Some ends.Done) e t so = inl (record { whole = whole g p m r is all e; uncrashed = so })
    by (Some ends.Crashed) e t so =
        inr (inr (inl (record { end = ap (λ x. unwrap_or x ends.Done) e; named = so; first = v.later })))
    by (Some ends.DiskFault) e t so = stopped ends.DiskFault e refl
    by (Some (ends.LogFull len)) e t so = stopped (ends.LogFull len) e refl
    by (Some (ends.Suspected other)) e t so =
        let out = left_so_there g p m r (ends.Suspected other) is e in
        left (ends.Suspected other) e (sym (members other) ∙ out.member, out.other)
    by (Some (ends.NoMajority mask)) e t so =
        let out = left_so_there g p m r (ends.NoMajority mask) is e in
        left (ends.NoMajority mask) e (
          out.own,
          λ i h. sym (members i) ∙ out.members i h,
          subst (λ n. ¬ IsMajorityOf mask n) (members_are g p m r is) out.minority,
        )
    by (Some (ends.Excluded view)) e t so = left (ends.Excluded view) e (
      (voted_out g p m r view is e).next ∙ ap (λ n. n + 1) (view_is g p m r is),
      without_it g p m r view is e,
    )
    by (Some (ends.Spent n)) e t so = inr (inl (record {
      end = ap (λ x. unwrap_or x ends.Done) e ∙ ap ends.Spent so.0;
      turns = so.1;
      uncrashed = so.2;
    }))
    by (Some ends.Absent) e t so = absurd so

-- ---- a late member that hasn't joined

-- it has nothing but the start and View 0
outside_history : (g : Group) (p : Program) (m : ℕ) (r : Running) → IsThere g p m r
    → has r.replica.members m ≡ false → r.replica.history ≡ first_entries g.opening
outside_history g p m r is outside =
    let y = known_of g p m r is in
    sym (history_is g p m r is) ∙ outside-history g y.values (world g p) m y.chosen.faithful y.chosen.laid
    (within g p m r is) (none_of_it g p m r is outside)
    ∙ head-first g.opening (world g p).past.sent (endings_by g.opening y.values)

-- all of it is durable: it was so at the opening
outside_durable : (g : Group) (p : Program) (m : ℕ) (r : Running) → IsThere g p m r
    → has r.replica.members m ≡ false → r.replica.durable ≡ length r.replica.history
outside_durable g p m r is outside = omega (
  arith,
  ap length (outside_history g p m r is outside),
  first_durable g (world g p) is.group is.reached m,
  durable_is g p m r is,
  (safe_is g p m r is).own,
  ap length (log_is g p m r is),
  length-take r.replica.logged r.replica.history,
)

-- it has put nothing
outside_sent : (g : Group) (p : Program) (m : ℕ) (r : Running) → IsThere g p m r → has r.replica.members m ≡ false
    → r.replica.view ≡ 0 → (member_end r.replica).sent ≡ record { number = 0; items = [] } ∷ []
outside_sent g p m r is outside first =
    ap (λ ls. sent_before 0 ls ++ record { number = r.replica.view; items = r.replica.sent } ∷ [])
    (nil_from_length r.replica.left (omega (arith, (is.program.form m r is.there).replica.left, first)))
    ∙ ap₂ (λ (n : ℕ) (items : List SentItem). record { number = n; items = items } ∷ []) first none
  where
    w : World
    w = world g p

    none : r.replica.sent ≡ []
    none = sym (ap (λ b. if b then r.replica.sent else (left_in r.replica r.replica.view).sent)
        (same_number r.replica.view))
        ∙ sym (ap (λ f. f r.replica.view) (of_there p (λ q v. if v == q.view then q.sent else (left_in q v).sent)
        (opening_world g).past.sent m r is.there))
        ∙ ap (w.past.sent m) (sym (view_is g p m r is)) ∙ outside-sent g (views_by g (known_of g p m r is).values) w m
        (known_of g p m r is).chosen.faithful (within g p m r is) (none_of_it g p m r is outside)

-- so it ends
outside_end : (g : Group) (p : Program) (limit : ℕ) (points : List CrashPoint) (m : ℕ) (r : Running)
    → IsThere g p m r → has r.replica.members m ≡ false → IsSpent limit points (end_of r)
    ⊎ HasCrashed points (end_of r) → HasEndedOutside g.opening limit points (end_of r)
outside_end g p limit points m r is outside reason =
    let waits = (is.program.form m r is.there).replica.outside
    (ap (has r.replica.members) (is.program.of m r is.there).number ∙ outside) in record {
      reason = reason;
      sent = outside_sent g p m r is outside waits.first;
      history = outside_history g p m r is outside;
      logged = waits.all;
      durable = outside_durable g p m r is outside;
    }

-- who is left out of its view was in it
none_left_out : (o : Opening) (all : List MemberEnd) (number members m : ℕ) (end : End)
    → IsLeftOut o all number members m end → IsFault end → ⊥
none_left_out o all number members m (ends.Suspected by) left fault = fault
none_left_out o all number members m (ends.NoMajority mask) left fault = fault
none_left_out o all number members m (ends.Excluded view) left fault = fault
none_left_out o all number members m end left fault = left

-- whose end is a fault, and none of its log, has spent its turns, or crashed
by_fault : (o : Opening) (all : List MemberEnd) (number members limit m : ℕ) (points : List CrashPoint)
    (e : MemberEnd) → HasReason o all number members limit m points e → IsFault e.end
    → is_log_end e.end ≡ false → IsSpent limit points e ⊎ HasCrashed points e
by_fault o all number members limit m points e (inl done) fault log = absurd (subst IsFault done.whole.end fault)
by_fault o all number members limit m points e (inr (inl spent)) fault log = inl spent
by_fault o all number members limit m points e (inr (inr (inl crashed))) fault log = inr crashed
by_fault o all number members limit m points e (inr (inr (inr (inl stopped)))) fault log =
    absurd (cc (stopped.end, log))
by_fault o all number members limit m points e (inr (inr (inr (inr left)))) fault log =
    absurd (none_left_out o all number members m e.end left.end fault)

-- so it is with a member that is none of its view
apart_end : (o : Option End) → IsTrue (is_some o) → IsFaulty o → has_log_end o ≡ false
    → IsFault (unwrap_or o ends.Done) × (is_log_end (unwrap_or o ends.Done) ≡ false)
apart_end None some fault log = absurd (cc)
apart_end (Some end) some fault log = (fault, log)

has_ended : (g : Group) (p : Program) (limit : ℕ) (points : List CrashPoint) (m : ℕ) (r : Running)
    → IsThere g p m r → AllEnded p → IsTrue (is_some r.replica.end) → Stands limit points r
    → IsApart r → IsFailing r → HasEnded g.opening (ends_of p) limit m points (end_of r)
has_ended g p limit points m r is all ended v apart fails = record {
  number = r.replica.view;
  members = r.replica.members;
  view = in_view g p m r is;
  roster = subst (λ (n : ℕ). IsInRoster n r.replica.members) (is.program.of m r is.there).members
      (is.program.form m r is.there).replica.roster;
  own = own_view g p m r is;
  reason = has_reason g p limit points m r is all ended v;
  outside = λ outside.
      let none = apart (ap (has r.replica.members) (is.program.of m r is.there).number ∙ outside) in
      let end = apart_end r.replica.end ended none.1 (fails.well none.0) in
      outside_end g p limit points m r is outside
      (by_fault g.opening (ends_of p) r.replica.view r.replica.members limit m points (end_of r)
      (has_reason g p limit points m r is all ended v) end.0 end.1);
}

-- the members of a program in a reached world, each of which stands as its setup lets it
ended_so : (g : Group) (turns : ℕ) (setups : List (Option Setup)) (points : ℕ → List CrashPoint) (p : Program)
    → IsGroup g → AreSetups g turns setups → ((m : ℕ)
    (s : Setup) → present_at setups m ≡ Some s → s.crashes ≡ points m) → IsProgram g p × IsReached g (world g p)
    → AllStand setups p → AreApart p → AreFailing p → AllEnded p → HaveEnded g.opening turns points (ends_of p)
ended_so g turns setups points p is are planned kept stand apart fail ended = record {
  each = λ m e at here. let r = stands_there g p m is kept.0 here in
      subst (HasEnded g.opening (ends_of p) turns m (points m)) (end_is p m r.0 e r.1 at) (each m r.0 here r.1);
  absent = λ m e at away. by m e away (end_there p m e at);
}
  where
    as_wanted : (m : ℕ) (r : Running) (s : Setup) → present_at setups m ≡ Some s
        → Stands s.turns s.crashes r → Stands turns (points m) r
    as_wanted m r s there v = subst (λ n. Stands n (points m) r) (are.each m s there).turns
        (subst (λ ps. Stands s.turns ps r) (planned m s there) v)

    each : (m : ℕ) (r : Running) → IsPresent g m → present_at p.members m ≡ Some r
        → HasEnded g.opening (ends_of p) turns m (points m) (end_of r)
    each m r here there =
        let s = are.there m (in_roster g m is here) here in
        has_ended g p turns (points m) m r
        (record { group = is; program = kept.0; reached = kept.1; there = there }) ended
        (ended_there p m r ended there) (as_wanted m r s.0 s.1 (stand m s.0 r s.1 there))
        (apart m r there) (fail m r there)

    by : (m : ℕ) (e : MemberEnd) → ¬ IsPresent g m
        → (e ≡ absent_end) ⊎ ((r : Running) × (present_at p.members m ≡ Some r) × (end_of r ≡ e)) → e ≡ absent_end
    by m e away (inl absent) = absent
    by m e away (inr (r, there, same)) = absurd (away (kept.0.of m r there).present)

-- those of any program that comes of deeds
pub have_ended : (g : Group) (turns : ℕ) (setups : List (Option Setup)) (points : ℕ → List CrashPoint)
    (p : Program) → IsGroup g → 1 ≤ turns → AreSetups g turns setups
    → ((m : ℕ) (s : Setup) → present_at setups m ≡ Some s → s.crashes ≡ points m)
    → IsRanFrom (begun_program g setups) p → AllEnded p → HaveEnded g.opening turns points (ends_of p)
have_ended g turns setups points p is some are planned ran ended =
    ended_so g turns setups points p is are planned (deeds_kept g turns setups p is some are ran)
    (subst (AllStand setups) (sym ran.1) (all_stand g turns setups ran.0 is some are))
    (ran_apart g turns setups p is some are ran) (λ m r there. all_fail g turns setups p m r is some are ran there) ended

-- and of any that comes of deeds and of words that come over a net
pub net_ended : (g : Group) (turns : ℕ) (setups : List (Option Setup)) (points : ℕ → List CrashPoint)
    (p : Program) → IsGroup g → 1 ≤ turns → AreSetups g turns setups
    → ((m : ℕ) (s : Setup) → present_at setups m ≡ Some s → s.crashes ≡ points m)
    → IsRanOverNet g (begun_program g setups) p → AllEnded p → HaveEnded g.opening turns points (ends_of p)
net_ended g turns setups points p is some are planned (before, way) ended =
    ended_so g turns setups points p is are planned (net_reached g turns setups p is some are (before, way))
    (net_keeps g turns setups (AllStand setups) is some are (λ q e form run all. move_stands g setups q e form all)
    (λ q table letters all. all) (λ q m r form all there asks. missed_stands setups q m r all there)
    (begun_stands g setups) before p way)
    (net_apart g turns setups p is some are (before, way)) (net_fails g turns setups p is some are (before, way)) ended

-- and each that has ended has its cause
pub have_causes : (g : Group) (turns : ℕ) (setups : List (Option Setup)) (p : Program) (m : ℕ) (r : Running)
    (end : End) → IsGroup g → 1 ≤ turns → AreSetups g turns setups → IsRanFrom (begun_program g setups) p
    → present_at p.members m ≡ Some r → r.replica.end ≡ Some end → HasCause g (world g p) m end
have_causes g turns setups p m r end is some are ran there e =
    let kept = deeds_kept g turns setups p is some are ran in
    has_cause g p m r end (record { group = is; program = kept.0; reached = kept.1; there = there }) e

pub net_causes : (g : Group) (turns : ℕ) (setups : List (Option Setup)) (p : Program) (m : ℕ) (r : Running)
    (end : End) → IsGroup g → 1 ≤ turns → AreSetups g turns setups → IsRanOverNet g (begun_program g setups) p
    → present_at p.members m ≡ Some r → r.replica.end ≡ Some end → HasCause g (world g p) m end
net_causes g turns setups p m r end is some are ran there e =
    let kept = net_reached g turns setups p is some are ran in
    has_cause g p m r end (record { group = is; program = kept.0; reached = kept.1; there = there }) e

-- the members of a script's program in an age
pub ended_by_script : (script : Script) (start : Start) (nth : ℕ) (begun p : Program)
    → IsGroup (group_of script start) → length script.messages ≡ script.members
    → 1 ≤ script.turns → IsBegun script start nth begun → IsRanFrom begun p
    → AllEnded p → HaveEnded (group_of script start).opening script.turns (crashes_of script.faults nth) (ends_of p)
ended_by_script script start nth begun p is lists some (setups, are, same) ran ended =
    have_ended (group_of script start) script.turns setups (crashes_of script.faults nth) p is some
    (are_setups script start nth setups lists are)
    (λ m s there. (are.each m s there).crashes) (subst (λ b. IsRanFrom b p) same ran) ended

-- ---- agreement

-- so the members agree, as their ends tell
pub ends_agreed : (g : Group) (p : Program) → IsGroup g → IsProgram g p → IsReached g (world g p)
    → EndsAgreed g.opening (ends_of p)
ends_agreed g p is program run = record {
  told = all_told g p program;
  agreed = agreed-by g (world g p) (accounts_of (ends_of p)) is (known g (world g p) is run)
      (are_accounts g p is program);
}

-- whatever deeds were taken, what has been delivered agrees
pub ran_agreed : (g : Group) (turns : ℕ) (setups : List (Option Setup)) (p : Program) → IsGroup g → 1 ≤ turns
    → AreSetups g turns setups → IsRanFrom (begun_program g setups) p → EndsAgreed g.opening (ends_of p)
ran_agreed g turns setups p is some are ran = let kept = deeds_kept g turns setups p is some are ran in
    ends_agreed g p is kept.0 kept.1

pub net_agreed : (g : Group) (turns : ℕ) (setups : List (Option Setup)) (p : Program) → IsGroup g → 1 ≤ turns
    → AreSetups g turns setups → IsRanOverNet g (begun_program g setups) p → EndsAgreed g.opening (ends_of p)
net_agreed g turns setups p is some are ran = let kept = net_reached g turns setups p is some are ran in
    ends_agreed g p is kept.0 kept.1
