use Rattle.dr_world_laws.proofs.{Messages.valid_history, Worlds.{holds_messages, known}}
use Rattle.dr_world_laws.proofs.histories_hold_messages.Goals as goal

pub returns-clause-messages : goal.returns-clause-messages
returns-clause-messages c = λ g w m is r l. holds_messages g w m is (known g w is r) l

pub returns-clause-valid : goal.returns-clause-valid
returns-clause-valid c = λ g w m is r l.
    valid_history g (w.past.history m) is (holds_messages g w m is (known g w is r) l)
