use Rattle.dr_restart.proofs.ByMessages.{refused-by-messages, start-by-messages}
use Rattle.dr_quorum_laws.proofs.laws.choices_go_by_messages.Goals as goal

pub returns : goal.returns
returns c = record { start = start-by-messages; refusal = refused-by-messages }
