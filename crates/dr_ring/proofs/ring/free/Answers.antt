use Rattle.std.proofs.Common.{◌≤◌, ◌-◌, sym, rules, arith}
use Rattle.dr_words.specs.Counts.{count_of}
use Rattle.dr_rows.specs.Words.{row_of}
use Rattle.dr_ring.{specs.Slots.IsFree, proofs.Freedom.{is_free-true, is_free-false}}
use Rattle.dr_ring.proofs.ring.free.Goals as goal

pub unpack_recv-received-requires : goal.unpack_recv-received-requires
unpack_recv-received-requires c =
    let form = c.requires.form c.loop-other.other c.recv_column-column.result in
    omega (
      arith,
      c.seen.ensures,
      form.recv c.me-me.result (omega (arith, c.me-me.ensures.form.present)) c.recv_column-column.ensures.value,
    )

pub returns-then-received-k-clause-value : goal.returns-then-received-k-clause-value
returns-then-received-k-clause-value c =
    let behind : count_of c.args.rows.now.me (row_of c.args.rows.now.words c.loop-other.other)
    ≤ c.args.k - c.args.shape.now.window = search rules in
    sym (is_free-false c.args.shape.now.window c.args.rows.now c.args.members c.args.k c.loop-other.other
    (omega arith) c.me-me.ensures.form.few c.requires.roster (search rules) (search rules) behind)

pub returns-clause-value : goal.returns-clause-value
returns-clause-value c =
    let free : IsFree c.args.shape.now.window c.args.rows.now c.args.members c.args.k = search rules in
    sym (is_free-true c.args.shape.now.window c.args.rows.now c.args.members c.args.k free)
