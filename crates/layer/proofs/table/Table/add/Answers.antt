use Rattle.std.proofs.Common.{rules}
use Rattle.layer.proofs.Room.{holds_more}
use Rattle.layer.proofs.table.Table.add.Goals as goal

pub invariant_of-self : goal.invariant_of-self
invariant_of-self c = (holds_more c.self.inside.rows c.self.inside.len c.args.row c.self.invariant c.if-self-ge-MOST_ROWS.false (search rules)).0
