use Rattle.std.proofs.Common.{◌≡◌, ◌-◌, ◌≤◌, true, length, take, arith, rules, ap, subst, ◌∙◌}
use Rattle.layer.specs.Rooms.{Holds}
use Rattle.layer.specs.Tables.{renumbered, number_fits}
use Rattle.layer.proofs.Room.{amended_in, holds_amended, renumbered_by}
use Rattle.layer.proofs.table.Table.amend.Goals as goal
use Rattle.layer.proofs.table.Table.amend.Goals.{After-is_number}

-- what the room holds once the row has its new number
after : (c : After-is_number) → let s = c.self.inside in let i = c.args.row - 1 in number_fits c.args.number ≡ true → Holds (amended_in s.rows i c.args.number) s.len × (take s.len (amended_in s.rows i c.args.number) ≡ renumbered (take s.len s.rows) i c.args.number)
after c f = let s = c.self.inside in holds_amended s.rows s.len (c.args.row - 1) c.args.number c.self.invariant (omega (arith, c.if-self-row.false, c.if-row-lt1.false)) f

pub invariant_of-self : goal.invariant_of-self
invariant_of-self c = (after (goal.at.invariant_of-self c).After-is_number (search rules)).0

pub returns-clause-rows : goal.returns-clause-rows
returns-clause-rows c =
    let s = c.self.inside in
    let i = c.args.row in
    let k = c.args.number in
    let f : number_fits k ≡ true = search rules in
    let l : i ≤ length c.args.self.now = subst (λ rows. i ≤ length rows) c.self.view_is (omega (arith, c.self.invariant.filled, c.if-self-row.false)) in
    (after (goal.at.returns-clause-rows c).After-is_number f).1
    ∙ (ap (λ rows. renumbered rows (i - 1) k) c.self.view_is ∙ renumbered_by c.args.self.now i k c.if-row-lt1.false l f)

pub returns-clause-still_fits : goal.returns-clause-still_fits
returns-clause-still_fits c = (after (goal.at.returns-clause-still_fits c).After-is_number (search rules)).0.fit
