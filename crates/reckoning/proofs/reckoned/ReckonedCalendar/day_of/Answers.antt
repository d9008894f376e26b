use Rattle.std.proofs.Common.{◌≡◌, false, Err, ◌∙◌, rules, w32, SFits, to_z, of_z}
use Rattle.std.proofs.lemmas.Int.{to_z-of_z}
use Rattle.date.specs.Days.{within}
use Rattle.reckoning.specs.Reckoned.{misdated}
use Rattle.reckoning.proofs.Answering.{of_outside}
use Rattle.reckoning.proofs.reckoned.ReckonedCalendar.day_of.Goals as goal

pub returns-in_err-ok_or : goal.returns-in_err-ok_or
returns-in_err-ok_or g c =
    let r = g.R.Reckoning.rule c.args.self.now.by in
    let n = c.day_in-day.result in
    let f : SFits w32 n = record { sfits = c.day_in-day.type_inv } in
    let fits : misdated r c.args.date ≡ 0 = search rules in
    let e : c.from_residual-in_err-ok_or.result ≡ Err c.new-2.result = search rules in
    let outside : within (to_z w32 (of_z w32 n)) ≡ false = search rules in
    e ∙ of_outside r _ c.outline-outline.ensures.kind c.args.date n _ fits c.day_in-day.ensures (simp to_z-of_z at outside) (simp to_z-of_z at c.new-2.ensures)
